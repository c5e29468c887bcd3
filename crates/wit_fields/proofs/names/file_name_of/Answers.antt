use Rattle.wit_fields.proofs.Texts.{file_utf8}
use Rattle.wit_fields.proofs.names.file_name_of.Goals as goal

pub from_utf8_unchecked-requires : goal.from_utf8_unchecked-requires
from_utf8_unchecked-requires c = file_utf8 _ c.in-Some.ensures.name
