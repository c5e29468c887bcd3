use Rattle.std.proofs.Common.{sym}
use Rattle.wit_fields.proofs.Texts.{no_name}
use Rattle.wit_kernel.proofs.acquisitions.name_of.Goals as goal

pub returns-in_default : goal.returns-in_default
returns-in_default c = sym (no_name _ c.in_default.ensures.cases.0)
