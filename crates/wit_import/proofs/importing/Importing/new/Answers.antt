use Rattle.std.proofs.Common.{refl}
use Rattle.wit_import.proofs.importing.Importing.new.Goals as goal

pub returns : goal.returns
returns c =
    rw (c.new.ensures.items, c.new-2.ensures.empty, c.new-3.ensures.empty, c.new-4.ensures.empty)
    refl
