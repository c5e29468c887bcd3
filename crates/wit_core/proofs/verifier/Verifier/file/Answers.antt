use Rattle.wit_core.proofs.Entries.Naming.{file_named, kept_file}
use Rattle.wit_core.proofs.Whole.{kept}
use Rattle.wit_core.proofs.verifier.Verifier.file.Goals as goal

pub invariant_of-self : goal.invariant_of-self
invariant_of-self c =
    kept (
    kept_file c.self.inside c.args.name.now c.file.result c.file.new.self c.self.invariant.tied
    c.file.ensures.entered c.file.ensures.unchanged)

pub returns : goal.returns
returns c =
    rw (← c.self.view_is)
    (file_named c.self.inside c.args.name.now c.file.result c.file.new.self c.file.ensures.ok
    c.file.ensures.entered c.file.ensures.err c.file.ensures.absent c.file.ensures.unchanged)
