use Rattle.wit_migrate.proofs.BehindLemmas.{behind-fails, behind-goes}
use Rattle.wit_migrate.proofs.calls.BehindLineReader.read_any.Goals as goal

pub returns-in-Ok : goal.returns-in-Ok
returns-in-Ok c =
    behind-goes c.args.self.now c.read.new.self c.args.number c.args.bytes.now c.in-Ok.told
    (c.in-Ok.ensures c.args.number)

pub returns-in-Err : goal.returns-in-Err
returns-in-Err c =
    behind-fails c.args.self.now c.read.new.self c.args.number c.args.bytes.now c.in-Err.error
    c.summary-found.result c.failed_step.new.text.items c.failed_step.result
    (c.in-Err.ensures c.args.number) c.summary-found.ensures.total c.summary-found.ensures.circle
    c.failed_step.ensures
