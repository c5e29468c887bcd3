use Rattle.wit_migrate.specs.Migrates.{moved_to}
use Rattle.wit_migrate.proofs.MigrateEnds.{broken-answer}
use Rattle.wit_migrate.proofs.migrating.MigratingMachine.broken.Goals as goal

pub returns : goal.returns
returns c =
    broken-answer (moved_to c.args.self.now) (moved_to c.reach.new.self) c.args.number c.args.cause
    c.args.beginning.now
    c.in_ok-reached.reached.text.items c.in_ok-reached.reached.refused c.unwrap_or-number.result
    c.found-found.result c.ended.result
    c.in_ok-reached.ensures.stands c.unwrap_or-number.ensures c.found-found.ensures.total
    c.found-found.ensures.circle
    c.ended.ensures.text c.ended.ensures.summary
