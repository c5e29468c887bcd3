use Rattle.wit_migrate.proofs.Again.{writes-same}
use Rattle.wit_migrate.proofs.MigrateEnds.{moved_end, moved_lines}
use Rattle.wit_migrate.proofs.migrating.migrate_through.Goals as goal

pub returns-clause-taken : goal.returns-clause-taken
returns-clause-taken g c = moved_end _ _ _ _ _ c.run.ensures.taken

pub returns-clause-told : goal.returns-clause-told
returns-clause-told g c = λ is. moved_lines _ _ _ _ (c.run.ensures.told is)

pub returns-clause-same : goal.returns-clause-same
returns-clause-same g c = writes-same _ _ _ _ c.run.ensures.ok
