use Rattle.wit_migrate.proofs.migrating.Migrating.read.Goals as goal

pub enter-requires-clause-found : goal.enter-requires-clause-found
enter-requires-clause-found c = c.in_ok-line.ensures.read c.requires.short
