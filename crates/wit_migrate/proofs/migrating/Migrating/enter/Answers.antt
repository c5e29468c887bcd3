use Rattle.wit_migrate.proofs.migrating.Migrating.enter.Goals as goal

pub returns-in-Unmoved : goal.returns-in-Unmoved
returns-in-Unmoved c = rw c.in-Unmoved.is (c.start.ensures c.args.number c.args.bytes.now)
