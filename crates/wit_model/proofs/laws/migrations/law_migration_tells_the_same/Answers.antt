use Rattle.wit_model.proofs.Moved.Preludes.{tells-same}
use Rattle.wit_model.proofs.laws.migrations.law_migration_tells_the_same.Goals as goal

pub returns : goal.returns
returns c = tells-same
