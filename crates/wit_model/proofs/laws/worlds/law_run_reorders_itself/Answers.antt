use Rattle.wit_model.proofs.World.Moments.{moment_reorders}
use Rattle.wit_model.proofs.laws.worlds.law_run_reorders_itself.Goals as goal

pub returns : goal.returns
returns c = moment_reorders
