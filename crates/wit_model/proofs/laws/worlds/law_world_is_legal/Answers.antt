use Rattle.wit_model.proofs.World.Covering.{legal_world}
use Rattle.wit_model.proofs.World.Moments.{own-logged}
use Rattle.wit_model.proofs.laws.worlds.law_world_is_legal.Goals as goal

pub returns-clause-legal : goal.returns-clause-legal
returns-clause-legal c = legal_world

pub returns-clause-own : goal.returns-clause-own
returns-clause-own c = own-logged
