use Rattle.wit_model.proofs.World.RecordCircle.{no_record_circle}
use Rattle.wit_model.proofs.laws.worlds.law_no_record_circle.Goals as goal

pub returns : goal.returns
returns c =
    λ start files h accepted legal unblessed clean seats.
    no_record_circle start files unblessed h legal clean accepted seats
