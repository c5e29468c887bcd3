use Rattle.wit_errands.proofs.Found.{hanging-have}
use Rattle.wit_errands.proofs.Meeting.{hanging-meet}
use Rattle.wit_errands.proofs.laws.law_hanging_errands_meet.Goals as goal

pub returns : goal.returns
returns c = record {
  ask =
      λ start first deeds v threads quiet reordered circle.
      hanging-have start first deeds v threads quiet reordered circle;
  meet =
      λ start first deeds v askers nothing apart reordered circle there.
      hanging-meet start first deeds v askers nothing reordered circle there;
}
