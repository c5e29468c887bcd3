use Rattle.std.proofs.Common.{refl}
use Rattle.wit_model.proofs.World.Crossed.{one_waits, two_waits}
use Rattle.wit_recordings.proofs.LeftOut.{both-world, both-recorded, both-asked, each-legal}
use Rattle.wit_recordings.proofs.LeftOut.{both-covered, both-left_out, crossed-world}
use Rattle.wit_recordings.proofs.LeftOut.{crossed-recorded, unseen-world, unseen-covered}
use Rattle.wit_recordings.proofs.LeftOut.{first_waits_unseen, second_waits_unseen}
use Rattle.wit_recordings.proofs.laws.law_left_out.Goals as goal

pub returns-clause-run : goal.returns-clause-run
returns-clause-run c = (both-world, (both-recorded, (both-asked, refl)))

pub returns-clause-met : goal.returns-clause-met
returns-clause-met c = (refl, (refl, (each-legal, (refl, (both-covered, both-left_out)))))

pub returns-clause-reported : goal.returns-clause-reported
returns-clause-reported c =
    (crossed-world, (crossed-recorded, (refl, ((λ a b told. told), (one_waits, two_waits)))))

pub returns-clause-unrecorded : goal.returns-clause-unrecorded
returns-clause-unrecorded c =
    (unseen-world, (unseen-covered, (first_waits_unseen, second_waits_unseen)))

pub returns-clause-uncovered : goal.returns-clause-uncovered
returns-clause-uncovered c = ((λ a b told. absurd told), (one_waits, two_waits))
