use Rattle.wit_recordings.proofs.Circles.{clean-no_circle}
use Rattle.wit_recordings.proofs.Unreported.{circle_free-clean, more-clean}
use Rattle.wit_recordings.proofs.laws.law_pairs_decide.Goals as goal

pub returns-clause-clean : goal.returns-clause-clean
returns-clause-clean c = λ start files h accepted unblessed legal clean.
    clean-no_circle start files h unblessed legal clean accepted

pub returns-clause-round : goal.returns-clause-round
returns-clause-round c = circle_free-clean

pub returns-clause-fewer : goal.returns-clause-fewer
returns-clause-fewer c =
    λ start more files named h g listless legal free accepted unblessed told clean all.
    more-clean start files h g listless legal free
    (clean-no_circle more named g unblessed told clean accepted) all
