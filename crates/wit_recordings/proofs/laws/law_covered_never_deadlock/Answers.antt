use Rattle.wit_recordings.specs.Recordings.{TellsOf, types_in}
use Rattle.wit_recordings.proofs.Covered.{beginning-covered, duty-covers, run-told}
use Rattle.wit_recordings.proofs.Recorded.{asks-recorded}
use Rattle.wit_recordings.proofs.Reordered.{told-played}
use Rattle.wit_recordings.proofs.Told.{no_told_circle}
use Rattle.wit_recordings.proofs.laws.law_covered_never_deadlock.Goals as goal

pub returns-clause-stays : goal.returns-clause-stays
returns-clause-stays c = beginning-covered

pub returns-clause-duty : goal.returns-clause-duty
returns-clause-duty c = duty-covers

pub returns-clause-tells : goal.returns-clause-tells
returns-clause-tells c = run-told

pub returns-clause-run : goal.returns-clause-run
returns-clause-run c =
    λ start more files named v w g threads run cover recorded accepted unblessed legal clean
    reordered.
    no_told_circle more named g (types_in w) v accepted unblessed legal clean
    (told-played (TellsOf g) (types_in w) (λ t. w) (λ t. run-told start files w g run cover recorded)
    v reordered.same) threads

pub returns-clause-recorded : goal.returns-clause-recorded
returns-clause-recorded c = asks-recorded
