use Rattle.wit_recordings.specs.Recordings.{TellsOf, types_in}
use Rattle.wit_recordings.proofs.Told.{no_told_circle, told-more}
use Rattle.wit_recordings.proofs.Reordered.{told-played}
use Rattle.wit_recordings.proofs.laws.law_recorded_never_deadlock.Goals as goal

pub returns-clause-told : goal.returns-clause-told
returns-clause-told c = λ start files h named v threads accepted unblessed legal clean told.
    no_told_circle start files h named v accepted unblessed legal clean told threads

pub returns-clause-mixed : goal.returns-clause-mixed
returns-clause-mixed c = λ h named runs v told played. told-played (TellsOf h) named runs told v played

pub returns-clause-run : goal.returns-clause-run
returns-clause-run c =
    λ start files h run v w threads accepted unblessed legal clean told reordered.
    no_told_circle start files h (types_in w) v accepted unblessed legal clean
    (told-played (TellsOf h) (types_in w) (λ t. w) (λ t. told) v reordered.same) threads

pub returns-clause-runs : goal.returns-clause-runs
returns-clause-runs c =
    λ start files h named runs v threads accepted unblessed legal clean told played.
    no_told_circle start files h named v accepted unblessed legal clean
    (told-played (TellsOf h) named runs told v played) threads

pub returns-clause-more : goal.returns-clause-more
returns-clause-more c = told-more
