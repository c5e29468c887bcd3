use Rattle.wit_model.specs.World.Deeds.{log_of}
use Rattle.wit_recordings.specs.Recordings.{TellsOf, types_in}
use Rattle.wit_recordings.proofs.Covered.{run-told}
use Rattle.wit_recordings.proofs.Reordered.{told-played}
use Rattle.wit_recordings.proofs.Told.{no_told_circle}
use Rattle.wit_duty.proofs.Covering.{pairs-duty, recorded-covers}
use Rattle.wit_duty.proofs.laws.law_answers_keep_duty.Goals as goal

pub returns-clause-duty : goal.returns-clause-duty
returns-clause-duty c = pairs-duty

pub returns-clause-covers : goal.returns-clause-covers
returns-clause-covers c = recorded-covers

pub returns-clause-run : goal.returns-clause-run
returns-clause-run c =
    λ start more files texts named v w sets g threads run so recorded accepted unblessed legal clean
    reordered.
    no_told_circle more texts g (types_in w) v accepted unblessed legal clean
    (told-played (TellsOf g) (types_in w) (λ t. w)
    (λ t. run-told start files w g run
    (recorded-covers more texts named (log_of w) sets g so legal) recorded)
    v reordered.same) threads
