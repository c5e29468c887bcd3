use Rattle.std.proofs.Common.{refl}
use Rattle.wit_model.specs.World.Deeds.{log_of}
use Rattle.wit_recordings.proofs.Agreed.{agreed-condensed}
use Rattle.wit_recordings.proofs.Circles.{clean-no_circle}
use Rattle.wit_recordings.proofs.Unreported.{more-clean}
use Rattle.wit_recordings.proofs.Condensed.{condensed-tells}
use Rattle.wit_model.proofs.World.Covering.{legal_world}
use Rattle.wit_model.proofs.World.NoCircle.{no_circle}
use Rattle.wit_recordings.proofs.laws.law_condensed.Goals as goal

pub returns-clause-tells : goal.returns-clause-tells
returns-clause-tells c = λ start files h g legal all. condensed-tells start files g h legal all

pub returns-clause-run : goal.returns-clause-run
returns-clause-run c =
    λ start more files named v w g threads accepted listless unblessed world free
    accepted' unblessed' legal clean all reordered.
    no_circle start files unblessed v w world
    (more-clean start files (log_of w) g listless (legal_world start files w world) free
    (clean-no_circle more named g unblessed' legal clean accepted')
    (condensed-tells start files g (log_of w) (legal_world start files w world) all))
    reordered accepted threads

pub returns-clause-met : goal.returns-clause-met
returns-clause-met c = (refl, (refl, agreed-condensed))
