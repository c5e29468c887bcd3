-- While the log is clean no seats wait for one another in a circle.
use Rattle.wit_model.specs.Rules.Clean.{CleanMeansNoCircle}
use Rattle.wit_core.specs.declared.verifier.Verifier.TheInside.{Inside}
use Rattle.wit_core.specs.Kept.{start_in, history_in, story_in, IsTied}
use Rattle.wit_model.proofs.World.RecordCircle.{no_record_circle}

pub apart_kept : (v : Inside) → IsTied v → CleanMeansNoCircle (story_in v)
apart_kept v k =
    λ unblessed clean seats. no_record_circle (start_in v) v.known.files unblessed
    (history_in v) k.legal clean k.started seats
