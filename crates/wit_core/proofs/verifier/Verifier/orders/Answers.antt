use Rattle.wit_core.proofs.Keeping.{among_kept, distinct_kept, sound_kept}
use Rattle.wit_core.proofs.verifier.Verifier.orders.Goals as goal

pub returns-clause-among : goal.returns-clause-among
returns-clause-among c = rw (← c.self.view_is) (among_kept c.self.inside c.self.invariant.tied)

pub returns-clause-distinct : goal.returns-clause-distinct
returns-clause-distinct c =
    rw (← c.self.view_is) (distinct_kept c.self.inside c.self.invariant.tied)

pub returns-clause-sound : goal.returns-clause-sound
returns-clause-sound c = rw (← c.self.view_is) (sound_kept c.self.inside c.self.invariant.tied)
