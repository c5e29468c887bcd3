-- A verifier, tied to its history, as the story by which its clauses see it.
use Rattle.std.proofs.Common.{◌≡◌, refl}
use Rattle.wit_model.specs.Rules.State.{Story}
use Rattle.wit_core.specs.declared.verifier.Verifier.TheInside.{Inside}
use Rattle.wit_core.specs.Kept.{IsKept, IsTied, story_in}

pub record IsSeenAs (v : Inside) (s : Story) : Type 0 where
  pub tied : IsTied v
  pub seen : story_in v ≡ s

pub seen_as : {v : Inside} {s : Story} → IsKept v → story_in v ≡ s → IsSeenAs v s
seen_as k seen = record { tied = k.tied; seen = seen }

-- each is seen as its own story
pub as_itself : {v : Inside} → IsTied v → IsSeenAs v (story_in v)
as_itself k = record { tied = k; seen = refl }
