-- What a verifier's seats hold, by its history.
use Rattle.std.specs.Prelude.{ℕ, ◌*◌, ◌≡◌, Bool, length}
use Rattle.wit_model.specs.Rules.Chunks.{Chunks, IsPlaced, groups_of, list_of}
use Rattle.wit_model.specs.Rules.Numbers.{IsNumber}
use Rattle.wit_model.specs.Rules.SeatGroups.{held_groups}
use Rattle.wit_model.specs.Rules.State.{Story}

-- the chunks are the start's, each seat's lists hold its locks in their groups as the history has
-- them, and each chunk stands once
pub record HoldAll (s : Story) (c : Chunks) : Type 0 where
  pub size : c.size ≡ s.start.sizes.chunks
  pub lists : length c.groups ≡ 2 * s.start.sizes.seats
  pub groups : (t : ℕ) (spin : Bool) → IsNumber s.start.sizes.seats t
      → groups_of c (list_of spin t) ≡ held_groups spin t s.history
  pub placed : IsPlaced c
