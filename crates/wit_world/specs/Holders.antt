-- Those who have shares of one lock.
use Rattle.std.specs.Prelude.{ℕ, ◌==◌, Bool, List, map}
use Rattle.wit_world.specs.declared.shares.Holder.{Holder}

abbrev pub had : Holder → ℕ × ℕ
had h = (h.seat.0, h.count)

-- who has how many
abbrev pub all_had : List Holder → List (ℕ × ℕ)
all_had hs = map had hs

abbrev pub is_holder : ℕ → Holder → Bool
is_holder t h = h.seat.0 == t
