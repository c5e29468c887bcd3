-- Circles of seats that wait for one another: a deadlock, where each waits for what the next one
-- holds.
use Rattle.std.specs.Prelude.{ℕ, ◌≡◌, Bool, true, false, not, ◌&&◌, ◌||◌, ◌==◌, nat_le, List, []}
use Rattle.std.specs.Prelude.{◌∷◌, Option, None, Some, is_none, map}
use Rattle.std.specs.Global.{Vec}
use Rattle.std.specs.List.{list_all}
use Rattle.std.specs.Option.{option_map}
use Rattle.wit_model.specs.declared.locks.Mode.{Mode}
use Rattle.wit_model.specs.declared.locks.Instance.{Instance}
use Rattle.wit_model.specs.declared.locks.SeatNo.{SeatNo}
use Rattle.wit_model.specs.declared.calls.Request.{Request}
use Rattle.wit_model.specs.Rules.State.{State, seat_at}
use Rattle.wit_model.specs.Rules.Step.{held_by}
use Rattle.wit_model.specs.Rules.Verdict.{is_exclusive}

-- ---- over any relation of who waits for whom

-- from t by these seats to u, each waits for the next
abbrev pub IsQueue : (ℕ → ℕ → Type 0) → ℕ → List ℕ → ℕ → Type 0
IsQueue waits t [] u = waits t u
IsQueue waits t (v ∷ vs) u = waits t v × IsQueue waits v vs u

-- each of these seats waits for the next, and the last for the first
abbrev pub IsCircle : (ℕ → ℕ → Type 0) → List ℕ → Type 0
IsCircle waits [] = ⊥
IsCircle waits (first ∷ others) = IsQueue waits first others first

-- none of the seats is less than the first
abbrev pub starts_with_least : List ℕ → Bool
starts_with_least [] = false
starts_with_least (first ∷ others) = list_all (nat_le first) others

-- what can be told of circles: one that starts with its least seat, or none exactly where there is
-- none
abbrev pub TellsCircle : (ℕ → ℕ → Type 0) → Option (List ℕ) → Type 0
TellsCircle waits None = (seats : List ℕ) → IsCircle waits seats → ⊥
TellsCircle waits (Some seats) = IsCircle waits seats × (starts_with_least seats ≡ true)

-- ---- by the record: who asks for what, and who holds it

-- whether a request in this mode has to wait for the lock that another seat holds so
abbrev pub is_barred : Mode → Option Instance → Bool
is_barred mode None = false
is_barred mode (Some i) = is_exclusive i.mode || is_exclusive mode

-- whether seat t, with this request, waits for seat u: it doesn't hold the lock that it asks for,
-- and u, another seat, bars it from it
abbrev pub is_kept_by : State → ℕ → ℕ → Option Request → Bool
is_kept_by s t u None = false
is_kept_by s t u (Some q) =
    is_none (held_by s t q.lock.0) && (not (u == t) && is_barred q.mode (held_by s u q.lock.0))

-- whether t waits for u by the record
abbrev pub waits_for : State → ℕ → ℕ → Bool
waits_for s t u = is_kept_by s t u (seat_at s t).pending

abbrev pub Waits : State → ℕ → ℕ → Type 0
Waits s t u = waits_for s t u ≡ true

-- a circle of the record
abbrev pub IsRecordCircle : State → List ℕ → Type 0
IsRecordCircle s seats = IsCircle (Waits s) seats

abbrev pub seat_numbers : List SeatNo → List ℕ
seat_numbers seats = map (λ (t : SeatNo). t.0) seats

-- the numbers of the seats, where there are any
abbrev pub circle_numbers : Option (Vec SeatNo) → Option (List ℕ)
circle_numbers c = option_map (λ (v : Vec SeatNo). seat_numbers v.items) c
