-- Of any scene a circle that starts with its least seat can be told, or that there is none.
use Rattle.std.proofs.Common.{◌≡◌, ℕ, ◌≤◌, Bool, true, ◌&&◌, List, [], ◌∷◌, length, Option, None}
use Rattle.std.proofs.Common.{Some, sym, ap, ◌∙◌, inl, inr, unwrap_or}
use Rattle.std.proofs.lemmas.Bool.{and_parts, and_from, leb-true, cases_Bool, false≢true}
use Rattle.wit_model.specs.Rules.Circles.{IsQueue, IsCircle, TellsCircle}
use Rattle.wit_model.specs.Rules.Numbers.{is_given}
use Rattle.wit_model.specs.World.Scenes.{Scene}
use Rattle.wit_model.specs.World.Shown.{is_barred_by, waits_in, WaitsIn}
use Rattle.wit_model.specs.World.Stages.{Over}
use Rattle.wit_model.proofs.Numbered.{with_number-none}
use Rattle.wit_model.proofs.Waits.{Told, told}

module _ (s : Scene) where
  abbrev is_seat : ℕ → Bool
  is_seat t = is_given s.stages t

  seat_le : (t : ℕ) → is_seat t ≡ true → t ≤ length s.stages
  seat_le t is = leb-true t (length s.stages) (and_parts _ _ is).1

  -- who isn't a seat asks for nothing
  seat_waits : (t u : ℕ) → waits_in s t u ≡ true → is_seat t ≡ true
  seat_waits t u waits = elim (cases_Bool (is_seat t)) [
    | inl is ↦ is
    | inr other ↦ absurd (false≢true
        (sym (ap (is_barred_by s t u)
        (ap (λ o. unwrap_or o Over) (with_number-none s.stages t other))) ∙ waits))
  ]

  -- t waits for another seat
  abbrev waits_seat : ℕ → ℕ → Bool
  waits_seat t u = waits_in s t u && is_seat u

  seats_wait : (t u : ℕ) → waits_seat t u ≡ true → (t ≤ length s.stages) × (u ≤ length s.stages)
  seats_wait t u waits = let h = and_parts (waits_in s t u) (is_seat u) waits in
      (seat_le t (seat_waits t u h.0), seat_le u h.1)

  first_seat : (t : ℕ) (way : List ℕ) (u : ℕ) → IsQueue (WaitsIn s) t way u → is_seat t ≡ true
  first_seat t [] u q = seat_waits t u q
  first_seat t (v ∷ way) u q = seat_waits t v q.0

  -- in a queue to a seat all are seats
  all_seats : (t : ℕ) (way : List ℕ) (u : ℕ) → is_seat u ≡ true → IsQueue (WaitsIn s) t way u
      → IsQueue (λ t u. waits_seat t u ≡ true) t way u
  all_seats t [] u is q = and_from (waits_in s t u) (is_seat u) q is
  all_seats t (v ∷ way) u is q =
      (and_from (waits_in s t v) (is_seat v) q.0 (first_seat v way u q.1), all_seats v way u is q.1)

  by_shares : (t : ℕ) (way : List ℕ) (u : ℕ) → IsQueue (λ t u. waits_seat t u ≡ true) t way u
      → IsQueue (WaitsIn s) t way u
  by_shares t [] u q = (and_parts (waits_in s t u) (is_seat u) q).0
  by_shares t (v ∷ way) u q =
      ((and_parts (waits_in s t v) (is_seat v) q.0).0, by_shares v way u q.1)

  circle_seats : (seats : List ℕ) → IsCircle (WaitsIn s) seats
      → IsCircle (λ t u. waits_seat t u ≡ true) seats
  circle_seats [] c = c
  circle_seats (t ∷ others) c = all_seats t others t (first_seat t others t c) c

  circle_by_shares : (seats : List ℕ) → IsCircle (λ t u. waits_seat t u ≡ true) seats
      → IsCircle (WaitsIn s) seats
  circle_by_shares [] c = c
  circle_by_shares (t ∷ others) c = by_shares t others t c

pub scene_circle_told : (s : Scene) → (c : Option (List ℕ)) × TellsCircle (WaitsIn s) c
scene_circle_told s = go (told (waits_seat s) (length s.stages) (seats_wait s))
  where
    go : (c : Option (List ℕ)) × Told (waits_seat s) (length s.stages) (seats_wait s) c
        → (c : Option (List ℕ)) × TellsCircle (WaitsIn s) c
    go (None, h) = (None, λ seats c. h seats (circle_seats s seats c))
    go (Some seats, h) = (Some seats, (circle_by_shares s seats h.0, h.1))
