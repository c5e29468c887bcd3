-- The way back from a seat that a search reached, and a search that finds no circle.
use Rattle.std.proofs.Common.{◌≡◌, ℕ, ◌+◌, ◌<◌, ◌≤◌, Bool, true, false, nat_le, List, [], ◌∷◌, ◌++◌}
use Rattle.std.proofs.Common.{length, None, refl, sym, ap, ◌∙◌, inl, inr, arith}
use Rattle.std.specs.List.{list_all}
use Rattle.std.proofs.lemmas.Bool.{false≢true, cases_eq, le-leb}
use Rattle.std.proofs.lemmas.List.{map-append}
use Rattle.std.proofs.lemmas.List.Folds.{list_all-append}
use Rattle.wit_model.specs.declared.locks.SeatNo.{SeatNo}
use Rattle.wit_model.specs.Rules.Circles.{IsQueue, seat_numbers}
use Rattle.wit_waiting.specs.declared.circle.Reached.{Reached}
use Rattle.wit_waiting.specs.Searching.{is_marked, says, Says, IsTable, seat_reached, next_reached}
use Rattle.wit_waiting.specs.Searching.{IsTrail, IsSearch, Reaches, AreClosed, IsCircleFrom}
use Rattle.wit_waiting.proofs.Queues.{queue_more, none_from}
use Rattle.wit_waiting.proofs.WaitTables.{says_within}

-- ---- the way back from a place to the first seat

-- these are the first seat, and behind it a queue of greater ones to the seat at this place
pub record IsWay (rows : List (List Bool)) (reached : List Reached) (seats : List ℕ)
    (at : ℕ) : Type 0 where
  pub others : List ℕ
  pub is : seats ≡ seat_reached reached 0 ∷ others
  pub queue : IsQueue (Says rows) (seat_reached reached 0) others (seat_reached reached at)
  pub all : list_all (nat_le (seat_reached reached 0)) others ≡ true
  pub within : at < length reached

pub way_more : (rows : List (List Bool)) (reached : List Reached) (seats next : List SeatNo)
    (at : ℕ) (seat : SeatNo) → IsTrail rows (seat_reached reached 0) reached
    → IsWay rows reached (seat_numbers seats) at → 0 < at → seat.0 ≡ seat_reached reached at
    → next ≡ seats ++ seat ∷ [] → IsWay rows reached (seat_numbers next)
    (next_reached reached at)
way_more rows reached seats next at seat trail way some own is =
    let first = seat_reached reached 0 in
    let above = trail.greater at some way.within in
    let earlier = trail.earlier at some way.within in
    record {
      others = way.others ++ seat_reached reached at ∷ [];
      is =
          ap seat_numbers is ∙ map-append (λ (t : SeatNo). t.0) seats (seat ∷ [])
          ∙ ap (λ xs. xs ++ seat.0 ∷ []) way.is
          ∙ ap (λ n. first ∷ (way.others ++ n ∷ [])) own;
      queue =
          queue_more (Says rows) first way.others (seat_reached reached at)
          (seat_reached reached (next_reached reached at)) way.queue
          (trail.waits at some way.within);
      all =
          list_all-append (nat_le first) way.others (seat_reached reached at ∷ [])
          ∙ rw (way.all, le-leb first (seat_reached reached at) (omega (arith, above))) refl;
      within = omega (arith, earlier, way.within);
    }

-- ---- where no circle is found

pub closed_more : (rows : List (List Bool)) (first place n : ℕ) (reached later : List Reached)
    (seen marks : List Bool) → IsTable rows → IsSearch rows first reached seen
    → place < length reached → AreClosed rows first reached seen place
    → says rows (seat_reached reached 0) (seat_reached reached place) ≡ false
    → n ≡ length rows → Reaches rows first place n reached later seen marks
    → AreClosed rows first later marks (place + 1)
closed_more rows first place n reached later seen marks table s at closed off many r i below
    t waits from =
    elim (cases_eq i place) [
      | inl e ↦ here (ap (says rows t)
          (sym (r.keeps.same place at) ∙ ap (seat_reached later) (sym e)) ∙ waits)
      | inr apart ↦ before (omega (arith, below, apart))
    ]
  where
    here : Says rows t (seat_reached reached place) → (t ≡ first → ⊥) × (is_marked marks t ≡ true)
    here is =
        let own : t ≡ first → ⊥ =
        λ e. false≢true (sym off ∙ ap (λ n. says rows n (seat_reached reached place))
        (s.trail.start ∙ sym e) ∙ is) in
        let most =
        says_within rows t (seat_reached reached place) table (s.trail.seats place at) is in
        (own, r.all t (omega (arith, from, own)) (omega (arith, most, many)) is)

    before : i < place → (t ≡ first → ⊥) × (is_marked marks t ≡ true)
    before lt =
        let was =
        closed i lt t (ap (says rows t) (sym (r.keeps.same i (omega (arith, lt, at))))
        ∙ waits) from in
        (was.0, r.keeps.stays t was.1)

pub no_circle : (rows : List (List Bool)) (first place : ℕ) (reached : List Reached)
    (seen : List Bool) → IsSearch rows first reached seen
    → AreClosed rows first reached seen place → length reached ≤ place
    → IsCircleFrom rows first None
no_circle rows first place reached seen s closed all =
    none_from (Says rows) first (λ t. is_marked seen t ≡ true) s.own
    (λ u t marked waits from.
    let found = s.marked u marked in
    closed found.0 (omega (arith, found.1, all)) t (ap (says rows t) found.2 ∙ waits) from)
