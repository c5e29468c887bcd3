-- A search in the table of who waits for whom, from one seat.
use Rattle.std.proofs.Common.{◌≡◌, ℕ, ◌+◌, ◌-◌, ◌<◌, ◌≤◌, Bool, true, false, List, [], ◌∷◌, ◌++◌}
use Rattle.std.proofs.Common.{length, get_or, set, take, drop, replicate, refl, sym, ap, ap₂, ◌∙◌}
use Rattle.std.proofs.Common.{subst, inl, inr, arith, length-append}
use Rattle.std.specs.Global.{Vec}
use Rattle.std.proofs.lemmas.Bool.{false≢true, cases_eq}
use Rattle.std.proofs.lemmas.List.{append-nil, take_all, drop_all, get_or_read, get_or_append_left}
use Rattle.std.proofs.lemmas.List.{get_or-replicate, length-set, length-replicate}
use Rattle.std.proofs.lemmas.List.Folds.{sum_by-replicate}
use Rattle.std.proofs.lemmas.List.Sums.{sum_by-set}
use Rattle.std.proofs.Math.Seq.{get_or-append_seam}
use Rattle.wit_model.specs.declared.locks.SeatNo.{SeatNo}
use Rattle.wit_model.specs.Rules.Numbers.{IsNumber}
use Rattle.wit_waiting.specs.declared.circle.Reached.{Reached}
use Rattle.wit_waiting.specs.Searching.{is_marked, table_of, says, Says, nobody, seat_reached}
use Rattle.wit_waiting.specs.Searching.{next_reached, IsTrail, one_if_not, IsSearch, IsLater}
use Rattle.wit_waiting.specs.Searching.{AreMarked, Reaches}
use Rattle.wit_waiting.proofs.WaitTables.{marked-at, marked-none, marked-set_same}
use Rattle.wit_waiting.proofs.WaitTables.{marked_before, marked_after, rows-many}

begun : (rows : List (List Bool)) (first : ℕ) (r : Reached) → r.seat.0 ≡ first
    → IsNumber (length rows) first
    → IsSearch rows first (r ∷ []) (set (replicate (length rows) false) (first - 1) true)
begun rows first r seat number =
    let n = length rows in
    let size = length-replicate n false in
    let lt : first - 1 < length (replicate n false) = omega (arith, size, number) in
    let sum = sum_by-set one_if_not (replicate n false) (first - 1) true false lt in
    let was = ap one_if_not (get_or-replicate n (first - 1) false false (omega (arith, number))) in
    let all = sum_by-replicate one_if_not n false in
    let long = length-set (replicate n false) (first - 1) true in
    record {
      trail = record {
        some = omega arith;
        start = seat;
        seats = λ i within. let zero : 0 ≡ i =
            omega (arith, within) in subst (λ k. IsNumber n (seat_reached (r ∷ []) k)) zero
            (subst (IsNumber n) (sym seat) number);
        greater = λ i some within. absurd (omega (arith, some, within));
        earlier = λ i some within. absurd (omega (arith, some, within));
        waits = λ i some within. absurd (omega (arith, some, within));
      };
      size = long ∙ size;
      own = marked-set_same (replicate n false) (first - 1) lt first (omega (arith, number));
      marked =
          λ t is. elim (marked_before (replicate n false) (first - 1) lt t is) [
            | inl e ↦ (
              0,
              omega arith,
              let same : first
                  ≡ t = omega (arith, e, number) in seat ∙ same,
            )
            | inr was ↦ absurd (marked-none n t was)
          ];
      left = omega (arith, sum, was, all, long, size);
    }

pub begins : (rows : List (Vec Bool)) (first : SeatNo) (reached : List Reached) (r : Reached)
    (seen marks : List Bool) → IsNumber (length rows) first.0 → r.seat ≡ first
    → reached ≡ [] ++ r ∷ [] → seen ≡ replicate (length rows) false
    → marks ≡ set seen (first.0 - 1) true → IsSearch (table_of rows) first.0 reached marks
begins rows first reached r seen marks number seat is blank marked =
    let many = rows-many rows in
    subst (λ (xs : List Reached). IsSearch (table_of rows) first.0 xs marks) (sym is)
    (subst (IsSearch (table_of rows) first.0 (r ∷ []))
    (sym (marked ∙ ap (λ xs. set xs (first.0 - 1) true)
    (blank ∙ ap (λ n. replicate n false) (sym many))))
    (begun (table_of rows) first.0 r (ap (λ (s : SeatNo). s.0) seat)
    (number.0, omega (arith, number, many))))

-- ---- one more seat is reached

module _ (rows : List (List Bool)) (first : ℕ) (reached : List Reached) (seen : List Bool)
    (s : IsSearch rows first reached seen) (place : ℕ) (at : place < length reached)
    (r : Reached) (i : ℕ)
    (seat : r.seat.0 ≡ i + 1) (next : r.next ≡ place) (behind : first ≤ i)
    (within : i < length rows) (unseen : get_or seen i false ≡ false)
    (waits : Says rows (i + 1) (seat_reached reached place)) where
  more : length (reached ++ r ∷ []) ≡ length reached + 1
  more = length-append reached (r ∷ [])

  same-seat : (j : ℕ) → j < length reached → seat_reached (reached ++ r ∷ []) j
      ≡ seat_reached reached j
  same-seat j lt = ap (λ (x : Reached). x.seat.0) (get_or_append_left reached (r ∷ []) nobody j lt)

  same-next : (j : ℕ) → j < length reached → next_reached (reached ++ r ∷ []) j
      ≡ next_reached reached j
  same-next j lt = ap (λ (x : Reached). x.next) (get_or_append_left reached (r ∷ []) nobody j lt)

  new-seat : (j : ℕ) → j ≡ length reached → seat_reached (reached ++ r ∷ []) j ≡ i + 1
  new-seat j e =
      ap (seat_reached (reached ++ r ∷ [])) e ∙ ap (λ (x : Reached). x.seat.0)
      (get_or-append_seam reached r [] nobody) ∙ seat

  new-next : (j : ℕ) → j ≡ length reached → next_reached (reached ++ r ∷ []) j ≡ place
  new-next j e =
      ap (next_reached (reached ++ r ∷ [])) e ∙ ap (λ (x : Reached). x.next)
      (get_or-append_seam reached r [] nobody) ∙ next

  older : (j : ℕ) → j < length (reached ++ r ∷ []) → (j ≡ length reached → ⊥) → j < length reached
  older j lt apart = omega (arith, more, lt, apart)

  trail_more : IsTrail rows first (reached ++ r ∷ [])
  trail_more = record {
    some = omega (arith, more);
    start = same-seat 0 s.trail.some ∙ s.trail.start;
    seats =
        λ j lt. elim (cases_eq j (length reached)) [
          | inl e ↦ subst (IsNumber (length rows)) (sym (new-seat j e))
              (omega arith, omega (arith, within))
          | inr apart ↦ subst (IsNumber (length rows)) (sym (same-seat j (older j lt apart)))
              (s.trail.seats j (older j lt apart))
        ];
    greater =
        λ j some lt. elim (cases_eq j (length reached)) [
          | inl e ↦ omega (arith, new-seat j e, behind)
          | inr apart ↦ omega (
            arith,
            same-seat j (older j lt apart),
            s.trail.greater j some (older j lt apart),
          )
        ];
    earlier =
        λ j some lt. elim (cases_eq j (length reached)) [
          | inl e ↦ omega (arith, new-next j e, at)
          | inr apart ↦ omega (
            arith,
            same-next j (older j lt apart),
            s.trail.earlier j some (older j lt apart),
          )
        ];
    waits =
        λ j some lt. elim (cases_eq j (length reached)) [
          | inl e ↦ ap₂ (says rows) (new-seat j e)
              (ap (seat_reached (reached ++ r ∷ [])) (new-next j e) ∙ same-seat place at) ∙ waits
          | inr apart ↦ let lower = s.trail.earlier j some (older j lt apart) in
              ap₂ (says rows) (same-seat j (older j lt apart))
              (ap (seat_reached (reached ++ r ∷ [])) (same-next j (older j lt apart))
              ∙ same-seat (next_reached reached j) (omega (arith, lower, older j lt apart)))
              ∙ s.trail.waits j some (older j lt apart)
        ];
  }

  lt : i < length seen
  lt = omega (arith, within, s.size)

  pub search_more : IsSearch rows first (reached ++ r ∷ []) (set seen i true)
  search_more =
      let long = length-set seen i true in
      let sum = sum_by-set one_if_not seen i true false lt in
      let was = ap one_if_not unseen in
      record {
        trail = trail_more;
        size = long ∙ s.size;
        own = marked_after seen i lt first s.own;
        marked =
            λ t is. elim (marked_before seen i lt t is) [
              | inl e ↦ (
                length reached,
                omega (arith, more),
                new-seat
                    (length reached) refl ∙ sym e,
              )
              | inr was ↦ let found =
                  s.marked t was in (
                    found.0,
                    omega (arith, more, found.1),
                    same-seat found.0 found.1 ∙ found.2,
                  )
            ];
        left = omega (arith, more, long, sum, was, s.left);
      }

  pub later_more : IsLater reached (reached ++ r ∷ []) seen (set seen i true)
  later_more =
      record { longer = omega (arith, more); same = same-seat; stays = marked_after seen i lt }

-- ---- the search goes on with those that wait for the seat at a place

-- one more is looked at
module _ (rows : List (List Bool)) (first place n : ℕ) (reached later : List Reached)
    (seen marks : List Bool) (r : Reaches rows first place n reached later seen marks) where
  all-more : (next : List Bool) → ((t : ℕ) → is_marked marks t ≡ true → is_marked next t ≡ true)
      → (Says rows (n + 1) (seat_reached reached place) → is_marked next (n + 1) ≡ true)
      → AreMarked rows first (n + 1) (seat_reached reached place) next
  all-more next stays own =
      λ t above below is. elim (cases_eq t (n + 1)) [
        | inl e ↦ subst (λ k. is_marked next k ≡ true) (sym e)
            (own (subst (λ k. Says rows k (seat_reached reached place)) e is))
        | inr apart ↦ stays t (r.all t above (omega (arith, below, apart)) is)
      ]

  -- it was marked before, or it doesn't wait
  pub reaches_same : (Says rows (n + 1) (seat_reached reached place)
      → is_marked marks (n + 1) ≡ true) → Reaches rows first place (n + 1) reached later seen marks
  reaches_same own =
      record { search = r.search; keeps = r.keeps; all = all-more marks (λ t is. is) own }

  pub marked-seen : get_or marks n false ≡ true → is_marked marks (n + 1) ≡ true
  marked-seen is = let place : n + 1 - 1 ≡ n =
      omega arith in marked-at marks (n + 1) (omega arith)
      ∙ ap (λ k. get_or marks k false) place ∙ is

  pub reaches_more : (x : Reached) → place < length reached → x.seat.0 ≡ n + 1 → x.next ≡ place
      → first ≤ n → n < length rows → get_or marks n false ≡ false
      → Says rows (n + 1) (seat_reached reached place)
      → Reaches rows first place (n + 1) reached (later ++ x ∷ []) seen (set marks n true)
  reaches_more x at seat next behind within unseen waits =
      let there : place < length later = omega (arith, r.keeps.longer, at) in
      let goal : Says rows (n + 1) (seat_reached later place) =
      ap (says rows (n + 1)) (r.keeps.same place at) ∙ waits in
      let more =
      later_more rows first later marks r.search place there x n seat next behind within
      unseen goal in
      let long : length reached ≤ length (later ++ x ∷ []) =
      omega (arith, more.longer, r.keeps.longer) in
      record {
        search =
            search_more rows first later marks r.search place there x n seat next behind
            within unseen goal;
        keeps = record {
          longer = long;
          same = λ i lt. more.same i (omega (arith, lt, r.keeps.longer)) ∙ r.keeps.same i lt;
          stays = λ t is. more.stays t (r.keeps.stays t is);
        };
        all =
            all-more (set marks n true) more.stays
            (λ is. marked-set_same marks n (omega (arith, within, r.search.size)) (n + 1) refl);
      }

-- there are no more seats than rows
pub reached-few : (rows : List (List Bool)) (first : ℕ) (reached : List Reached) (seen : List Bool)
    → IsSearch rows first reached seen → length reached ≤ length rows
reached-few rows first reached seen s = omega (arith, s.left, s.size)

-- what is read at a place
pub seat-read : (reached : List Reached) (place : ℕ) (x : Reached) → place < length reached
    → x ≡ get_or reached place x → x.seat.0 ≡ seat_reached reached place
seat-read reached place x lt read =
    ap (λ (r : Reached). r.seat.0) (get_or_read reached place x lt read nobody)

-- what the table doesn't say has any outcome
pub not_said : (rows : List (List Bool)) (t u v : ℕ) (outcome : Type 0) → u ≡ v
    → says rows t u ≡ false → Says rows t v → outcome
not_said rows t u v outcome same none is =
    absurd (false≢true (sym none ∙ ap (says rows t) same ∙ is))

-- what is written back of marks that keep their number
pub marks-back : (n : ℕ) (new old : List Bool) → n ≡ length old → length new ≡ length old
    → take n (new ++ drop (length new) old) ≡ new
marks-back n new old size same =
    ap (λ rest. take n (new ++ rest)) (drop_all (length new) old (omega (arith, same)))
    ∙ ap (take n) (append-nil new) ∙ take_all n new (omega (arith, size, same))
