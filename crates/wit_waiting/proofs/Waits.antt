-- Who waits for whom by the record, as a table of it says.
use Rattle.std.proofs.Common.{◌≡◌, ℕ, ◌+◌, ◌-◌, ◌<◌, ◌≤◌, Bool, true, false, not, ◌&&◌, eqb, nat_lt}
use Rattle.std.proofs.Common.{nat_le, List, [], ◌∷◌, ◌++◌, length, map, Option, None, Some, is_none}
use Rattle.std.proofs.Common.{find, unwrap_or, refl, sym, ap, ◌∙◌, subst, arith}
use Rattle.std.specs.Global.{Vec}
use Rattle.std.specs.List.{range_with_len, slice_index_or}
use Rattle.std.proofs.lemmas.Bool.{false≢true, and_parts, ltb-true, leb-true, lt-ltb, le-leb}
use Rattle.std.proofs.lemmas.List.{map-append}
use Rattle.std.proofs.lemmas.List.FromFn.{length-map-range_with_len, get_or-map-range_with_len}
use Rattle.std.proofs.lemmas.List.FromFn.{map-range_with_len_more}
use Rattle.wit_model.specs.declared.locks.SeatNo.{SeatNo}
use Rattle.wit_model.specs.declared.calls.Request.{Request}
use Rattle.wit_model.specs.Rules.Circles.{IsQueue, IsRecordCircle, waits_for, is_kept_by, is_barred}
use Rattle.wit_model.specs.Rules.Circles.{Waits, TellsCircle, circle_numbers, seat_numbers}
use Rattle.wit_model.specs.Rules.Numbers.{is_given, with_number, IsNumber}
use Rattle.wit_model.specs.Rules.State.{Story, state_of, seat_of, is_seat, seat_at, chain_in}
use Rattle.wit_model.specs.Rules.State.{no_seat}
use Rattle.wit_model.specs.Rules.State as model
use Rattle.wit_model.specs.Rules.Locks.{lock_at}
use Rattle.wit_model.specs.Rules.Step.{held_by}
use Rattle.wit_model.specs.Rules.Types.{is_spin}
use Rattle.wit_model.specs.Rules.Verdict.{is_of}
use Rattle.wit_model.proofs.Numbered.{with_number-or, with_number-none}
use Rattle.wit_waiting.specs.Searching.{is_marked, waiting, all_waiting, table_of, says, Says, IsTable}
use Rattle.wit_waiting.specs.Searching.{IsCircleFrom}
use Rattle.wit_waiting.proofs.Queues.{circle_likewise, turned}
use Rattle.wit_waiting.proofs.WaitTables.{marked-at, marked_within, rows-many}

-- ---- only seats wait, and only for seats

count-seats : (s : Story) → length (state_of s).seats ≡ s.start.sizes.seats
count-seats s = length-map-range_with_len (seat_of s.history) 1 s.start.sizes.seats

pub seat-number : (s : Story) (t : ℕ) → IsNumber s.start.sizes.seats t
    → is_seat (state_of s) t ≡ true
seat-number s t number =
    let up = lt-ltb 0 t number.0 in
    let down = le-leb t (length (state_of s).seats) (omega (arith, count-seats s, number)) in
    rw (up, down) refl

number-seat : (s : Story) (t : ℕ) → is_seat (state_of s) t ≡ true → IsNumber s.start.sizes.seats t
number-seat s t is =
    let parts = and_parts (nat_lt 0 t) (nat_le t (length (state_of s).seats)) is in
    let some = ltb-true 0 t parts.0 in
    let within = leb-true t (length (state_of s).seats) parts.1 in
    (some, omega (arith, within, count-seats s))

nobody-at : (s : Story) (t : ℕ) → is_seat (state_of s) t ≡ false → seat_at (state_of s) t ≡ no_seat
nobody-at s t none =
    ap (λ (o : Option model.Seat). unwrap_or o no_seat) (with_number-none (state_of s).seats t none)

nothing : (kind : Bool) (l : ℕ) → find (is_of l) (chain_in kind no_seat) ≡ None
nothing true l = refl
nothing false l = refl

-- who is no seat holds nothing
held-nobody : (s : Story) (t l : ℕ) → is_seat (state_of s) t ≡ false
    → held_by (state_of s) t l ≡ None
held-nobody s t l none =
    let kind = is_spin (lock_at (state_of s).known.locks l).made.class in
    ap (λ (x : model.Seat). find (is_of l) (chain_in kind x)) (nobody-at s t none) ∙ nothing kind l

pub waits_within : (s : Story) (t u : ℕ) → Waits (state_of s) t u
    → IsNumber s.start.sizes.seats t × IsNumber s.start.sizes.seats u
waits_within s t u is = (
  number-seat s t (by (is_seat (state_of s) t) refl),
  number-seat s u
      (for (is_seat (state_of s) u) refl),
)
  where
    by : (b : Bool) → is_seat (state_of s) t ≡ b → is_seat (state_of s) t ≡ true
    by true seat = seat
    by false none =
        absurd (false≢true (sym (ap (λ (x : model.Seat). is_kept_by (state_of s) t u x.pending)
        (nobody-at s t none)) ∙ is))

    asks : (o : Option Request) → is_seat (state_of s) u ≡ false
        → is_kept_by (state_of s) t u o ≡ true → ⊥
    asks None none is = false≢true is
    asks (Some q) none is =
        let free =
        and_parts (is_none (held_by (state_of s) t q.lock.0))
        (not (eqb u t) && is_barred q.mode (held_by (state_of s) u q.lock.0)) is in
        let barred =
        and_parts (not (eqb u t)) (is_barred q.mode (held_by (state_of s) u q.lock.0)) free.1 in
        false≢true (sym (ap (is_barred q.mode) (held-nobody s u q.lock.0 none)) ∙ barred.1)

    for : (b : Bool) → is_seat (state_of s) u ≡ b → is_seat (state_of s) u ≡ true
    for true seat = seat
    for false none = absurd (asks (seat_at (state_of s) t).pending none is)

-- ---- the table says it

module _ (waits : ℕ → ℕ → Bool) (n : ℕ) where
  pub count-rows : length (all_waiting waits n) ≡ n
  count-rows = length-map-range_with_len (waiting waits n) 1 n

  pub is_table : IsTable (all_waiting waits n)
  is_table =
      λ i lt.
      let below : i < n = omega (arith, lt, count-rows) in
      let next : 1 + i ≡ i + 1 = omega arith in
      ap length (get_or-map-range_with_len (waiting waits n) 1 n i (i + 1) [] below next)
      ∙ length-map-range_with_len (λ t. waits t (i + 1)) 1 n ∙ sym count-rows

  row-said : (u : ℕ) → IsNumber n u → unwrap_or (with_number (all_waiting waits n) u) []
      ≡ waiting waits n u
  row-said u number =
      let below : u - 1 < n = omega (arith, number) in
      let next : 1 + (u - 1) ≡ u = omega (arith, number) in
      with_number-or (all_waiting waits n) u [] number.0
      ∙ get_or-map-range_with_len (waiting waits n) 1 n (u - 1) u [] below next

  pub says-is : (t u : ℕ) → IsNumber n t → IsNumber n u → says (all_waiting waits n) t u ≡ waits t u
  says-is t u seat other =
      let below : t - 1 < n = omega (arith, seat) in
      let next : 1 + (t - 1) ≡ t = omega (arith, seat) in
      ap (λ marks. is_marked marks t) (row-said u other)
      ∙ marked-at (waiting waits n u) t seat.0
      ∙ get_or-map-range_with_len (λ k. waits k u) 1 n (t - 1) t false below next

  pub says_true : (t u : ℕ) → Says (all_waiting waits n) t u → waits t u ≡ true
  says_true t u is = by (is_given (all_waiting waits n) u) refl
    where
      by : (b : Bool) → is_given (all_waiting waits n) u ≡ b → waits t u ≡ true
      by false none =
          let within =
          marked_within [] t (sym (ap (λ (o : Option (List Bool)). is_marked (unwrap_or o []) t)
          (with_number-none (all_waiting waits n) u none)) ∙ is) in
          absurd (omega (arith, within))
      by true given =
          let parts = and_parts (nat_lt 0 u) (nat_le u (length (all_waiting waits n))) given in
          let some = ltb-true 0 u parts.0 in
          let most = leb-true u (length (all_waiting waits n)) parts.1 in
          let other : IsNumber n u = (some, omega (arith, most, count-rows)) in
          let within =
          marked_within (waiting waits n u) t
          (sym (ap (λ marks. is_marked marks t) (row-said u other)) ∙ is) in
          let many = length-map-range_with_len (λ k. waits k u) 1 n in
          sym (says-is t u (within.0, omega (arith, within, many)) other) ∙ is

-- one more seat, and one more row
pub waiting_more : (waits : ℕ → ℕ → Bool) (n u : ℕ) (old new : List Bool) (b : Bool)
    → old ≡ waiting waits n u → b ≡ waits (n + 1) u → new ≡ old ++ b ∷ []
    → new ≡ waiting waits (n + 1) u
waiting_more waits n u old new b before is more =
    let next : 1 + n ≡ n + 1 = omega arith in
    more ∙ ap (λ xs. xs ++ b ∷ []) before ∙ ap (λ x. waiting waits n u ++ x ∷ []) is
    ∙ sym (map-range_with_len_more (λ t. waits t u) 1 n (n + 1) next)

pub rows_more : (waits : ℕ → ℕ → Bool) (n k : ℕ) (old new : List (Vec Bool)) (row : Vec Bool)
    → table_of old ≡ map (waiting waits n) (range_with_len 1 k)
    → row.items ≡ waiting waits n (k + 1)
    → new ≡ old ++ row ∷ [] → table_of new ≡ map (waiting waits n) (range_with_len 1 (k + 1))
rows_more waits n k old new row before is more =
    let next : 1 + k ≡ k + 1 = omega arith in
    ap table_of more ∙ map-append (λ (r : Vec Bool). r.items) old (row ∷ [])
    ∙ ap (λ xs. xs ++ row.items ∷ []) before
    ∙ ap (λ x. map (waiting waits n) (range_with_len 1 k) ++ x ∷ []) is
    ∙ sym (map-range_with_len_more (waiting waits n) 1 k (k + 1) next)

-- ---- what is told

module _ (s : Story) (rows : List (Vec Bool)) (is : table_of rows
    ≡ all_waiting (waits_for (state_of s)) s.start.sizes.seats) where
  pub rows_table : IsTable (table_of rows)
  rows_table = subst IsTable (sym is) (is_table (waits_for (state_of s)) s.start.sizes.seats)

  pub rows-count : length rows ≡ s.start.sizes.seats
  rows-count =
      sym (rows-many rows) ∙ ap length is ∙ count-rows (waits_for (state_of s)) s.start.sizes.seats

  -- what the table tells is told of the state
  pub told_of_state : (o : Option (List ℕ)) → TellsCircle (Says (table_of rows)) o
      → TellsCircle (Waits (state_of s)) o
  told_of_state (Some seats) told =
      (circle_likewise (Says (table_of rows)) (Waits (state_of s)) from seats told.0, told.1)
    where
      from : (t u : ℕ) → Says (table_of rows) t u → Waits (state_of s) t u
      from t u says =
          says_true (waits_for (state_of s)) s.start.sizes.seats t u
          (subst (λ table. Says table t u) is says)
  told_of_state None none =
      λ seats circle. none seats (circle_likewise (Waits (state_of s))
      (Says (table_of rows)) into seats circle)
    where
      into : (t u : ℕ) → Waits (state_of s) t u → Says (table_of rows) t u
      into t u waits =
          let within = waits_within s t u waits in
          subst (λ table. Says table t u) (sym is)
          (says-is (waits_for (state_of s)) s.start.sizes.seats t u within.0 within.1 ∙ waits)

  -- none is told where there is none
  pub none_told : (o : Option (Vec SeatNo))
      → ((seats : List ℕ) → IsRecordCircle (state_of s) seats → ⊥)
      → TellsCircle (Waits (state_of s)) (circle_numbers o) → o ≡ None
  none_told None none told = refl
  none_told (Some seats) none told = absurd (none (seat_numbers seats.items) told.0)

-- ---- what a table tells by itself

module _ (rows : List (List Bool)) (table : IsTable rows) where
  -- it speaks of its own seats
  says_within : (t u : ℕ) → Says rows t u → IsNumber (length rows) t
  says_within t u is = by (is_given rows u) refl
    where
      by : (b : Bool) → is_given rows u ≡ b → IsNumber (length rows) t
      by false none =
          let within =
          marked_within [] t (sym (ap (λ (o : Option (List Bool)). is_marked (unwrap_or o []) t)
          (with_number-none rows u none)) ∙ is) in
          absurd (omega (arith, within))
      by true given =
          let parts = and_parts (nat_lt 0 u) (nat_le u (length rows)) given in
          let some = ltb-true 0 u parts.0 in
          let most = leb-true u (length rows) parts.1 in
          let within =
          marked_within (slice_index_or rows (u - 1) []) t
          (sym (ap (λ marks. is_marked marks t) (with_number-or rows u [] some)) ∙ is) in
          let many = table (u - 1) (omega (arith, some, most)) in
          (within.0, omega (arith, within, many))

  pub tells_none : ((t : ℕ) → 0 < t → t ≤ length rows → IsCircleFrom rows t None)
      → TellsCircle (Says rows) None
  tells_none none = λ seats circle.
      let l = turned (Says rows) seats circle in
      let number = first-number l.first l.others l.first l.circle in
      none l.first number.0 number.1 l.others l.circle l.all
    where
      first-number : (t : ℕ) (others : List ℕ) (u : ℕ) → IsQueue (Says rows) t others u
          → IsNumber (length rows) t
      first-number t [] u says = says_within t u says
      first-number t (v ∷ vs) u says = says_within t v says.0
