-- The table of who waits for whom, and the seats that are marked.
use Rattle.std.proofs.Common.{◌≡◌, ℕ, ◌+◌, ◌-◌, ◌<◌, ◌≤◌, Bool, true, false, cond, nat_lt, List, []}
use Rattle.std.proofs.Common.{length, get_or, set, replicate, Option, None, Some, unwrap_or, refl}
use Rattle.std.proofs.Common.{sym, ap, ◌∙◌, ◌⊎◌, inl, inr, arith}
use Rattle.std.specs.Global.{Vec}
use Rattle.std.specs.List.{slice_get}
use Rattle.std.proofs.lemmas.Bool.{false≢true, cases_eq, ltb-true}
use Rattle.std.proofs.lemmas.List.{get_or_read, get_or-replicate, get_or-set_same, get_or-set_other}
use Rattle.std.proofs.lemmas.List.{length-map, length-replicate, get_or-map}
use Rattle.std.proofs.lemmas.Option.{slice_get_within}
use Rattle.wit_model.specs.Rules.Numbers.{with_number, IsNumber}
use Rattle.wit_model.proofs.Numbered.{with_number-or}
use Rattle.wit_waiting.specs.Searching.{is_marked, table_of, says, Says, IsTable}

-- ---- marks

pub marked-at : (marks : List Bool) (t : ℕ) → 0 < t → is_marked marks t ≡ get_or marks (t - 1) false
unfolding is_marked
marked-at marks t some = with_number-or marks t false some

pub marked_within : (marks : List Bool) (t : ℕ) → is_marked marks t ≡ true
    → IsNumber (length marks) t
unfolding is_marked
marked_within marks t is = by (nat_lt 0 t) refl is
  where
    found : (o : Option Bool) → slice_get marks (t - 1) ≡ o → unwrap_or o false ≡ true
        → t - 1 < length marks
    found None none is = absurd (false≢true is)
    found (Some b) here is = slice_get_within marks (t - 1) b here

    by : (b : Bool) → nat_lt 0 t ≡ b → unwrap_or (cond b (slice_get marks (t - 1)) None) false
        ≡ true → (0 < t) × (t ≤ length marks)
    by false none is = absurd (false≢true is)
    by true some is =
        let up = ltb-true 0 t some in
        let lt = found (slice_get marks (t - 1)) refl is in
        (up, omega (arith, up, lt))

pub marked-none : (n t : ℕ) → is_marked (replicate n false) t ≡ true → ⊥
marked-none n t is =
    let within = marked_within (replicate n false) t is in
    let size = length-replicate n false in
    false≢true
    (sym (get_or-replicate n (t - 1) false false (omega (arith, within, size)))
    ∙ sym (marked-at (replicate n false) t within.0) ∙ is)

-- one more is marked
module _ (marks : List Bool) (i : ℕ) (lt : i < length marks) where
  pub marked-set_same : (t : ℕ) → t ≡ i + 1 → is_marked (set marks i true) t ≡ true
  marked-set_same t e =
      let place : t - 1 ≡ i = omega (arith, e) in
      marked-at (set marks i true) t (omega (arith, e)) ∙ ap
      (λ k. get_or (set marks i true) k false) place ∙ get_or-set_same marks i true false lt

  marked-set_other : (t : ℕ) → 0 < t → (t ≡ i + 1 → ⊥)
      → is_marked (set marks i true) t ≡ is_marked marks t
  marked-set_other t some apart =
      marked-at (set marks i true) t some ∙ get_or-set_other marks i (t - 1) true false
      (λ e. apart (omega (arith, e, some))) ∙ sym (marked-at marks t some)

  pub marked_before : (t : ℕ) → is_marked (set marks i true) t ≡ true
      → (t ≡ i + 1) ⊎ (is_marked marks t ≡ true)
  marked_before t is =
      let within = marked_within (set marks i true) t is in
      elim (cases_eq t (i + 1)) [
        | inl e ↦ inl e
        | inr apart ↦ inr
            (sym (marked-set_other t within.0 apart) ∙ is)
      ]

  pub marked_after : (t : ℕ) → is_marked marks t ≡ true → is_marked (set marks i true) t ≡ true
  marked_after t is =
      let within = marked_within marks t is in
      elim (cases_eq t (i + 1)) [
        | inl e ↦ marked-set_same t e
        | inr apart ↦ marked-set_other t
            within.0 apart ∙ is
      ]

-- ---- the table

abbrev items : Vec Bool → List Bool
items row = row.items

pub rows-many : (rows : List (Vec Bool)) → length (table_of rows) ≡ length rows
rows-many rows = length-map rows items

row-items : (rows : List (Vec Bool)) (i : ℕ) (row : Vec Bool) → i < length rows
    → row ≡ get_or rows i row → get_or (table_of rows) i [] ≡ row.items
row-items rows i row lt read = get_or-map items rows i row [] lt ∙ ap items (sym read)

pub row-length : (rows : List (Vec Bool)) (i : ℕ) (row : Vec Bool) → IsTable (table_of rows)
    → i < length rows → row ≡ get_or rows i row → row.len ≡ length rows
row-length rows i row table lt read =
    let many = rows-many rows in
    let is = ap length (row-items rows i row lt read) in
    let own = table i (omega (arith, lt, many)) in
    omega (arith, row.ok.0, many, is, own)

pub said : (rows : List (Vec Bool)) (t u : ℕ) (row : Vec Bool) (x : Bool) → IsTable (table_of rows)
    → IsNumber (length rows) t → IsNumber (length rows) u
    → row ≡ get_or rows (u - 1) row → x ≡ get_or row.items (t - 1) x → x ≡ says (table_of rows) t u
said rows t u row x table seat other read here =
    let lt : u - 1 < length rows = omega (arith, other) in
    let long = row-length rows (u - 1) row table lt read in
    get_or_read row.items (t - 1) x (omega (arith, long, row.ok.0, seat)) here false
    ∙ sym (marked-at row.items t seat.0)
    ∙ sym (ap (λ marks. is_marked marks t)
    (with_number-or (table_of rows) u [] other.0 ∙ row-items rows (u - 1) row lt read))

pub says_within : (rows : List (List Bool)) (t u : ℕ) → IsTable rows → IsNumber (length rows) u
    → Says rows t u → t ≤ length rows
says_within rows t u table other is =
    let within = marked_within (unwrap_or (with_number rows u) []) t is in
    let row = ap length (with_number-or rows u [] other.0) in
    let long = table (u - 1) (omega (arith, other)) in
    omega (arith, within, row, long)

-- ---- a search begins
