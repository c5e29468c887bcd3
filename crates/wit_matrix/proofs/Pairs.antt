-- Which pairs stand among those for which something holds.
use Rattle.std.proofs.Common.{◌≡◌, ◌⊎◌, ℕ, suc, zero, ◌+◌, ◌<◌, ◌≤◌, Bool, true, false, ◌&&◌, ◌||◌}
use Rattle.std.proofs.Common.{cond, eqb, List, [], ◌∷◌, map, filter, refl, ap, sym, ◌∙◌, subst, inl}
use Rattle.std.proofs.Common.{inr, ⊎_elim, arith}
use Rattle.std.specs.List.{list_any, range_with_len, flat_map}
use Rattle.std.proofs.lemmas.Bool.{or_cases, or_left, or_right, and_parts, and_from, eqb-true}
use Rattle.std.proofs.lemmas.Bool.{eq-eqb, false≢true}
use Rattle.std.proofs.lemmas.Bool.Decides.{eqb_tells}
use Rattle.std.proofs.lemmas.List.Folds.{list_any-append}
use Rattle.wit_matrix.specs.Squares.{pairs_where}
use Rattle.wit_model.specs.Rules.Numbers.{IsNumber}

pub list_any-map : {X Y : Type 0} (test : Y → Bool) (f : X → Y) (xs : List X)
    → list_any test (map f xs) ≡ list_any (λ x. test (f x)) xs
list_any-map test f [] = refl
list_any-map test f (x ∷ xs) = ap (λ r. test (f x) || r) (list_any-map test f xs)

-- whether a number is among these
abbrev pub among : ℕ → List ℕ → Bool
among b js = list_any (λ j. eqb j b) js

abbrev pub is_pair : ℕ → ℕ → ℕ × ℕ → Bool
is_pair a b p = eqb p.0 a && eqb p.1 b

range_from : (s n b : ℕ) → among b (range_with_len s n) ≡ true → (s ≤ b) × (b < s + n)
range_from s zero b is = absurd (false≢true is)
range_from s (suc n) b is =
    ⊎_elim
    (λ here. let e = eqb-true s b here in (omega arith, omega arith))
    (λ later. let r = range_from (s + 1) n b later in (omega (arith, r.0), omega (arith, r.1)))
    (or_cases (eqb s b) (among b (range_with_len (s + 1) n)) is)

range_on : (s b : ℕ) (later : Bool) → s ≤ b → ((s ≡ b → ⊥) → later ≡ true)
    → (eqb s b || later) ≡ true
range_on s b later le rest =
    elim (eqb_tells s b) [
      | inl e ↦ or_left (eqb s b) later e.0
      | inr e ↦ or_right (eqb s b) later (rest e.1)
    ]

pub range_to : (s n b : ℕ) → s ≤ b → b < s + n → among b (range_with_len s n) ≡ true
range_to s zero b le lt = absurd (omega arith)
range_to s (suc n) b le lt =
    range_on s b (among b (range_with_len (s + 1) n)) le
    (λ apart. range_to (s + 1) n b (omega (arith, apart)) (omega arith))

row : (ℕ → Bool) → ℕ → List ℕ → List (ℕ × ℕ)
row test i js = map (λ j. (i, j)) (filter test js)

RowHas : (ℕ → Bool) → ℕ → List ℕ → ℕ → ℕ → Type 0
RowHas test i js a b = (i ≡ a) × ((test b ≡ true) × (among b js ≡ true))

row_has_more : (test : ℕ → Bool) (i j : ℕ) (js : List ℕ) (a b : ℕ) → RowHas test i js a b
    → RowHas test i (j ∷ js) a b
unfolding RowHas
row_has_more test i j js a b r = (r.0, (r.1.0, or_right (eqb j b) (among b js) r.1.1))

row_from_step : (test : ℕ → Bool) (i j : ℕ) (js : List ℕ) (a b : ℕ) (t : Bool) → test j ≡ t
    → (list_any (is_pair a b) (row test i js) ≡ true → RowHas test i js a b)
    → list_any (is_pair a b) (map (λ k. (i, k)) (cond t (j ∷ filter test js) (filter test js)))
    ≡ true → RowHas test i (j ∷ js) a b
unfolding row RowHas
row_from_step test i j js a b true holds rest h =
    ⊎_elim
    (λ here. let parts = and_parts (eqb i a) (eqb j b) here in (
      eqb-true i a parts.0,
      (
        subst (λ k. test k ≡ true) (eqb-true j b parts.1) holds,
        or_left (eqb j b) (among b js) parts.1,
      ),
    ))
    (λ later. row_has_more test i j js a b (rest later))
    (or_cases (eqb i a && eqb j b) (list_any (is_pair a b) (row test i js)) h)
row_from_step test i j js a b false fails rest h = row_has_more test i j js a b (rest h)

row_from : (test : ℕ → Bool) (i : ℕ) (js : List ℕ) (a b : ℕ)
    → list_any (is_pair a b) (row test i js) ≡ true → RowHas test i js a b
unfolding row
row_from test i [] a b is = absurd (false≢true is)
row_from test i (j ∷ js) a b is =
    row_from_step test i j js a b (test j) refl (row_from test i js a b) is

row_to_step : (test : ℕ → Bool) (j : ℕ) (js : List ℕ) (a b : ℕ) (t : Bool) → test j ≡ t
    → test b ≡ true
    → (among b js ≡ true → list_any (is_pair a b) (row test a js) ≡ true)
    → (eqb j b ≡ true) ⊎ (among b js ≡ true)
    → list_any (is_pair a b) (map (λ k. (a, k)) (cond t (j ∷ filter test js) (filter test js)))
    ≡ true
unfolding row
row_to_step test j js a b true th holds rest (inl e) =
    or_left (eqb a a && eqb j b) (list_any (is_pair a b) (row test a js))
    (and_from (eqb a a) (eqb j b) (eq-eqb a a refl) e)
row_to_step test j js a b true th holds rest (inr more) =
    or_right (eqb a a && eqb j b) (list_any (is_pair a b) (row test a js)) (rest more)
row_to_step test j js a b false fails holds rest (inl e) =
    absurd (false≢true (sym fails ∙ subst (λ k. test k ≡ true) (sym (eqb-true j b e)) holds))
row_to_step test j js a b false fails holds rest (inr more) = rest more

row_to : (test : ℕ → Bool) (js : List ℕ) (a b : ℕ) → test b ≡ true → among b js ≡ true
    → list_any (is_pair a b) (row test a js) ≡ true
unfolding row
row_to test [] a b holds is = absurd (false≢true is)
row_to test (j ∷ js) a b holds is =
    row_to_step test j js a b (test j) refl holds (row_to test js a b holds)
    (or_cases (eqb j b) (among b js) is)

rows_from : (holds : ℕ → ℕ → Bool) (is js : List ℕ) (a b : ℕ)
    → list_any (is_pair a b) (flat_map (λ i. row (holds i) i js) is) ≡ true
    → (among a is ≡ true) × ((among b js ≡ true) × (holds a b ≡ true))
unfolding RowHas
rows_from holds [] js a b h = absurd (false≢true h)
rows_from holds (i ∷ is) js a b h =
    ⊎_elim
    (λ here. let r = row_from (holds i) i js a b here in (
      or_left (eqb i a) (among a is) (eq-eqb i a r.0),
      (r.1.1, subst (λ k. holds k b ≡ true) r.0 r.1.0),
    ))
    (λ later. let r = rows_from holds is js a b later in (or_right (eqb i a) (among a is) r.0, r.1))
    (or_cases (list_any (is_pair a b) (row (holds i) i js))
    (list_any (is_pair a b) (flat_map (λ k. row (holds k) k js) is))
    (sym (list_any-append (is_pair a b) (row (holds i) i js)
    (flat_map (λ k. row (holds k) k js) is)) ∙ h))

rows_to : (holds : ℕ → ℕ → Bool) (is js : List ℕ) (a b : ℕ) → among a is ≡ true → among b js ≡ true
    → holds a b ≡ true
    → list_any (is_pair a b) (flat_map (λ i. row (holds i) i js) is) ≡ true
rows_to holds [] js a b at bt h = absurd (false≢true at)
rows_to holds (i ∷ is) js a b at bt h =
    list_any-append (is_pair a b) (row (holds i) i js) (flat_map (λ k. row (holds k) k js) is)
    ∙ ⊎_elim
    (λ here. or_left (list_any (is_pair a b) (row (holds i) i js))
    (list_any (is_pair a b) (flat_map (λ k. row (holds k) k js) is))
    (subst (λ k. list_any (is_pair a b) (row (holds k) k js) ≡ true) (sym (eqb-true i a here))
    (row_to (holds a) js a b h bt)))
    (λ later. or_right (list_any (is_pair a b) (row (holds i) i js))
    (list_any (is_pair a b) (flat_map (λ k. row (holds k) k js) is))
    (rows_to holds is js a b later bt h))
    (or_cases (eqb i a) (among a is) at)

-- a pair that stands there is one of n types' for which it holds
pub pair_from : (n : ℕ) (holds : ℕ → ℕ → Bool) (a b : ℕ)
    → list_any (is_pair a b) (pairs_where n holds) ≡ true → IsNumber n a
    × (IsNumber n b × (holds a b ≡ true))
unfolding row
pair_from n holds a b h =
    let r = rows_from holds (range_with_len 1 n) (range_with_len 1 n) a b h in
    let x = range_from 1 n a r.0 in
    let y = range_from 1 n b r.1.0 in
    ((x.0, omega (arith, x.1)), ((y.0, omega (arith, y.1)), r.1.1))

pub pair_to : (n : ℕ) (holds : ℕ → ℕ → Bool) (a b : ℕ) → IsNumber n a → IsNumber n b
    → holds a b ≡ true → list_any (is_pair a b) (pairs_where n holds) ≡ true
unfolding row
pair_to n holds a b at bt h =
    rows_to holds (range_with_len 1 n) (range_with_len 1 n) a b (range_to 1 n a at.0 (omega arith))
    (range_to 1 n b bt.0 (omega arith)) h
