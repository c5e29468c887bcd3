-- Rows that are joined with the source: those that the mirror's row of the first reaches.
use Rattle.std.proofs.Common.{◌≡◌, ◌≢◌, ◌⊎◌, ℕ, ◌+◌, ◌<◌, ◌≤◌, Bool, true, false, not, ◌&&◌, ◌||◌}
use Rattle.std.proofs.Common.{eqb, ltb, List, refl, ap, ap₂, sym, ◌∙◌, subst, inl, inr, ⊎_elim}
use Rattle.std.proofs.Common.{arith}
use Rattle.std.proofs.lemmas.Bool.{cases_order, cases_lt, lt-ltb, le-ltb, eqb-true, eq-eqb, ne_eqb}
use Rattle.std.proofs.lemmas.Bool.{or_cases, and_parts, false≢true}
use Rattle.wit_matrix.specs.Squares.{has, AddsWhere, IsTransitive, ReachesNone, reaches, joins}
use Rattle.wit_matrix.specs.Squares.{joins_row}
use Rattle.wit_matrix.proofs.Words.{or_none, and_none}
use Rattle.wit_model.specs.Rules.Numbers.{IsNumber}

-- the rows below k are joined
abbrev pub RowsBelow : ℕ → List ℕ → ℕ → ℕ → ℕ → List ℕ → List ℕ → Type 0
RowsBelow n mirror first source k old new =
    AddsWhere n (λ a b. ltb a k && joins n mirror first old source a b) old new

-- one row more, where the others stay as they are
one_more : (x all at : Bool) (a k : ℕ) → (a ≡ k → at ≡ all) → (a ≢ k → at ≡ false)
    → ((x || (ltb a k && all)) || at) ≡ (x || (ltb a (k + 1) && all))
one_more x all at a k same apart = go (cases_order a k)
  where
    go : (a ≡ k) ⊎ ((a < k) ⊎ (k < a)) → ((x || (ltb a k && all)) || at)
        ≡ (x || (ltb a (k + 1) && all))
    go (inl e) =
        let here : at ≡ all = same e in
        let old : ltb a k ≡ false = le-ltb a k (omega arith) in
        let new : ltb a (k + 1) ≡ true = lt-ltb a (k + 1) (omega arith) in
        rw (here, old, new) (ap (λ t. t || all) (or_none x))
    go (inr (inl lt)) =
        let none : at ≡ false = apart (λ e. absurd (omega arith)) in
        let old : ltb a k ≡ true = lt-ltb a k lt in
        let new : ltb a (k + 1) ≡ true = lt-ltb a (k + 1) (omega arith) in
        rw (none, old, new) (or_none (x || all))
    go (inr (inr lt)) =
        let none : at ≡ false = apart (λ e. absurd (omega arith)) in
        let old : ltb a k ≡ false = le-ltb a k (omega arith) in
        let new : ltb a (k + 1) ≡ false = le-ltb a (k + 1) (omega arith) in
        rw (none, old, new) (or_none (x || false))

-- a row from k on is as it was
row_kept : (n : ℕ) (mirror : List ℕ) (first source k : ℕ) (old mid : List ℕ)
    → RowsBelow n mirror first source k old mid → (a b : ℕ) → IsNumber n a → IsNumber n b → k ≤ a
    → has n mid a b ≡ has n old a b
row_kept n mirror first source k old mid below a b at bt from =
    below a b at bt ∙ (ap (λ t. has n old a b || (t && joins n mirror first old source a b))
    (le-ltb a k from) ∙ or_none (has n old a b))

-- and so is the source's row, which isn't joined
source_kept : (n : ℕ) (mirror : List ℕ) (first source k : ℕ) (old mid : List ℕ) → IsNumber n source
    → reaches n mirror first source ≡ false
    → RowsBelow n mirror first source k old mid → (b : ℕ) → IsNumber n b
    → has n mid source b ≡ has n old source b
source_kept n mirror first source k old mid st outside below b bt =
    below source b st bt
    ∙ (ap (λ t. has n old source b || (ltb source k && (t && reaches n old source b))) outside
    ∙ (ap (λ t. has n old source b || t) (and_none (ltb source k)) ∙ or_none (has n old source b)))

pub rows_end : (n : ℕ) (mirror : List ℕ) (first source k : ℕ) (old new : List ℕ) → n < k
    → RowsBelow n mirror first source k old new
    → AddsWhere n (joins n mirror first old source) old new
rows_end n mirror first source k old new end below a b at bt =
    let all : ltb a k ≡ true = lt-ltb a k (omega (arith, at.1, end)) in
    below a b at bt ∙ ap (λ t. has n old a b || (t && joins n mirror first old source a b)) all

pub rows_more : (n : ℕ) (mirror : List ℕ) (first source k : ℕ) (old mid new : List ℕ)
    → IsNumber n source → reaches n mirror first source ≡ false
    → RowsBelow n mirror first source k old mid → reaches n mirror first k ≡ true
    → AddsWhere n (joins_row n mid k source) mid new
    → RowsBelow n mirror first source (k + 1) old new
rows_more n mirror first source k old mid new st outside below reached added a b at bt =
    added a b at bt
    ∙ (ap (λ t. t || joins_row n mid k source a b) (below a b at bt)
    ∙ one_more (has n old a b) (joins n mirror first old source a b)
    (joins_row n mid k source a b) a k
    (λ e. ap₂ (λ x y. x && y) (eq-eqb k a (sym e)
    ∙ sym (subst (λ j. reaches n mirror first j ≡ true) (sym e) reached))
    (ap (λ t. eqb source b || t)
    (source_kept n mirror first source k old mid st outside below b bt)))
    (λ other_row. ap (λ t. t && reaches n mid source b) (ne_eqb k a (λ e. other_row (sym e)))))

-- rows that aren't reached
pub rows_until : (n : ℕ) (mirror : List ℕ) (first source k m : ℕ) (old mid : List ℕ) → k ≤ m
    → RowsBelow n mirror first source k old mid
    → ReachesNone n mirror first k m → RowsBelow n mirror first source m old mid
rows_until n mirror first source k m old mid le below none a b at bt =
    below a b at bt ∙ ap (λ t. has n old a b || t) (go (cases_lt a k))
  where
    none_here : (k ≤ a) → a < m → (ltb a m && joins n mirror first old source a b) ≡ false
    none_here from lt =
        ap (λ t. ltb a m && (t && reaches n old source b)) (none a from lt) ∙ and_none (ltb a m)

    from_k : k ≤ a → (a < m) ⊎ (m ≤ a) → false ≡ (ltb a m && joins n mirror first old source a b)
    from_k from (inl lt) = sym (none_here from lt)
    from_k from (inr more) =
        sym (ap (λ t. t && joins n mirror first old source a b) (le-ltb a m more))

    go : (a < k) ⊎ (k ≤ a) → (ltb a k && joins n mirror first old source a b)
        ≡ (ltb a m && joins n mirror first old source a b)
    go (inl lt) =
        ap (λ t. t && joins n mirror first old source a b)
        (lt-ltb a k lt ∙ sym (lt-ltb a m (omega (arith, lt, le))))
    go (inr from) =
        ap (λ t. t && joins n mirror first old source a b) (le-ltb a k from)
        ∙ from_k from (cases_lt a m)

-- the row isn't reached
rows_same : (n : ℕ) (mirror : List ℕ) (first source k : ℕ) (old mid : List ℕ)
    → RowsBelow n mirror first source k old mid → reaches n mirror first k ≡ false
    → RowsBelow n mirror first source (k + 1) old mid
rows_same n mirror first source k old mid below unreached =
    rows_until n mirror first source k (k + 1) old mid (omega arith) below
    (λ b le lt. let e : k ≡ b = omega (arith, le, lt) in
    subst (λ j. reaches n mirror first j ≡ false) e unreached)

-- what a row has adds nothing to it
pub adds_nothing : (x all : Bool) → (all ≡ true → x ≡ true) → x ≡ (x || all)
adds_nothing true all has_it = refl
adds_nothing false false has_it = refl
adds_nothing false true has_it = has_it refl

-- the row has the source, so it has all that the source's row has
rows_skip : (n : ℕ) (mirror : List ℕ) (first source k : ℕ) (old mid : List ℕ) → IsNumber n source
    → IsNumber n k → IsTransitive n old
    → RowsBelow n mirror first source k old mid → has n mid k source ≡ true
    → RowsBelow n mirror first source (k + 1) old mid
rows_skip n mirror first source k old mid st kt transitive below has_it a b at bt =
    below a b at bt ∙ go (cases_order a k)
  where
    source_there : (a ≡ k) → has n old a source ≡ true
    source_there e =
        subst (λ j. has n old j source ≡ true) (sym e)
        (sym (row_kept n mirror first source k old mid below k source kt st (omega arith))
        ∙ has_it)

    there : (a ≡ k) → joins n mirror first old source a b ≡ true → has n old a b ≡ true
    there e j =
        ⊎_elim
        (λ here. subst (λ y. has n old a y ≡ true) (eqb-true source b here) (source_there e))
        (λ on. transitive a source b at st bt (source_there e) on)
        (or_cases (eqb source b) (has n old source b)
        (and_parts (reaches n mirror first a) (reaches n old source b) j).1)

    go : (a ≡ k) ⊎ ((a < k) ⊎ (k < a))
        → (has n old a b || (ltb a k && joins n mirror first old source a b))
        ≡ (has n old a b || (ltb a (k + 1) && joins n mirror first old source a b))
    go (inl e) =
        ap (λ t. has n old a b || (t && joins n mirror first old source a b))
        (le-ltb a k (omega (arith, e)))
        ∙ (or_none (has n old a b)
        ∙ (adds_nothing (has n old a b) (joins n mirror first old source a b) (there e)
        ∙ sym (ap (λ t. has n old a b || (t && joins n mirror first old source a b))
        (lt-ltb a (k + 1) (omega (arith, e))))))
    go (inr (inl lt)) =
        ap (λ t. has n old a b || (t && joins n mirror first old source a b))
        (lt-ltb a k lt ∙ sym (lt-ltb a (k + 1) (omega (arith, lt))))
    go (inr (inr lt)) =
        ap (λ t. has n old a b || (t && joins n mirror first old source a b))
        (le-ltb a k (omega (arith, lt)) ∙ sym (le-ltb a (k + 1) (omega (arith, lt))))

-- a row that isn't joined: it isn't reached, or it has the source
pub rows_left : (n : ℕ) (mirror : List ℕ) (first source k : ℕ) (old mid : List ℕ)
    → IsNumber n source → IsNumber n k → IsTransitive n old
    → RowsBelow n mirror first source k old mid
    → (reaches n mirror first k && not (has n mid k source)) ≡ false
    → RowsBelow n mirror first source (k + 1) old mid
rows_left n mirror first source k old mid st kt transitive below left =
    go (reaches n mirror first k) (has n mid k source) refl refl left
  where
    go : (r h : Bool) → reaches n mirror first k ≡ r → has n mid k source ≡ h → (r && not h) ≡ false
        → RowsBelow n mirror first source (k + 1) old mid
    go false h unreached has_it isnt = rows_same n mirror first source k old mid below unreached
    go true true reached has_it isnt =
        rows_skip n mirror first source k old mid st kt transitive below has_it
    go true false reached has_not isnt = absurd (false≢true (sym isnt))
