-- What comes next after a type, as rows.
use Rattle.std.proofs.Common.{◌≡◌, ◌⊎◌, ℕ, ◌<◌, List, [], ◌∷◌, ◌++◌, length, get_or, set}
use Rattle.std.proofs.Common.{refl, sym, ap, ◌∙◌, subst, inl, inr, arith, length-append}
use Rattle.std.specs.Global.{Vec}
use Rattle.std.proofs.lemmas.Bool.{cases_eq}
use Rattle.std.proofs.lemmas.List.{get_or-set_same, get_or-set_other, get_or_append_left, length-set}
use Rattle.std.proofs.lemmas.List.{length-map, get_or-map}
use Rattle.std.proofs.Math.Seq.{get_or-append_seam}
use Rattle.wit_circles.specs.Searching.{rows_of, row, Next, IsTable}

abbrev items : Vec ℕ → List ℕ
items r = r.items

pub rows-many : (rows : List (Vec ℕ)) → length (rows_of rows) ≡ length rows
rows-many rows = length-map rows items

pub row-items : (rows : List (Vec ℕ)) (i : ℕ) (r : Vec ℕ) → i < length rows
    → r ≡ get_or rows i r → row (rows_of rows) i ≡ r.items
row-items rows i r lt read = get_or-map items rows i r [] lt ∙ ap items (sym read)

-- ---- one more type comes next after a

abbrev pub linked : List (List ℕ) → ℕ → ℕ → List (List ℕ)
linked rows a b = set rows a (row rows a ++ b ∷ [])

module _ (rows : List (List ℕ)) (a b : ℕ) (within : a < length rows) where
  own-row : row (linked rows a b) a ≡ row rows a ++ b ∷ []
  own-row = get_or-set_same rows a (row rows a ++ b ∷ []) [] within

  other-row : (c : ℕ) → (c ≡ a → ⊥) → row (linked rows a b) c ≡ row rows c
  other-row c apart = get_or-set_other rows a c (row rows a ++ b ∷ []) [] apart

  pub linked-many : length (linked rows a b) ≡ length rows
  linked-many = length-set rows a (row rows a ++ b ∷ [])

  -- at a place of the longer row stands what stood there, or the new one
  at : (k : ℕ) → k < length (row rows a ++ b ∷ [])
      → ((k < length (row rows a)) × (get_or (row rows a ++ b ∷ []) k 0 ≡ get_or (row rows a) k 0))
      ⊎ (get_or (row rows a ++ b ∷ []) k 0 ≡ b)
  at k lt =
      elim (cases_eq k (length (row rows a))) [
        | inl e ↦ inr
            (ap (λ i. get_or (row rows a ++ b ∷ []) i 0) e ∙ get_or-append_seam (row rows a) b [] 0)
        | inr apart ↦
            let less : k < length (row rows a) =
            omega (arith, lt, apart, length-append (row rows a) (b ∷ [])) in
            inl (less, get_or_append_left (row rows a) (b ∷ []) 0 k less)
      ]

  pub linked-cases : (c d : ℕ) → Next (linked rows a b) c d → Next rows c d ⊎ ((a ≡ c) × (b ≡ d))
  linked-cases c d is =
      elim (cases_eq c a) [
        | inl e ↦
            let here : row (linked rows a b) c ≡ row rows a ++ b ∷ [] = ap (row (linked rows a b)) e ∙ own-row in
            let lt : is.0 < length (row rows a ++ b ∷ []) = omega (arith, is.1, ap length here) in
            let read : get_or (row rows a ++ b ∷ []) is.0 0 ≡ d =
            sym (ap (λ (r : List ℕ). get_or r is.0 0) here) ∙ is.2 in
            elim (at is.0 lt) [
              | inl old ↦ inl (subst (λ x. Next rows x d) (sym e) (is.0, old.0, sym old.1 ∙ read))
              | inr new ↦ inr (sym e, sym new ∙ read)
            ]
        | inr apart ↦
            let same = other-row c apart in
            inl (
              is.0,
              omega (arith, is.1, ap length same),
              sym (ap (λ (r : List ℕ). get_or r is.0 0) same) ∙ is.2,
            )
      ]

  pub linked-stays : (c d : ℕ) → Next rows c d → Next (linked rows a b) c d
  linked-stays c d is =
      elim (cases_eq c a) [
        | inl e ↦
            let here : row (linked rows a b) c ≡ row rows a ++ b ∷ [] = ap (row (linked rows a b)) e ∙ own-row in
            let old : row rows c ≡ row rows a = ap (row rows) e in
            let less : is.0 < length (row rows a) = omega (arith, is.1, ap length old) in (
              is.0,
              omega (arith, less, ap length here, length-append (row rows a) (b ∷ [])),
              ap (λ (r : List ℕ). get_or r is.0 0) here
                  ∙ get_or_append_left (row rows a) (b ∷ []) 0 is.0 less
                  ∙ sym (ap (λ (r : List ℕ). get_or r is.0 0) old) ∙ is.2,
            )
        | inr apart ↦
            let same = other-row c apart in (
              is.0,
              omega (arith, is.1, ap length same),
              ap (λ (r : List ℕ). get_or r is.0 0) same ∙ is.2,
            )
      ]

  pub linked-new : Next (linked rows a b) a b
  linked-new = (
    length (row rows a),
    omega (arith, ap length own-row, length-append (row rows a) (b ∷ [])),
    ap (λ (r : List ℕ). get_or r (length (row rows a)) 0) own-row
        ∙ get_or-append_seam (row rows a) b [] 0,
  )

  pub linked-table : b < length rows → IsTable rows → IsTable (linked rows a b)
  linked-table less table c k lt =
      elim (linked-cases c (get_or (row (linked rows a b) c) k 0) (k, lt, refl)) [
        | inl old ↦ omega (arith, table c old.0 old.1, old.2, linked-many)
        | inr new ↦ omega (arith, new.1, less, linked-many)
      ]
