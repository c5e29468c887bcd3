-- What adding a bit, or a row, does to the bits of a square.
use Rattle.std.proofs.Common.{◌≡◌, ◌≢◌, ◌⊎◌, ℕ, ◌+◌, ◌-◌, ◌*◌, ◌/◌, ◌%◌, ◌^◌, ◌<◌, ◌≤◌, max, Bool}
use Rattle.std.proofs.Common.{true, false, ◌&&◌, ◌||◌, cond, eqb, ltb, List, set, replicate, bit_or}
use Rattle.std.proofs.Common.{w64, refl, ap, sym, ◌∙◌, subst, inl, inr, arith}
use Rattle.std.specs.Int.{bit_at, trailing_zeros}
use Rattle.std.proofs.lemmas.Bool.{cases_order, cases_lt, lt-ltb, le-ltb, eq-eqb, ne_eqb}
use Rattle.std.proofs.lemmas.Bool.Decides.{eqb_tells}
use Rattle.std.proofs.lemmas.Nat.Bits.{bit_at_or, bit_at-lt, bit_at-pow_same, bit_at-pow_other}
use Rattle.std.proofs.lemmas.Nat.Bits.{bit_at-zero, bit_at_above, bit_at-trailing_zeros}
use Rattle.std.proofs.lemmas.Nat.{shr-shr}
use Rattle.std.proofs.lemmas.List.{get_or-replicate}
use Rattle.wit_matrix.specs.Squares.{width, word_place, word_at, has, IsSquare, Holds, AddsWhere}
use Rattle.wit_matrix.specs.Squares.{HasNone, is_at}
use Rattle.wit_matrix.proofs.Places.{place_within, word_set_same, word_set_other}
use Rattle.wit_model.specs.Rules.Numbers.{IsNumber}

pub or_none : (x : Bool) → (x || false) ≡ x
or_none true = refl
or_none false = refl

pub and_none : (x : Bool) → (x && false) ≡ false
and_none true = refl
and_none false = refl

-- ---- one word

digit : (n i : ℕ) → (bit_at n i ≡ 0) ⊎ (bit_at n i ≡ 1)
digit n i = elim (cases_lt (bit_at n i) 1) [
  | inl lt ↦ inl (omega (arith, lt))
  | inr le ↦ inr (omega (arith, le, bit_at-lt n i))
]

max_one : (u v : ℕ) → (u ≡ 0) ⊎ (u ≡ 1) → (v ≡ 0) ⊎ (v ≡ 1) → eqb (max u v) 1 ≡ (eqb u 1 || eqb v 1)
max_one u v (inl p) (inl q) = rw (p, q) refl
max_one u v (inl p) (inr q) = rw (p, q) refl
max_one u v (inr p) (inl q) = rw (p, q) refl
max_one u v (inr p) (inr q) = rw (p, q) refl

pub or_bit : (x y i : ℕ) → eqb (bit_at (bit_or x y) i) 1
    ≡ (eqb (bit_at x i) 1 || eqb (bit_at y i) 1)
or_bit x y i =
    ap (λ d. eqb d 1) (bit_at_or x y i) ∙ max_one (bit_at x i) (bit_at y i) (digit x i) (digit y i)

mask_bit : (x k i : ℕ) → eqb (bit_at (bit_or x (2 ^ k)) i) 1 ≡ (eqb (bit_at x i) 1 || eqb k i)
mask_bit x k i = or_bit x (2 ^ k) i ∙ ap (λ t. eqb (bit_at x i) 1 || t) (go (eqb_tells k i))
  where
    go : ((eqb k i ≡ true) × (k ≡ i)) ⊎ ((eqb k i ≡ false) × (k ≢ i))
        → eqb (bit_at (2 ^ k) i) 1 ≡ eqb k i
    go (inl e) =
        ap (λ d. eqb d 1) (subst (λ j. bit_at (2 ^ k) j ≡ 1) e.1 (bit_at-pow_same k)) ∙ sym e.0
    go (inr e) = ap (λ d. eqb d 1) (bit_at-pow_other k i (λ s. e.1 (sym s))) ∙ sym e.0

-- ---- one bit more

pub word_within : (n b : ℕ) → b ≤ n → b / 64 < width n
word_within n b within = omega (arith, within)

module _ (n a b : ℕ) (words : List ℕ) (square : IsSquare n words) (at : IsNumber n a)
    (bt : IsNumber n b) where
  with_bit : List ℕ
  with_bit =
      set words (word_place n a (b / 64)) (bit_or (word_at n words a (b / 64)) (2 ^ (b % 64)))

  same_word : (i j : ℕ) → a ≡ i → b / 64 ≡ j / 64
      → word_at n with_bit i (j / 64) ≡ bit_or (word_at n words i (j / 64)) (2 ^ (b % 64))
  unfolding with_bit
  same_word i j e f =
      subst (λ k. word_at n with_bit k (j / 64)
      ≡ bit_or (word_at n words k (j / 64)) (2 ^ (b % 64))) e
      (subst (λ l. word_at n with_bit a l ≡ bit_or (word_at n words a l) (2 ^ (b % 64))) f
      (word_set_same n a (b / 64) (bit_or (word_at n words a (b / 64)) (2 ^ (b % 64))) words square
      at (word_within n b bt.1)))

  same_bit : (i j : ℕ) → eqb a i ≡ true → b / 64 ≡ j / 64 → eqb (b % 64) (j % 64) ≡ is_at a b i j
  same_bit i j e f = go (eqb_tells b j)
    where
      go : ((eqb b j ≡ true) × (b ≡ j)) ⊎ ((eqb b j ≡ false) × (b ≢ j))
          → eqb (b % 64) (j % 64) ≡ is_at a b i j
      go (inl g) = eq-eqb (b % 64) (j % 64) (ap (λ k. k % 64) g.1) ∙ (rw (e, g.0) refl)
      go (inr g) = ne_eqb (b % 64) (j % 64) (λ s. g.1 (omega (arith, s, f))) ∙ (rw (e, g.0) refl)

  other_word : (i j : ℕ) → IsNumber n i → IsNumber n j → ((a ≡ i) × (b / 64 ≡ j / 64) → ⊥)
      → is_at a b i j ≡ false
      → has n with_bit i j ≡ (has n words i j || is_at a b i j)
  unfolding with_bit
  other_word i j it jt apart isnt =
      ap (λ w. eqb (bit_at w (j % 64)) 1)
      (word_set_other n a (b / 64) i (j / 64) (bit_or (word_at n words a (b / 64)) (2 ^ (b % 64)))
      words at it (word_within n b bt.1) (word_within n j jt.1) apart)
      ∙ sym (ap (λ t. has n words i j || t) isnt ∙ or_none (has n words i j))

  bit_added : AddsWhere n (is_at a b) words with_bit
  unfolding with_bit
  bit_added i j it jt = go (eqb_tells a i) (eqb_tells (b / 64) (j / 64))
    where
      go : ((eqb a i ≡ true) × (a ≡ i)) ⊎ ((eqb a i ≡ false) × (a ≢ i))
          → ((eqb (b / 64) (j / 64) ≡ true) × (b / 64 ≡ j / 64))
          ⊎ ((eqb (b / 64) (j / 64) ≡ false) × (b / 64 ≢ j / 64))
          → has n with_bit i j ≡ (has n words i j || is_at a b i j)
      go (inl e) (inl f) =
          ap (λ w. eqb (bit_at w (j % 64)) 1) (same_word i j e.1 f.1)
          ∙ (mask_bit (word_at n words i (j / 64)) (b % 64) (j % 64)
          ∙ ap (λ t. has n words i j || t) (same_bit i j e.0 f.1))
      go (inl e) (inr f) =
          let none : eqb b j ≡ false = ne_eqb b j (λ s. f.1 (ap (λ k. k / 64) s)) in
          other_word i j it jt (λ both. f.1 both.1) (rw (e.0, none) refl)
      go (inr e) f = other_word i j it jt (λ both. e.1 both.0) (rw e.0 refl)

  -- where the place, the word there and the bit are known by these names
  pub bit_added_at : (p x m : ℕ) → p ≡ word_place n a (b / 64) → x ≡ word_at n words a (b / 64)
      → m ≡ 2 ^ (b % 64) → AddsWhere n (is_at a b) words (set words p (bit_or x m))
  unfolding with_bit
  bit_added_at p x m here was is =
      subst (λ q. AddsWhere n (is_at a b) words (set words q (bit_or x m))) (sym here)
      (subst (λ y. AddsWhere n (is_at a b) words (set words (word_place n a (b / 64)) (bit_or y m)))
      (sym was)
      (subst (λ k. AddsWhere n (is_at a b) words
      (set words (word_place n a (b / 64)) (bit_or (word_at n words a (b / 64)) k)))
      (sym is) bit_added))

-- ---- a row more

-- the row has the source's words below k
abbrev pub UnitedBelow : ℕ → ℕ → ℕ → ℕ → List ℕ → List ℕ → Type 0
UnitedBelow n row source k old new =
    (a i : ℕ) → IsNumber n a → i < width n
    → word_at n new a i ≡ cond (eqb row a && ltb i k)
    (bit_or (word_at n old a i) (word_at n old source i)) (word_at n old a i)

ltb_next : (i k : ℕ) → (k ≡ i → ⊥) → ltb i k ≡ ltb i (k + 1)
ltb_next i k apart = go (cases_order i k)
  where
    go : (i ≡ k) ⊎ ((i < k) ⊎ (k < i)) → ltb i k ≡ ltb i (k + 1)
    go (inl e) = absurd (apart (sym e))
    go (inr (inl lt)) = lt-ltb i k lt ∙ sym (lt-ltb i (k + 1) (omega (arith, lt)))
    go (inr (inr lt)) = le-ltb i k (omega (arith, lt)) ∙ sym (le-ltb i (k + 1) (omega (arith, lt)))

module _ (n row source k : ℕ) (old mid : List ℕ) (square : IsSquare n mid) (rt : IsNumber n row)
    (st : IsNumber n source) (within : k < width n) (apart : row ≡ source → ⊥)
    (below : UnitedBelow n row source k old mid) where
  row_word : word_at n mid row k ≡ word_at n old row k
  row_word =
      let none : ltb k k ≡ false = le-ltb k k (omega arith) in
      below row k rt within
      ∙ (ap (λ t. cond (eqb row row && t) (bit_or (word_at n old row k) (word_at n old source k))
      (word_at n old row k)) none
      ∙ ap (λ t. cond t (bit_or (word_at n old row k) (word_at n old source k))
      (word_at n old row k)) (and_none (eqb row row)))

  source_word : word_at n mid source k ≡ word_at n old source k
  source_word =
      below source k st within
      ∙ ap (λ t. cond (t && ltb k k) (bit_or (word_at n old source k) (word_at n old source k))
      (word_at n old source k)) (ne_eqb row source apart)

  pub united_more : (p x y : ℕ) → p ≡ word_place n row k → x ≡ word_at n mid row k
      → y ≡ word_at n mid source k → UnitedBelow n row source (k + 1) old (set mid p (bit_or x y))
  united_more p x y here was more =
      subst (λ q. UnitedBelow n row source (k + 1) old (set mid q (bit_or x y))) (sym here)
      (subst (λ z. UnitedBelow n row source (k + 1) old (set mid (word_place n row k) (bit_or z y)))
      (sym (was ∙ row_word))
      (subst (λ z. UnitedBelow n row source (k + 1) old
      (set mid (word_place n row k) (bit_or (word_at n old row k) z)))
      (sym (more ∙ source_word)) next))
    where
      both : ℕ
      both = bit_or (word_at n old row k) (word_at n old source k)

      next : UnitedBelow n row source (k + 1) old
          (set mid (word_place n row k) (bit_or (word_at n old row k) (word_at n old source k)))
      next a i at inside = go (eqb_tells row a) (eqb_tells k i)
        where
          other : ((row ≡ a) × (k ≡ i) → ⊥) → (eqb row a && ltb i k) ≡ (eqb row a && ltb i (k + 1))
              → word_at n (set mid (word_place n row k)
              (bit_or (word_at n old row k) (word_at n old source k))) a i
              ≡ cond (eqb row a && ltb i (k + 1))
              (bit_or (word_at n old a i) (word_at n old source i)) (word_at n old a i)
          other differ same =
              word_set_other n row k a i (bit_or (word_at n old row k) (word_at n old source k)) mid
              rt at within inside differ
              ∙ (below a i at inside ∙ ap (λ t. cond t
              (bit_or (word_at n old a i) (word_at n old source i)) (word_at n old a i)) same)

          go : ((eqb row a ≡ true) × (row ≡ a)) ⊎ ((eqb row a ≡ false) × (row ≢ a))
              → ((eqb k i ≡ true) × (k ≡ i)) ⊎ ((eqb k i ≡ false) × (k ≢ i))
              → word_at n (set mid (word_place n row k)
              (bit_or (word_at n old row k) (word_at n old source k))) a i
              ≡ cond (eqb row a && ltb i (k + 1))
              (bit_or (word_at n old a i) (word_at n old source i)) (word_at n old a i)
          go (inl e) (inl f) =
              let last : ltb i (k + 1) ≡ true = lt-ltb i (k + 1) (omega (arith, f.1)) in
              subst
              (λ r. word_at n (set mid (word_place n row k)
              (bit_or (word_at n old row k) (word_at n old source k))) r i
              ≡ bit_or (word_at n old r i) (word_at n old source i)) e.1
              (subst
              (λ l. word_at n (set mid (word_place n row k)
              (bit_or (word_at n old row k) (word_at n old source k))) row l
              ≡ bit_or (word_at n old row l) (word_at n old source l)) f.1
              (word_set_same n row k (bit_or (word_at n old row k) (word_at n old source k)) mid
              square rt within))
              ∙ sym (ap₂' e.0 last)
            where
              ap₂' : eqb row a ≡ true → ltb i (k + 1) ≡ true
                  → cond (eqb row a && ltb i (k + 1))
                  (bit_or (word_at n old a i) (word_at n old source i)) (word_at n old a i)
                  ≡ bit_or (word_at n old a i) (word_at n old source i)
              ap₂' here_row here_word = rw (here_row, here_word) refl
          go (inl e) (inr f) =
              other (λ same. f.1 same.1) (ap (λ t. eqb row a && t) (ltb_next i k f.1))
          go (inr e) f = other (λ same. e.1 same.0) (rw e.0 refl)

pub united_end : (n row source k : ℕ) (old new : List ℕ) → k ≡ width n
    → UnitedBelow n row source k old new
    → AddsWhere n (λ a b. eqb row a && has n old source b) old new
united_end n row source k old new end below a b at bt =
    let all : ltb (b / 64) k ≡ true =
    lt-ltb (b / 64) k (subst (λ w. b / 64 < w) (sym end) (word_within n b bt.1)) in
    ap (λ w. eqb (bit_at w (b % 64)) 1)
    (below a (b / 64) at (word_within n b bt.1)
    ∙ ap (λ t. cond (eqb row a && t)
    (bit_or (word_at n old a (b / 64)) (word_at n old source (b / 64)))
    (word_at n old a (b / 64))) all)
    ∙ go (eqb row a)
  where
    go : (t : Bool) → eqb (bit_at
        (cond (t && true) (bit_or (word_at n old a (b / 64)) (word_at n old source (b / 64)))
        (word_at n old a (b / 64))) (b % 64)) 1
        ≡ (has n old a b || (t && has n old source b))
    go true = or_bit (word_at n old a (b / 64)) (word_at n old source (b / 64)) (b % 64)
    go false = sym (or_none (has n old a b))

-- ---- no bits

pub blank_has_none : (n : ℕ) (words : List ℕ) → words ≡ replicate (n * width n) 0
    → Holds n words (λ _ _. false)
blank_has_none n words is a b at bt =
    ap (λ w. eqb (bit_at w (b % 64)) 1)
    (ap (λ ws. word_at n ws a (b / 64)) is ∙ get_or-replicate (n * width n)
    (word_place n a (b / 64)) 0 0 (place_within n a (b / 64) at (word_within n b bt.1)))
    ∙ ap (λ d. eqb d 1) (bit_at-zero (b % 64))

-- ---- the rest of a word

module _ (n row from : ℕ) (words : List ℕ) (x : ℕ) (is : x ≡ word_at n words row (from / 64)) where
  -- a number of the same word, by its bit in the rest
  not_had : (b : ℕ) → from ≤ b → b / 64 ≡ from / 64 → bit_at (x / 2 ^ (from % 64)) (b - from) ≡ 0
      → has n words row b ≡ false
  not_had b le same none =
      let at : b % 64 ≡ from % 64 + (b - from) = omega (arith, le, same) in
      ap (λ w. eqb (bit_at (word_at n words row w) (b % 64)) 1) same
      ∙ (ap (λ y. eqb (bit_at y (b % 64)) 1) (sym is)
      ∙ (ap (λ i. eqb (bit_at x i) 1) at
      ∙ ap (λ d. eqb d 1) (ap (λ y. y % 2) (sym (shr-shr x (from % 64) (b - from))) ∙ none)))

  pub none_left : x / 2 ^ (from % 64) ≡ 0 → HasNone n words row from (from / 64 * 64 + 63)
  none_left empty b le lt =
      not_had b le (omega (arith, le, lt))
      (ap (λ y. bit_at y (b - from)) empty ∙ bit_at-zero (b - from))

  module _ (fits : x < 2 ^ 64) (some : 0 < x / 2 ^ (from % 64))
      (rest_fits : x / 2 ^ (from % 64) < 2 ^ 64) where
    -- the lowest bit of the rest is one of the word's
    pub lowest_in_word : from % 64 + trailing_zeros w64 (x / 2 ^ (from % 64)) < 64
    lowest_in_word = elim (cases_lt (from % 64 + trailing_zeros w64 (x / 2 ^ (from % 64))) 64) [
      | inl lt ↦ lt
      | inr le ↦
          let lowest = bit_at-trailing_zeros w64 (x / 2 ^ (from % 64)) some rest_fits in
          let above =
          bit_at_above x 64 (from % 64 + trailing_zeros w64 (x / 2 ^ (from % 64))) fits le in
          let one : bit_at x (from % 64 + trailing_zeros w64 (x / 2 ^ (from % 64))) ≡ 1 =
          ap (λ y. y % 2) (sym (shr-shr x (from % 64) (trailing_zeros w64 (x / 2 ^ (from % 64)))))
          ∙ lowest.1 in
          let wrong : ◌≡◌ {A = ℕ} 0 1 = sym above ∙ one in
          absurd (omega (arith, wrong))
    ]

    pub none_below : HasNone n words row from (from + trailing_zeros w64 (x / 2 ^ (from % 64)))
    none_below b le lt =
        let lowest = bit_at-trailing_zeros w64 (x / 2 ^ (from % 64)) some rest_fits in
        not_had b le (omega (arith, le, lt, lowest_in_word))
        (lowest.2 (b - from) (omega (arith, le, lt)))
