-- Lists whose elements pass a test, mapped, filtered and counted.
use Rattle.std.proofs.Common.{◌≡◌, ◌≢◌, ◌⊎◌, ℕ, ◌+◌, Bool, true, false, not, ◌&&◌, cond, eqb, List}
use Rattle.std.proofs.Common.{[], ◌∷◌, ◌++◌, map, filter, refl, ap, ap₂, sym, ◌∙◌, inl, inr, arith}
use Rattle.std.specs.List.{list_all}
use Rattle.std.proofs.lemmas.Bool.{and_parts, and_from}
use Rattle.std.proofs.lemmas.Bool.Decides.{eqb_tells}

pub map-where : {X Y : Type 0} (f g : X → Y) (p : X → Bool) → ((x : X) → p x ≡ true → f x ≡ g x)
    → (xs : List X) → list_all p xs ≡ true → map f xs ≡ map g xs
map-where f g p same [] all = refl
map-where f g p same (x ∷ xs) all =
    let parts = and_parts (p x) (list_all p xs) all in
    ap₂ (λ y ys. y ∷ ys) (same x parts.0) (map-where f g p same xs parts.1)

filter-cons : {X : Type 0} (q r : X → Bool) (x : X) (xs ys : List X) → q x ≡ r x → xs ≡ ys
    → cond (q x) (x ∷ xs) xs ≡ cond (r x) (x ∷ ys) ys
filter-cons q r x xs ys e es = rw (e, es) refl

pub filter-where : {X : Type 0} (q r p : X → Bool) → ((x : X) → p x ≡ true → q x ≡ r x)
    → (xs : List X) → list_all p xs ≡ true → filter q xs ≡ filter r xs
filter-where q r p same [] all = refl
filter-where q r p same (x ∷ xs) all =
    let parts = and_parts (p x) (list_all p xs) all in
    filter-cons q r x (filter q xs) (filter r xs) (same x parts.0)
    (filter-where q r p same xs parts.1)

all_cond : {X : Type 0} (p : X → Bool) (b : Bool) (x : X) (xs : List X) → p x ≡ true
    → list_all p xs ≡ true → list_all p (cond b (x ∷ xs) xs) ≡ true
all_cond p true x xs here rest = and_from (p x) (list_all p xs) here rest
all_cond p false x xs here rest = rest

pub list_all-filter : {X : Type 0} (p q : X → Bool) (xs : List X) → list_all p xs ≡ true
    → list_all p (filter q xs) ≡ true
list_all-filter p q [] all = refl
list_all-filter p q (x ∷ xs) all =
    let parts = and_parts (p x) (list_all p xs) all in
    all_cond p (q x) x (filter q xs) parts.0 (list_all-filter p q xs parts.1)

filtered_cond : {X : Type 0} (p q : X → Bool) (b : Bool) (x : X) (xs : List X) → q x ≡ b
    → p x ≡ true → list_all (λ y. p y && q y) xs ≡ true
    → list_all (λ y. p y && q y) (cond b (x ∷ xs) xs) ≡ true
filtered_cond p q true x xs is here rest =
    and_from (p x && q x) (list_all (λ y. p y && q y) xs) (and_from (p x) (q x) here is) rest
filtered_cond p q false x xs is here rest = rest

-- the elements of a filtered list pass its test too
pub list_all-filtered : {X : Type 0} (p q : X → Bool) (xs : List X) → list_all p xs ≡ true
    → list_all (λ x. p x && q x) (filter q xs) ≡ true
list_all-filtered p q [] all = refl
list_all-filtered p q (x ∷ xs) all =
    let parts = and_parts (p x) (list_all p xs) all in
    filtered_cond p q (q x) x (filter q xs) refl parts.0 (list_all-filtered p q xs parts.1)

pub list_all-both : {X : Type 0} (p q : X → Bool) → ((x : X) → p x ≡ true → q x ≡ true)
    → (xs : List X) → list_all p xs ≡ true → list_all q xs ≡ true
list_all-both p q more [] all = refl
list_all-both p q more (x ∷ xs) all =
    let parts = and_parts (p x) (list_all p xs) all in
    and_from (q x) (list_all q xs) (more x parts.0) (list_all-both p q more xs parts.1)

pub map-map : {X Y Z : Type 0} (f : Y → Z) (g : X → Y) (xs : List X)
    → map f (map g xs) ≡ map (λ x. f (g x)) xs
map-map f g [] = refl
map-map f g (x ∷ xs) = ap (λ ys. f (g x) ∷ ys) (map-map f g xs)

map-cond : {X Y : Type 0} (f : X → Y) (b : Bool) (x : X) (xs : List X) (ys : List Y) → map f xs ≡ ys
    → map f (cond b (x ∷ xs) xs) ≡ cond b (f x ∷ ys) ys
map-cond f true x xs ys e = ap (λ zs. f x ∷ zs) e
map-cond f false x xs ys e = e

pub map-filter : {X Y : Type 0} (f : X → Y) (p : Y → Bool) (xs : List X)
    → map f (filter (λ x. p (f x)) xs) ≡ filter p (map f xs)
map-filter f p [] = refl
map-filter f p (x ∷ xs) =
    map-cond f (p (f x)) x (filter (λ y. p (f y)) xs) (filter p (map f xs)) (map-filter f p xs)

swap-cond : {X : Type 0} (p q : X → Bool) (x : X) (b c : Bool) (xs ys : List X) → p x ≡ b → q x ≡ c
    → filter p xs ≡ filter q ys
    → filter p (cond c (x ∷ xs) xs) ≡ filter q (cond b (x ∷ ys) ys)
swap-cond p q x true true xs ys pb qc e = rw (pb, qc) (ap (λ zs. x ∷ zs) e)
swap-cond p q x true false xs ys pb qc e = rw qc e
swap-cond p q x false true xs ys pb qc e = rw pb e
swap-cond p q x false false xs ys pb qc e = e

pub filter-swap : {X : Type 0} (p q : X → Bool) (xs : List X)
    → filter p (filter q xs) ≡ filter q (filter p xs)
filter-swap p q [] = refl
filter-swap p q (x ∷ xs) =
    swap-cond p q x (p x) (q x) (filter q xs) (filter p xs) refl refl (filter-swap p q xs)

-- counting a number in a list of numbers
pub times : ℕ → List ℕ → ℕ
times l [] = 0
times l (m ∷ ms) = cond (eqb m l) 1 0 + times l ms

pub times-nil : (l : ℕ) → times l [] ≡ 0
unfolding times
times-nil l = refl

pub times-cons : (l m : ℕ) (ms : List ℕ) → times l (m ∷ ms) ≡ cond (eqb m l) 1 0 + times l ms
unfolding times
times-cons l m ms = refl

pub times-append : (l : ℕ) (ms ns : List ℕ) → times l (ms ++ ns) ≡ times l ms + times l ns
unfolding times
times-append l [] ns = omega arith
times-append l (m ∷ ms) ns = let e = times-append l ms ns in omega arith

pub times-filter : (l m : ℕ) (ms : List ℕ) → times l (filter (λ k. not (eqb k m)) ms)
    ≡ cond (eqb l m) 0 (times l ms)
unfolding times
times-filter l m [] = cond_same (eqb l m)
  where
    cond_same : (b : Bool) → ◌≡◌ {A = ℕ} 0 (cond b 0 0)
    cond_same true = refl
    cond_same false = refl
times-filter l m (k ∷ ms) =
    step (eqb_tells k m) (eqb_tells k l) (eqb_tells l m) (times-filter l m ms)
  where
    step : ((eqb k m ≡ true) × (k ≡ m)) ⊎ ((eqb k m ≡ false) × (k ≢ m))
        → ((eqb k l ≡ true) × (k ≡ l)) ⊎ ((eqb k l ≡ false) × (k ≢ l))
        → ((eqb l m ≡ true) × (l ≡ m)) ⊎ ((eqb l m ≡ false) × (l ≢ m))
        → times l (filter (λ k. not (eqb k m)) ms) ≡ cond (eqb l m) 0 (times l ms)
        → times l (filter (λ k. not (eqb k m)) (k ∷ ms)) ≡ cond (eqb l m) 0 (times l (k ∷ ms))
    step (inl a) (inl b) (inl c) ih = rw (a.0, c.0) (sym (rw c.0 at (sym ih)))
    step (inl a) (inl b) (inr c) ih = absurd (c.1 (sym b.1 ∙ a.1))
    step (inl a) (inr b) (inl c) ih = rw (a.0, c.0) (sym (rw c.0 at (sym ih)))
    step (inl a) (inr b) (inr c) ih = rw (a.0, c.0, b.0) (let e = rw c.0 at ih in omega (arith, e))
    step (inr a) (inl b) (inl c) ih = absurd (a.1 (b.1 ∙ c.1))
    step (inr a) (inl b) (inr c) ih = rw (a.0, c.0, b.0) (let e = rw c.0 at ih in omega (arith, e))
    step (inr a) (inr b) (inl c) ih = rw (a.0, c.0, b.0) (let e = rw c.0 at ih in omega (arith, e))
    step (inr a) (inr b) (inr c) ih = rw (a.0, c.0, b.0) (let e = rw c.0 at ih in omega (arith, e))
