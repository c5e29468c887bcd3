-- Lists of locks in which each is related to all behind it.
use Rattle.std.proofs.Common.{◌≡◌, ℕ, Bool, true, false, ◌&&◌, cond, eqb, List, [], ◌∷◌, ◌++◌}
use Rattle.std.proofs.Common.{filter, None, Some, refl, ◌∙◌, subst, ⊎_elim}
use Rattle.std.specs.List.{list_all, list_any, last_or}
use Rattle.std.proofs.lemmas.Bool.{and_parts, and_from, or_cases, eqb-true, false≢true}
use Rattle.std.proofs.lemmas.List.Folds.{list_all-append}
use Rattle.wit_model.proofs.Lists.{list_all-filter}

-- each element is related to all behind it
abbrev pub is_rising : (ℕ → ℕ → Bool) → List ℕ → Bool
is_rising leads [] = true
is_rising leads (l ∷ ls) = list_all (leads l) ls && is_rising leads ls

pub rises_push : (leads : ℕ → ℕ → Bool) (ls : List ℕ) (m : ℕ) → is_rising leads ls ≡ true
    → list_all (λ l. leads l m) ls ≡ true → is_rising leads (ls ++ m ∷ []) ≡ true
rises_push leads [] m up all = refl
rises_push leads (l ∷ ls) m up all =
    let here = and_parts (list_all (leads l) ls) (is_rising leads ls) up in
    let first = and_parts (leads l m) (list_all (λ k. leads k m) ls) all in
    and_from (list_all (leads l) (ls ++ m ∷ [])) (is_rising leads (ls ++ m ∷ []))
    (list_all-append (leads l) ls (m ∷ []) ∙ and_from (list_all (leads l) ls)
    (leads l m && true) here.0 (and_from (leads l m) true first.0 refl))
    (rises_push leads ls m here.1 first.1)

pub rises_filter : (leads : ℕ → ℕ → Bool) (p : ℕ → Bool) (ls : List ℕ) → is_rising leads ls ≡ true
    → is_rising leads (filter p ls) ≡ true
rises_filter leads p [] up = refl
rises_filter leads p (l ∷ ls) up =
    let here = and_parts (list_all (leads l) ls) (is_rising leads ls) up in
    go (p l) (and_from (list_all (leads l) (filter p ls)) (is_rising leads (filter p ls))
    (list_all-filter (leads l) p ls here.0) (rises_filter leads p ls here.1))
    (rises_filter leads p ls here.1)
  where
    go : (b : Bool) → (list_all (leads l) (filter p ls) && is_rising leads (filter p ls)) ≡ true
        → is_rising leads (filter p ls) ≡ true
        → is_rising leads (cond b (l ∷ filter p ls) (filter p ls)) ≡ true
    go true with_it without = with_it
    go false with_it without = without

-- another relation that holds wherever the first one does
module _ (leads other : ℕ → ℕ → Bool) (p : ℕ → Bool) (more : (l m : ℕ) → p l ≡ true → p m ≡ true
    → leads l m ≡ true → other l m ≡ true) where
  all_also : (l : ℕ) → p l ≡ true → (ls : List ℕ) → list_all p ls ≡ true
      → list_all (leads l) ls ≡ true → list_all (other l) ls ≡ true
  all_also l here [] good all = refl
  all_also l here (m ∷ ls) good all =
      let first = and_parts (leads l m) (list_all (leads l) ls) all in
      let fine = and_parts (p m) (list_all p ls) good in
      and_from (other l m) (list_all (other l) ls) (more l m here fine.0 first.0)
      (all_also l here ls fine.1 first.1)

  pub rises_also : (ls : List ℕ) → list_all p ls ≡ true → is_rising leads ls ≡ true
      → is_rising other ls ≡ true
  rises_also [] good up = refl
  rises_also (l ∷ ls) good up =
      let here = and_parts (list_all (leads l) ls) (is_rising leads ls) up in
      let fine = and_parts (p l) (list_all p ls) good in
      and_from (list_all (other l) ls) (is_rising other ls) (all_also l fine.0 ls fine.1 here.0)
      (rises_also ls fine.1 here.1)

  pub before_also : (m : ℕ) → p m ≡ true → (ls : List ℕ) → list_all p ls ≡ true
      → list_all (λ l. leads l m) ls ≡ true → list_all (λ l. other l m) ls ≡ true
  before_also m here [] good all = refl
  before_also m here (l ∷ ls) good all =
      let first = and_parts (leads l m) (list_all (λ k. leads k m) ls) all in
      let fine = and_parts (p l) (list_all p ls) good in
      and_from (other l m) (list_all (λ k. other k m) ls) (more l m fine.0 here first.0)
      (before_also m here ls fine.1 first.1)

-- the last element has what all have
last_from : (p : ℕ → Bool) (d : ℕ) (ls : List ℕ) (x : ℕ) → p d ≡ true → list_all p ls ≡ true
    → last_or (Some d) ls ≡ Some x → p x ≡ true
last_from p d [] x here all is = subst (λ n. p n ≡ true) (let e : d ≡ x = cc in e) here
last_from p d (l ∷ ls) x here all is = let parts =
    and_parts (p l) (list_all p ls) all in last_from p l ls x parts.0 parts.1 is

pub last_all : (p : ℕ → Bool) (ls : List ℕ) (x : ℕ) → list_all p ls ≡ true
    → last_or None ls ≡ Some x → p x ≡ true
last_all p [] x all is = (cc)
last_all p (d ∷ ls) x all is = let parts =
    and_parts (p d) (list_all p ls) all in last_from p d ls x parts.0 parts.1 is

-- a list without a last element is empty
some_from : (d : ℕ) (ls : List ℕ) → last_or (Some d) ls ≡ None → ⊥
some_from d [] is = (cc)
some_from d (l ∷ ls) is = some_from l ls is

pub none_last : (ls : List ℕ) → last_or None ls ≡ None → ls ≡ []
none_last [] is = refl
none_last (d ∷ ls) is = absurd (some_from d ls is)

-- where the last one leads to m and the relation is transitive, all do
module _ (leads : ℕ → ℕ → Bool) (chains : (a b c : ℕ) → leads a b ≡ true → leads b c ≡ true
    → leads a c ≡ true) (x m : ℕ) (on : leads x m ≡ true) where
  before_from : (d : ℕ) (ls : List ℕ) → is_rising leads (d ∷ ls) ≡ true
      → last_or (Some d) ls ≡ Some x → list_all (λ l. leads l m) (d ∷ ls) ≡ true
  before_from d [] up is =
      and_from (leads d m) true (subst (λ n. leads n m ≡ true) (let e : x ≡ d = cc in e) on) refl
  before_from d (l ∷ ls) up is =
      let here = and_parts (list_all (leads d) (l ∷ ls)) (is_rising leads (l ∷ ls)) up in
      let first = and_parts (leads d l) (list_all (leads d) ls) here.0 in
      and_from (leads d m) (list_all (λ k. leads k m) (l ∷ ls))
      (chains d x m (last_from (leads d) l ls x first.0 first.1 is) on)
      (before_from l ls here.1 is)

  pub before_last : (ls : List ℕ) → is_rising leads ls ≡ true → last_or None ls ≡ Some x
      → list_all (λ l. leads l m) ls ≡ true
  before_last [] up is = refl
  before_last (d ∷ ls) up is = before_from d ls up is

pub in_all : (p : ℕ → Bool) (l : ℕ) (ls : List ℕ) → list_all p ls ≡ true
    → list_any (λ m. eqb m l) ls ≡ true → p l ≡ true
in_all p l [] all is = absurd (false≢true is)
in_all p l (m ∷ ls) all is =
    let parts = and_parts (p m) (list_all p ls) all in
    ⊎_elim (λ here. subst (λ n. p n ≡ true) (eqb-true m l here) parts.0)
    (λ there. in_all p l ls parts.1 there) (or_cases (eqb m l) (list_any (λ n. eqb n l) ls) is)
