-- What is among the elements of a list.
use Rattle.std.proofs.Common.{◌≡◌, suc, ◌⊎◌, Bool, true, cond}
use Rattle.std.proofs.Common.{List, [], ◌∷◌, Option, Some, find, refl, sym, ◌∙◌}
use Rattle.std.proofs.Common.{inl, inr, ⊎_elim, arith, ap}
use Rattle.std.specs.List.{list_any, list_all, Contains}
use Rattle.std.proofs.lemmas.Bool.{and_parts, or_cases, cases_Bool, false≢true}

abbrev pub Among : {X : Type 0} → List X → X → Type 0
Among [] x = ⊥
Among (y ∷ ys) x = (y ≡ x) ⊎ Among ys x

pub contained : {X : Type 0} (xs : List X) (x : X) → Among xs x → Contains xs x
contained [] x is = absurd is
contained (y ∷ ys) x (inl is) = (0, omega arith, is)
contained (y ∷ ys) x (inr is) =
    let later = contained ys x is in (suc later.0, (let low = later.1 in omega arith), later.2)

pub any-among : {X : Type 0} (p : X → Bool) (xs : List X) → list_any p xs ≡ true
    → (x : X) × Among xs x × (p x ≡ true)
any-among p [] is = absurd (false≢true is)
any-among p (y ∷ ys) is =
    ⊎_elim (λ here. (y, inl refl, here))
    (λ there. let later = any-among p ys there in (later.0, inr later.1, later.2))
    (or_cases (p y) (list_any p ys) is)

pub all-among : {X : Type 0} (p : X → Bool) (xs : List X) (x : X) → list_all p xs ≡ true
    → Among xs x → p x ≡ true
all-among p [] x all is = absurd is
all-among p (y ∷ ys) x all (inl is) =
    ap p (sym is) ∙ (and_parts (p y) (list_all p ys) all).0
all-among p (y ∷ ys) x all (inr is) =
    all-among p ys x (and_parts (p y) (list_all p ys) all).1 is

pub find-among : {X : Type 0} (p : X → Bool) (xs : List X) (x : X) → find p xs ≡ Some x
    → Among xs x × (p x ≡ true)
find-among p [] x is = (cc)
find-among {X} p (y ∷ ys) x is =
    elim (cases_Bool (p y)) [
      | inl here ↦
          let found : ◌≡◌ {A = Option X} (Some y) (Some x) =
          sym (ap (λ b. cond b (Some y) (find p ys)) here) ∙ is in
          let same : y ≡ x = cc in
          (inl same, ap p (sym same) ∙ here)
      | inr there ↦
          let later = find-among p ys x
          (sym (ap (λ b. cond b (Some y) (find p ys)) there) ∙ is) in
          (inr later.0, later.1)
    ]
