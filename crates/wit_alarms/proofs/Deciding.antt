-- Whether a circle of facts closes can be told: there are only so many that have each fact once.
use Rattle.std.proofs.Common.{◌≡◌, ℕ, zero, suc, ◌<◌, ◌≤◌, ◌⊎◌, Bool, true, false, eqb, List, [], ◌∷◌}
use Rattle.std.proofs.Common.{length, refl, sym, ◌∙◌, subst, inl, inr, ⊎_elim, arith}
use Rattle.std.specs.List.{list_any}
use Rattle.std.proofs.lemmas.Bool.{true≢false, eqb-true, eq-eqb, or_left, or_right}
use Rattle.wit_alarms.specs.declared.facts.Fact.{Fact}
use Rattle.wit_alarms.specs.declared.facts.Lives.{Lives}
use Rattle.wit_alarms.specs.declared.facts.Reasons.{Reasons}
use Rattle.wit_alarms.specs.Facts.{closes, NoneCloses}
use Rattle.wit_alarms.proofs.Cutting.{closed-there, none_closes}

-- all are below n
abbrev pub Below : ℕ → List ℕ → Type 0
Below n xs = (q : ℕ) → list_any (eqb q) xs ≡ true → q < n

-- a list that passes, of so many at most
pub record Found (p : List ℕ → Bool) (most : ℕ) : Type 0 where
  pub xs : List ℕ
  pub passes : p xs ≡ true
  pub short : length xs ≤ most

abbrev NonePasses : (List ℕ → Bool) → ℕ → ℕ → Type 0
NonePasses p n most = (xs : List ℕ) → length xs ≤ most → Below n xs → p xs ≡ true → ⊥

abbrev Decided : ℕ → ℕ → Type 0
Decided n most = (p : List ℕ → Bool) → Found p most ⊎ NonePasses p n most

-- none passes whose first is below k
abbrev NoneFrom : (List ℕ → Bool) → ℕ → ℕ → ℕ → Type 0
NoneFrom p n most k =
    (x : ℕ) (xs : List ℕ) → x < k → length xs ≤ most → Below n xs → p (x ∷ xs) ≡ true → ⊥

from-more : (p : List ℕ → Bool) (n most k : ℕ) → NonePasses (λ xs. p (k ∷ xs)) n most
    → NoneFrom p n most k → NoneFrom p n most (suc k)
from-more p n most k here less x xs low short below is = by (eqb x k) refl
  where
    by : (b : Bool) → eqb x k ≡ b → ⊥
    by true e = here xs short below (subst (λ y. p (y ∷ xs) ≡ true) (eqb-true x k e) is)
    by false e =
        less x xs
        (let ne : x ≡ k → ⊥ = λ same. true≢false (sym (eq-eqb x k same) ∙ e) in
        omega (arith, low, ne)) short below is

heads : (p : List ℕ → Bool) (n most k : ℕ) → Decided n most
    → Found p (suc most) ⊎ NoneFrom p n most k
heads p n most zero decided = inr (λ x xs low short below is. absurd (omega (arith, low)))
heads p n most (suc k) decided =
    ⊎_elim
    (λ found. inl (record {
      xs = k ∷ found.xs;
      passes = found.passes;
      short = omega (arith, found.short);
    }))
    (λ here.
    ⊎_elim inl (λ less. inr (from-more p n most k here less)) (heads p n most k decided))
    (decided (λ xs. p (k ∷ xs)))

decide : (n most : ℕ) → Decided n most
decide n zero p = by (p []) refl
  where
    by : (b : Bool) → p [] ≡ b → Found p zero ⊎ NonePasses p n zero
    by true e = inl (record { xs = []; passes = e; short = omega arith })
    by false e = inr none
      where
        none : NonePasses p n zero
        none [] short below is = true≢false (sym is ∙ e)
        none (x ∷ xs) short below is = absurd (omega (arith, short))
decide n (suc most) p = by (p []) refl (heads p n most n (decide n most))
  where
    by : (b : Bool) → p [] ≡ b → Found p (suc most) ⊎ NoneFrom p n most n
        → Found p (suc most) ⊎ NonePasses p n (suc most)
    by true e rest = inl (record { xs = []; passes = e; short = omega arith })
    by false e (inl found) = inl found
    by false e (inr none) = inr all
      where
        all : NonePasses p n (suc most)
        all [] short below is = true≢false (sym is ∙ e)
        all (x ∷ xs) short below is =
            none x xs (below x (or_left (eqb x x) (list_any (eqb x) xs) (eq-eqb x x refl)))
            (omega (arith, short))
            (λ q any. below q (or_right (eqb q x) (list_any (eqb q) xs) any)) is

-- a circle of these facts closes, of no more than there are, or none does
pub closes-or-none : (why : Reasons) (lives : Lives) (facts : List Fact)
    → Found (closes why lives facts) (length facts) ⊎ NoneCloses why lives facts
closes-or-none why lives facts =
    ⊎_elim inl
    (λ none. inr (none_closes why lives facts
    (λ rest some short once is.
    none rest short (λ q any. closed-there why lives facts rest q is any) is)))
    (decide (length facts) (length facts) (closes why lives facts))
