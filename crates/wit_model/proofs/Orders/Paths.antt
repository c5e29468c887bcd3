-- Paths of adopted orders, and the test for them.
use Rattle.std.proofs.Common.{◌≡◌, ℕ, Bool, true, false, ◌&&◌, ◌||◌, eqb, List, [], ◌∷◌, ◌++◌, sym}
use Rattle.std.proofs.Common.{refl, ◌∙◌, subst, inl, inr, ⊎_elim, ◌⊎◌, true≢false}
use Rattle.std.proofs.lemmas.Bool.{or_cases, or_left, or_right, and_parts, and_from, eqb-true}
use Rattle.std.proofs.lemmas.Bool.{eq-eqb, false≢true}
use Rattle.wit_model.specs.declared.calls.Adoption.{Adoption}
use Rattle.wit_model.specs.Rules.Orders.{is_adoption_of, is_direct, IsPath, Before, is_before}
use Rattle.wit_model.specs.Rules.Orders.{IsSound}

join_paths : (os : List Adoption) (a : ℕ) (way : List ℕ) (b : ℕ) (rest : List ℕ) (c : ℕ)
    → IsPath os a way b → IsPath os b rest c → IsPath os a (way ++ b ∷ rest) c
join_paths os a [] b rest c p q = (p, q)
join_paths os a (v ∷ way) b rest c p q = (p.0, join_paths os v way b rest c p.1 q)

pub before_trans : (os : List Adoption) (a b c : ℕ) → Before os a b → Before os b c → Before os a c
before_trans os a b c p q = (p.0 ++ b ∷ q.0, join_paths os a p.0 b q.0 c p.1 q.1)

pub direct-before : (os : List Adoption) (a b : ℕ) → is_direct os a b ≡ true → Before os a b
direct-before os a b is = ([], is)

path_more : (o : Adoption) (os : List Adoption) (a : ℕ) (way : List ℕ) (b : ℕ) → IsPath os a way b
    → IsPath (o ∷ os) a way b
path_more o os a [] b p = or_right (is_adoption_of a b o) (is_direct os a b) p
path_more o os a (v ∷ way) b p =
    (or_right (is_adoption_of a v o) (is_direct os a v) p.0, path_more o os v way b p.1)

-- more orders leave each path
pub before_more : (o : Adoption) (os : List Adoption) (a b : ℕ) → Before os a b
    → Before (o ∷ os) a b
before_more o os a b p = (p.0, path_more o os a p.0 b p.1)

here : (o : Adoption) (os : List Adoption) → Before (o ∷ os) o.parent.0 o.child.0
here o os = (
  [],
  or_left (is_adoption_of o.parent.0 o.child.0 o) (is_direct os o.parent.0 o.child.0)
      (and_from (eqb o.parent.0 o.parent.0) (eqb o.child.0 o.child.0)
      (eq-eqb o.parent.0 o.parent.0 refl) (eq-eqb o.child.0 o.child.0 refl)),
)

-- from a to the new order's parent, or at it; from its child to b, or at it
from_parent : (o : Adoption) (os : List Adoption) (a c : ℕ) → (o.parent.0 ≡ a)
    ⊎ Before os a o.parent.0 → Before (o ∷ os) o.parent.0 c → Before (o ∷ os) a c
from_parent o os a c (inl e) q = subst (λ x. Before (o ∷ os) x c) e q
from_parent o os a c (inr p) q =
    before_trans (o ∷ os) a o.parent.0 c (before_more o os a o.parent.0 p) q

to_child : (o : Adoption) (os : List Adoption) (b : ℕ) → (o.child.0 ≡ b) ⊎ Before os o.child.0 b
    → Before (o ∷ os) o.parent.0 b
to_child o os b (inl e) = subst (λ x. Before (o ∷ os) o.parent.0 x) e (here o os)
to_child o os b (inr p) =
    before_trans (o ∷ os) o.parent.0 o.child.0 b (here o os) (before_more o os o.child.0 b p)

pub before_from_test : (os : List Adoption) (a b : ℕ) → is_before os a b ≡ true → Before os a b
before_from_test [] a b is = absurd (false≢true is)
before_from_test (o ∷ os) a b is =
    ⊎_elim
    (λ old. before_more o os a b (before_from_test os a b old))
    (λ new. let parts = and_parts (eqb o.parent.0 a || is_before os a o.parent.0)
    (eqb o.child.0 b || is_before os o.child.0 b) new in
    from_parent o os a b
    (⊎_elim (λ e. inl (eqb-true o.parent.0 a e)) (λ p. inr (before_from_test os a o.parent.0 p))
    (or_cases (eqb o.parent.0 a) (is_before os a o.parent.0) parts.0))
    (to_child o os b
    (⊎_elim (λ e. inl (eqb-true o.child.0 b e)) (λ p. inr (before_from_test os o.child.0 b p))
    (or_cases (eqb o.child.0 b) (is_before os o.child.0 b) parts.1))))
    (or_cases (is_before os a b) ((eqb o.parent.0 a || is_before os a o.parent.0)
    && (eqb o.child.0 b || is_before os o.child.0 b)) is)

direct-test : (os : List Adoption) (a b : ℕ) → is_direct os a b ≡ true → is_before os a b ≡ true
direct-test [] a b is = absurd (false≢true is)
direct-test (o ∷ os) a b is =
    ⊎_elim
    (λ new. let parts = and_parts (eqb o.parent.0 a) (eqb o.child.0 b) new in
    or_right (is_before os a b) ((eqb o.parent.0 a || is_before os a o.parent.0)
    && (eqb o.child.0 b || is_before os o.child.0 b))
    (and_from (eqb o.parent.0 a || is_before os a o.parent.0)
    (eqb o.child.0 b || is_before os o.child.0 b)
    (or_left (eqb o.parent.0 a) (is_before os a o.parent.0) parts.0)
    (or_left (eqb o.child.0 b) (is_before os o.child.0 b) parts.1)))
    (λ old. or_left (is_before os a b) ((eqb o.parent.0 a || is_before os a o.parent.0)
    && (eqb o.child.0 b || is_before os o.child.0 b)) (direct-test os a b old))
    (or_cases (is_adoption_of a b o) (is_direct os a b) is)

-- the two halves of the test for a new order
is_from : Adoption → List Adoption → ℕ → Bool
is_from o os a = eqb o.parent.0 a || is_before os a o.parent.0

is_to : Adoption → List Adoption → ℕ → Bool
is_to o os b = eqb o.child.0 b || is_before os o.child.0 b

abbrev Composes : List Adoption → Type 0
Composes os = (a b c : ℕ) → is_before os a b ≡ true → is_before os b c ≡ true
    → is_before os a c ≡ true

from_back : (o : Adoption) (os : List Adoption) (a b : ℕ) → Composes os → is_before os a b ≡ true
    → is_from o os b ≡ true → is_from o os a ≡ true
unfolding is_from
from_back o os a b both ab at =
    or_right (eqb o.parent.0 a) (is_before os a o.parent.0)
    (⊎_elim (λ e. subst (λ x. is_before os a x ≡ true) (sym (eqb-true o.parent.0 b e)) ab)
    (λ p. both a b o.parent.0 ab p)
    (or_cases (eqb o.parent.0 b) (is_before os b o.parent.0) at))

to_on : (o : Adoption) (os : List Adoption) (b c : ℕ) → Composes os → is_to o os b ≡ true
    → is_before os b c ≡ true → is_to o os c ≡ true
unfolding is_to
to_on o os b c both at bc =
    or_right (eqb o.child.0 c) (is_before os o.child.0 c)
    (⊎_elim (λ e. subst (λ x. is_before os x c ≡ true) (sym (eqb-true o.child.0 b e)) bc)
    (λ p. both o.child.0 b c p bc)
    (or_cases (eqb o.child.0 b) (is_before os o.child.0 b) at))

test_cases : (o : Adoption) (os : List Adoption) (a b : ℕ) → is_before (o ∷ os) a b ≡ true
    → (is_before os a b ≡ true) ⊎ ((is_from o os a ≡ true) × (is_to o os b ≡ true))
unfolding is_from is_to
test_cases o os a b is =
    ⊎_elim (λ old. inl old) (λ new. inr (and_parts (is_from o os a) (is_to o os b) new))
    (or_cases (is_before os a b) (is_from o os a && is_to o os b) is)

test_old : (o : Adoption) (os : List Adoption) (a b : ℕ) → is_before os a b ≡ true
    → is_before (o ∷ os) a b ≡ true
test_old o os a b is =
    or_left (is_before os a b) ((eqb o.parent.0 a || is_before os a o.parent.0)
    && (eqb o.child.0 b || is_before os o.child.0 b)) is

test_new : (o : Adoption) (os : List Adoption) (a b : ℕ) → is_from o os a ≡ true
    → is_to o os b ≡ true → is_before (o ∷ os) a b ≡ true
unfolding is_from is_to
test_new o os a b from to =
    or_right (is_before os a b) (is_from o os a && is_to o os b)
    (and_from (is_from o os a) (is_to o os b) from to)

composes : (os : List Adoption) → Composes os
composes [] a b c ab bc = absurd (false≢true ab)
composes (o ∷ os) a b c ab bc =
    ⊎_elim
    (λ old. ⊎_elim
    (λ on. test_old o os a c (composes os a b c old on))
    (λ on. test_new o os a c (from_back o os a b (composes os) old on.0) on.1)
    (test_cases o os b c bc))
    (λ new. ⊎_elim
    (λ on. test_new o os a c new.0 (to_on o os b c (composes os) new.1 on))
    (λ on. test_new o os a c new.0 on.1)
    (test_cases o os b c bc))
    (test_cases o os a b ab)

path-test : (os : List Adoption) (a : ℕ) (way : List ℕ) (b : ℕ) → IsPath os a way b
    → is_before os a b ≡ true
path-test os a [] b p = direct-test os a b p
path-test os a (v ∷ way) b p = composes os a v b (direct-test os a v p.0) (path-test os v way b p.1)

pub test_from_before : (os : List Adoption) (a b : ℕ) → Before os a b → is_before os a b ≡ true
test_from_before os a b p = path-test os a p.0 b p.1

pub is_before-trans : (os : List Adoption) (a b c : ℕ) → is_before os a b ≡ true
    → is_before os b c ≡ true → is_before os a c ≡ true
is_before-trans os = composes os

turned_round : (o : Adoption) (os : List Adoption) (a : ℕ) → (o.parent.0 ≡ o.child.0 → ⊥)
    → is_from o os a ≡ true → is_to o os a ≡ true → is_before os o.child.0 o.parent.0 ≡ true
unfolding is_from is_to
turned_round o os a apart from to =
    ⊎_elim
    (λ e. ⊎_elim
    (λ f. absurd (apart (eqb-true o.parent.0 a e ∙ sym (eqb-true o.child.0 a f))))
    (λ q. subst (λ x. is_before os o.child.0 x ≡ true) (sym (eqb-true o.parent.0 a e)) q)
    (or_cases (eqb o.child.0 a) (is_before os o.child.0 a) to))
    (λ p. ⊎_elim
    (λ f. subst (λ x. is_before os x o.parent.0 ≡ true) (sym (eqb-true o.child.0 a f)) p)
    (λ q. composes os o.child.0 a o.parent.0 q p)
    (or_cases (eqb o.child.0 a) (is_before os o.child.0 a) to))
    (or_cases (eqb o.parent.0 a) (is_before os a o.parent.0) from)

-- an order between two types that isn't turned round leaves no type before itself
pub sound_adopt : (o : Adoption) (os : List Adoption) → IsSound os
    → is_before os o.child.0 o.parent.0 ≡ false → (o.parent.0 ≡ o.child.0 → ⊥) → IsSound (o ∷ os)
sound_adopt o os sound not_round apart a round =
    ⊎_elim
    (λ old. sound a (before_from_test os a a old))
    (λ new. true≢false (sym (turned_round o os a apart new.0 new.1) ∙ not_round))
    (test_cases o os a a (test_from_before (o ∷ os) a a round))
