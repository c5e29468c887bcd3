-- What a new order puts before what, in a square and in its mirror.
use Rattle.std.proofs.Common.{◌≡◌, ℕ, true, false, ◌&&◌, ◌||◌, eqb, List, ap, ap₂, sym, ◌∙◌, subst}
use Rattle.std.proofs.Common.{⊎_elim}
use Rattle.std.proofs.Math.Bool.{and_comm}
use Rattle.std.proofs.lemmas.Bool.{or_cases, or_from, and_parts, eqb-true, ne_eqb}
use Rattle.wit_matrix.specs.Squares.{has, AddsWhere, IsTransitive, AreMirrors, reaches, joins}
use Rattle.wit_matrix.specs.Squares.{links}
use Rattle.wit_matrix.proofs.Words.{or_none}
use Rattle.wit_matrix.proofs.Joins.{adds_nothing}
use Rattle.wit_model.specs.Rules.Numbers.{IsNumber}

-- a transitive square and its mirror, and two types of which the second isn't before the first
pub record CanLink (n : ℕ) (before after : List ℕ) (p c : ℕ) : Type 0 where
  pub parent : IsNumber n p
  pub child : IsNumber n c
  pub apart : p ≡ c → ⊥
  pub orderly : has n before c p ≡ false
  pub transitive : IsTransitive n before
  pub mirrors : AreMirrors n before after

pub not_up : (n : ℕ) (before after : List ℕ) (p c : ℕ) → CanLink n before after p c
    → reaches n after p c ≡ false
not_up n before after p c can =
    or_from (eqb p c) (has n after p c) (ne_eqb p c can.apart)
    (can.mirrors p c can.parent can.child ∙ can.orderly)

pub linked_from : (n : ℕ) (before after b1 : List ℕ) (p c : ℕ) → CanLink n before after p c
    → AddsWhere n (joins n after p before c) before b1
    → AddsWhere n (links n before p c) before b1
linked_from n before after b1 p c can joined a b at bt =
    joined a b at bt ∙ ap (λ t. has n before a b || ((eqb p a || t) && reaches n before c b))
    (can.mirrors p a can.parent at)

-- the child's row stays as it is
down_kept : (n : ℕ) (before after b1 : List ℕ) (p c : ℕ) → CanLink n before after p c
    → AddsWhere n (joins n after p before c) before b1
    → (b : ℕ) → IsNumber n b → has n b1 c b ≡ has n before c b
down_kept n before after b1 p c can joined b bt =
    joined c b can.child bt ∙ (ap (λ t. has n before c b || (t && reaches n before c b))
    (not_up n before after p c can) ∙ or_none (has n before c b))

pub still_mirrors : (n : ℕ) (before after b1 a1 : List ℕ) (p c : ℕ) → CanLink n before after p c
    → AddsWhere n (joins n after p before c) before b1
    → AddsWhere n (joins n b1 c after p) after a1 → AreMirrors n b1 a1
still_mirrors n before after b1 a1 p c can joined mirrored a b at bt =
    mirrored a b at bt
    ∙ (ap₂ (λ x y. x || ((eqb c a || y) && reaches n after p b)) (can.mirrors a b at bt)
    (down_kept n before after b1 p c can joined a at)
    ∙ (ap (λ t. has n before b a || ((eqb c a || has n before c a) && (eqb p b || t)))
    (can.mirrors p b can.parent bt)
    ∙ (ap (λ t. has n before b a || t)
    (and_comm (eqb c a || has n before c a) (eqb p b || has n before b p))
    ∙ sym (linked_from n before after b1 p c can joined b a bt at))))

-- where the parent is before the child already, nothing is new
pub linked_already : (n : ℕ) (before after : List ℕ) (p c : ℕ) → CanLink n before after p c
    → has n before p c ≡ true → AddsWhere n (links n before p c) before before
linked_already n before after p c can known a b at bt =
    adds_nothing (has n before a b) (links n before p c a b) there
  where
    to_child : (eqb p a || has n before a p) ≡ true → has n before a c ≡ true
    to_child from =
        ⊎_elim
        (λ here. subst (λ x. has n before x c ≡ true) (eqb-true p a here) known)
        (λ on. can.transitive a p c at can.parent can.child on known)
        (or_cases (eqb p a) (has n before a p) from)

    there : links n before p c a b ≡ true → has n before a b ≡ true
    there l =
        let parts = and_parts (eqb p a || has n before a p) (eqb c b || has n before c b) l in
        ⊎_elim
        (λ here. subst (λ x. has n before a x ≡ true) (eqb-true c b here) (to_child parts.0))
        (λ on. can.transitive a c b at can.child bt (to_child parts.0) on)
        (or_cases (eqb c b) (has n before c b) parts.1)
