-- The steps under the rule: publish, tell, learn and look.
use Rattle.std.proofs.Common.{◌≡◌, ◌≢◌, ℕ, Bool, true, false, cond, nat_le, List, [], ◌∷◌, ◌++◌}
use Rattle.std.proofs.Common.{length, set, refl, ap, sym, ◌∙◌, subst, ⊎_elim, arith, length-append}
use Rattle.std.proofs.Common.{Option, None, Some, IfSome}
use mathlib.Core.List.{IsPrefix}
use mathlib.Core.Option.{some, some-ne-none}
use lib.ListN.{get_elem?}
use base.Growing.{prefix_refl, prefix_trans}
use Rattle.left_right.specs.Register.{Admits, TurnsAt, Turns, Forks, Merges}
use Rattle.atomic_table.proofs.Lists.{at_set, at_snoc}
use Rattle.wit_model.specs.declared.calls.Adoption.{Adoption}
use Rattle.wit_adoptions.specs.Naming.{Name}
use Rattle.wit_observers.specs.declared.store.Shape.{Shape}
use Rattle.wit_observers.specs.declared.store.Store.{Store}
use Rattle.wit_model.specs.Rules.Numbers.{is_number}
use Rattle.wit_model.specs.Rules.Orders.{is_direct}
use Rattle.wit_adoptions.specs.Naming.{orders_on}
use Rattle.wit_observers.specs.Numbers.{number_in, number_at}
use Rattle.wit_observers.proofs.Numbers.{number_within}
use Rattle.wit_observers.specs.Shown.{shape_of, shown, IsExact, Begins, IsShownTo, Sees, GoesOn}
use Rattle.wit_observers.specs.Shown.{longer, Tells}

-- nothing is how every list begins
prefix_none : (l : List Adoption) → IsPrefix [] l
prefix_none l = (l, refl)

begins_set : (l : List Adoption) (views : List (List Adoption)) (seat : ℕ) (w : List Adoption)
    → Begins l views → IsPrefix w l → Begins l (set views seat w)
begins_set l views seat w begins front j u at =
    ⊎_elim (λ (t : (j ≡ seat) × (w ≡ u)). subst (λ (z : List Adoption). IsPrefix z l) t.1 front)
    (λ (t : (j ≢ seat) × (get_elem? views j ≡ some u)). begins j u t.1)
    (at_set views seat j w u at)

begins_snoc : (l : List Adoption) (views : List (List Adoption)) (w : List Adoption)
    → Begins l views → IsPrefix w l → Begins l (views ++ w ∷ [])
begins_snoc l views w begins front j u at =
    ⊎_elim (λ at. begins j u at)
    (λ (same : w ≡ u). subst (λ (z : List Adoption). IsPrefix z l) same front)
    (at_snoc views w u j at)

-- what was told stays told of a longer list
begins_on : (l m : List Adoption) (views : List (List Adoption)) → Begins l views → IsPrefix l m
    → Begins m views
begins_on l m views begins more j u at = prefix_trans u l m (begins j u at) more

module _ (name : Name) where
  abbrev Holds : Store → List (List Adoption) → Type 0
  Holds s views = IsShownTo name (shape_of s) views

  pub first_shown : (s : Store) → IsExact name (shape_of s) → Holds s ([] ∷ [])
  first_shown s exact = (
    exact,
    begins_snoc (shown name (shape_of s)) [] []
        (λ j u at. absurd (some-ne-none u (sym at))) (prefix_none (shown name (shape_of s))),
  )

  pub admits : Admits Holds []
  admits s views holds = (
    holds.0,
    begins_snoc (shown name (shape_of s)) views [] holds.1
        (prefix_none (shown name (shape_of s))),
  )

  -- a publish, and a look, which goes on with what is shown
  pub goes : (seat : ℕ) (told : List Adoption) (s t : Store) → GoesOn name (shape_of s) (shape_of t)
      → TurnsAt Holds seat told s t
      (λ told before after told_then. Sees name told (shape_of after) told_then)
  goes seat told s t on views holds at =
      let l = shown name (shape_of t) in (
        l,
        (
          on.0,
          begins_set l views seat l (begins_on (shown name (shape_of s)) l views holds.1 on.1)
              (prefix_refl l),
        ),
        (on.0, prefix_trans told (shown name (shape_of s)) l (holds.1 seat told at) on.1, refl),
      )

  pub looks : (seat : ℕ) (told : List Adoption)
      → Turns Holds seat told (λ s. s)
      (λ told before after told_then. Sees name told (shape_of after) told_then)
  looks seat told s views holds at =
      goes seat told s s (holds.0, prefix_refl (shown name (shape_of s))) views holds at

  pub forks : (seat : ℕ) (told : List Adoption) → Forks Holds seat told told told
  forks seat told s views holds at =
      let l = shown name (shape_of s) in let front = holds.1 seat told at in (
        holds.0,
        begins_snoc l (set views seat told) told
            (begins_set l views seat told holds.1 front) front,
      )

  pub merges : (seat : ℕ) (told : List Adoption) (other : ℕ) (w : List Adoption)
      → Merges Holds seat told other w (longer told w) []
  merges seat told other w s views holds at apart there =
      let l = shown name (shape_of s) in
      let front = holds.1 seat told at in
      let front_too : IsPrefix w l =
      ⊎_elim (λ (t : (other ≡ seat) × (longer told w ≡ w)). absurd (apart t.0))
      (λ (t : (other ≢ seat) × (get_elem? views other ≡ some w)). holds.1 other w t.1)
      (at_set views seat other (longer told w) w there) in (
        holds.0,
        begins_set l (set views seat (longer told w)) other []
            (begins_set l views seat (longer told w) holds.1
            (chosen l front front_too (nat_le (length told) (length w)))) (prefix_none l),
      )
    where
      chosen : (l : List Adoption) → IsPrefix told l → IsPrefix w l → (b : Bool)
          → IsPrefix (cond b w told) l
      chosen l front front_too true = front_too
      chosen l front front_too false = front

-- who has a place was told all of a list
pub told_all : {P : Type 0} (o : Option P) (told_at : P → List Adoption) (told l : List Adoption)
    → IfSome o (λ p. told_at p ≡ told) → told ≡ l
    → IfSome o (λ p. IsPrefix l (told_at p))
told_all None told_at told l is same = tt
told_all (Some p) told_at told l is same =
    subst (λ z. IsPrefix l z) (sym (is ∙ same)) (prefix_refl l)

-- what a look tells
pub tells : (name : Name) (told told_then seen : List Adoption) (s : Shape) (number a b : ℕ)
    → Sees name told s told_then → seen ≡ orders_on name s.page
    → number ≡ number_at s.size s.cells a b → Tells told seen number a b told_then
tells name told told_then seen s number a b sees is numbers =
    let exact = sees.0 in
    let all = sees.2 in
    record {
      more = subst (λ l. IsPrefix told l) (sym all) sees.1;
      begins = (s.tail, ap (λ l. l ++ s.tail) is ∙ sym all);
      number = numbers ∙ (exact.numbers.numbers a b ∙ ap (λ l. number_in l a b) (sym all));
      few = let e = ap length is in let d = length-append (orders_on name s.page) s.tail in
          let few = exact.few in omega (arith, e, d, few);
    }

-- a number tells of how the list began whether the order is there
pub answers : (told seen : List Adoption) (number a b : ℕ) (all front : List Adoption)
    → Tells told seen number a b all → IsPrefix front all
    → is_number (length front) number ≡ is_direct front a b
answers told seen number a b all front is begins =
    ap (is_number (length front)) (is.number ∙ ap (λ l. number_in l a b) (sym begins.1))
    ∙ number_within front begins.0 a b
