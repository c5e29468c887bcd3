-- What is so at each moment of a run, by looking at each; and what a thread asks for.
use Rattle.std.proofs.Common.{◌≡◌, ℕ, Bool, true, ◌&&◌, ◌||◌, eqb, List, [], ◌∷◌, ◌++◌, refl, ap, ◌∙◌}
use Rattle.std.proofs.Common.{inl, inr}
use Rattle.std.proofs.Common.{false}
use Rattle.std.specs.List.{list_all}
use Rattle.std.proofs.lemmas.Bool.{and_parts, or_cases, eqb-true, ne_eqb}
use Rattle.wit_model.specs.declared.calls.Request.{Request}
use Rattle.wit_model.specs.World.Deeds.{Deed, thread_of, own}
use Rattle.wit_model.specs.World.Stages.{Stage, Over, Asked}
use Rattle.wit_model.proofs.World.Own.{own-other}

abbrev pub is_asking : Stage → Bool
is_asking (Asked q) = true
is_asking _ = false

-- whether this is so at each moment
abbrev pub all_so : (List Deed → Bool) → List Deed → Bool
all_so p [] = p []
all_so p (d ∷ w) = p (d ∷ w) && all_so p w

pub so-at : (p : List Deed → Bool) (later now : List Deed) → all_so p (later ++ now) ≡ true
    → p now ≡ true
so-at p [] [] all = all
so-at p [] (d ∷ now) all = (and_parts (p (d ∷ now)) (all_so p now) all).0
so-at p (d ∷ later) now all =
    so-at p later now (and_parts (p (d ∷ (later ++ now))) (all_so p (later ++ now)) all).1

-- only the two threads do anything
pub others-none : (t : ℕ) (w : List Deed)
    → list_all (λ d. eqb (thread_of d) 1 || eqb (thread_of d) 2) w ≡ true → (1 ≡ t → ⊥)
    → (2 ≡ t → ⊥) → own t w ≡ []
others-none t [] all not_one not_two = refl
others-none t (d ∷ w) all not_one not_two =
    let parts =
    and_parts (eqb (thread_of d) 1 || eqb (thread_of d) 2)
    (list_all (λ x. eqb (thread_of x) 1 || eqb (thread_of x) 2) w) all in
    let rest = others-none t w parts.1 not_one not_two in
    elim (or_cases (eqb (thread_of d) 1) (eqb (thread_of d) 2) parts.0) [
      | inl one ↦ own-other t d w (ap (λ n. eqb n t) (eqb-true (thread_of d) 1 one)
          ∙ ne_eqb 1 t not_one) ∙ rest
      | inr two ↦ own-other t d w (ap (λ n. eqb n t) (eqb-true (thread_of d) 2 two)
          ∙ ne_eqb 2 t not_two) ∙ rest
    ]

pub ends-empty : (xs ys : List Deed) → xs ++ ys ≡ [] → ys ≡ []
ends-empty [] ys none = none
ends-empty (x ∷ xs) ys none = (cc)

pub over : (q : Request) → Over ≡ Asked q → ⊥
over q is = (cc)
