-- The worlds with a try of which the one reorders the other, and reaches a deadlock.
use Rattle.std.proofs.Common.{◌≡◌, ℕ, true, false, ◌||◌, eqb, List, [], ◌∷◌, map, take, refl, ap}
use Rattle.std.proofs.Common.{sym, ◌∙◌, subst, inl, inr, ⊎_elim, arith}
use Rattle.std.specs.List.{list_all}
use Rattle.std.proofs.lemmas.Bool.{and_parts, or_cases, eqb-true}
use Rattle.std.proofs.lemmas.Bool.Decides.{eqb_tells}
use Rattle.wit_model.specs.Rules.Beginnings.{IsBeginning}
use Rattle.wit_model.specs.Rules.History.{num}
use Rattle.wit_model.specs.World.Deeds.{Deed, thread_of, own}
use Rattle.wit_model.specs.World.Waiting.{IsWaiting}
use Rattle.wit_model.specs.World.Reordering.{kept}
use Rattle.wit_model.specs.World.Examples.{request}
use Rattle.wit_model.specs.World.Tried.{tried_in_turn, tried_crossed}
use Rattle.wit_model.proofs.World.Own.{own-other}

-- where these two alone do anything, another thread has no deed
nobody-else : (t : ℕ) (w : List Deed) → list_all (λ d. eqb (thread_of d) 1 || eqb (thread_of d) 2) w
    ≡ true → eqb 1 t ≡ false → eqb 2 t ≡ false → own t w ≡ []
nobody-else t [] all first second = refl
nobody-else t (d ∷ w) all first second =
    let parts =
    and_parts (eqb (thread_of d) 1 || eqb (thread_of d) 2)
    (list_all (λ x. eqb (thread_of x) 1 || eqb (thread_of x) 2) w) all in
    own-other t d w
    (⊎_elim (λ one. ap (λ n. eqb n t) (eqb-true (thread_of d) 1 one) ∙ first)
    (λ two. ap (λ n. eqb n t) (eqb-true (thread_of d) 2 two) ∙ second)
    (or_cases (eqb (thread_of d) 1) (eqb (thread_of d) 2) parts.0))
    ∙ nobody-else t w parts.1 first second

-- each thread's deeds in the one are a beginning of those in the other
pub tried-begins : (t : ℕ) → IsBeginning (map kept (own t tried_crossed))
    (map kept (own t tried_in_turn))
unfolding num
tried-begins t =
    elim (eqb_tells 1 t) [
      | inl one ↦
          subst (λ n. IsBeginning (map kept (own n tried_crossed)) (map kept (own n tried_in_turn)))
          one.1
          (take 8 (map kept (own 1 tried_in_turn)), refl)
      | inr first ↦
          elim (eqb_tells 2 t) [
            | inl two ↦ subst (λ n. IsBeginning (map kept (own n tried_crossed))
                (map kept (own n tried_in_turn))) two.1 ([], refl)
            | inr second ↦ (
              [],
              ap (λ x. map kept x) (nobody-else t tried_in_turn refl first.0 second.0)
                  ∙ sym (ap (λ x. map kept x) (nobody-else t tried_crossed refl first.0 second.0)),
            )
          ]
    ]

pub first_waits_tried : IsWaiting tried_crossed 1 2
unfolding num
first_waits_tried =
    record {
      request = request 3 3;
      asks = refl;
      unheld = refl;
      another = λ e. omega arith;
      taken = omega arith;
      barred = refl;
    }

pub second_waits_tried : IsWaiting tried_crossed 2 1
unfolding num
second_waits_tried =
    record {
      request = request 2 5;
      asks = refl;
      unheld = refl;
      another = λ e. omega arith;
      taken = omega arith;
      barred = refl;
    }
