-- The deeds of one thread.
use Rattle.std.proofs.Common.{◌≡◌, ℕ, true, eqb, List, [], ◌∷◌, map, refl, ap, sym, ◌∙◌}
use Rattle.std.proofs.Common.{inl, inr}
use Rattle.std.specs.List.{list_all}
use Rattle.std.proofs.lemmas.Bool.{cases_Bool, and_parts, and_from, eqb-true, ne_eqb}
use Rattle.wit_model.specs.World.Deeds.{Deed, Logged, PassedOver, Take, TryTake, Free, RawUp}
use Rattle.wit_model.specs.World.Deeds.{RawDown, thread_of, own}
use Rattle.wit_model.specs.World.Reordering.{kept}
use Rattle.wit_model.proofs.World.Own.{own-mine, own-other}
use Rattle.wit_errands.proofs.Looks.{Alike}

abbrev pub Mine : ℕ → List Deed → Type 0
Mine t w = list_all (λ d. eqb (thread_of d) t) w ≡ true

pub own-all : (t : ℕ) (w : List Deed) → Mine t w → own t w ≡ w
own-all t [] mine = refl
own-all t (d ∷ w) mine =
    let parts = and_parts (eqb (thread_of d) t) (list_all (λ x. eqb (thread_of x) t) w) mine in
    own-mine t d w parts.0 ∙ ap (λ o. d ∷ o) (own-all t w parts.1)

pub own-none : (t u : ℕ) (w : List Deed) → Mine u w → (u ≡ t → ⊥) → own t w ≡ []
own-none t u [] mine other = refl
own-none t u (d ∷ w) mine other =
    let parts = and_parts (eqb (thread_of d) u) (list_all (λ x. eqb (thread_of x) u) w) mine in
    own-other t d w (ap (λ n. eqb n t) (eqb-true (thread_of d) u parts.0) ∙ ne_eqb u t other)
    ∙ own-none t u w parts.1 other

pub own-mine-all : (t : ℕ) (w : List Deed) → Mine t (own t w)
own-mine-all t [] = refl
own-mine-all t (d ∷ w) =
    elim (cases_Bool (eqb (thread_of d) t)) [
      | inl is ↦ ap (λ o. list_all (λ x. eqb (thread_of x) t) o) (own-mine t d w is)
          ∙ and_from (eqb (thread_of d) t) (list_all (λ x. eqb (thread_of x) t) (own t w)) is
          (own-mine-all t w)
      | inr is ↦ ap (λ o. list_all (λ x. eqb (thread_of x) t) o) (own-other t d w is)
          ∙ own-mine-all t w
    ]

-- ---- as they look

kept-thread : (d : Deed) → thread_of (kept d) ≡ thread_of d
kept-thread (Logged e) = refl
kept-thread (PassedOver u c) = refl
kept-thread (Take u m mode) = refl
kept-thread (TryTake u m mode) = refl
kept-thread (Free u m) = refl
kept-thread (RawUp u m) = refl
kept-thread (RawDown u m) = refl

own-kept : (t : ℕ) (w : List Deed) → map kept (own t w) ≡ own t (map kept w)
own-kept t [] = refl
own-kept t (d ∷ w) =
    elim (cases_Bool (eqb (thread_of d) t)) [
      | inl is ↦ ap (λ o. map kept o) (own-mine t d w is)
          ∙ (ap (λ o. kept d ∷ o) (own-kept t w)
          ∙ sym (own-mine t (kept d) (map kept w) (ap (λ n. eqb n t) (kept-thread d) ∙ is)))
      | inr is ↦ ap (λ o. map kept o) (own-other t d w is)
          ∙ (own-kept t w
          ∙ sym (own-other t (kept d) (map kept w) (ap (λ n. eqb n t) (kept-thread d) ∙ is)))
    ]

pub looks-own : (t : ℕ) (v w : List Deed) → map kept v ≡ map kept w → Alike t v w
looks-own t v w same = own-kept t v ∙ (ap (λ o. own t o) same ∙ sym (own-kept t w))
