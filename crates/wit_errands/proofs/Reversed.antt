-- A reversal hangs: the first thread does all up to its request, then the second one, whose way
-- nothing bars that the first one has.
use Rattle.std.proofs.Common.{◌≡◌, ℕ, true, false, List, []}
use Rattle.std.proofs.Common.{◌∷◌, ◌++◌, map, refl, ap, ap₂, sym, ◌∙◌, subst, inl, inr}
use Rattle.std.proofs.Common.{append-nil}
use Rattle.std.specs.List.{list_any}
use Rattle.std.proofs.lemmas.Bool.Decides.{eqb_tells}
use Rattle.std.proofs.lemmas.List.{map-append}
use Rattle.wit_model.specs.Rules.Beginnings.{IsBeginning}
use Rattle.wit_model.specs.Rules.State.{Start}
use Rattle.wit_model.specs.World.Deeds.{Deed, Logged, own, shares}
use Rattle.wit_model.specs.World.Waiting.{IsDeadlock}
use Rattle.wit_model.specs.World.Reordering.{kept, IsReordering}
use Rattle.wit_model.proofs.World.Own.{shares-own}
use Rattle.wit_errands.specs.Settled.{IsSettled, are_free}
use Rattle.wit_errands.specs.Errands.{Errand, AsksFor, is_in_way}
use Rattle.wit_errands.proofs.Looks.{alike-whole}
use Rattle.wit_errands.proofs.Replayed.{locks-decide}
use Rattle.wit_errands.proofs.Having.{HasSame, has-own, has-then}
use Rattle.wit_errands.proofs.Threads.{Mine, own-all, own-none, looks-own}
use Rattle.wit_errands.proofs.Looks.{own-append}
use Rattle.wit_errands.proofs.Bars.{in_way-same, none-in_way, all-none, any-same}
use Rattle.wit_errands.proofs.Segments.{IsPart, part-free}
use Rattle.wit_errands.proofs.Waiting.{upto, whole-upto, mine-upto, mine-parts, has-upto, IsDone, waits}

-- ---- two errands, one after the other

module _ (start : Start) (files : List (List ℕ)) (first deeds : List Deed)
    (settled : IsSettled start files first deeds) (t u : ℕ) (a : Errand t first deeds)
    (b : Errand u first deeds) (other : u ≡ t → ⊥)
    (free : list_any (is_in_way t a.way) b.way ≡ false) where
  abbrev mine_upto : List Deed
  mine_upto = upto t first deeds a

  -- all that the first one does, over what the second one does before its errand
  abbrev second : List Deed
  second = mine_upto ++ b.before

  abbrev others : List Deed
  others = (Logged b.entry ∷ b.way) ++ second

  apart : t ≡ u → ⊥
  apart e = other (sym e)

  mine-way : Mine u (Logged b.entry ∷ b.way)
  mine-way = (mine-parts u first deeds b).0

  mine-past : Mine u b.before
  mine-past = (mine-parts u first deeds b).1

  -- ---- whose deeds these are

  own-t_second : own t second ≡ mine_upto
  own-t_second =
      own-append t mine_upto b.before
      ∙ (ap₂ (λ x y. x ++ y) (own-all t mine_upto (mine-upto t first deeds a))
      (own-none t u b.before mine-past other) ∙ append-nil mine_upto)

  own-u_second : own u second ≡ b.before
  own-u_second =
      own-append u mine_upto b.before
      ∙ ap₂ (λ x y. x ++ y) (own-none u t mine_upto (mine-upto t first deeds a) apart)
      (own-all u b.before mine-past)

  own-t : own t others ≡ mine_upto
  own-t =
      own-append t (Logged b.entry ∷ b.way) second
      ∙ ap₂ (λ x y. x ++ y) (own-none t u (Logged b.entry ∷ b.way) mine-way other) own-t_second

  own-u : own u others ≡ upto u first deeds b
  own-u =
      own-append u (Logged b.entry ∷ b.way) second
      ∙ ap₂ (λ x y. x ++ y) (own-all u (Logged b.entry ∷ b.way) mine-way) own-u_second

  module _ (i : ℕ) (not_t : t ≡ i → ⊥) (not_u : u ≡ i → ⊥) where
    own-second : own i second ≡ []
    own-second =
        own-append i mine_upto b.before
        ∙ ap₂ (λ x y. x ++ y) (own-none i t mine_upto (mine-upto t first deeds a) not_t)
        (own-none i u b.before mine-past not_u)

    own-others : own i others ≡ []
    own-others =
        own-append i (Logged b.entry ∷ b.way) second
        ∙ ap₂ (λ x y. x ++ y) (own-none i u (Logged b.entry ∷ b.way) mine-way not_u) own-second

  -- ---- each thread's deeds are a beginning of its deeds in the run

  begins-with : (i : ℕ) (after o : List Deed) → own i deeds ≡ after ++ o → own i others ≡ o
      → IsBeginning (map kept (own i others)) (map kept (own i deeds))
  begins-with i after o whole same = (
    map kept after,
    ap (λ x. map kept x) whole
        ∙ (map-append kept after o ∙ ap (λ x. map kept after ++ map kept x) (sym same)),
  )

  begins : (i : ℕ) → IsBeginning (map kept (own i others)) (map kept (own i deeds))
  begins i =
      elim (eqb_tells t i) [
        | inl is ↦ subst (λ k. IsBeginning (map kept (own k others)) (map kept (own k deeds))) is.1
            (begins-with t a.after mine_upto (whole-upto t first deeds a) own-t)
        | inr not_t ↦
            elim (eqb_tells u i) [
              | inl is ↦ subst (λ k. IsBeginning (map kept (own k others))
                  (map kept (own k deeds))) is.1
                  (begins-with u b.after (upto u first deeds b) (whole-upto u first deeds b) own-u)
              | inr not_u ↦ begins-with i (own i deeds) [] (sym (append-nil (own i deeds)))
                  (own-others i not_t.1 not_u.1)
            ]
      ]

  -- ---- the locks admit all of it

  none-without : (i l : ℕ) (w : List Deed) → own i w ≡ [] → shares i l w ≡ 0
  none-without i l w none = sym (shares-own i l w) ∙ ap (λ o. shares i l o) none

  past-nothing : (i l : ℕ) → shares i l b.before ≡ 0
  past-nothing i l =
      elim (eqb_tells u i) [
        | inl is ↦ subst (λ k. shares k l b.before ≡ 0) is.1 (b.nothing l)
        | inr not_u ↦ none-without i l b.before (own-none i u b.before mine-past not_u.1)
      ]

  past-part : IsPart start files first deeds settled u [] b.before
  past-part = record {
    later = b.after ++ (Logged b.entry ∷ b.way);
    whole =
        b.whole ∙ ap (λ o. (b.after ++ (Logged b.entry ∷ b.way)) ++ o) (sym (append-nil b.before));
    mine = mine-past;
    free = λ i apart'. all-none (is_in_way i []) (none-in_way i [] (λ l. refl)) b.before;
  }

  past-free : are_free start.sizes.seats b.before ≡ true
  past-free =
      subst (λ w. are_free start.sizes.seats w ≡ true) (append-nil b.before)
      (part-free start files first deeds settled u [] b.before past-part refl)

  first-part : IsPart start files first deeds settled t b.before mine_upto
  first-part = record {
    later = a.after;
    whole =
        whole-upto t first deeds a
        ∙ ap (λ o. a.after ++ o) (sym (append-nil mine_upto)
        ∙ ap (λ o. mine_upto ++ o) (sym (own-none t u b.before mine-past other)));
    mine = mine-upto t first deeds a;
    free =
        λ i apart'. all-none (is_in_way i b.before)
        (none-in_way i b.before (past-nothing i)) mine_upto;
  }

  second-free : are_free start.sizes.seats second ≡ true
  second-free =
      part-free start files first deeds settled t b.before mine_upto first-part past-free

  t-has : HasSame t second a.way
  t-has =
      has-then t second mine_upto a.way (has-own t second mine_upto own-t_second)
      (has-upto t first deeds a)

  nothing-in_way : (i : ℕ) → (i ≡ u → ⊥)
      → list_any (is_in_way i second) (Logged b.entry ∷ b.way) ≡ false
  nothing-in_way i not_u =
      elim (eqb_tells t i) [
        | inl is ↦ subst (λ k. list_any (is_in_way k second) (Logged b.entry ∷ b.way) ≡ false) is.1
            (any-same (is_in_way t second) (is_in_way t a.way)
            (in_way-same t second a.way t-has) (Logged b.entry ∷ b.way) free)
        | inr not_t ↦ all-none (is_in_way i second)
            (none-in_way i second (λ l. none-without i l second
            (own-second i not_t.1 (λ (e : u ≡ i). not_u (sym e))))) (Logged b.entry ∷ b.way)
      ]

  second-part : IsPart start files first deeds settled u second (Logged b.entry ∷ b.way)
  second-part = record {
    later = b.after;
    whole =
        whole-upto u first deeds b
        ∙ ap (λ o. b.after ++ ((Logged b.entry ∷ b.way) ++ o)) (sym own-u_second);
    mine = mine-way;
    free = nothing-in_way;
  }

  others-free : are_free start.sizes.seats others ≡ true
  others-free =
      part-free start files first deeds settled u second (Logged b.entry ∷ b.way) second-part
      second-free

  -- ---- the deadlock

  done : (i : ℕ) (c : Errand i first deeds) (v : List Deed) → map kept v ≡ map kept others
      → own i others ≡ upto i first deeds c → IsDone i first deeds c (v ++ first)
  done i c v looks same =
      alike-whole i v (upto i first deeds c) first
      (looks-own i v others looks
      ∙ ap (λ o. map kept o)
      (same ∙ sym (own-all i (upto i first deeds c) (mine-upto i first deeds c))))

  pub hangs : AsksFor a b → AsksFor b a
      → (v : List Deed) × IsReordering start v (deeds ++ first) × IsDeadlock v (t ∷ u ∷ [])
  hangs one two =
      let again = locks-decide start files first deeds settled others begins others-free in
      let v = again.0 ++ first in
      let t-done = done t a again.0 again.1 own-t in
      let u-done = done u b again.0 again.1 own-u in (
        v,
        again.2,
        (
          waits t u first deeds a b v t-done u-done settled.nothing other one,
          waits u t first deeds b a v u-done t-done settled.nothing apart two,
        ),
      )
