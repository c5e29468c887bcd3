-- Deeds of the threads of a settled run, in any sequence that the locks admit, can be done again:
-- each thread is answered as it was, as it sees it.
use Rattle.std.proofs.Common.{◌≡◌, ℕ, true, eqb, List, []}
use Rattle.std.proofs.Common.{◌∷◌, ◌++◌, map, refl, ap, ap₂, sym, ◌∙◌}
use Rattle.std.proofs.Common.{subst, inl, inr, append_assoc}
use Rattle.std.specs.List.{list_all}
use Rattle.std.proofs.lemmas.Bool.{cases_Bool, and_parts, eqb-true, eq-eqb}
use Rattle.wit_model.specs.Rules.Beginnings.{IsBeginning}
use Rattle.wit_model.specs.Rules.State.{Start}
use Rattle.wit_model.specs.Rules.State.{free}
use Rattle.wit_model.specs.World.Deeds.{Deed}
use Rattle.wit_model.specs.World.Deeds.{thread_of, own, log_of}
use Rattle.wit_model.specs.World.Steps.{IsWorld}
use Rattle.wit_model.specs.World.Reordering.{kept, IsReordering}
use Rattle.wit_model.proofs.World.Own.{own-mine, own-other}
use Rattle.wit_errands.specs.Settled.{IsSettled, is_calm}
use Rattle.wit_errands.specs.Settled.{is_free, are_free}
use Rattle.wit_errands.proofs.Looks.{Alike, looks-append}
use Rattle.wit_errands.proofs.Moments.{moment, next-deed}
use Rattle.wit_errands.proofs.Having.{has-alike, has-over, has-then, free-same, kept-free}
use Rattle.wit_errands.proofs.Threads.{looks-own}
use Rattle.wit_errands.proofs.Redone.{earlier, redo}

module _ (start : Start) (files : List (List ℕ)) (first deeds : List Deed)
    (settled : IsSettled start files first deeds) where
  -- ---- all deeds again

  pub record IsReplayed (others : List Deed) : Type 0 where
    pub deeds_again : List Deed
    pub looks : map kept deeds_again ≡ map kept others
    pub world : IsWorld start files (deeds_again ++ first)
    pub calm : list_all is_calm (log_of deeds_again) ≡ true

  abbrev Begins : List Deed → Type 0
  Begins others = (t : ℕ) → IsBeginning (map kept (own t others)) (map kept (own t deeds))

  begins-before : (d : Deed) (others : List Deed) → Begins (d ∷ others) → Begins others
  begins-before d others begins t =
      let b = begins t in
      elim (cases_Bool (eqb (thread_of d) t)) [
        | inl is ↦ (
          b.0 ++ kept d ∷ [],
          b.1 ∙ (ap (λ o. b.0 ++ map kept o) (own-mine t d others is)
              ∙ sym (append_assoc b.0 (kept d ∷ []) (map kept (own t others)))),
        )
        | inr is ↦ (b.0, b.1 ∙ ap (λ o. b.0 ++ map kept o) (own-other t d others is))
      ]

  next-again : (d : Deed) (others : List Deed) → Begins (d ∷ others)
      → is_free start.sizes.seats d others ≡ true → IsReplayed others → IsReplayed (d ∷ others)
  next-again d others begins admitted again =
      let t = thread_of d in
      let v = again.deeds_again in
      let looks = (λ (i : ℕ). looks-own i v others again.looks) in
      let moments =
      (λ (i : ℕ). let b = begins-before d others begins i in
      moment i (own i v) deeds b.0 (b.1 ∙ ap (λ o. b.0 ++ o) (sym (looks i)))) in
      let b = begins t in
      let n =
      next-deed t (own t v) d deeds b.0
      (b.1 ∙ (ap (λ o. b.0 ++ map kept o) (own-mine t d others (eq-eqb t t refl))
      ∙ ap (λ o. b.0 ++ kept d ∷ o) (sym (looks t)))) in
      let has =
      (λ (i : ℕ). has-then i (v ++ first) v others (has-over i v first (settled.nothing i))
      (has-alike i v others (looks i))) in
      let seats = start.sizes.seats in
      let free =
      free-same seats (v ++ first) others has n.next
      ∙ (sym (kept-free seats n.next others) ∙ (ap (λ x. is_free seats x others) n.looks
      ∙ (kept-free seats d others ∙ admitted))) in
      let alike =
      subst (λ k. Alike k v n.now) (sym (eqb-true (thread_of n.next) t n.mine)) (sym n.same) in
      let x =
      redo start files first deeds settled v again.world again.calm moments n.next n.later n.now n.whole alike free in
      record {
        deeds_again = x.deed ∷ v;
        looks = ap₂ (λ y ys. y ∷ ys) (x.looks ∙ n.looks) again.looks;
        world = (x.can, again.world);
        calm = x.calm';
      }

  pub replayed : (others : List Deed) → Begins others → are_free start.sizes.seats others ≡ true
      → IsReplayed others
  replayed [] begins free = record {
    deeds_again = [];
    looks = refl;
    world = earlier start files deeds first settled.world;
    calm = refl;
  }
  replayed (d ∷ others) begins free =
      let parts =
      and_parts (is_free start.sizes.seats d others) (are_free start.sizes.seats others) free in
      next-again d others begins parts.0
      (replayed others (begins-before d others begins) parts.1)

  pub locks-decide : (others : List Deed) → Begins others
      → are_free start.sizes.seats others ≡ true
      → (v : List Deed) × (map kept v ≡ map kept others)
      × IsReordering start (v ++ first) (deeds ++ first)
  locks-decide others begins free =
      let again = replayed others begins free in (
        again.deeds_again,
        again.looks,
        record {
          files = files;
          world = again.world;
          same =
              λ t. (let b = begins t in (
                b.0,
                looks-append t deeds first
                    ∙ (ap (λ o. o ++ map kept (own t first)) b.1
                    ∙ (append_assoc b.0 (map kept (own t others)) (map kept (own t first))
                    ∙ ap (λ o. b.0 ++ o)
                    (ap (λ o. o ++ map kept (own t first))
                    (sym (looks-own t again.deeds_again others again.looks))
                    ∙ sym (looks-append t again.deeds_again first)))),
              ));
        },
      )
