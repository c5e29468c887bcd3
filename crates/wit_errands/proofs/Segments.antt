-- What one thread does while the others stand still comes when the locks admit it, if nothing that
-- the others have bars it: its own shares are what they were in the run.
use Rattle.std.proofs.Common.{◌≡◌, ℕ, true, false, eqb, List}
use Rattle.std.proofs.Common.{[], ◌∷◌, ◌++◌, map, ap, sym, ◌∙◌, subst}
use Rattle.std.proofs.Common.{append_assoc}
use Rattle.std.specs.List.{list_all, list_any}
use Rattle.std.proofs.lemmas.Bool.{and_parts, and_from, or_parts}
use Rattle.std.proofs.lemmas.Bool.{eqb-true}
use Rattle.std.proofs.lemmas.List.{map-append}
use Rattle.wit_model.specs.World.Deeds.{Deed}
use Rattle.wit_model.specs.World.Deeds.{thread_of, own}
use Rattle.wit_model.specs.World.Reordering.{kept}
use Rattle.wit_errands.specs.Settled.{IsSettled, is_free, are_free}
use Rattle.wit_errands.specs.Errands.{is_in_way}
use Rattle.wit_errands.proofs.Looks.{Alike}
use Rattle.wit_errands.proofs.Moments.{next-deed}
use Rattle.wit_errands.proofs.Redone.{world-at}
use Rattle.wit_model.specs.Rules.State.{Start}
use Rattle.wit_errands.proofs.Having.{HasSame, has-alike, has-over, has-then, has-back, kept-free}
use Rattle.wit_errands.proofs.Threads.{Mine, own-all, own-none}
use Rattle.wit_errands.proofs.Looks.{own-append}
use Rattle.wit_errands.proofs.Bars.{step-free, in_way-same, kept-way}

-- ---- what one thread does, over what was done before

module _ (start : Start) (files : List (List ℕ)) (first deeds : List Deed)
    (settled : IsSettled start files first deeds) where
  module _ (t : ℕ) (z : List Deed) where
    -- as it did it in the run, and nothing that others have is in its way
    pub record IsPart (x : List Deed) : Type 0 where
      pub later : List Deed
      pub whole : own t deeds ≡ later ++ (x ++ own t z)
      pub mine : Mine t x
      pub free : (i : ℕ) → (i ≡ t → ⊥) → list_any (is_in_way i z) x ≡ false

    part-before : (d : Deed) (x : List Deed) → IsPart (d ∷ x) → IsPart x
    part-before d x p = record {
      later = p.later ++ d ∷ [];
      whole = p.whole ∙ sym (append_assoc p.later (d ∷ []) (x ++ own t z));
      mine = (and_parts (eqb (thread_of d) t) (list_all (λ y. eqb (thread_of y) t) x) p.mine).1;
      free =
          λ i other. (or_parts (is_in_way i z d) (list_any (is_in_way i z) x)
          (p.free i other)).1;
    }

    part-step : (d : Deed) (x : List Deed) → IsPart (d ∷ x)
        → is_free start.sizes.seats d (x ++ z) ≡ true
    part-step d x p =
        let parts = and_parts (eqb (thread_of d) t) (list_all (λ y. eqb (thread_of y) t) x) p.mine
        in
        let mine = own-append t x z ∙ ap (λ o. o ++ own t z) (own-all t x parts.1) in
        let looks =
        ap (λ o. map kept o) p.whole
        ∙ (map-append kept p.later (d ∷ (x ++ own t z)))
        in
        let n = next-deed t (x ++ own t z) d deeds (map kept p.later) looks in
        let done = world-at start files first deeds settled n.later (n.next ∷ n.now) n.whole in
        let thread = eqb-true (thread_of n.next) t n.mine in
        let same =
        ap (λ o. map kept o) mine ∙ sym n.same in
        sym (kept-free start.sizes.seats d (x ++ z))
        ∙ (ap (λ e. is_free start.sizes.seats e (x ++ z)) (sym n.looks)
        ∙ (kept-free start.sizes.seats n.next (x ++ z)
        ∙ step-free start files (n.now ++ first) (x ++ z) n.next done.0
        (subst (λ k. HasSame k (x ++ z) (n.now ++ first)) (sym thread)
        (has-then t (x ++ z) n.now (n.now ++ first) (has-alike t (x ++ z) n.now same)
        (has-back t (n.now ++ first) n.now (has-over t n.now first (settled.nothing t)))))
        (λ i other. let apart = (λ (e : i ≡ t). other (e ∙ sym thread)) in
        let alone =
        own-append i x z ∙ ap (λ o. o ++ own i z)
        (own-none i t x parts.1 (λ (e : t ≡ i). apart (sym e))) in
        let alike : Alike i (x ++ z) z = ap (λ o. map kept o) alone in
        sym (kept-way i (x ++ z) n.next)
        ∙ (ap (λ e. is_in_way i (x ++ z) e) n.looks
        ∙ (kept-way i (x ++ z) d
        ∙ (in_way-same i (x ++ z) z (has-alike i (x ++ z) z alike) d
        ∙ (or_parts (is_in_way i z d) (list_any (is_in_way i z) x) (p.free i apart)).0))))))

    pub part-free : (x : List Deed) → IsPart x → are_free start.sizes.seats z ≡ true
        → are_free start.sizes.seats (x ++ z) ≡ true
    part-free [] p free = free
    part-free (d ∷ x) p free =
        and_from (is_free start.sizes.seats d (x ++ z)) (are_free start.sizes.seats (x ++ z))
        (part-step d x p) (part-free x (part-before d x p) free)
