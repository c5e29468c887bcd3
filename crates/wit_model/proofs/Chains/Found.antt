-- What is found of a lock in a chain.
use Rattle.std.proofs.Common.{◌≡◌, ℕ, Bool, true, false, ◌&&◌, cond, eqb, List, [], ◌∷◌, map}
use Rattle.std.proofs.Common.{filter, find, Option, Some, None, refl, ap, sym, ◌∙◌, subst, inl, inr}
use Rattle.std.specs.List.{list_any}
use Rattle.std.proofs.lemmas.Bool.Decides.{eqb_tells}
use Rattle.wit_model.specs.declared.locks.Instance.{Instance}
use Rattle.wit_model.specs.declared.calls.Entry.{Entry}
use Rattle.wit_model.specs.Rules.Locks.{locks_of, is_of_kind}
use Rattle.wit_model.specs.Rules.History.{is_held, held, chain, instance}
use Rattle.wit_model.specs.Rules.Verdict.{is_of}
use Rattle.wit_model.proofs.Chains.Sane.{IsSane}
use Rattle.wit_model.proofs.Chains.Held.{in-held}

abbrev pub if_some : Bool → Instance → Option Instance
if_some b i = cond b (Some i) None

find-in : (t l : ℕ) (h : List Entry) (p : ℕ → Bool) (ls : List ℕ)
    → find (is_of l) (map (instance t h) (filter p ls))
    ≡ if_some (list_any (λ m. eqb m l) ls && p l) (instance t h l)
find-in t l h p [] = refl
find-in t l h p (m ∷ ls) =
    elim (eqb_tells m l) [
      | inl e ↦ subst (λ k. find (is_of l) (map (instance t h) (filter p (k ∷ ls)))
          ≡ if_some (list_any (λ n. eqb n l) (k ∷ ls) && p l) (instance t h l)) (sym e.1)
          (here (p l) refl (eqb_same l) (find-in t l h p ls))
      | inr e ↦ rw e.0 (there (p m) e.0 (find-in t l h p ls))
    ]
  where
    eqb_same : (n : ℕ) → eqb n n ≡ true
    eqb_same n = elim (eqb_tells n n) [ inl e ↦ e.0 | inr e ↦ absurd (e.1 refl) ]

    drop_false : (b : Bool) → if_some (b && false) (instance t h l) ≡ if_some false (instance t h l)
    drop_false true = refl
    drop_false false = refl

    here : (b : Bool) → p l ≡ b → eqb l l ≡ true → find (is_of l) (map (instance t h) (filter p ls))
        ≡ if_some (list_any (λ n. eqb n l) ls && p l) (instance t h l)
        → find (is_of l) (map (instance t h) (filter p (l ∷ ls)))
        ≡ if_some (list_any (λ n. eqb n l) (l ∷ ls) && p l) (instance t h l)
    here true is same ih = rw (is, same) refl
    here false is same ih = rw (is, same) (rw is at ih ∙ drop_false (list_any (λ n. eqb n l) ls))

    there : (b : Bool) → eqb m l ≡ false → find (is_of l) (map (instance t h) (filter p ls))
        ≡ if_some (list_any (λ n. eqb n l) ls && p l) (instance t h l)
        → find (is_of l) (map (instance t h) (cond b (m ∷ filter p ls) (filter p ls)))
        ≡ if_some (list_any (λ n. eqb n l) ls && p l) (instance t h l)
    there true apart ih = rw apart ih
    there false apart ih = ih

-- a lock is found in the chain of its kind where it is held
pub found : (k : Bool) (t l : ℕ) (h : List Entry) → IsSane h
    → find (is_of l) (chain k t h) ≡ if_some (is_held t l h && is_of_kind k (locks_of h) l)
    (instance t h l)
found k t l h sane =
    find-in t l h (is_of_kind k (locks_of h)) (held t h)
    ∙ ap (λ b. if_some (b && is_of_kind k (locks_of h) l) (instance t h l)) (in-held t l h sane)
