-- The last lock of a chain.
use Rattle.std.proofs.Common.{◌≡◌, suc, ◌-◌, Bool, true, false, cond, List, [], ◌∷◌, Option, None}
use Rattle.std.proofs.Common.{Some, length, reverse, find, refl, arith, ap, sym, ◌∙◌, subst}
use Rattle.std.specs.Option.{option_or}
use Rattle.std.specs.List.{slice_get, last_or}
use Rattle.std.proofs.lemmas.List.{reverse-append}
use Rattle.std.proofs.lemmas.List.Elements.{All-drop}
use Rattle.std.proofs.lemmas.List.Folds.{find-append}
use Rattle.std.proofs.lemmas.Option.{slice_get_within, get_or_from_slice_get}
use Rattle.wit_model.specs.declared.locks.Instance.{Instance}
use Rattle.wit_model.specs.declared.locks.TypeNo.{TypeNo}
use Rattle.wit_model.specs.Rules.Numbers.{IsGiven}
use Rattle.wit_check.specs.Held.{IsTyped}

-- the one at the last place
pub at-the-end : {X : Type 0} (xs : List X) → slice_get xs (length xs - 1) ≡ last_or None xs
at-the-end [] = refl
at-the-end (x ∷ []) = refl
at-the-end (x ∷ y ∷ ys) =
    let here : suc (suc (length ys)) - 1 ≡ suc (length ys) = omega arith in
    let rest : suc (length ys) - 1 ≡ length ys = omega arith in
    ap (slice_get (x ∷ y ∷ ys)) here ∙ (ap (slice_get (y ∷ ys)) (sym rest) ∙ at-the-end (y ∷ ys))

-- one that stands in a chain of typed locks has a type
pub last-typed : (types : List TypeNo) (c : List Instance) (i : Instance) → IsTyped types c
    → last_or None c ≡ Some i → IsGiven types i.lock.0
last-typed types c i typed is =
    let at = at-the-end c ∙ is in
    subst (λ (j : Instance). IsGiven types j.lock.0) (get_or_from_slice_get c (length c - 1) i i at)
    (typed (length c - 1) i (slice_get_within c (length c - 1) i at))

here : {X : Type 0} (p : X → Bool) (i x : X) → cond (p i) (Some i) None ≡ Some x → i ≡ x
here p i x is = go (p i) is
  where
    go : (b : Bool) → cond b (Some i) None ≡ Some x → i ≡ x
    go true e = let same : i ≡ x = cc in same
    go false e = (cc)

-- so does one that is found in it
pub found-typed : (types : List TypeNo) (p : Instance → Bool) (c : List Instance) (x : Instance)
    → IsTyped types c → find p (reverse c) ≡ Some x → IsGiven types x.lock.0
found-typed types p [] x typed is = (cc)
found-typed types p (i ∷ c) x typed is =
    go (find p (reverse c)) refl
    (sym (ap (find p) (reverse-append (i ∷ []) c) ∙ find-append p (reverse c) (i ∷ [])) ∙ is)
    (λ e. found-typed types p c x
    (All-drop (λ (j : Instance). IsGiven types j.lock.0) 1 (i ∷ c) typed) e)
  where
    go : (o : Option Instance) → find p (reverse c) ≡ o → option_or o (cond (p i) (Some i) None)
        ≡ Some x → (find p (reverse c) ≡ Some x → IsGiven types x.lock.0)
        → IsGiven types x.lock.0
    go (Some j) e same ih = ih (e ∙ same)
    go None e same ih =
        subst (λ (j : Instance). IsGiven types j.lock.0) (here p i x same) (typed 0 i (omega arith))
