-- The last lock of a chain, and the newest one that passes a test.
use Rattle.std.proofs.Common.{◌≡◌, Bool, true, false, not, ◌&&◌, cond, List, [], ◌∷◌, ◌++◌, reverse}
use Rattle.std.proofs.Common.{take, find, Some, None, refl, ap, sym, ◌∙◌, subst}
use Rattle.std.specs.List.{list_all, last_or}
use Rattle.std.proofs.lemmas.Bool.{and_parts, and_from}
use Rattle.std.proofs.lemmas.List.{reverse-append}
use Rattle.std.proofs.lemmas.List.Folds.{list_all-append}
use Rattle.wit_model.specs.declared.locks.Instance.{Instance}

last_front : (d : Instance) (c : List Instance) (x : Instance) → last_or (Some d) c ≡ Some x
    → (front : List Instance) × (d ∷ c ≡ front ++ x ∷ [])
last_front d [] x is = ([], ap (λ j. j ∷ []) (let e : d ≡ x = cc in e))
last_front d (i ∷ c) x is = let r = last_front i c x is in (d ∷ r.0, ap (λ e. d ∷ e) r.1)

-- the last lock of a chain, and those before it
pub last_whole : (c : List Instance) (x : Instance) → last_or None c ≡ Some x
    → (front : List Instance) × (c ≡ front ++ x ∷ [])
last_whole [] x is = (cc)
last_whole (i ∷ c) x is = last_front i c x is

-- and the one with which alone a request may be compared
pub newest-one : (c : List Instance) (x : Instance) → last_or None c ≡ Some x
    → take 1 (reverse c) ≡ x ∷ []
newest-one c x is =
    let whole = last_whole c x is in
    ap (λ e. take 1 (reverse e)) whole.1 ∙ ap (take 1) (reverse-append whole.0 (x ∷ []))

-- an element that is found from the end has what all have
pub all-reverse : (p : Instance → Bool) (c : List Instance) → list_all p c ≡ true
    → list_all p (reverse c) ≡ true
all-reverse p [] all = refl
all-reverse p (x ∷ c) all =
    let parts = and_parts (p x) (list_all p c) all in
    ap (λ d. list_all p d) (reverse-append (x ∷ []) c) ∙ list_all-append p (reverse c) (x ∷ [])
    ∙ and_from (list_all p (reverse c)) (list_all p (x ∷ [])) (all-reverse p c parts.1)
    (and_from (p x) true parts.0 refl)

all-find : (p r : Instance → Bool) (c : List Instance) (i : Instance) → list_all p c ≡ true
    → find r c ≡ Some i → p i ≡ true
all-find p r [] i all is = (cc)
all-find p r (x ∷ c) i all is =
    go (r x) is (and_parts (p x) (list_all p c) all) (λ rest more. all-find p r c i rest more)
  where
    go : (b : Bool) → cond b (Some x) (find r c) ≡ Some i → (p x ≡ true) × (list_all p c ≡ true)
        → (list_all p c ≡ true → find r c ≡ Some i → p i ≡ true) → p i ≡ true
    go true same parts ih = subst (λ j. p j ≡ true) (let e : x ≡ i = cc in e) parts.0
    go false same parts ih = ih parts.1 same

pub found-last : (p r : Instance → Bool) (c : List Instance) (i : Instance) → list_all p c ≡ true
    → find r (reverse c) ≡ Some i → p i ≡ true
found-last p r c i all is = all-find p r (reverse c) i (all-reverse p c all) is

-- the last of a chain has what all have
pub all-last : (p : Instance → Bool) (c : List Instance) (i : Instance) → list_all p c ≡ true
    → last_or None c ≡ Some i → p i ≡ true
all-last p c i all is =
    let s = last_whole c i is in
    let parts =
    and_parts (list_all p s.0) (list_all p (i ∷ []))
    (sym (list_all-append p s.0 (i ∷ [])) ∙ subst (λ d. list_all p d ≡ true) s.1 all) in
    (and_parts (p i) true parts.1).0

-- what is found passes the test
pub found-passes : (p : Instance → Bool) (c : List Instance) (i : Instance)
    → find p c ≡ Some i → p i ≡ true
found-passes p [] i is = (cc)
found-passes p (x ∷ c) i is = go (p x) refl is (found-passes p c i)
  where
    go : (b : Bool) → p x ≡ b → cond b (Some x) (find p c) ≡ Some i
        → (find p c ≡ Some i → p i ≡ true) → p i ≡ true
    go true here same ih = subst (λ j. p j ≡ true) (let e : x ≡ i = cc in e) here
    go false here same ih = ih same

-- where none is found, none passes it
pub none-passes : (p : Instance → Bool) (c : List Instance) → find p c ≡ None
    → list_all (λ i. not (p i)) c ≡ true
none-passes p [] is = refl
none-passes p (x ∷ c) is = go (p x) is (none-passes p c)
  where
    go : (b : Bool) → cond b (Some x) (find p c) ≡ None
        → (find p c ≡ None → list_all (λ i. not (p i)) c ≡ true)
        → (not b && list_all (λ i. not (p i)) c) ≡ true
    go true same ih = (cc)
    go false same ih = ih same

-- a chain without a last lock is empty
pub no-last : (p : Instance → Bool) (c : List Instance) → last_or None c ≡ None
    → list_all p c ≡ true
no-last p [] is = refl
no-last p (i ∷ c) is = absurd (some i c is)
  where
    some : (d : Instance) (rest : List Instance) → last_or (Some d) rest ≡ None → ⊥
    some d [] is = (cc)
    some d (x ∷ rest) is = some x rest is
