-- A lock that stands once in a list that lies in groups.
use Rattle.std.proofs.Common.{◌≡◌, ℕ, zero, suc, ◌+◌, ◌-◌, ◌<◌, ◌≤◌, Bool, true, false, not, cond}
use Rattle.std.proofs.Common.{nat_lt, List, [], ◌∷◌, ◌++◌, length, map, filter, find, set, get_or}
use Rattle.std.proofs.Common.{None, Some, is_some, refl, ap, ap₂, sym, ◌∙◌, arith}
use Rattle.std.specs.List.{remove, position_or_len}
use Rattle.std.proofs.lemmas.Bool.{lt-ltb, le-ltb, cond-true, cond-false, true≢false}
use Rattle.std.proofs.lemmas.List.{length-append, get_or_append_left, get_or-append-add}
use Rattle.std.proofs.lemmas.List.Elements.{filter-append}
use Rattle.wit_model.specs.declared.locks.Instance.{Instance}
use Rattle.wit_model.specs.Rules.Verdict.{is_of}
use Rattle.wit_model.specs.Rules.Groups.{flat, edited_at}
use Rattle.wit_held.specs.Chains.{stands, at_lock, is_other, change_lock}

-- the place of a lock, or the length
abbrev pub lock_place : ℕ → List Instance → ℕ
lock_place l c = position_or_len (is_of l) c

module _ (l : ℕ) where
  pub stands-append : (g r : List Instance) → stands l (g ++ r) ≡ stands l g + stands l r
  stands-append g r =
      ap length (filter-append (is_of l) g r) ∙ length-append (filter (is_of l) g)
      (filter (is_of l) r)

  -- a lock that stands in the first part
  place-in : (g r : List Instance) → 1 ≤ stands l g → (lock_place l (g ++ r) ≡ lock_place l g)
      × (lock_place l g < length g)
  place-in [] r some = absurd (omega (arith, some))
  place-in (x ∷ g) r some = by (is_of l x) some (place-in g r)
    where
      by : (b : Bool) → 1 ≤ length (cond b (x ∷ filter (is_of l) g) (filter (is_of l) g))
          → (1 ≤ stands l g → (lock_place l (g ++ r) ≡ lock_place l g)
          × (lock_place l g < length g))
          → (cond (not b) (1 + lock_place l (g ++ r)) 0 ≡ cond (not b) (1 + lock_place l g) 0)
          × (cond (not b) (1 + lock_place l g) 0 < suc (length g))
      by true h ih = (refl, omega arith)
      by false h ih = (ap (λ n. 1 + n) (ih h).0, omega (arith, (ih h).1))

  -- and one that doesn't
  place-out : (g r : List Instance) → stands l g ≡ 0
      → lock_place l (g ++ r) ≡ length g + lock_place l r
  place-out [] r none = omega arith
  place-out (x ∷ g) r none = by (is_of l x) none (place-out g r)
    where
      by : (b : Bool) → length (cond b (x ∷ filter (is_of l) g) (filter (is_of l) g)) ≡ 0
          → (stands l g ≡ 0 → lock_place l (g ++ r) ≡ length g + lock_place l r)
          → cond (not b) (1 + lock_place l (g ++ r)) 0 ≡ suc (length g) + lock_place l r
      by true h ih = absurd (omega (arith, h))
      by false h ih = omega (arith, ih h)

  -- a lock that is found stands in the chain
  pub found-stands : (c : List Instance) → lock_place l c < length c → 1 ≤ stands l c
  found-stands [] lt = absurd (omega (arith, lt))
  found-stands (x ∷ c) lt = by (is_of l x) lt (found-stands c)
    where
      by : (b : Bool) → cond (not b) (1 + lock_place l c) 0 < suc (length c)
          → (lock_place l c < length c → 1 ≤ stands l c)
          → 1 ≤ length (cond b (x ∷ filter (is_of l) c) (filter (is_of l) c))
      by true h ih = omega arith
      by false h ih = ih (omega (arith, h))

  -- and is the one at its place
  pub find-found : (c : List Instance) (d : Instance) → lock_place l c < length c
      → find (is_of l) c ≡ Some (get_or c (lock_place l c) d)
  find-found [] d lt = absurd (omega (arith, lt))
  find-found (x ∷ c) d lt = by (is_of l x) lt (find-found c d)
    where
      by : (b : Bool) → cond (not b) (1 + lock_place l c) 0 < suc (length c)
          → (lock_place l c < length c → find (is_of l) c ≡ Some (get_or c (lock_place l c) d))
          → cond b (Some x) (find (is_of l) c)
          ≡ Some (get_or (x ∷ c) (cond (not b) (1 + lock_place l c) 0) d)
      by true h ih = refl
      by false h ih =
          let next : 1 + lock_place l c ≡ suc (lock_place l c) = omega arith in
          ih (omega (arith, h)) ∙ sym (ap (λ n. Some (get_or (x ∷ c) n d)) next)

  pub find-missed : (c : List Instance) → length c ≤ lock_place l c → find (is_of l) c ≡ None
  find-missed [] past = refl
  find-missed (x ∷ c) past = by (is_of l x) past (find-missed c)
    where
      by : (b : Bool) → suc (length c) ≤ cond (not b) (1 + lock_place l c) 0
          → (length c ≤ lock_place l c → find (is_of l) c ≡ None)
          → cond b (Some x) (find (is_of l) c) ≡ None
      by true h ih = absurd (omega (arith, h))
      by false h ih = ih (omega (arith, h))

  pub missed-stands : (c : List Instance) → find (is_of l) c ≡ None → stands l c ≡ 0
  missed-stands [] none = refl
  missed-stands (x ∷ c) none = by (is_of l x) none (missed-stands c)
    where
      by : (b : Bool) → cond b (Some x) (find (is_of l) c) ≡ None
          → (find (is_of l) c ≡ None → stands l c ≡ 0)
          → length (cond b (x ∷ filter (is_of l) c) (filter (is_of l) c)) ≡ 0
      by true h ih = absurd (true≢false (ap is_some h))
      by false h ih = ih h

  -- a change of the groups that leaves those without the lock as they are
  module _ (change : List Instance → List Instance) (absent : (g : List Instance) → stands l g ≡ 0
      → change g ≡ g) where
    pub absent-all : (gs : List (List Instance)) → stands l (flat gs) ≡ 0 → map change gs ≡ gs
    absent-all [] none = refl
    absent-all (g ∷ gs) none =
        let both : stands l (g ++ flat gs) ≡ stands l g + stands l (flat gs) =
        stands-append g (flat gs) in
        ap₂ (λ h hs. h ∷ hs) (absent g (omega (arith, both, none)))
        (absent-all gs (omega (arith, both, none)))

    -- where it edits the group of the lock at its place, it is the edit at the lock's place
    pub edited-once : (edit : ℕ → List Instance → List Instance) (d : Instance)
        → ((g : List Instance) → stands l g ≡ 1 → get_or g (lock_place l g) d ≡ d
        → edit (lock_place l g) g ≡ change g)
        → (gs : List (List Instance)) → stands l (flat gs) ≡ 1
        → get_or (flat gs) (lock_place l (flat gs)) d ≡ d
        → edited_at edit (lock_place l (flat gs)) gs ≡ map change gs
    edited-once edit d present [] once at = refl
    edited-once edit d present (g ∷ gs) once at =
        by (stands l g) refl (stands-append g (flat gs)) (edited-once edit d present gs)
      where
        here : stands l g ≡ 1 → stands l (flat gs) ≡ 0
            → edited_at edit (lock_place l (g ++ flat gs)) (g ∷ gs) ≡ map change (g ∷ gs)
        here one none =
            let known : (lock_place l (g ++ flat gs) ≡ lock_place l g)
            × (lock_place l g < length g) = place-in g (flat gs) (omega (arith, one)) in
            let same : get_or g (lock_place l g) d ≡ d =
            sym (get_or_append_left g (flat gs) d (lock_place l g) known.1)
            ∙ ap (λ n. get_or (g ++ flat gs) n d) (sym known.0) ∙ at in
            ap (λ n. edited_at edit n (g ∷ gs)) known.0
            ∙ cond-true (nat_lt (lock_place l g) (length g)) (edit (lock_place l g) g ∷ gs)
            (g ∷ edited_at edit (lock_place l g - length g) gs)
            (lt-ltb (lock_place l g) (length g) known.1)
            ∙ ap₂ (λ h hs. h ∷ hs) (present g one same) (sym (absent-all gs none))

        there : stands l g ≡ 0 → (get_or (flat gs) (lock_place l (flat gs)) d ≡ d
            → edited_at edit (lock_place l (flat gs)) gs ≡ map change gs)
            → edited_at edit (lock_place l (g ++ flat gs)) (g ∷ gs) ≡ map change (g ∷ gs)
        there none ih =
            let out : lock_place l (g ++ flat gs) ≡ length g + lock_place l (flat gs) =
            place-out g (flat gs) none in
            let same : get_or (flat gs) (lock_place l (flat gs)) d ≡ d =
            sym (get_or-append-add g (flat gs) (lock_place l (flat gs)) d)
            ∙ ap (λ n. get_or (g ++ flat gs) n d) (sym out) ∙ at in
            let back : lock_place l (g ++ flat gs) - length g ≡ lock_place l (flat gs) =
            omega (arith, out) in
            cond-false (nat_lt (lock_place l (g ++ flat gs)) (length g))
            (edit (lock_place l (g ++ flat gs)) g ∷ gs)
            (g ∷ edited_at edit (lock_place l (g ++ flat gs) - length g) gs)
            (le-ltb (lock_place l (g ++ flat gs)) (length g) (omega (arith, out)))
            ∙ ap₂ (λ h hs. h ∷ hs) (sym (absent g none))
            (ap (λ n. edited_at edit n gs) back ∙ ih same)

        by : (n : ℕ) → stands l g ≡ n → stands l (g ++ flat gs) ≡ stands l g + stands l (flat gs)
            → (stands l (flat gs) ≡ 1 → get_or (flat gs) (lock_place l (flat gs)) d ≡ d
            → edited_at edit (lock_place l (flat gs)) gs ≡ map change gs)
            → edited_at edit (lock_place l (g ++ flat gs)) (g ∷ gs) ≡ map change (g ∷ gs)
        by zero is both ih = there is (ih (omega (arith, is, both, once)))
        by (suc n) is both ih = here (omega (arith, is, both, once)) (omega (arith, is, both, once))

  -- a change of the lock's instance alone
  module _ (f : Instance → Instance) where
    pub change-absent : (g : List Instance) → stands l g ≡ 0 → map (at_lock l f) g ≡ g
    change-absent [] none = refl
    change-absent (x ∷ g) none = by (is_of l x) none (change-absent g)
      where
        by : (b : Bool) → length (cond b (x ∷ filter (is_of l) g) (filter (is_of l) g)) ≡ 0
            → (stands l g ≡ 0 → map (at_lock l f) g ≡ g)
            → cond b (f x) x ∷ map (at_lock l f) g ≡ x ∷ g
        by true h ih = absurd (omega (arith, h))
        by false h ih = ap (λ hs. x ∷ hs) (ih h)

    pub change-present : (d : Instance) (g : List Instance) → stands l g ≡ 1
        → get_or g (lock_place l g) d ≡ d → set g (lock_place l g) (f d) ≡ map (at_lock l f) g
    change-present d [] once at = absurd (omega (arith, once))
    change-present d (x ∷ g) once at = by (is_of l x) once at (change-present d g)
      where
        by : (b : Bool) → length (cond b (x ∷ filter (is_of l) g) (filter (is_of l) g)) ≡ 1
            → get_or (x ∷ g) (cond (not b) (1 + lock_place l g) 0) d ≡ d
            → (stands l g ≡ 1 → get_or g (lock_place l g) d ≡ d
            → set g (lock_place l g) (f d) ≡ map (at_lock l f) g)
            → set (x ∷ g) (cond (not b) (1 + lock_place l g) 0) (f d)
            ≡ cond b (f x) x ∷ map (at_lock l f) g
        by true h at ih =
            ap₂ (λ y ys. y ∷ ys) (ap f (sym at)) (sym (change-absent g (omega (arith, h))))
        by false h at ih =
            let next : 1 + lock_place l g ≡ suc (lock_place l g) = omega arith in
            ap (λ n. set (x ∷ g) n (f d)) next
            ∙ ap (λ ys. x ∷ ys) (ih h (sym (ap (λ n. get_or (x ∷ g) n d) next) ∙ at))

    -- the lock's instance is written over by its change
    pub replaced-once : (d : Instance) (gs : List (List Instance)) → stands l (flat gs) ≡ 1
        → get_or (flat gs) (lock_place l (flat gs)) d ≡ d
        → edited_at (λ k g. set g k (f d)) (lock_place l (flat gs)) gs ≡ change_lock l f gs
    replaced-once d gs once at =
        edited-once (map (at_lock l f)) change-absent (λ k g. set g k (f d)) d
        (change-present d) gs once at

  pub others-absent : (g : List Instance) → stands l g ≡ 0 → filter (is_other l) g ≡ g
  others-absent [] none = refl
  others-absent (x ∷ g) none = by (is_of l x) none (others-absent g)
    where
      by : (b : Bool) → length (cond b (x ∷ filter (is_of l) g) (filter (is_of l) g)) ≡ 0
          → (stands l g ≡ 0 → filter (is_other l) g ≡ g)
          → cond (not b) (x ∷ filter (is_other l) g) (filter (is_other l) g) ≡ x ∷ g
      by true h ih = absurd (omega (arith, h))
      by false h ih = ap (λ hs. x ∷ hs) (ih h)

  others-present : (g : List Instance) → stands l g ≡ 1
      → remove g (lock_place l g) ≡ filter (is_other l) g
  others-present [] once = absurd (omega (arith, once))
  others-present (x ∷ g) once = by (is_of l x) once (others-present g)
    where
      by : (b : Bool) → length (cond b (x ∷ filter (is_of l) g) (filter (is_of l) g)) ≡ 1
          → (stands l g ≡ 1 → remove g (lock_place l g) ≡ filter (is_other l) g)
          → remove (x ∷ g) (cond (not b) (1 + lock_place l g) 0)
          ≡ cond (not b) (x ∷ filter (is_other l) g) (filter (is_other l) g)
      by true h ih = sym (others-absent g (omega (arith, h)))
      by false h ih =
          let next : 1 + lock_place l g ≡ suc (lock_place l g) = omega arith in
          ap (remove (x ∷ g)) next ∙ ap (λ ys. x ∷ ys) (ih h)

  -- the lock's instance is taken out
  pub removed-once : (d : Instance) (gs : List (List Instance)) → stands l (flat gs) ≡ 1
      → get_or (flat gs) (lock_place l (flat gs)) d ≡ d
      → edited_at (λ k g. remove g k) (lock_place l (flat gs)) gs ≡ map (filter (is_other l)) gs
  removed-once d gs once at =
      edited-once (filter (is_other l)) others-absent (λ k g. remove g k) d
      (λ g one same. others-present g one) gs once at
