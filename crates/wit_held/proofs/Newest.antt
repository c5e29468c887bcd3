-- A lock that stands once has one place, from whichever end it is looked for.
use Rattle.std.proofs.Common.{◌≡◌, ℕ, zero, suc, ◌+◌, ◌<◌, ◌≤◌, Bool, true, false, not, cond, List}
use Rattle.std.proofs.Common.{[], ◌∷◌, None, Some, is_some, unwrap_or, find, length, filter, take}
use Rattle.std.proofs.Common.{drop, get_or, position, refl, ap, sym, ◌∙◌, arith}
use Rattle.std.specs.Option.{option_map}
use Rattle.std.proofs.lemmas.Bool.{lt-ltb, le-ltb, eqb-true, true≢false}
use Rattle.std.proofs.lemmas.List.{drop_more}
use Rattle.std.proofs.lemmas.List.Concat.{get_or-flat_map}
use Rattle.std.proofs.lemmas.List.Folds.{length-flat_map-take}
use Rattle.wit_model.specs.declared.locks.Instance.{Instance}
use Rattle.wit_model.specs.Rules.Groups.{flat}
use Rattle.wit_model.specs.Rules.Verdict.{is_of}
use Rattle.wit_held.specs.Chains.{stands}
use Rattle.wit_held.proofs.HeldLock.{lock_place, stands-append, find-found, find-missed}
use Rattle.wit_held.proofs.Recording.{first-place, no-place}

module _ (l : ℕ) where
  -- where the lock is, it stands
  stands-there : (c : List Instance) (i : ℕ) (d : Instance) → i < length c
      → is_of l (get_or c i d) ≡ true → 1 ≤ stands l c
  stands-there [] i d lt is = absurd (omega (arith, lt))
  stands-there (x ∷ c) zero d lt is = by (is_of l x) is
    where
      by : (b : Bool) → b ≡ true → 1 ≤ length (cond b (x ∷ filter (is_of l) c) (filter (is_of l) c))
      by true e = omega arith
      by false e = absurd (true≢false (sym e))
  stands-there (x ∷ c) (suc i) d lt is = by (is_of l x) (stands-there c i d (omega (arith, lt)) is)
    where
      by : (b : Bool) → 1 ≤ stands l c
          → 1 ≤ length (cond b (x ∷ filter (is_of l) c) (filter (is_of l) c))
      by true some = omega arith
      by false some = some

  -- a lock that stands once at most is first where it is
  only-first : (c : List Instance) (i : ℕ) (d : Instance) → stands l c ≤ 1 → i < length c
      → is_of l (get_or c i d) ≡ true → lock_place l c ≡ i
  only-first [] i d once lt is = absurd (omega (arith, lt))
  only-first (x ∷ c) zero d once lt is = ap (λ b. cond (not b) (1 + lock_place l c) 0) is
  only-first (x ∷ c) (suc i) d once lt is =
      by (is_of l x) once (stands-there c i d (omega (arith, lt)) is) (only-first c i d)
    where
      by : (b : Bool) → length (cond b (x ∷ filter (is_of l) c) (filter (is_of l) c)) ≤ 1
          → 1 ≤ stands l c
          → (stands l c ≤ 1 → i < length c → is_of l (get_or c i d) ≡ true → lock_place l c ≡ i)
          → cond (not b) (1 + lock_place l c) 0 ≡ suc i
      by true most some ih = absurd (omega (arith, most, some))
      by false most some ih = omega (arith, ih most (omega (arith, lt)) is)

  -- so that is its place
  pub only-place : (c : List Instance) (i : ℕ) (d : Instance) → stands l c ≤ 1 → i < length c
      → is_of l (get_or c i d) ≡ true → Some i ≡ position (is_of l) c
  only-place c i d once lt is =
      let first : lock_place l c ≡ i = only-first c i d once lt is in
      sym (ap (λ b. cond b (Some (lock_place l c)) None)
      (lt-ltb (lock_place l c) (length c) (omega (arith, first, lt))) ∙ ap Some first)

  no-stand : (c : List Instance) → length c ≤ lock_place l c → stands l c ≡ 0
  no-stand [] past = refl
  no-stand (x ∷ c) past = by (is_of l x) past (no-stand c)
    where
      by : (b : Bool) → suc (length c) ≤ cond (not b) (1 + lock_place l c) 0
          → (length c ≤ lock_place l c → stands l c ≡ 0)
          → length (cond b (x ∷ filter (is_of l) c) (filter (is_of l) c)) ≡ 0
      by true h ih = absurd (omega (arith, h))
      by false h ih = ih (omega (arith, h))

  not-placed : (c : List Instance) → stands l c ≡ 0 → length c ≤ lock_place l c
  not-placed [] none = omega arith
  not-placed (x ∷ c) none = by (is_of l x) none (not-placed c)
    where
      by : (b : Bool) → length (cond b (x ∷ filter (is_of l) c) (filter (is_of l) c)) ≡ 0
          → (stands l c ≡ 0 → length c ≤ lock_place l c)
          → suc (length c) ≤ cond (not b) (1 + lock_place l c) 0
      by true h ih = absurd (omega (arith, h))
      by false h ih = omega (arith, ih h)

  -- a lock that doesn't stand has no place
  pub no-position : (c : List Instance) → stands l c ≡ 0 → None ≡ position (is_of l) c
  no-position c none =
      sym (ap (λ b. cond b (Some (lock_place l c)) None)
      (le-ltb (lock_place l c) (length c) (not-placed c none)))

  -- the lock isn't in the groups from this one on
  abbrev pub IsBefore : List (List Instance) → ℕ → Type 0
  IsBefore gs i = stands l (flat (drop i gs)) ≡ 0

  -- nor in the one before them
  pub before-more : (gs : List (List Instance)) (i n : ℕ) → i < length gs → n ≡ i + 1
      → IsBefore gs n → None ≡ position (is_of l) (get_or gs i []) → IsBefore gs i
  before-more gs i n lt next none missed =
      let group : List Instance = get_or gs i [] in
      ap (λ hs. stands l (flat hs)) (drop_more gs i [] lt)
      ∙ stands-append l group (flat (drop (i + 1) gs))
      ∙ omega (
        arith,
        no-stand group (no-place l group (sym missed)),
        ap (λ k. stands l (flat (drop k gs))) next,
        none,
      )

  is-there : (c : List Instance) (d : Instance) → lock_place l c < length c
      → is_of l (get_or c (lock_place l c) d) ≡ true
  is-there [] d lt = absurd (omega (arith, lt))
  is-there (x ∷ c) d lt = by (is_of l x) refl lt (is-there c d)
    where
      by : (b : Bool) → is_of l x ≡ b → cond (not b) (1 + lock_place l c) 0 < suc (length c)
          → (lock_place l c < length c → is_of l (get_or c (lock_place l c) d) ≡ true)
          → is_of l (get_or (x ∷ c) (cond (not b) (1 + lock_place l c) 0) d) ≡ true
      by true is h ih = is
      by false is h ih =
          let next : 1 + lock_place l c ≡ suc (lock_place l c) = omega arith in
          ap (λ n. is_of l (get_or (x ∷ c) n d)) next ∙ ih (omega (arith, h))

  with-one : {P : Type 0} (c : List Instance) (n : ℕ) → n < length c → (Instance → P) → P
  with-one [] n lt f = absurd (omega (arith, lt))
  with-one (x ∷ c) n lt f = f x

  -- it is in this group
  pub place-met : (gs : List (List Instance)) (i k : ℕ) → stands l (flat gs) ≤ 1 → i < length gs
      → Some k ≡ position (is_of l) (get_or gs i [])
      → Some (length (flat (take i gs)) + k) ≡ position (is_of l) (flat gs)
  place-met gs i k once lt found =
      let group : List Instance = get_or gs i [] in
      let here : (lock_place l group ≡ k) × (lock_place l group < length group) =
      first-place l group k (sym found) in
      let inside : k < length group = omega (arith, here.0, here.1) in
      let within : length (flat (take i gs)) + length group ≤ length (flat gs) =
      length-flat_map-take (λ g. g) gs i [] lt in
      with-one group k inside
      (λ d. only-place (flat gs) (length (flat (take i gs)) + k) d once
      (omega (arith, within, inside))
      (ap (is_of l) (get_or-flat_map (λ g. g) gs i k [] d lt inside)
      ∙ ap (λ n. is_of l (get_or group n d)) (sym here.0) ∙ is-there group d here.1))

  -- so the lock is held as it is there
  pub held-there : (c : List Instance) (i : ℕ) (d : Instance) → Some i ≡ position (is_of l) c
      → Some d ≡ find (is_of l) c → d ≡ get_or c i d
  held-there c i d at is =
      let here : (lock_place l c ≡ i) × (lock_place l c < length c) = first-place l c i (sym at) in
      ap (λ o. unwrap_or o d) (is ∙ find-found l c d here.1) ∙ ap (λ n. get_or c n d) here.0

  pub held-met : (gs : List (List Instance)) (i k : ℕ) (d : Instance) → stands l (flat gs) ≤ 1
      → i < length gs → k < length (get_or gs i [])
      → Some k ≡ position (is_of l) (get_or gs i [])
      → Some (get_or (get_or gs i []) k d) ≡ find (is_of l) (flat gs)
  held-met gs i k d once lt inside found =
      let at = place-met gs i k once lt found in
      let here : (lock_place l (flat gs) ≡ length (flat (take i gs)) + k)
      × (lock_place l (flat gs) < length (flat gs)) =
      first-place l (flat gs) (length (flat (take i gs)) + k) (sym at) in
      ap Some (sym (get_or-flat_map (λ g. g) gs i k [] d lt inside)
      ∙ ap (λ n. get_or (flat gs) n d) (sym here.0)) ∙ sym (find-found l (flat gs) d here.1)

  pub not-found : (c : List Instance) → stands l c ≡ 0 → None ≡ find (is_of l) c
  not-found c none = sym (find-missed l c (not-placed c none))

-- what is found under a lock's number is that lock
pub found-lock : (l : ℕ) (c : List Instance) (d : Instance) → Some d ≡ find (is_of l) c
    → d.lock.0 ≡ l
found-lock l [] d e = absurd (true≢false (ap is_some e))
found-lock l (x ∷ c) d e = by (is_of l x) refl e (found-lock l c d)
  where
    by : (b : Bool) → is_of l x ≡ b → Some d ≡ cond b (Some x) (find (is_of l) c)
        → (Some d ≡ find (is_of l) c → d.lock.0 ≡ l) → d.lock.0 ≡ l
    by true is at ih =
        ap (λ o. unwrap_or (option_map (λ (i : Instance). i.lock.0) o) 0) at
        ∙ eqb-true x.lock.0 l is
    by false is at ih = ih at
