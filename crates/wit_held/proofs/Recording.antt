-- What an acquisition, a release and a turn of a lock that stands once make of the lists.
use Rattle.std.proofs.Common.{◌≡◌, ℕ, ◌-◌, ◌<◌, ◌≤◌, Bool, true, false, not, ◌&&◌, cond, nat_lt}
use Rattle.std.proofs.Common.{List, [], ◌∷◌, length, map, find, position, set, get_or, None}
use Rattle.std.proofs.Common.{Some, is_some, unwrap_or, refl, ap, sym, ◌∙◌, arith}
use Rattle.std.specs.List.{remove}
use Rattle.std.proofs.lemmas.Bool.{lt-ltb, le-ltb, true≢false, ltb-true, ltb-false}
use Rattle.std.proofs.lemmas.List.{set-get_or}
use Rattle.wit_model.specs.declared.locks.Instance.{Instance}
use Rattle.wit_model.specs.declared.locks.Mode.{Mode}
use Rattle.wit_model.specs.Rules.Verdict.{is_of}
use Rattle.wit_model.specs.Rules.Groups.{tidied, left, edited_at, replaced_at, removed_at}
use Rattle.wit_model.specs.Rules.Chunks.{Chunks, groups_of, chain_of, set_groups, is_refused}
use Rattle.wit_held.specs.Chains.{stands, at_lock, is_other, change_lock, recursed, fewer, in_mode}
use Rattle.wit_held.specs.Chains.{recorded, recorded_by, forgotten_by, is_unrecorded, IsOnce}
use Rattle.wit_held.specs.Chains.{after_record, after_forget, after_turn}
use Rattle.wit_held.proofs.HeldLock.{lock_place, found-stands, find-found, find-missed}
use Rattle.wit_held.proofs.HeldLock.{missed-stands, absent-all, change-absent, replaced-once}
use Rattle.wit_held.proofs.HeldLock.{removed-once}

pub first-place : (l : ℕ) (c : List Instance) (i : ℕ) → position (is_of l) c ≡ Some i
    → (lock_place l c ≡ i) × (lock_place l c < length c)
first-place l c i e = by (nat_lt (lock_place l c) (length c)) refl e
  where
    by : (b : Bool) → nat_lt (lock_place l c) (length c) ≡ b
        → cond b (Some (lock_place l c)) None ≡ Some i → (lock_place l c ≡ i)
        × (lock_place l c < length c)
    by true within at = (
      ap (λ r. unwrap_or r (lock_place l c)) at,
      omega (arith, ltb-true (lock_place l c) (length c) within),
    )
    by false within at = absurd (true≢false (sym (ap is_some at)))

pub no-place : (l : ℕ) (c : List Instance) → position (is_of l) c ≡ None → length c ≤ lock_place l c
no-place l c e = by (nat_lt (lock_place l c) (length c)) refl e
  where
    by : (b : Bool) → nat_lt (lock_place l c) (length c) ≡ b
        → cond b (Some (lock_place l c)) None ≡ None → length c ≤ lock_place l c
    by true within at = absurd (true≢false (ap is_some at))
    by false within at = ltb-false (lock_place l c) (length c) within

module _ (c : Chunks) (list l : ℕ) where
  -- the lock isn't there
  pub none : None ≡ position (is_of l) (chain_of c list) → find (is_of l) (chain_of c list) ≡ None
  none missed = find-missed l (chain_of c list) (no-place l (chain_of c list) (sym missed))

  pub turn-none : find (is_of l) (chain_of c list) ≡ None → (mode : Mode)
      → c.groups ≡ after_turn c list l mode
  turn-none missed mode =
      sym
      (ap (set_groups c list) (absent-all l (map (at_lock l (in_mode mode)))
      (change-absent l (in_mode mode)) (groups_of c list)
      (missed-stands l (chain_of c list) missed))
      ∙ set-get_or c.groups (list - 1) [])

  -- the lock is there once
  module _ (i : ℕ) (d : Instance) (found : Some i ≡ position (is_of l) (chain_of c list))
      (at : d ≡ get_or (chain_of c list) i d) where
    place : (lock_place l (chain_of c list) ≡ i)
        × (lock_place l (chain_of c list) < length (chain_of c list))
    place = first-place l (chain_of c list) i (sym found)

    there : get_or (chain_of c list) (lock_place l (chain_of c list)) d ≡ d
    there = ap (λ n. get_or (chain_of c list) n d) place.0 ∙ sym at

    pub some : find (is_of l) (chain_of c list) ≡ Some d
    some = find-found l (chain_of c list) d place.1 ∙ ap Some there

    pub recorded-some : is_unrecorded c list l ≡ false
    recorded-some = ap (λ o. not (is_some o) && is_refused c list) some

    module _ (once : IsOnce l (chain_of c list)) where
      one : stands l (chain_of c list) ≡ 1
      one = omega (arith, once, found-stands l (chain_of c list) place.1)

      -- the lock's instance is written over by its change
      pub changed : (f : Instance → Instance) → replaced_at i (f d) (groups_of c list)
          ≡ change_lock l f (groups_of c list)
      changed f =
          ap (λ n. edited_at (λ k g. set g k (f d)) n (groups_of c list)) (sym place.0)
          ∙ replaced-once l f d (groups_of c list) one there

      pub gone : removed_at i (groups_of c list) ≡ left (is_other l) (groups_of c list)
      gone =
          ap tidied (ap (λ n. edited_at (λ k g. remove g k) n (groups_of c list)) (sym place.0)
          ∙ removed-once l d (groups_of c list) one there)

      pub forget-fewer : 0 < d.count
          → set_groups c list (replaced_at i (fewer d) (groups_of c list)) ≡ after_forget c list l
      forget-fewer again =
          ap (set_groups c list)
          (changed fewer
          ∙ sym (ap (forgotten_by l (groups_of c list)) some
          ∙ ap (λ b. cond b (change_lock l fewer (groups_of c list))
          (left (is_other l) (groups_of c list))) (lt-ltb 0 d.count again)))

      pub forget-last : d.count ≤ 0 → set_groups c list (removed_at i (groups_of c list))
          ≡ after_forget c list l
      forget-last last =
          ap (set_groups c list)
          (gone
          ∙ sym (ap (forgotten_by l (groups_of c list)) some
          ∙ ap (λ b. cond b (change_lock l fewer (groups_of c list))
          (left (is_other l) (groups_of c list))) (le-ltb 0 d.count last)))

      pub turned : (mode : Mode) → set_groups c list
          (replaced_at i (in_mode mode d) (groups_of c list)) ≡ after_turn c list l mode
      turned mode = ap (set_groups c list) (changed (in_mode mode))

-- a held lock is recorded once more
pub record-again : (c : Chunks) (list : ℕ) (taken : Instance) (i : ℕ) (d : Instance)
    → Some i ≡ position (is_of taken.lock.0) (chain_of c list)
    → d ≡ get_or (chain_of c list) i d → IsOnce taken.lock.0 (chain_of c list)
    → set_groups c list (replaced_at i (recursed taken.site d) (groups_of c list))
    ≡ after_record c list taken
record-again c list taken i d found at once =
    ap (set_groups c list) (changed c list taken.lock.0 i d found at once (recursed taken.site)
    ∙ sym (ap (recorded_by taken (groups_of c list)) (some c list taken.lock.0 i d found at)))
    ∙ sym (ap (λ b. cond b c.groups (set_groups c list (recorded taken (groups_of c list))))
    (recorded-some c list taken.lock.0 i d found at))

-- a list of at most one lock holds none twice
pub stands-short : (l : ℕ) (c : List Instance) → length c ≤ 1 → stands l c ≤ 1
stands-short l [] one = omega arith
stands-short l (x ∷ []) one = by (is_of l x)
  where
    by : (b : Bool) → length (cond b (x ∷ []) []) ≤ 1
    by true = omega arith
    by false = omega arith
stands-short l (x ∷ y ∷ c) one = absurd (omega (arith, one))
