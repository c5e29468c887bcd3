-- A lock that a list holds once is written over, or taken out, where it was found.
use Rattle.std.proofs.Common.{◌≡◌, ℕ, ◌<◌, List, length, set, get_or, Option, Some, None, IfSome}
use Rattle.std.proofs.Common.{position, refl, ap, sym, ◌∙◌, subst}
use Rattle.std.specs.List.{remove}
use Rattle.wit_model.specs.declared.locks.Instance.{Instance}
use Rattle.wit_model.specs.declared.chunks.Spot.{Spot}
use Rattle.wit_model.specs.Rules.Verdict.{is_of}
use Rattle.wit_model.specs.Rules.Groups.{tidied, edited_at, edited_in, replaced_at, replaced_in}
use Rattle.wit_model.specs.Rules.Groups.{removed_at, removed_in}
use Rattle.wit_model.specs.Rules.Chunks.{Chunks, IsSpot, groups_of, group_of, chain_of, set_groups}
use Rattle.wit_model.specs.Rules.Chunks.{upto}
use Rattle.wit_model.proofs.Walking.{IsNext, within}
use Rattle.wit_model.proofs.Chains.Grouping.{edited-set}
use Rattle.wit_held.specs.declared.spots.Found.{Found}
use Rattle.wit_held.specs.Chains.{IsOnce}
use Rattle.wit_held.specs.Spots.{place_at, IsThere}
use Rattle.wit_held.proofs.Newest.{IsBefore, before-more, place-met, held-met, found-lock}
use Rattle.wit_held.proofs.Newest.{held-there}

module _ (c : Chunks) (list l : ℕ) (f : Found) (there : IsThere c list l f) where
  -- it is held as it was found
  pub held-found : f.held ≡ get_or (chain_of c list) (place_at (groups_of c list) f) f.held
  held-found =
      held-there l (chain_of c list) (place_at (groups_of c list) f) f.held there.place there.held

  is-edit : (edit : ℕ → List Instance → List Instance)
      → edited_in edit f.spot.group f.index (groups_of c list)
      ≡ edited_at edit (place_at (groups_of c list) f) (groups_of c list)
  is-edit edit =
      sym (edited-set edit (groups_of c list) (place_at (groups_of c list) f) f.spot.group f.index
      there.spot.group there.index refl)

  pub writes : (x : Instance)
      → set_groups c list (replaced_in f.spot.group f.index x (groups_of c list))
      ≡ set_groups c list (replaced_at (place_at (groups_of c list) f) x (groups_of c list))
  writes x = ap (set_groups c list) (is-edit (λ k g. set g k x))

  pub takes : set_groups c list (removed_in f.spot.group f.index (groups_of c list))
      ≡ set_groups c list (removed_at (place_at (groups_of c list) f) (groups_of c list))
  takes = ap (λ gs. set_groups c list (tidied gs)) (is-edit (λ k g. remove g k))

  -- the lock that was found has this number
  is-lock : f.held.lock.0 ≡ l
  is-lock = found-lock l (chain_of c list) f.held there.held

  pub named : IsThere c list f.held.lock.0 f
  named = subst (λ n. IsThere c list n f) (sym is-lock) there

  pub once-named : IsOnce l (chain_of c list) → IsOnce f.held.lock.0 (chain_of c list)
  once-named once = subst (λ n. IsOnce n (chain_of c list)) (sym is-lock) once

-- a chunk of the list holds the lock
module _ (c : Chunks) (list l : ℕ) (o : Option Spot) (s : Spot) (is : o ≡ Some s)
    (next : IsNext c list o) (group : List Instance)
    (same : group ≡ group_of c list s) where
  pub there-met : IsOnce l (chain_of c list) → (k : ℕ) → Some k ≡ position (is_of l) group
      → k < length group → (d : Instance)
      → IsThere c list l record { spot = s; index = k; held = get_or group k d }
  there-met once k found inside d = record {
    spot = subst (λ p. IfSome p (IsSpot c list)) is next;
    index = subst (λ (g : List Instance). k < length g) same inside;
    place =
        place-met l (groups_of c list) s.group k once (within c list o s is next)
        (found ∙ ap (position (is_of l)) same);
    held =
        ap (λ (g : List Instance). Some (get_or g k d)) same
        ∙ held-met l (groups_of c list) s.group k d once (within c list o s is next)
        (subst (λ (g : List Instance). k < length g) same inside)
        (found ∙ ap (position (is_of l)) same);
  }

  -- or it doesn't
  pub older-misses : (m : ℕ) → m ≡ s.group → IsBefore l (groups_of c list) (upto o)
      → None ≡ position (is_of l) group → IsBefore l (groups_of c list) m
  older-misses m at none missed =
      subst (IsBefore l (groups_of c list)) (sym at)
      (before-more l (groups_of c list) s.group (upto o) (within c list o s is next)
      (ap upto is) none (missed ∙ ap (position (is_of l)) same))
