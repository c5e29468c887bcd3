-- What a mark of a lock that stands once makes of the lists.
use Rattle.std.proofs.Common.{◌≡◌, ℕ, ◌-◌, Bool, [], map, find, position, get_or, None, Some, ap}
use Rattle.std.proofs.Common.{sym, ◌∙◌}
use Rattle.std.proofs.lemmas.List.{set-get_or}
use Rattle.wit_model.specs.declared.locks.Instance.{Instance}
use Rattle.wit_model.specs.Rules.Verdict.{is_of}
use Rattle.wit_model.specs.Rules.Groups.{replaced_at}
use Rattle.wit_model.specs.Rules.Chunks.{Chunks, groups_of, chain_of, set_groups}
use Rattle.wit_held.specs.Chains.{at_lock, IsOnce}
use Rattle.wit_held.specs.Marks.{marked, after_mark}
use Rattle.wit_held.proofs.HeldLock.{absent-all, change-absent, missed-stands}
use Rattle.wit_held.proofs.Recording.{changed}

module _ (c : Chunks) (list l : ℕ) (norelease : Bool) where
  -- the lock isn't there
  pub mark-none : find (is_of l) (chain_of c list) ≡ None → c.groups ≡ after_mark c list l norelease
  mark-none missed =
      sym
      (ap (set_groups c list)
      (absent-all l (map (at_lock l (marked norelease))) (change-absent l (marked norelease))
      (groups_of c list) (missed-stands l (chain_of c list) missed))
      ∙ set-get_or c.groups (list - 1) [])

  -- the lock is there once
  pub mark-one : (i : ℕ) (d : Instance) → Some i ≡ position (is_of l) (chain_of c list)
      → d ≡ get_or (chain_of c list) i d → IsOnce l (chain_of c list)
      → set_groups c list (replaced_at i (marked norelease d) (groups_of c list))
      ≡ after_mark c list l norelease
  mark-one i d found at once =
      ap (set_groups c list) (changed c list l i d found at once (marked norelease))
