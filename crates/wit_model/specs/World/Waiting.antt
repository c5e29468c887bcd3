-- Which thread waits for which, by the shares that threads have, whatever is recorded of them.
use Rattle.std.specs.Prelude.{ℕ, ◌<◌, ◌≡◌, true, false, ◌||◌, List}
use Rattle.wit_model.specs.declared.calls.Request.{Request}
use Rattle.wit_model.specs.Rules.History.{is_held}
use Rattle.wit_model.specs.Rules.Verdict.{is_exclusive}
use Rattle.wit_model.specs.Rules.Circles.{IsCircle}
use Rattle.wit_model.specs.World.Deeds.{Deed, own, log_of, shares, raw_mode}
use Rattle.wit_model.specs.World.Stages.{Asked, stage}

-- the last deed of t is to ask for a lock that it doesn't hold by the record, and u, another
-- thread, has a share of it that bars t, since the one or the other is exclusive
pub record IsWaiting (w : List Deed) (t u : ℕ) : Type 0 where
  pub request : Request
  pub asks : stage t (own t w) ≡ Asked request
  pub unheld : is_held t request.lock.0 (log_of w) ≡ false
  pub another : u ≡ t → ⊥
  pub taken : 0 < shares u request.lock.0 w
  pub barred : (is_exclusive (raw_mode u request.lock.0 w) || is_exclusive request.mode) ≡ true

-- a deadlock: each of these threads waits for the next, and the last for the first
abbrev pub IsDeadlock : List Deed → List ℕ → Type 0
IsDeadlock w threads = IsCircle (IsWaiting w) threads
