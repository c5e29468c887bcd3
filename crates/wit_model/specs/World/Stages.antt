-- In which order a thread does its deeds. It does them in sequences, with none of its own between
-- the parts of one; those of other threads come between at will:
-- a check, then the lock is taken and noted, or the request is given up; a lock that it holds by
-- the record is noted without being taken;
-- a try that gets the lock, then its note, or the lock is freed, as where that note is refused;
-- an unlock, then the lock is freed, which is left out only where more acquisitions were recorded
-- than it has shares, or the unlock was passed over;
-- a lock is turned exclusive, then its upgrade is logged, or it is turned back, as where that is
-- refused;
-- a downgrade, then the lock is turned shared, which is left out only where it was passed over;
-- any other call.
use Rattle.std.specs.Prelude.{ℕ, Bool, true, false, not, ◌&&◌, ◌==◌, nat_lt, List, [], ◌∷◌}
use Rattle.wit_model.specs.declared.locks.Mode.{Mode}
use Rattle.wit_model.specs.declared.locks.Mode.TheVariants.{Shared, Exclusive}
use Rattle.wit_model.specs.declared.calls.Request.{Request}
use Rattle.wit_model.specs.declared.calls.Call.{Call}
use Rattle.wit_model.specs.declared.calls.Call.TheVariants.{Check, Note, NoteTry, GiveUp, Unlock}
use Rattle.wit_model.specs.declared.calls.Call.TheVariants.{Upgrade, Downgrade}
use Rattle.wit_model.specs.Rules.History.{num, is_held}
use Rattle.wit_model.specs.Rules.Verdict.{is_exclusive}
use Rattle.wit_model.specs.World.Deeds.{Deed, Logged, PassedOver, Take, TryTake, Free, RawUp}
use Rattle.wit_model.specs.World.Deeds.{RawDown, thread_of, own, log_of, shares}

-- where a thread stands in its latest sequence
pub data Stage : Type 0 where
  -- at its end
  Over : Stage
  -- it asked for a lock
  Asked : (request : Request) → Stage
  -- it has taken the lock that it asked for
  Taken : (lock : ℕ) → Stage
  -- it got a lock by a try
  Tried : (lock : ℕ) (mode : Mode) → Stage
  -- it called unlock; the lock need not be freed where it has fewer shares than were recorded, nor
  -- where the call was passed over
  Forgot : (lock : ℕ) (may_keep : Bool) → Stage
  -- its lock was turned exclusive
  Raised : (lock : ℕ) → Stage
  -- it called downgrade; the lock need not be turned shared where the call was passed over
  Lowered : (lock : ℕ) (passed : Bool) → Stage

-- after a logged call of a thread that has fewer shares of these locks than were recorded
abbrev pub stage_called : (ℕ → Bool) → Call → Stage
stage_called has_fewer (Check q) = Asked q
stage_called has_fewer (Unlock l mode) = Forgot l.0 (has_fewer l.0)
stage_called has_fewer (Downgrade l) = Lowered l.0 false
stage_called has_fewer _ = Over

abbrev pub stage_logged : ℕ → Call → List Deed → Stage
stage_logged t call before =
    stage_called (λ l. nat_lt (shares t l before) (num t l (log_of before))) call

abbrev pub stage_passed : Call → Stage
stage_passed (Unlock l mode) = Forgot l.0 true
stage_passed (Downgrade l) = Lowered l.0 true
stage_passed _ = Over

abbrev pub stage_after : ℕ → Deed → List Deed → Stage
stage_after t (Logged e) before = stage_logged t e.call before
stage_after t (PassedOver u call) before = stage_passed call
stage_after t (Take u l mode) before = Taken l
stage_after t (TryTake u l mode) before = Tried l mode
stage_after t (RawUp u l) before = Raised l
stage_after t _ before = Over

-- where thread t stands after its own deeds
abbrev pub stage : ℕ → List Deed → Stage
stage t [] = Over
stage t (d ∷ before) = stage_after t d before

-- whether the sequence may end here
abbrev pub is_over : Stage → Bool
is_over Over = true
is_over (Forgot l may_keep) = may_keep
is_over (Lowered l passed) = passed
is_over _ = false

abbrev pub is_same_mode : Mode → Mode → Bool
is_same_mode Exclusive mode = is_exclusive mode
is_same_mode Shared mode = not (is_exclusive mode)

-- whether a call may follow at a stage, where these locks are held by the record
abbrev pub call_follows : Call → (ℕ → Bool) → Stage → Bool
call_follows (Note l) held (Asked q) = (q.lock.0 == l.0) && held l.0
call_follows (Note l) held (Taken m) = m == l.0
call_follows (Note l) held _ = false
call_follows (GiveUp l) held (Asked q) = q.lock.0 == l.0
call_follows (GiveUp l) held _ = false
call_follows (NoteTry l mode site) held (Tried m tried) = (m == l.0) && is_same_mode tried mode
call_follows (NoteTry l mode site) held _ = false
call_follows (Upgrade l) held (Raised m) = m == l.0
call_follows (Upgrade l) held _ = false
call_follows _ held at = is_over at

-- whether a deed may
abbrev pub deed_follows : Deed → (ℕ → Bool) → Stage → Bool
deed_follows (Logged e) held at = call_follows e.call held at
deed_follows (PassedOver t call) held at = call_follows call held at
deed_follows (Take t l mode) held (Asked q) =
    (q.lock.0 == l) && (is_same_mode q.mode mode && not (held l))
deed_follows (TryTake t l mode) held at = is_over at
deed_follows (Free t l) held (Tried m mode) = m == l
deed_follows (Free t l) held (Forgot m may_keep) = m == l
deed_follows (RawUp t l) held at = is_over at
deed_follows (RawDown t l) held (Raised m) = m == l
deed_follows (RawDown t l) held (Lowered m passed) = m == l
deed_follows _ held _ = false

-- whether it may come next, as its thread stands
abbrev pub may_follow : Deed → List Deed → Bool
may_follow d w =
    deed_follows d (λ l. is_held (thread_of d) l (log_of w))
    (stage (thread_of d) (own (thread_of d) w))
