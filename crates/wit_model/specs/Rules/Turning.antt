-- Calls that change how a lock is held: its mode (rw_try_upgrade and rw_downgrade of rwlock(9),
-- sx_try_upgrade and sx_downgrade of sx(9)), and whether it may be released (witness_norelease and
-- witness_releaseok of subr_witness.c). The place and the site of the lock stay.
use Rattle.std.specs.Prelude.{ℕ, not, nat_lt, Option, None, Some, Result, Ok}
use Rattle.std.specs.Prelude.{Err, if◌then◌else◌}
use Rattle.wit_model.specs.declared.faults.Fault.{Fault}
use Rattle.wit_model.specs.declared.faults.Fault.TheVariants.{NotUpgradable}
use Rattle.wit_model.specs.declared.faults.Fault.TheVariants.{UpgradeOfExclusive, UpgradeRecursed}
use Rattle.wit_model.specs.declared.faults.Fault.TheVariants.{DowngradeOfShared, DowngradeRecursed}
use Rattle.wit_model.specs.declared.locks.Watch.{Watch}
use Rattle.wit_model.specs.declared.locks.Instance.{Instance}
use Rattle.wit_model.specs.declared.calls.Reply.{Reply}
use Rattle.wit_model.specs.declared.calls.Reply.TheVariants.{Done, Ignored}
use Rattle.wit_model.specs.Rules.Types.{is_shareable}
use Rattle.wit_model.specs.Rules.History.{is_on}
use Rattle.wit_model.specs.Rules.State.{State}
use Rattle.wit_model.specs.Rules.Verdict.{is_exclusive}
use Rattle.wit_model.specs.Rules.Questions.{class_at, held_by, before_naming, with_entry}
use Rattle.wit_model.specs.Rules.Questions.{unless_held}

-- the answer to an upgrade of a lock held so
abbrev pub upgraded : Watch → Option Instance → Result Reply Fault
upgraded watch None = unless_held watch
upgraded watch (Some i) =
    if is_exclusive i.mode then Err UpgradeOfExclusive
    else if nat_lt 0 i.count then Err UpgradeRecursed
    else Ok Done

-- the answer to a downgrade
abbrev pub downgraded : Watch → Option Instance → Result Reply Fault
downgraded watch None = unless_held watch
downgraded watch (Some i) =
    if not (is_exclusive i.mode) then Err DowngradeOfShared
    else if nat_lt 0 i.count then Err DowngradeRecursed
    else Ok Done

-- the answer to a mark: it is passed over where less than everything is watched
abbrev pub mark_answer : Watch → Option Instance → Result Reply Fault
mark_answer watch None = unless_held watch
mark_answer watch (Some i) = if is_on watch then Ok Done else Ok Ignored

-- a turn of a lock, where the answer is this one for a lock that can be turned
abbrev pub step_turn : State → ℕ → ℕ → Result Reply Fault → Result Reply Fault
step_turn s t l answer =
    before_naming s t l (if not (is_shareable (class_at s l)) then Err NotUpgradable
    else with_entry s answer)

-- that a held lock must not be released, or may be again
abbrev pub step_mark : State → ℕ → ℕ → Result Reply Fault
step_mark s t l = before_naming s t l (with_entry s (mark_answer s.watch (held_by s t l)))
