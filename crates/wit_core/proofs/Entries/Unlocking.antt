-- A release.
use Rattle.std.proofs.Common.{◌≡◌, ℕ, ◌+◌, ◌-◌, ◌<◌, Bool, true, Ok, refl, ◌∙◌, arith}
use Rattle.wit_model.specs.declared.locks.LockNo.{LockNo}
use Rattle.wit_model.specs.declared.locks.Mode.{Mode}
use Rattle.wit_model.specs.declared.calls.Call.TheVariants.{Unlock}
use Rattle.wit_model.specs.declared.calls.Reply.TheVariants.{Unlocked}
use Rattle.wit_model.specs.Rules.Types.{is_spin}
use Rattle.wit_model.specs.Rules.Locks.{lock_at}
use Rattle.wit_model.specs.Rules.History.{is_held}
use Rattle.wit_model.specs.Rules.State.{Story, state_of}
use Rattle.wit_model.specs.Rules.Step.{answer_of}
use Rattle.wit_model.proofs.Chains.Owed.{owed-unlock}
use Rattle.wit_model.proofs.Histories.Accepted.{unlock_accepted}
use Rattle.wit_model.proofs.Histories.Legal.{unlock-held}
use Rattle.wit_core.specs.declared.verifier.Verifier.TheInside.{Inside}
use Rattle.wit_core.specs.Kept.{start_in, history_in, story_in, known_in}
use Rattle.wit_waiting.specs.Seats.{with_seat, having_released}
use Rattle.wit_core.proofs.Keeping.{Leaves}
use Rattle.wit_core.proofs.Seen.{IsSeenAs}
use Rattle.wit_core.proofs.Steps.{known-same, seats-unlock}
use Rattle.wit_core.proofs.Entries.Accepting.{accepted, kind-now, known-now, left-by, owed_now}
use Rattle.wit_core.proofs.Entries.Accepting.{sane_next, seats-now, watch-now, within}

module _ {v : Inside} {s : Story} (this : IsSeenAs v s) where
  module _ (t : ℕ) (l : LockNo) (spin : Bool)
      (kind : spin ≡ is_spin (lock_at (state_of s).known.locks l.0).made.class) where
    release_held : (m : Mode) → answer_of s t (Unlock l m) ≡ Ok Unlocked
        → is_held t l.0 (history_in v) ≡ true
    release_held m ok =
        (unlock-held (start_in v) v.known.files (history_in v) t l.0 m Unlocked
        (sane_next this t (Unlock l m) Unlocked ok).1
        (unlock_accepted (state_of (story_in v)) t l.0 m Unlocked
        (accepted this t (Unlock l m) Unlocked ok) refl)).0

    pub unlock_owed : (m : Mode) → answer_of s t (Unlock l m) ≡ Ok Unlocked → 0 < v.log.owed
    unlock_owed m ok =
        let in_row = within this t (Unlock l m) Unlocked ok in
        let less =
        owed-unlock v.limits.seats t l m (history_in v)
        (sane_next this t (Unlock l m) Unlocked ok) in_row.0 in_row.1 (release_held m ok) in
        omega (arith, less, owed_now this)

    pub leaves_unlock : (m : Mode) → answer_of s t (Unlock l m) ≡ Ok Unlocked
        → Leaves v t (Unlock l m) Unlocked (known_in v) v.known.live
        (with_seat t (having_released spin l.0) v.seats) v.watch (v.log.owed - (0 + 1))
    leaves_unlock m ok =
        let sane = sane_next this t (Unlock l m) Unlocked ok in
        let in_row = within this t (Unlock l m) Unlocked ok in
        let less =
        owed-unlock v.limits.seats t l m (history_in v) sane in_row.0 in_row.1
        (release_held m ok) in
        left-by this t (Unlock l m) Unlocked _ _ _ _ _
        (known-now this ∙ known-same (start_in v) (history_in v) t
        (Unlock l m) Unlocked refl refl refl refl)
        this.tied.live
        (seats-unlock (start_in v) v.known.files (history_in v) v.seats
        (seats-now this) t in_row.0 in_row.1 l spin (kind-now this l.0 spin kind) m sane)
        (watch-now this) (omega (arith, less, owed_now this)) refl
