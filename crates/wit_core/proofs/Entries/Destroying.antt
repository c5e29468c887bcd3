-- A lock that is destroyed.
use Rattle.std.proofs.Common.{◌≡◌, ℕ, ◌+◌, ◌-◌, set, true, false, Ok, length, refl, ap, ◌∙◌, arith}
use Rattle.wit_model.specs.declared.locks.LockNo.{LockNo}
use Rattle.wit_model.specs.declared.calls.Call.TheVariants.{Destroy}
use Rattle.wit_model.specs.declared.calls.Reply.TheVariants.{Done}
use Rattle.wit_model.specs.Rules.Numbers.{IsGiven, with_changed}
use Rattle.wit_model.specs.Rules.Locks.{lock_at, destroyed_of}
use Rattle.wit_model.specs.Rules.State.{Story, state_of}
use Rattle.wit_model.specs.Rules.Step.{answer_of}
use Rattle.wit_model.proofs.Chains.Owed.{owed-same}
use Rattle.wit_model.proofs.Histories.AcceptedLocks.{destroy_accepted}
use Rattle.wit_core.specs.declared.verifier.Verifier.TheInside.{Inside}
use Rattle.wit_core.specs.Kept.{start_in, history_in, known_in}
use Rattle.wit_core.proofs.Keeping.{Leaves}
use Rattle.wit_core.proofs.Now.{live-now}
use Rattle.wit_core.proofs.Seen.{IsSeenAs}
use Rattle.wit_core.proofs.Steps.{known-same, seats-same}
use Rattle.wit_known.proofs.LiveFlags.{flag-within, flags-destroyed, length-flags}
use Rattle.wit_known.specs.Live.{is_flagged}
use Rattle.wit_core.proofs.Judged.{asked-given}
use Rattle.wit_model.proofs.Numbered.{with_changed-at}
use Rattle.wit_core.proofs.Entries.Accepting.{known-now, left-by, owed_now, sane_next, seats-now}
use Rattle.wit_core.proofs.Entries.Accepting.{watch-now, within}

module _ {v : Inside} {s : Story} (this : IsSeenAs v s) where
  pub destroyed_live : (t : ℕ) (l : LockNo) → answer_of s t (Destroy l) ≡ Ok Done
      → is_flagged v.known.live l.0 ≡ true
  destroyed_live t l ok = live-now this l.0 ∙ (destroy_accepted (state_of s) t l.0 Done ok).live

  pub destroyed_typed : (t : ℕ) (l : LockNo) → answer_of s t (Destroy l) ≡ Ok Done
      → IsGiven v.known.known.types (lock_at v.known.known.locks l.0).type_no.0
  destroyed_typed t l ok = asked-given this l.0 (destroy_accepted (state_of s) t l.0 Done ok).lock

  pub leaves_destroy : (t : ℕ) (l : LockNo) → answer_of s t (Destroy l) ≡ Ok Done
      → Leaves v t (Destroy l) Done (known_in v) (with_changed v.known.live l.0 false) v.seats
      v.watch (v.log.owed + 0)
  leaves_destroy t l ok =
      let sane = sane_next this t (Destroy l) Done ok in
      let in_row = within this t (Destroy l) Done ok in
      let same =
      owed-same v.limits.seats t (Destroy l) Done (history_in v) sane in_row.0
      in_row.1 refl refl in
      let made = flag-within v.known.live l.0 (destroyed_live t l ok) in
      let size : length v.known.live ≡ length v.known.known.locks =
      ap length this.tied.live ∙ length-flags (length v.known.known.locks)
      (destroyed_of (history_in v)) in
      left-by this t (Destroy l) Done _ _ _ _ _
      (known-now this ∙ known-same (start_in v) (history_in v) t
      (Destroy l) Done refl refl refl refl)
      (with_changed-at v.known.live l.0 false made.0
      ∙ ap (λ bs. set bs (l.0 - 1) false) this.tied.live
      ∙ flags-destroyed (length v.known.known.locks) l.0 (destroyed_of (history_in v)) made.0
      (omega (arith, made.1, size)))
      (seats-same (start_in v) v.known.files (history_in v) v.seats
      (seats-now this) t in_row.0 in_row.1 (Destroy l) Done sane refl refl)
      (watch-now this) (omega (arith, same, owed_now this)) refl
