-- How much is watched.
use Rattle.std.proofs.Common.{◌≡◌, ℕ, ◌+◌, ◌<◌, Ok, length, refl, ◌∙◌, arith}
use Rattle.wit_model.specs.declared.locks.Watch.{Watch}
use Rattle.wit_model.specs.declared.calls.Call.TheVariants.{SetWatch}
use Rattle.wit_model.specs.declared.calls.Reply.TheVariants.{Done}
use Rattle.wit_model.specs.Rules.State.{Story, state_of}
use Rattle.wit_model.specs.Rules.Step.{answer_of}
use Rattle.wit_model.proofs.Chains.Owed.{owed-same}
use Rattle.wit_model.proofs.Histories.AcceptedLocks.{watch_accepted}
use Rattle.wit_core.specs.declared.verifier.Verifier.TheInside.{Inside}
use Rattle.wit_core.specs.Journal.{Journal}
use Rattle.wit_core.specs.Kept.{start_in, history_in, story_in, known_in}
use Rattle.wit_core.proofs.Keeping.{Leaves}
use Rattle.wit_core.proofs.Seen.{IsSeenAs}
use Rattle.wit_core.proofs.Steps.{known-same, seats-same}
use Rattle.wit_core.proofs.Entries.Accepting.{accepted, known-now, left-by, owed_now, room_left}
use Rattle.wit_core.proofs.Entries.Accepting.{sane_next, seats-now, within}

module _ {v : Inside} {s : Story} (this : IsSeenAs v s) where
  pub watch_room : (t : ℕ) (w : Watch) (log : Journal) → answer_of s t (SetWatch w) ≡ Ok Done
      → log ≡ record v.log { spare = log.spare }
      → length log.history + log.owed + 0 < log.limit
  watch_room t w log ok same =
      room_left this 0 log (watch_accepted (state_of (story_in v)) t w Done
      (accepted this t (SetWatch w) Done ok)).room same

  pub leaves_watch : (t : ℕ) (w : Watch) → answer_of s t (SetWatch w) ≡ Ok Done
      → Leaves v t (SetWatch w) Done (known_in v) v.known.live v.seats w (v.log.owed + 0)
  leaves_watch t w ok =
      let sane = sane_next this t (SetWatch w) Done ok in
      let in_row = within this t (SetWatch w) Done ok in
      let same =
      owed-same v.limits.seats t (SetWatch w) Done
      (history_in v) sane in_row.0 in_row.1 refl refl in
      left-by this t (SetWatch w) Done _ _ _ _ _
      (known-now this ∙ known-same (start_in v) (history_in v) t
      (SetWatch w) Done refl refl refl refl)
      this.tied.live
      (seats-same (start_in v) v.known.files (history_in v) v.seats
      (seats-now this) t in_row.0 in_row.1 (SetWatch w) Done sane refl refl)
      refl (omega (arith, same, owed_now this)) refl
