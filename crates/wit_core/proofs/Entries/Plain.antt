-- Calls that leave requests and acquisitions as they are.
use Rattle.std.proofs.Common.{◌≡◌, ℕ, ◌+◌, ◌<◌, true, Ok, length}
use Rattle.wit_model.specs.declared.calls.Call.{Call}
use Rattle.wit_model.specs.declared.calls.Reply.{Reply}
use Rattle.wit_model.specs.Rules.State.{Story, state_of}
use Rattle.wit_model.specs.Rules.Step.{answer_of, is_logged}
use Rattle.wit_model.proofs.Histories.AcceptedTurns.{is_plain, plain_accepted}
use Rattle.wit_core.specs.declared.verifier.Verifier.TheInside.{Inside}
use Rattle.wit_core.specs.Journal.{Journal}
use Rattle.wit_core.specs.Kept.{story_in}
use Rattle.wit_core.proofs.Entries.Accepting.{accepted, room_left}
use Rattle.wit_core.proofs.Seen.{IsSeenAs}

module _ {v : Inside} {s : Story} (this : IsSeenAs v s) where
  -- the room of a call that leaves requests and acquisitions
  pub plain_room : (t : ℕ) (call : Call) (r : Reply) (log : Journal) → is_plain call ≡ true
      → is_logged r ≡ true → answer_of s t call ≡ Ok r
      → log ≡ record v.log { spare = log.spare } → length log.history + log.owed + 0 < log.limit
  plain_room t call r log plain kept ok same =
      room_left this 0 log (plain_accepted (state_of (story_in v)) t call r plain
      (accepted this t call r ok) kept).room same
