-- A request that is given up.
use Rattle.std.proofs.Common.{◌≡◌, ℕ, ◌+◌, ◌-◌, ◌<◌, None, Some, Ok, refl, sym, ap, ◌∙◌, arith}
use Rattle.wit_model.specs.declared.locks.LockNo.{LockNo}
use Rattle.wit_model.specs.declared.calls.Request.{Request}
use Rattle.wit_model.specs.declared.calls.Call.TheVariants.{GiveUp}
use Rattle.wit_model.specs.declared.calls.Reply.TheVariants.{Done}
use Rattle.wit_model.specs.Rules.History.{pending}
use Rattle.wit_model.specs.Rules.State.{Story, state_of}
use Rattle.wit_model.specs.Rules.Step.{answer_of, is_for}
use Rattle.wit_model.proofs.Chains.Owed.{owed-give_up}
use Rattle.wit_model.proofs.Histories.Accepted.{asked-lock, give_up_accepted}
use Rattle.wit_model.proofs.Histories.Legal.{pending-state}
use Rattle.wit_core.specs.declared.verifier.Verifier.TheInside.{Inside}
use Rattle.wit_core.specs.Kept.{start_in, history_in, story_in, known_in}
use Rattle.wit_waiting.specs.Seats.{with_seat, asking}
use Rattle.wit_core.proofs.Keeping.{Leaves}
use Rattle.wit_core.proofs.Seen.{IsSeenAs}
use Rattle.wit_core.proofs.Steps.{known-same, seats-quiet}
use Rattle.wit_core.proofs.Entries.Accepting.{accepted, known-now, left-by, owed_now, sane_next}
use Rattle.wit_core.proofs.Entries.Accepting.{seats-now, watch-now, within}

module _ {v : Inside} {s : Story} (this : IsSeenAs v s) where
  asked-now : (t : ℕ) (l : LockNo) → answer_of s t (GiveUp l) ≡ Ok Done
      → (q : Request) × (pending t (history_in v) ≡ Some q)
  asked-now t l ok =
      let a =
      give_up_accepted (state_of (story_in v)) t l.0 Done
      (accepted this t (GiveUp l) Done ok) in
      let p =
      asked-lock l.0 (pending t (history_in v))
      (ap (is_for l.0) (sym (pending-state (start_in v) v.known.files
      (history_in v) t a.seat)) ∙ a.asked) in
      (p.0, p.1)

  pub give_up_owed : (t : ℕ) (l : LockNo) → answer_of s t (GiveUp l) ≡ Ok Done → 1 < v.log.owed
  give_up_owed t l ok =
      let in_row = within this t (GiveUp l) Done ok in
      let asked = asked-now t l ok in
      let less =
      owed-give_up v.limits.seats t l Done asked.0 (history_in v)
      (sane_next this t (GiveUp l) Done ok) in_row.0 in_row.1 asked.1 in
      omega (arith, less, owed_now this)

  pub leaves_give_up : (t : ℕ) (l : LockNo) → answer_of s t (GiveUp l) ≡ Ok Done
      → Leaves v t (GiveUp l) Done (known_in v) v.known.live
      (with_seat t (asking None) v.seats) v.watch (v.log.owed - (1 + 1))
  leaves_give_up t l ok =
      let sane = sane_next this t (GiveUp l) Done ok in
      let in_row = within this t (GiveUp l) Done ok in
      let asked = asked-now t l ok in
      let less =
      owed-give_up v.limits.seats t l Done asked.0
      (history_in v) sane in_row.0 in_row.1 asked.1 in
      left-by this t (GiveUp l) Done _ _ _ _ _
      (known-now this ∙ known-same (start_in v) (history_in v) t
      (GiveUp l) Done refl refl refl refl)
      this.tied.live
      (seats-quiet (start_in v) v.known.files (history_in v) v.seats
      (seats-now this) t in_row.0 in_row.1 (GiveUp l) Done None sane refl refl)
      (watch-now this) (omega (arith, less, owed_now this)) refl
