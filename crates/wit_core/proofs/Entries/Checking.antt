-- A request.
use Rattle.std.proofs.Common.{◌≡◌, ℕ, ◌+◌, ◌<◌, false, Option, None, Some, Ok, length, refl, sym}
use Rattle.std.proofs.Common.{ap, ◌∙◌, arith, is_some, append-nil}
use Rattle.std.proofs.lemmas.Bool.{true≢false}
use Rattle.wit_model.specs.declared.locks.Watch.{Watch}
use Rattle.wit_model.specs.declared.calls.Request.{Request}
use Rattle.wit_model.specs.declared.calls.Call.TheVariants.{Check}
use Rattle.wit_model.specs.declared.calls.Reply.{Reply}
use Rattle.wit_model.specs.declared.calls.Reply.TheVariants.{Exhausted}
use Rattle.wit_model.specs.Laws.{is_exhaustion}
use Rattle.wit_model.specs.Rules.History.{watch_of, watch_after}
use Rattle.wit_model.specs.Rules.State.{Story, Known, known_of, typed_locks, state_of}
use Rattle.wit_model.specs.Rules.Step.{answer_of}
use Rattle.wit_model.proofs.Chains.Owed.{owed-check}
use Rattle.wit_model.proofs.Histories.Accepted.{check_accepted}
use Rattle.wit_model.proofs.Histories.Exhaustion.{check-told}
use Rattle.wit_model.proofs.Histories.Legal.{pending-state}
use Rattle.wit_core.specs.declared.verifier.Verifier.TheInside.{Inside}
use Rattle.wit_core.specs.Journal.{Journal}
use Rattle.wit_core.specs.Kept.{start_in, history_in, story_in, known_in}
use Rattle.wit_known.specs.Known.{learnt}
use Rattle.wit_waiting.specs.Seats.{with_seat, asking}
use Rattle.wit_core.proofs.Keeping.{Leaves}
use Rattle.wit_core.proofs.Seen.{IsSeenAs}
use Rattle.wit_core.proofs.Steps.{same_locks, seats-quiet}
use Rattle.wit_core.proofs.Entries.Accepting.{accepted, known-now, left-by, owed_now, room_left}
use Rattle.wit_core.proofs.Entries.Accepting.{sane_next, seats-now, watch-now, within}

-- a check leaves the watch level
same_watch : (q : Request) (r : Reply) (w : Watch) → is_exhaustion r ≡ false
    → watch_after (Check q) r w ≡ w
same_watch q Exhausted w plain = absurd (true≢false plain)
same_watch q r w plain = refl

none_from : (o : Option Request) → is_some o ≡ false → o ≡ None
none_from None e = refl
none_from (Some q) e = absurd (true≢false e)

module _ {v : Inside} {s : Story} (this : IsSeenAs v s) where
  pub check_room : (t : ℕ) (q : Request) (r : Reply) (log : Journal)
      → answer_of s t (Check q) ≡ Ok r → log ≡ record v.log { spare = log.spare }
      → length log.history + log.owed + 2 < log.limit
  check_room t q r log ok same =
      room_left this 2 log (check_accepted (state_of (story_in v)) t q r
      (accepted this t (Check q) r ok)).room same

  pub leaves_check : (t : ℕ) (q : Request) (r : Reply) → answer_of s t (Check q) ≡ Ok r
      → Leaves v t (Check q) r (learnt (known_in v) q r) v.known.live
      (with_seat t (asking (Some q)) v.seats) v.watch (v.log.owed + 2)
  leaves_check t q r ok =
      let sane = sane_next this t (Check q) r ok in
      let in_row = within this t (Check q) r ok in
      let at = check_accepted (state_of (story_in v)) t q r (accepted this t (Check q) r ok) in
      let idle =
      none_from _ (sym (ap (λ (o : Option Request). is_some o)
      (pending-state (start_in v) v.known.files (history_in v) t at.seat)) ∙ at.idle) in
      let more = owed-check v.limits.seats t q r (history_in v) sane in_row.0 in_row.1 idle in
      left-by this t (Check q) r _ _ _ _ _
      (ap (λ (x : Known). learnt x q r) (known-now this)
      ∙ sym (same_locks (learnt (known_of (start_in v) (history_in v)) q r) _
      (append-nil (typed_locks (start_in v) (history_in v)))))
      this.tied.live
      (seats-quiet (start_in v) v.known.files (history_in v) v.seats
      (seats-now this) t in_row.0 in_row.1 (Check q) r (Some q) sane refl refl)
      (watch-now this ∙ sym (same_watch q r (watch_of (history_in v))
      (check-told (state_of s) t q r ok))) (omega (arith, more, owed_now this)) refl
