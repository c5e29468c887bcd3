use Rattle.std.proofs.Common.{refl, sym, ap, find, ◌≡◌, ◌∙◌, Ok}
use Rattle.std.proofs.lemmas.Result.{err_from_is_err_and}
use Rattle.wit_model.specs.Rules.Types.{is_spin}
use Rattle.wit_model.specs.Rules.State.{Story}
use Rattle.wit_model.specs.Rules.Step.{logged}
use Rattle.wit_model.specs.Rules.Verdict.{is_of}
use Rattle.wit_model.specs.declared.calls.Call.TheVariants.{Unlock}
use Rattle.wit_model.specs.declared.calls.Reply.{Reply}
use Rattle.wit_model.specs.declared.calls.Reply.TheVariants.{Ignored, Unlocked}
use Rattle.wit_model.proofs.Histories.Accepted.{same_reply}
use Rattle.wit_waiting.specs.Seats.{locks_in, seat_in}
use Rattle.wit_core.proofs.Keeping.{kept_entered}
use Rattle.wit_core.proofs.Now.{once-now}
use Rattle.wit_core.proofs.Entries.Accepting.{accepted}
use Rattle.wit_core.proofs.Entries.Unlocking.{unlock_owed, leaves_unlock}
use Rattle.wit_core.proofs.Releasing.{release-told, release-unlocked}
use Rattle.wit_core.proofs.Seen.{seen_as}
use Rattle.wit_core.proofs.Whole.{kept, kept_let_go}
use Rattle.wit_core.proofs.verifier.Verifier.release.Goals as goal

pub release-requires-clause-once : goal.release-requires-clause-once
release-requires-clause-once c =
    once-now (seen_as c.self.invariant c.self.view_is) c.args.seat.0 c.args.lock.0
    c.is_spin-spin.result (c.is_spin-spin.ensures ∙ ap is_spin c.class_of_lock.ensures)
    c.requires.seat

pub returns-in_err-reply : goal.returns-in_err-reply
returns-in_err-reply c =
    let p = err_from_is_err_and c.from_residual.result c.from_residual.ensures.1 in
    rw (p.1, p.2) (
      release-told (seen_as c.self.invariant c.self.view_is) c.args.seat.0 c.args.lock
          c.is_spin-spin.result (c.is_spin-spin.ensures ∙ ap is_spin c.class_of_lock.ensures)
          c.requires.admitted c.args.mode c.watch-watch.result c.watch-watch.ensures
          c.release.result c.release.ensures.result
          ∙ c.in_err-reply.was,
      c.self.view_is,
    )

pub returns-in-Ignored : goal.returns-in-Ignored
returns-in-Ignored c =
    let passed : c.release.result ≡ Ok Ignored = c.in_ok-reply.was ∙ ap Ok c.in-Ignored.is in
    rw c.in-Ignored.is (
      release-told (seen_as c.self.invariant c.self.view_is) c.args.seat.0 c.args.lock
          c.is_spin-spin.result (c.is_spin-spin.ensures ∙ ap is_spin c.class_of_lock.ensures)
          c.requires.admitted c.args.mode c.watch-watch.result c.watch-watch.ensures
          c.release.result c.release.ensures.result
          ∙ passed,
      c.self.view_is,
    )

pub push_owed-requires : goal.push_owed-requires
push_owed-requires c =
    unlock_owed (seen_as c.self.invariant c.self.view_is) c.args.seat.0 c.args.lock
    c.is_spin-spin.result (c.is_spin-spin.ensures ∙ ap is_spin c.class_of_lock.ensures)
    c.args.mode
    (release-told (seen_as c.self.invariant c.self.view_is) c.args.seat.0 c.args.lock
    c.is_spin-spin.result (c.is_spin-spin.ensures ∙ ap is_spin c.class_of_lock.ensures)
    c.requires.admitted c.args.mode c.watch-watch.result c.watch-watch.ensures c.release.result
    c.release.ensures.result
    ∙ release-unlocked c.watch-watch.result c.args.mode
    (find (is_of c.args.lock.0)
    (locks_in c.is_spin-spin.result (seat_in c.self.inside.seats c.args.seat.0)))
    c.in_ok-reply.reply c.release.result c.release.ensures.result c.in_ok-reply.was
    c.in_default.not-Ignored)

pub invariant_of-self-2 : goal.invariant_of-self-2
invariant_of-self-2 c =
    let unlocked =
    release-unlocked c.watch-watch.result c.args.mode
    (find (is_of c.args.lock.0)
    (locks_in c.is_spin-spin.result (seat_in c.self.inside.seats c.args.seat.0)))
    c.in_ok-reply.reply c.release.result c.release.ensures.result c.in_ok-reply.was
    c.in_default.not-Ignored in
    let ok =
    release-told (seen_as c.self.invariant c.self.view_is) c.args.seat.0 c.args.lock
    c.is_spin-spin.result (c.is_spin-spin.ensures ∙ ap is_spin c.class_of_lock.ensures)
    c.requires.admitted c.args.mode c.watch-watch.result c.watch-watch.ensures c.release.result
    c.release.ensures.result
    ∙ unlocked in
    kept_let_go c.self.inside c.self.inside.known c.release.new.self c.self.inside.watch c.push_owed.new.self _
    c.let_go.ensures (kept (
    kept_entered c.self.inside c.args.seat.0 _ _ _ _ _ _ _ _ c.release.new.self _
    c.push_owed.new.self _
    (leaves_unlock (seen_as c.self.invariant c.self.view_is) c.args.seat.0 c.args.lock
    c.is_spin-spin.result (c.is_spin-spin.ensures ∙ ap is_spin c.class_of_lock.ensures)
    c.args.mode ok)
    refl (c.release.ensures.seats unlocked) refl
    c.push_owed.ensures c.self.invariant.tied.found c.self.invariant.tied refl
    (accepted (seen_as c.self.invariant c.self.view_is) c.args.seat.0
    (Unlock c.args.lock c.args.mode) Unlocked ok)))

pub returns : goal.returns
returns c =
    let unlocked =
    release-unlocked c.watch-watch.result c.args.mode
    (find (is_of c.args.lock.0)
    (locks_in c.is_spin-spin.result (seat_in c.self.inside.seats c.args.seat.0)))
    c.in_ok-reply.reply c.release.result c.release.ensures.result c.in_ok-reply.was
    c.in_default.not-Ignored in
    let reply : ◌≡◌ {A = Reply} c.in_ok-reply.reply Unlocked =
    same_reply (sym c.in_ok-reply.was ∙ unlocked) in
    rw (reply, c.let_go.ensures, c.push_owed.ensures) (
      release-told (seen_as c.self.invariant c.self.view_is) c.args.seat.0 c.args.lock
          c.is_spin-spin.result (c.is_spin-spin.ensures ∙ ap is_spin c.class_of_lock.ensures)
          c.requires.admitted c.args.mode c.watch-watch.result c.watch-watch.ensures
          c.release.result c.release.ensures.result
          ∙ unlocked,
      ap (λ (s : Story). logged s c.args.seat.0 (Unlock c.args.lock c.args.mode) Unlocked)
          c.self.view_is,
    )
