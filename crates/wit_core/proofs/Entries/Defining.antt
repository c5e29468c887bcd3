-- An order that is defined.
use Rattle.std.proofs.Common.{◌≡◌, ℕ, ◌+◌, Ok, refl, sym, ap, ◌∙◌, arith, append-nil}
use Rattle.wit_model.specs.declared.locks.LockNo.{LockNo}
use Rattle.wit_model.specs.declared.calls.Call.TheVariants.{DefineOrder}
use Rattle.wit_model.specs.declared.calls.Reply.{Reply}
use Rattle.wit_model.specs.declared.calls.Reply.TheVariants as reply
use Rattle.wit_model.specs.Rules.State.{Story, Known, known_of, typed_locks}
use Rattle.wit_model.specs.Rules.Step.{answer_of}
use Rattle.wit_model.proofs.Chains.Owed.{owed-same}
use Rattle.wit_core.specs.declared.verifier.Verifier.TheInside.{Inside}
use Rattle.wit_known.specs.Defining.{with_defined, IsDefined}
use Rattle.wit_core.specs.Kept.{start_in, history_in, known_in}
use Rattle.wit_core.proofs.Keeping.{Leaves}
use Rattle.wit_core.proofs.Seen.{IsSeenAs}
use Rattle.wit_core.proofs.Steps.{same_locks, known-same, seats-same}
use Rattle.wit_core.proofs.Entries.Accepting.{known-now, left-by, owed_now, sane_next, seats-now}
use Rattle.wit_core.proofs.Entries.Accepting.{watch-now, within}

module _ {v : Inside} {s : Story} (this : IsSeenAs v s) where
  pub leaves_define : (t : ℕ) (a b : LockNo) (r : Reply)
      → answer_of s t (DefineOrder a b) ≡ Ok r → IsDefined r
      → Leaves v t (DefineOrder a b) r (with_defined (known_in v) r) v.known.live v.seats v.watch
      (v.log.owed + 0)
  leaves_define t a b reply.Known ok one =
      let sane = sane_next this t (DefineOrder a b) reply.Known ok in
      let in_row = within this t (DefineOrder a b) reply.Known ok in
      let same =
      owed-same v.limits.seats t (DefineOrder a b) reply.Known
      (history_in v) sane in_row.0 in_row.1 refl refl in
      left-by this t (DefineOrder a b) reply.Known _ _ _ _ _
      (known-now this ∙ known-same (start_in v) (history_in v) t
      (DefineOrder a b) reply.Known refl refl refl refl)
      this.tied.live
      (seats-same (start_in v) v.known.files (history_in v) v.seats
      (seats-now this) t in_row.0 in_row.1 (DefineOrder a b) reply.Known sane refl refl)
      (watch-now this) (omega (arith, same, owed_now this)) refl
  leaves_define t a b (reply.Adopted p c) ok one =
      let sane = sane_next this t (DefineOrder a b) (reply.Adopted p c) ok in
      let in_row = within this t (DefineOrder a b) (reply.Adopted p c) ok in
      let same =
      owed-same v.limits.seats t (DefineOrder a b) (reply.Adopted p c)
      (history_in v) sane in_row.0 in_row.1 refl refl in
      left-by this t (DefineOrder a b) (reply.Adopted p c) _ _ _ _ _
      (ap (λ (x : Known). with_defined x (reply.Adopted p c)) (known-now this)
      ∙ sym (same_locks (with_defined (known_of (start_in v) (history_in v)) (reply.Adopted p c)) _
      (append-nil (typed_locks (start_in v) (history_in v)))))
      this.tied.live
      (seats-same (start_in v) v.known.files (history_in v) v.seats
      (seats-now this) t in_row.0 in_row.1 (DefineOrder a b) (reply.Adopted p c) sane refl refl)
      (watch-now this) (omega (arith, same, owed_now this)) refl
  leaves_define t a b _ ok one = absurd one
