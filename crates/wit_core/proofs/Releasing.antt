-- What a release is answered, by the seats' one look for the lock.
use Rattle.std.proofs.Common.{◌≡◌, ◌≢◌, ℕ, Bool, true, false, cond, Option, None, Some, Result}
use Rattle.std.proofs.Common.{Ok, Err, find, sym, ap, ◌∙◌}
use Rattle.wit_model.specs.declared.locks.Instance.{Instance}
use Rattle.wit_model.specs.declared.locks.LockNo.{LockNo}
use Rattle.wit_model.specs.declared.locks.Mode.{Mode}
use Rattle.wit_model.specs.declared.locks.Watch.{Watch}
use Rattle.wit_model.specs.declared.faults.Fault.{Fault}
use Rattle.wit_model.specs.declared.faults.Fault.TheVariants.{NotLocked}
use Rattle.wit_model.specs.declared.calls.Call.TheVariants.{Unlock}
use Rattle.wit_model.specs.declared.calls.Reply.{Reply}
use Rattle.wit_model.specs.declared.calls.Reply.TheVariants.{Unlocked, Ignored}
use Rattle.wit_model.specs.Rules.History.{is_on}
use Rattle.wit_model.specs.Rules.Locks.{lock_at}
use Rattle.wit_model.specs.Rules.State.{Story, state_of}
use Rattle.wit_model.specs.Rules.Step.{answer_of, held_by, before_naming, released}
use Rattle.wit_model.specs.Rules.Types.{is_spin}
use Rattle.wit_model.specs.Rules.Verdict.{is_of}
use Rattle.wit_model.proofs.Histories.Accepted.{same_reply, unlocked_reply}
use Rattle.wit_core.specs.declared.verifier.Verifier.TheInside.{Inside}
use Rattle.wit_core.specs.Replies.{Admits}
use Rattle.wit_waiting.specs.Seats.{seat_in, locks_in}
use Rattle.wit_core.proofs.Now.{chain-now}
use Rattle.wit_core.proofs.Seen.{IsSeenAs}

module _ {v : Inside} {s : Story} (this : IsSeenAs v s) (t : ℕ) (l : LockNo) (spin : Bool)
    (kind : spin ≡ is_spin (lock_at (state_of s).known.locks l.0).made.class) where
  pub release-told : Admits (before_naming (state_of s) t l.0) → (m : Mode) (w : Watch)
      → w ≡ (state_of s).watch
      → (r : Result Reply Fault)
      → r ≡ released w m (find (is_of l.0) (locks_in spin (seat_in v.seats t)))
      → answer_of s t (Unlock l m) ≡ r
  release-told admitted m w watch r told =
      admitted (released (state_of s).watch m (held_by (state_of s) t l.0))
      ∙ sym (told
      ∙ ap (λ x. released x m (find (is_of l.0) (locks_in spin (seat_in v.seats t)))) watch
      ∙ ap (λ chain. released (state_of s).watch m (find (is_of l.0) chain))
      (chain-now this t l.0 spin kind))

-- one that is neither refused nor passed over is recorded
pub release-unlocked : (w : Watch) (m : Mode) (o : Option Instance) (reply : Reply)
    (r : Result Reply Fault) → r ≡ released w m o → r ≡ Ok reply → reply ≢ Ignored
    → r ≡ Ok Unlocked
release-unlocked w m o reply r told ok kept = ok ∙ ap Ok (by o (sym told ∙ ok))
  where
    none : (on : Bool) → cond {A = Result Reply Fault} on (Err NotLocked) (Ok Ignored) ≡ Ok reply
        → ⊥
    none true is = (cc)
    none false is = kept (sym (same_reply is))

    by : (o : Option Instance) → released w m o ≡ Ok reply → reply ≡ Unlocked
    by None is = absurd (none (is_on w) is)
    by (Some i) is = unlocked_reply w m i reply is
