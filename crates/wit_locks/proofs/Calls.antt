-- What the calls of a lock leave, from what the verifier's calls told the seat.
use Rattle.std.proofs.Common.{◌≡◌, ℕ, Bool, cond, List, [], ◌∷◌, ◌++◌, Option, None, Some, Result}
use Rattle.std.proofs.Common.{Ok, Err, IsOk, refl, ap, sym, ◌∙◌, subst, inl, inr}
use Rattle.wit_model.specs.declared.faults.Fault.{Fault}
use Rattle.wit_model.specs.declared.faults.Fault.TheVariants.{GateRefused, RecursionTooDeep}
use Rattle.wit_model.specs.declared.locks.LockNo.{LockNo}
use Rattle.wit_model.specs.declared.locks.Mode.{Mode}
use Rattle.wit_model.specs.declared.locks.Site.{Site}
use Rattle.wit_model.specs.declared.calls.Call.{Call}
use Rattle.wit_model.specs.declared.calls.Call.TheVariants.{Check, Destroy, GiveUp, Init, Note}
use Rattle.wit_model.specs.declared.calls.Call.TheVariants.{NoteTry}
use Rattle.wit_model.specs.declared.calls.Entry.{Entry}
use Rattle.wit_model.specs.declared.calls.NewLock.{NewLock}
use Rattle.wit_model.specs.declared.calls.Reply.{Reply}
use Rattle.wit_model.specs.declared.calls.Reply.TheVariants.{Done, Made}
use Rattle.wit_model.specs.declared.calls.Request.{Request}
use Rattle.wit_model.specs.Rules.State.{Start, Story, state_of}
use Rattle.wit_model.specs.Rules.Step.{Answers, AnswersOrFails, is_logged}
use Rattle.wit_model.proofs.Histories.Accepted.{give_up_accepted}
use Rattle.wit_gates.specs.Asking.{latest_mode_asked}
use Rattle.wit_seats.specs.declared.views.SeatKnowledge.{SeatKnowledge}
use Rattle.wit_seats.specs.Seats.{Told}
use Rattle.wit_shared.specs.Own.{AsksFor, Leaves, entries_left, entry}
use Rattle.wit_shared.proofs.Logged.{check_logged, note_logged, try_logged}
use Rattle.wit_shared.proofs.Own.{asks_now, leaves, leaves_or_fails}
use Rattle.wit_locks.specs.Locking.{Acquires, Enters, EntersBoth, FailsToAcquire, FailsToRecurse}
use Rattle.wit_locks.specs.Locking.{IsMade}

-- a call is told by one that may fail, or by one that may not
abbrev pub Answered : Start → Call → Result Reply Fault → SeatKnowledge → SeatKnowledge → Type 0
Answered start call result v w = Told start [] (λ s new. Answers s v.seat call result new) v w

abbrev pub AnsweredOrFailed : Start → Call → Result Reply Fault → SeatKnowledge → SeatKnowledge
    → Type 0
AnsweredOrFailed start call result v w =
    Told start [] (λ s new. AnswersOrFails s v.seat call result new) v w

-- the latest entry is that of the call
latest : (rules : Story → ℕ → Call → Result Reply Fault → Story
    → Type 0) (start : Start) (call : Call) (reply : Reply) (v w : SeatKnowledge)
    → Enters rules start call reply v w → w.own ≡ entry w.seat call reply ∷ v.own
latest rules start call reply v w e =
    e.1.own
    ∙ ap (λ b. cond b (entry v.seat call reply ∷ []) [] ++ v.own) e.0
    ∙ ap (λ t. entry t call reply ∷ v.own) (sym e.1.seat)

pub check_entered : (start : Start) (q : Request) (reply : Reply) (v w : SeatKnowledge)
    → AnsweredOrFailed start (Check q) (Ok reply) v w
    → Enters AnswersOrFails start (Check q) reply v w
check_entered start q reply v w told = (
  check_logged (state_of told.before) v.seat q reply told.did.0,
  leaves_or_fails start (Check q) (Ok reply) v w told,
)

pub note_entered : (start : Start) (lock : LockNo) (reply : Reply) (v w : SeatKnowledge)
    → Answered start (Note lock) (Ok reply) v w → Enters Answers start (Note lock) reply v w
note_entered start lock reply v w told = (
  note_logged (state_of told.before) v.seat lock.0 reply told.did.0,
  leaves start (Note lock) (Ok reply) v w told,
)

pub give_up_entered : (start : Start) (lock : LockNo) (reply : Reply) (v w : SeatKnowledge)
    → Answered start (GiveUp lock) (Ok reply) v w → Enters Answers start (GiveUp lock) Done v w
give_up_entered start lock reply v w told = (
  refl,
  subst (λ r. Leaves Answers start (GiveUp lock) (Ok r) v w)
      (give_up_accepted (state_of told.before) v.seat lock.0 reply told.did.0).reply
      (leaves start (GiveUp lock) (Ok reply) v w told),
)

pub try_entered : (start : Start) (lock : LockNo) (mode : Mode) (site : Site)
    (reply : Reply) (v w : SeatKnowledge)
    → AnsweredOrFailed start (NoteTry lock mode site) (Ok reply) v w
    → Enters AnswersOrFails start (NoteTry lock mode site) reply v w
try_entered start lock mode site reply v w told = (
  try_logged (state_of told.before) v.seat lock.0 mode site reply told.did.0,
  leaves_or_fails start (NoteTry lock mode site) (Ok reply) v w told,
)

-- right behind an accepted check the seat asks for the lock, in that mode
pub asks_for : (start : Start) (q : Request) (reply : Reply) (v w : SeatKnowledge)
    → AnsweredOrFailed start (Check q) (Ok reply) v w → AsksFor w q.lock
asks_for start q reply v w told =
    asks_now w q reply v.own (latest AnswersOrFails start (Check q) reply v w
    (check_entered start q reply v w told))

pub asks_mode : (start : Start) (q : Request) (reply : Reply) (v w : SeatKnowledge)
    → AnsweredOrFailed start (Check q) (Ok reply) v w → latest_mode_asked w.own ≡ Some q.mode
asks_mode start q reply v w told =
    ap latest_mode_asked (latest AnswersOrFails start (Check q) reply v w
    (check_entered start q reply v w told))

-- the check and the note
pub acquires : (start : Start) (q : Request) (asked noted : Reply) (v u w : SeatKnowledge)
    → AnsweredOrFailed start (Check q) (Ok asked) v u → Answered start (Note q.lock) (Ok noted) u w
    → EntersBoth start (Check q) asked (Note q.lock) noted v w
acquires start q asked noted v u w check note =
    record {
      between = u;
      earlier = check_entered start q asked v u check;
      later = note_entered start q.lock noted u w note;
    }

-- the check, and the request given up
pub gives_up : (start : Start) (q : Request) (asked reply : Reply) (v u w : SeatKnowledge)
    → AnsweredOrFailed start (Check q) (Ok asked) v u
    → Answered start (GiveUp q.lock) (Ok reply) u w
    → EntersBoth start (Check q) asked (GiveUp q.lock) Done v w
gives_up start q asked reply v u w check dropped =
    record {
      between = u;
      earlier = check_entered start q asked v u check;
      later = give_up_entered start q.lock reply u w dropped;
    }

-- a call that was refused
pub refused : (start : Start) (call : Call) (fault : Fault) (v w : SeatKnowledge)
    → AnsweredOrFailed start call (Err fault) v w
    → Leaves AnswersOrFails start call (Err fault) v w
refused start call fault v w told = leaves_or_fails start call (Err fault) v w told

-- what was accepted isn't refused
pub unrefused : (result : Result Reply Fault) (fault : Fault) → IsOk result → result ≡ Err fault → ⊥
unrefused (Ok reply) fault ok is = cc
unrefused (Err f) fault ok is = cc
