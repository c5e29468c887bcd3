-- What the acceptance of a call says that turns, marks or defines; and of one that leaves requests
-- and acquisitions as they are.
use Rattle.std.proofs.Common.{◌≡◌, ℕ, Bool, true, false, cond, eqb, nat_lt, Option, Some}
use Rattle.std.proofs.Common.{None, Result, Ok, Err, refl, ap, sym, ◌∙◌}
use Rattle.std.proofs.lemmas.Bool.{false≢true}
use Rattle.wit_model.specs.declared.faults.Fault.{Fault}
use Rattle.wit_model.specs.declared.faults.Fault.TheVariants.{KindMismatch, SameType}
use Rattle.wit_model.specs.declared.faults.Fault.TheVariants.{WrongOrder}
use Rattle.wit_model.specs.declared.locks.Watch.{Watch}
use Rattle.wit_model.specs.declared.locks.TypeNo.{TypeNo}
use Rattle.wit_model.specs.declared.locks.Instance.{Instance}
use Rattle.wit_model.specs.declared.calls.Call.{Call}
use Rattle.wit_model.specs.declared.calls.Call.TheVariants.{SetWatch, Destroy, Upgrade, Downgrade}
use Rattle.wit_model.specs.declared.calls.Call.TheVariants.{NoRelease, ReleaseOk, DefineOrder}
use Rattle.wit_model.specs.declared.calls.Reply.{Reply}
use Rattle.wit_model.specs.declared.calls.Reply.TheVariants.{Done, Adopted, Known, Ignored}
use Rattle.wit_model.specs.Rules.History.{is_on, is_off}
use Rattle.wit_model.specs.Rules.Orders.{is_direct, is_before}
use Rattle.wit_model.specs.Rules.Locks.{lock_at}
use Rattle.wit_model.specs.Rules.State.{State, is_seat, is_live, has_room}
use Rattle.wit_model.specs.Rules.Verdict.{is_exclusive}
use Rattle.wit_model.specs.Rules.Step.{held_by, is_pending, step, is_logged}
use Rattle.wit_model.specs.Rules.Numbers.{is_given}
use Rattle.wit_model.specs.Rules.Questions.{class_at, with_entry}
use Rattle.wit_model.specs.Rules.Types.{is_shareable}
use Rattle.wit_model.specs.Rules.Turning.{upgraded, downgraded, mark_answer}
use Rattle.wit_model.specs.Rules.Turning.{step_turn, step_mark}
use Rattle.wit_model.specs.Rules.Defining.{are_of_two_kinds, define, step_define}
use Rattle.wit_model.proofs.Histories.Accepted.{passed, passed_not, same_reply, live-given, roomy}
use Rattle.wit_model.proofs.Histories.Accepted.{missed}
use Rattle.wit_model.proofs.Histories.AcceptedLocks.{watch_accepted, destroy_accepted}

-- a call that may be passed over, and isn't
entered : (s : State) (v : Result Reply Fault) (r : Reply) → is_logged r ≡ true
    → with_entry s v ≡ Ok r → (v ≡ Ok r) × (has_room s 1 ≡ true)
entered s (Ok Ignored) r kept ok = absurd (false≢true (ap is_logged (same_reply ok) ∙ kept))
entered s v r kept ok = roomy s 1 v r ok

-- what is found of a lock whose mode is turned: it is held in the other mode (here, whether that is
-- the exclusive one), and once
pub record TurnAccepted (s : State) (t l : ℕ) (exclusive : Bool) (r : Reply) : Type 0 where
  pub seat : is_seat s t ≡ true
  pub lock : is_given s.known.locks l ≡ true
  pub live : is_live s l ≡ true
  pub idle : is_pending s t ≡ false
  pub class : is_shareable (class_at s l) ≡ true
  pub instance : Instance
  pub held : held_by s t l ≡ Some instance
  pub mode : is_exclusive instance.mode ≡ exclusive
  pub single : nat_lt 0 instance.count ≡ false
  pub room : has_room s 1 ≡ true
  pub reply : r ≡ Done

-- the lock as it is found
record IsFound (o : Option Instance) (exclusive : Bool) (r : Reply) : Type 0 where
  instance : Instance
  held : o ≡ Some instance
  mode : is_exclusive instance.mode ≡ exclusive
  single : nat_lt 0 instance.count ≡ false
  reply : r ≡ Done

found_up : (watch : Watch) (o : Option Instance) (r : Reply) → is_logged r ≡ true
    → upgraded watch o ≡ Ok r → IsFound o false r
found_up watch None r kept ok = absurd (missed (is_on watch) r kept ok)
found_up watch (Some i) r kept ok =
    let a = passed (is_exclusive i.mode) _ _ r ok in
    let b = passed (nat_lt 0 i.count) _ _ r a.1 in
    record { instance = i; held = refl; mode = a.0; single = b.0; reply = sym (same_reply b.1) }

found_down : (watch : Watch) (o : Option Instance) (r : Reply) → is_logged r ≡ true
    → downgraded watch o ≡ Ok r → IsFound o true r
found_down watch None r kept ok = absurd (missed (is_on watch) r kept ok)
found_down watch (Some i) r kept ok =
    let a = passed_not (is_exclusive i.mode) _ _ r ok in
    let b = passed (nat_lt 0 i.count) _ _ r a.1 in
    record { instance = i; held = refl; mode = a.0; single = b.0; reply = sym (same_reply b.1) }

turn_accepted : (s : State) (t l : ℕ) (exclusive : Bool) (answer : Result Reply Fault) (r : Reply)
    → is_logged r ≡ true
    → (answer ≡ Ok r → IsFound (held_by s t l) exclusive r) → step_turn s t l answer ≡ Ok r
    → TurnAccepted s t l exclusive r
turn_accepted s t l exclusive answer r kept found ok =
    let a = passed_not (is_seat s t) _ _ r ok in
    let b = passed_not (is_live s l) _ _ r a.1 in
    let c = passed (is_pending s t) _ _ r b.1 in
    let d = passed_not (is_shareable (class_at s l)) _ _ r c.1 in
    let e = entered s answer r kept d.1 in
    let f = found e.0 in
    record {
      seat = a.0;
      lock = live-given s l b.0;
      live = b.0;
      idle = c.0;
      class = d.0;
      instance = f.instance;
      held = f.held;
      mode = f.mode;
      single = f.single;
      room = e.1;
      reply = f.reply;
    }

pub upgrade_accepted : (s : State) (t l : ℕ) (r : Reply)
    → step_turn s t l (upgraded s.watch (held_by s t l)) ≡ Ok r
    → is_logged r ≡ true → TurnAccepted s t l false r
upgrade_accepted s t l r ok kept =
    turn_accepted s t l false (upgraded s.watch (held_by s t l)) r kept
    (found_up s.watch (held_by s t l) r kept) ok

pub downgrade_accepted : (s : State) (t l : ℕ) (r : Reply)
    → step_turn s t l (downgraded s.watch (held_by s t l)) ≡ Ok r
    → is_logged r ≡ true → TurnAccepted s t l true r
downgrade_accepted s t l r ok kept =
    turn_accepted s t l true (downgraded s.watch (held_by s t l)) r kept
    (found_down s.watch (held_by s t l) r kept) ok

pub record MarkAccepted (s : State) (t l : ℕ) (r : Reply) : Type 0 where
  pub seat : is_seat s t ≡ true
  pub lock : is_given s.known.locks l ≡ true
  pub live : is_live s l ≡ true
  pub idle : is_pending s t ≡ false
  pub on : is_on s.watch ≡ true
  pub instance : Instance
  pub held : held_by s t l ≡ Some instance
  pub room : has_room s 1 ≡ true
  pub reply : r ≡ Done

marked_on : (on : Bool) (r : Reply) → is_logged r ≡ true
    → cond {A = Result Reply Fault} on (Ok Done) (Ok Ignored) ≡ Ok r → (on ≡ true) × (r ≡ Done)
marked_on true r kept ok = (refl, sym (same_reply ok))
marked_on false r kept ok = absurd (false≢true (ap is_logged (same_reply ok) ∙ kept))

marked_by : (watch : Watch) (o : Option Instance) (r : Reply) → is_logged r ≡ true
    → mark_answer watch o ≡ Ok r
    → (i : Instance) × (o ≡ Some i) × (is_on watch ≡ true) × (r ≡ Done)
marked_by watch None r kept ok = absurd (missed (is_on watch) r kept ok)
marked_by watch (Some i) r kept ok = let a =
    marked_on (is_on watch) r kept ok in (i, refl, a.0, a.1)

pub mark_accepted : (s : State) (t l : ℕ) (r : Reply) → step_mark s t l ≡ Ok r → is_logged r ≡ true
    → MarkAccepted s t l r
mark_accepted s t l r ok kept =
    let a = passed_not (is_seat s t) _ _ r ok in
    let b = passed_not (is_live s l) _ _ r a.1 in
    let c = passed (is_pending s t) _ _ r b.1 in
    let d = entered s (mark_answer s.watch (held_by s t l)) r kept c.1 in
    let e = marked_by s.watch (held_by s t l) r kept d.0 in
    record {
      seat = a.0;
      lock = live-given s l b.0;
      live = b.0;
      idle = c.0;
      on = e.2;
      instance = e.0;
      held = e.1;
      room = d.1;
      reply = e.3;
    }

pub record DefineAccepted (s : State) (t a b : ℕ) (r : Reply) : Type 0 where
  pub seat : is_seat s t ≡ true
  pub first : is_live s a ≡ true
  pub second : is_live s b ≡ true
  pub idle : is_pending s t ≡ false
  pub on : is_off s.watch ≡ false
  pub answer : define s.known a b ≡ Ok r
  pub room : has_room s 1 ≡ true

defined_on : (off : Bool) (rest : Result Reply Fault) (r : Reply) → is_logged r ≡ true
    → cond off (Ok Ignored) rest ≡ Ok r → (off ≡ false) × (rest ≡ Ok r)
defined_on true rest r kept ok = absurd (false≢true (ap is_logged (same_reply ok) ∙ kept))
defined_on false rest r kept ok = (refl, ok)

pub define_accepted : (s : State) (t a b : ℕ) (r : Reply) → step_define s t a b ≡ Ok r
    → is_logged r ≡ true → DefineAccepted s t a b r
define_accepted s t a b r ok kept =
    let d = passed_not (is_seat s t) _ _ r ok in
    let e = passed_not (is_live s a) _ _ r d.1 in
    let h = passed_not (is_live s b) _ _ r (passed_not (is_seat s t) _ _ r e.1).1 in
    let f = passed (is_pending s t) _ _ r h.1 in
    let g = defined_on (is_off s.watch) _ r kept f.1 in
    let i = roomy s 1 (define s.known a b) r g.1 in
    record { seat = d.0; first = e.0; second = h.0; idle = f.0; on = g.0; answer = i.0; room = i.1 }

-- ---- calls that leave requests and acquisitions as they are

abbrev pub is_plain : Call → Bool
is_plain (SetWatch w) = true
is_plain (Destroy l) = true
is_plain (Upgrade l) = true
is_plain (Downgrade l) = true
is_plain (NoRelease l) = true
is_plain (ReleaseOk l) = true
is_plain (DefineOrder a b) = true
is_plain _ = false

-- their replies
abbrev pub is_plain_reply : Reply → Bool
is_plain_reply Done = true
is_plain_reply (Adopted p c) = true
is_plain_reply Known = true
is_plain_reply _ = false

pub record PlainAccepted (s : State) (t : ℕ) (r : Reply) : Type 0 where
  pub seat : is_seat s t ≡ true
  pub idle : is_pending s t ≡ false
  pub room : has_room s 1 ≡ true
  pub reply : is_plain_reply r ≡ true

define_reply : (two same before direct : Bool) (a b : TypeNo) (r : Reply)
    → cond {A = Result Reply Fault} two (Err KindMismatch)
    (cond same (Err SameType) (cond before (Err WrongOrder)
    (cond direct (Ok Known) (Ok (Adopted a b))))) ≡ Ok r
    → is_plain_reply r ≡ true
define_reply true same before direct a b r ok = (cc)
define_reply false true before direct a b r ok = (cc)
define_reply false false true direct a b r ok = (cc)
define_reply false false false true a b r ok = sym (ap is_plain_reply (same_reply ok))
define_reply false false false false a b r ok = sym (ap is_plain_reply (same_reply ok))

turned_plain : (s : State) (t l : ℕ) (exclusive : Bool) (r : Reply) → TurnAccepted s t l exclusive r
    → PlainAccepted s t r
turned_plain s t l exclusive r a =
    record { seat = a.seat; idle = a.idle; room = a.room; reply = ap is_plain_reply a.reply }

marked_plain : (s : State) (t l : ℕ) (r : Reply) → MarkAccepted s t l r → PlainAccepted s t r
marked_plain s t l r a =
    record { seat = a.seat; idle = a.idle; room = a.room; reply = ap is_plain_reply a.reply }

defined_plain : (s : State) (t a b : ℕ) (r : Reply) → DefineAccepted s t a b r → PlainAccepted s t r
defined_plain s t a b r d =
    let p = (lock_at s.known.locks a).type_no in
    let c = (lock_at s.known.locks b).type_no in
    record {
      seat = d.seat;
      idle = d.idle;
      room = d.room;
      reply =
          define_reply (are_of_two_kinds s.known.types p c) (eqb p.0 c.0)
          (is_before s.known.orders c.0 p.0) (is_direct s.known.orders p.0 c.0) p c r d.answer;
    }

pub plain_accepted : (s : State) (t : ℕ) (c : Call) (r : Reply) → is_plain c ≡ true
    → step s t c ≡ Ok r → is_logged r ≡ true → PlainAccepted s t r
plain_accepted s t (SetWatch w) r plain ok kept =
    let a =
    watch_accepted s t w r ok in
    record {
      seat = a.seat;
      idle = a.idle;
      room = a.room;
      reply = ap is_plain_reply a.reply;
    }
plain_accepted s t (Destroy l) r plain ok kept =
    let a =
    destroy_accepted s t l.0 r ok in
    record {
      seat = a.seat;
      idle = a.idle;
      room = a.room;
      reply = ap is_plain_reply a.reply;
    }
plain_accepted s t (Upgrade l) r plain ok kept =
    turned_plain s t l.0 false r (upgrade_accepted s t l.0 r ok kept)
plain_accepted s t (Downgrade l) r plain ok kept =
    turned_plain s t l.0 true r (downgrade_accepted s t l.0 r ok kept)
plain_accepted s t (NoRelease l) r plain ok kept =
    marked_plain s t l.0 r (mark_accepted s t l.0 r ok kept)
plain_accepted s t (ReleaseOk l) r plain ok kept =
    marked_plain s t l.0 r (mark_accepted s t l.0 r ok kept)
plain_accepted s t (DefineOrder a b) r plain ok kept =
    defined_plain s t a.0 b.0 r (define_accepted s t a.0 b.0 r ok kept)
plain_accepted s t c r plain ok kept = absurd (false≢true plain)

-- the seat of such a call is known, also where it is passed over
pub plain_seat : (s : State) (t : ℕ) (c : Call) (r : Reply) → is_plain c ≡ true → step s t c ≡ Ok r
    → is_seat s t ≡ true
plain_seat s t (SetWatch w) r plain ok = (passed_not (is_seat s t) _ _ r ok).0
plain_seat s t (Destroy l) r plain ok = (passed_not (is_seat s t) _ _ r ok).0
plain_seat s t (Upgrade l) r plain ok = (passed_not (is_seat s t) _ _ r ok).0
plain_seat s t (Downgrade l) r plain ok = (passed_not (is_seat s t) _ _ r ok).0
plain_seat s t (NoRelease l) r plain ok = (passed_not (is_seat s t) _ _ r ok).0
plain_seat s t (ReleaseOk l) r plain ok = (passed_not (is_seat s t) _ _ r ok).0
plain_seat s t (DefineOrder a b) r plain ok = (passed_not (is_seat s t) _ _ r ok).0
plain_seat s t c r plain ok = absurd (false≢true plain)
