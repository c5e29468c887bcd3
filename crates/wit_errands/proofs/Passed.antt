-- Where everything is watched, no call is passed over that makes or destroys a lock, defines an
-- order or sets the watch.
use Rattle.std.proofs.Common.{◌≡◌, ℕ, Bool, true, false, cond, Result, Ok, Err, refl, ap, sym, ◌∙◌}
use Rattle.std.specs.Prelude.{◌==◌}
use Rattle.std.proofs.lemmas.Bool.{true≢false}
use Rattle.wit_model.specs.declared.faults.Fault.{Fault}
use Rattle.wit_model.specs.declared.faults.Fault.TheVariants.{KindMismatch, SameType, WrongOrder}
use Rattle.wit_model.specs.declared.calls.Call.{Call}
use Rattle.wit_model.specs.declared.calls.Call.TheVariants.{Init, SetWatch, Destroy, DefineOrder}
use Rattle.wit_model.specs.declared.calls.Reply.{Reply}
use Rattle.wit_model.specs.declared.calls.Reply.TheVariants.{Ignored, Known, Adopted}
use Rattle.wit_model.specs.declared.locks.TypeNo.{TypeNo}
use Rattle.wit_model.specs.Rules.Locks.{lock_at}
use Rattle.wit_model.specs.Rules.Orders.{is_direct, is_before}
use Rattle.wit_model.specs.Rules.History.{is_off}
use Rattle.wit_model.specs.Rules.State.{State, is_seat, is_live}
use Rattle.wit_model.specs.Rules.Defining.{are_of_two_kinds, define, step_define}
use Rattle.wit_model.specs.Rules.Step.{is_pending, with_room, step, is_logged}
use Rattle.wit_model.proofs.Histories.Accepted.{passed, passed_not, same_reply, roomy}
use Rattle.wit_model.proofs.Histories.AcceptedLocks.{watch_accepted, init_accepted}
use Rattle.wit_model.proofs.Histories.AcceptedLocks.{destroy_accepted}
use Rattle.wit_errands.specs.Settled.{is_calm_call}

done-logged : (r : Reply) → is_logged r ≡ true → r ≡ Ignored → ⊥
done-logged r logged is = true≢false (sym logged ∙ ap is_logged is)

never-passed : (a b c d : Bool) (x y : TypeNo)
    → cond {A = Result Reply Fault} a (Err KindMismatch)
    (cond b (Err SameType) (cond c (Err WrongOrder) (cond d (Ok Known) (Ok (Adopted x y)))))
    ≡ Ok Ignored → ⊥
never-passed true b c d x y is = (cc)
never-passed false true c d x y is = (cc)
never-passed false false true d x y is = (cc)
never-passed false false false true x y is = done-logged Known refl (same_reply is)
never-passed false false false false x y is = done-logged (Adopted x y) refl (same_reply is)

watched : (off : Bool) (rest : Result Reply Fault) → off ≡ false
    → cond off (Ok Ignored) rest ≡ Ok Ignored → rest ≡ Ok Ignored
watched true rest on is = absurd (true≢false on)
watched false rest on is = is

none-defined : (s : State) (t a b : ℕ) → is_off s.watch ≡ false
    → step_define s t a b ≡ Ok Ignored → ⊥
none-defined s t a b on ok =
    let d = passed_not (is_seat s t) _ _ Ignored ok in
    let e = passed_not (is_live s a) _ _ Ignored d.1 in
    let h =
    passed_not (is_live s b) _ _ Ignored (passed_not (is_seat s t) _ _ Ignored e.1).1 in
    let f = passed (is_pending s t) _ _ Ignored h.1 in
    let g =
    roomy s 1 (define s.known a b) Ignored
    (watched (is_off s.watch) (with_room s 1 (define s.known a b)) on f.1) in
    let x = (lock_at s.known.locks a).type_no in
    let y = (lock_at s.known.locks b).type_no in
    never-passed (are_of_two_kinds s.known.types x y) (x.0 == y.0)
    (is_before s.known.orders y.0 x.0) (is_direct s.known.orders x.0 y.0) x y g.0

pub passed-calm : (s : State) (t : ℕ) (c : Call) → is_off s.watch ≡ false
    → step s t c ≡ Ok Ignored → is_calm_call c ≡ true
passed-calm s t (Init lock) on ok =
    absurd (done-logged Ignored (ap is_logged (init_accepted s t lock Ignored ok).reply) refl)
passed-calm s t (Destroy l) on ok =
    absurd (done-logged Ignored (ap is_logged (destroy_accepted s t l.0 Ignored ok).reply) refl)
passed-calm s t (SetWatch w) on ok =
    absurd (done-logged Ignored (ap is_logged (watch_accepted s t w Ignored ok).reply) refl)
passed-calm s t (DefineOrder a b) on ok = absurd (none-defined s t a.0 b.0 on ok)
passed-calm s t c on ok = refl
