-- An order that is defined by a call, without an acquisition: witness_defineorder of
-- subr_witness.c.
use Rattle.std.specs.Prelude.{ℕ, Bool, not, ◌&&◌, ◌||◌, ◌==◌, List, Result, Ok, Err, if◌then◌else◌}
use Rattle.wit_model.specs.declared.faults.Fault.{Fault}
use Rattle.wit_model.specs.declared.faults.Fault.TheVariants.{WrongOrder, SameType, KindMismatch}
use Rattle.wit_model.specs.declared.locks.TypeNo.{TypeNo}
use Rattle.wit_model.specs.declared.calls.Adoption.{Adoption}
use Rattle.wit_model.specs.declared.calls.Reply.{Reply}
use Rattle.wit_model.specs.declared.calls.Reply.TheVariants as reply
use Rattle.wit_model.specs.Rules.Types.{LockType, class_of, is_spin}
use Rattle.wit_model.specs.Rules.Locks.{lock_at}
use Rattle.wit_model.specs.Rules.Orders.{is_direct, is_before}
use Rattle.wit_model.specs.Rules.History.{is_off}
use Rattle.wit_model.specs.Rules.State.{Known, State}
use Rattle.wit_model.specs.Rules.Questions.{about_lock, before_naming, with_room}

-- whether one type is of the spin kind and the other of the sleep kind
abbrev pub are_of_two_kinds : List LockType → TypeNo → TypeNo → Bool
are_of_two_kinds types a b =
    (is_spin (class_of a.0 types) && not (is_spin (class_of b.0 types)))
    || (not (is_spin (class_of a.0 types)) && is_spin (class_of b.0 types))

-- the answer to the defining of an order between two types, the first to be before the second,
-- where these types and orders are known
abbrev pub defining : List LockType → List Adoption → TypeNo → TypeNo → Result Reply Fault
defining types orders a b =
    if are_of_two_kinds types a b then Err KindMismatch
    else if a.0 == b.0 then Err SameType
    else if is_before orders b.0 a.0 then Err WrongOrder
    else if is_direct orders a.0 b.0 then Ok reply.Known
    else Ok (reply.Adopted a b)

-- the answer for the types of two locks
abbrev pub define : Known → ℕ → ℕ → Result Reply Fault
define k a b = defining k.types k.orders (lock_at k.locks a).type_no (lock_at k.locks b).type_no

-- it is passed over where nothing is watched
abbrev pub step_define : State → ℕ → ℕ → ℕ → Result Reply Fault
step_define s t a b =
    about_lock s t a (before_naming s t b (
    if is_off s.watch then Ok reply.Ignored
    else with_room s 1 (define s.known a b)))
