-- What callers are told under a number; nothing under a number that was never given.
use Rattle.std.specs.Prelude.{ℕ, ◌&&◌, List, Option, None, Some, if◌then◌else◌}
use Rattle.std.specs.Option.{option_map}
use Rattle.wit_model.specs.declared.locks.Class.{Class}
use Rattle.wit_model.specs.declared.locks.Lock.{Lock}
use Rattle.wit_model.specs.declared.locks.LockType.{LockType}
use Rattle.wit_model.specs.declared.locks.TypeNo.{TypeNo}
use Rattle.wit_model.specs.Rules.Numbers.{is_given, with_number}
use Rattle.wit_model.specs.Rules.Orders.{cell}
use Rattle.wit_model.specs.Rules.State.{Known}

abbrev pub lock_name : List Lock → ℕ → Option (List ℕ)
lock_name locks n = option_map (λ (l : Lock). l.made.name) (with_number locks n)

abbrev pub lock_type : List Lock → ℕ → Option TypeNo
lock_type locks n = option_map (λ (l : Lock). l.type_no) (with_number locks n)

abbrev pub type_name : List LockType → ℕ → Option (List ℕ)
type_name types n = option_map (λ (t : LockType). t.name) (with_number types n)

abbrev pub type_class : List LockType → ℕ → Option Class
type_class types n = option_map (λ (t : LockType). t.class) (with_number types n)

-- the relation of two types, in the bits of subr_witness.c's matrix
abbrev pub relation : Known → ℕ → ℕ → Option ℕ
relation k a b =
    if is_given k.types a && is_given k.types b then Some (cell k.orders k.found a b) else None
