-- What a program asserts of a lock: witness_assert of witness(4), whose panics are answers here. An
-- assertion isn't logged.
use Rattle.std.specs.Prelude.{ℕ, ◌+◌, Bool, not, ◌&&◌, ◌||◌, ◌==◌, nat_lt, [], ◌∷◌, Option, None}
use Rattle.std.specs.Prelude.{Some, Result, Ok, if◌then◌else◌}
use Rattle.std.specs.List.{list_any}
use Rattle.wit_model.specs.declared.faults.Fault.{Fault}
use Rattle.wit_model.specs.declared.locks.Watch.{Watch}
use Rattle.wit_model.specs.declared.locks.Instance.{Instance}
use Rattle.wit_model.specs.declared.flags.LockAssert.{LockAssert}
use Rattle.wit_model.specs.declared.assertions.AssertAnswer.{AssertAnswer}
use Rattle.wit_model.specs.declared.assertions.AssertAnswer.TheVariants.{Holds, Skipped, Invalid}
use Rattle.wit_model.specs.declared.assertions.AssertAnswer.TheVariants.{IsLocked, IsNotLocked}
use Rattle.wit_model.specs.declared.assertions.AssertAnswer.TheVariants.{IsNotExclusive}
use Rattle.wit_model.specs.declared.assertions.AssertAnswer.TheVariants.{IsExclusive, IsNotRecursed}
use Rattle.wit_model.specs.declared.assertions.AssertAnswer.TheVariants.{IsRecursed}
use Rattle.wit_model.specs.Rules.Locks.{has_flag}
use Rattle.wit_model.specs.Rules.History.{is_on}
use Rattle.wit_model.specs.Rules.State.{State}
use Rattle.wit_model.specs.Rules.Verdict.{is_exclusive}
use Rattle.wit_model.specs.Rules.Questions.{about_lock, held_by}

-- the flags of this set, alone or with one that says how often the lock is acquired (0x10 more than
-- once, 0x20 once)
abbrev pub is_with_count : ℕ → ℕ → Bool
is_with_count flags holds = (flags == holds) || (flags == holds + 0x10) || (flags == holds + 0x20)

-- the sets of flags that an assertion may have: the lock isn't held (0x01); or it is held (0x02),
-- held shared (0x04) or held exclusively (0x08), and perhaps how often
abbrev pub is_assertion : ℕ → Bool
is_assertion flags = (flags == 0x01) || list_any (is_with_count flags) (0x02 ∷ 0x04 ∷ 0x08 ∷ [])

-- the answer for a held lock
abbrev pub asserted_held : ℕ → Instance → AssertAnswer
asserted_held flags i =
    if has_flag flags 0x08 && not (is_exclusive i.mode) then IsNotExclusive
    else if has_flag flags 0x04 && is_exclusive i.mode then IsExclusive
    else if has_flag flags 0x10 && (i.count == 0) then IsNotRecursed
    else if has_flag flags 0x20 && nat_lt 0 i.count then IsRecursed
    else Holds

-- the answer for a lock as the seat holds it, by an allowed set
abbrev pub asserted : ℕ → Option Instance → AssertAnswer
asserted flags None = if has_flag flags 0x01 then Holds else IsNotLocked
asserted flags (Some i) = if has_flag flags 0x01 then IsLocked else asserted_held flags i

-- where less than everything is watched nothing is looked at
abbrev pub assertion : Watch → LockAssert → Option Instance → AssertAnswer
assertion watch flags held =
    if not (is_on watch) then Skipped
    else if not (is_assertion flags.0) then Invalid
    else asserted flags.0 held

abbrev pub step_assert : State → ℕ → ℕ → LockAssert → Result AssertAnswer Fault
step_assert s t l flags = about_lock s t l (Ok (assertion s.watch flags (held_by s t l)))
