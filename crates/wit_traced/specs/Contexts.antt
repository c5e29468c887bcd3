-- The context of a line, and what may come meanwhile, by its flags: `d` interrupts are off, `b` soft ones
-- are, `D` both, `X` it isn't known; at the third place `s` a soft interrupt, `h` a hard one, `H` a hard
-- one within a soft one, `z` and `Z` one that can't be masked; at the fourth how often preemption was
-- turned off, and `.` where it wasn't.
use Rattle.std.specs.Prelude.{ℕ, List, [], ◌∷◌, nat_eq, ◌||◌, if◌then◌else◌}
use Rattle.wit_traced.specs.declared.contexts.Context.{Context}
use Rattle.wit_traced.specs.declared.contexts.Context.TheVariants.{Task, Idle, Softirq, Hardirq}
use Rattle.wit_traced.specs.declared.contexts.Masked.{Masked}
use Rattle.wit_traced.specs.declared.contexts.Masked.TheVariants.{Nothing, Softirqs, All}
use Rattle.wit_traced.specs.declared.contexts.Preemption.{Preemption}
use Rattle.wit_traced.specs.declared.contexts.Preemption.TheVariants.{On, Off, Untold}

abbrev pub in_task : ℕ → ℕ → Context
in_task task processor = if nat_eq task 0 then Idle processor else Task task

abbrev pub context_by : ℕ → ℕ → ℕ → Context
context_by task processor letter =
    if nat_eq letter 104 || (nat_eq letter 72 || (nat_eq letter 122 || nat_eq letter 90))
    then Hardirq processor
    else if nat_eq letter 115 then Softirq processor
    else in_task task processor

abbrev pub context_of : ℕ → ℕ → List ℕ → Context
context_of task processor (a ∷ b ∷ letter ∷ flags) = context_by task processor letter
context_of task processor _ = in_task task processor

-- where there are no flags, it isn't told what may come
abbrev pub masked_of : List ℕ → Masked
masked_of [] = All
masked_of (letter ∷ flags) =
    if nat_eq letter 100 || (nat_eq letter 68 || nat_eq letter 88) then All
    else if nat_eq letter 98 then Softirqs
    else Nothing

abbrev pub preemption_of : List ℕ → Preemption
preemption_of (a ∷ b ∷ c ∷ depth ∷ flags) = if nat_eq depth 46 then On else Off
preemption_of _ = Untold
