-- The columns that each line of a trace begins with: the task and its number, the processor in brackets, the
-- flags, which may be missing, and the time with a colon.
use Rattle.std.specs.Prelude.{◌≡◌, ℕ, Bool, false, ◌&&◌, ◌||◌, List, [], ◌∷◌, ◌++◌, Option, Some, None}
use Rattle.std.specs.Prelude.{nat_eq, if◌then◌else◌}
use Rattle.std.specs.Char.{is_ascii_digit}
use Rattle.std.specs.List.{ends_with}
use Rattle.std.specs.Option.{option_and_then, option_map, option_or}
use Rattle.wit_traced.specs.declared.contexts.Context.{Context}
use Rattle.wit_traced.specs.declared.contexts.Masked.{Masked}
use Rattle.wit_traced.specs.declared.contexts.Preemption.{Preemption}
use Rattle.wit_traced.specs.declared.heads.Head.{Head}
use Rattle.wit_traced.specs.Contexts.{context_of, masked_of, preemption_of}
use Rattle.wit_traced.specs.Numbers.{decimal}
use Rattle.wit_traced.specs.Pieces.{before, before_last, behind_last, onward, rest, trimmed_end}
use Rattle.wit_traced.specs.Pieces.{trimmed_start}

pub record Columns : Type 0 where
  pub context : Context
  pub masked : Masked
  pub preemption : Preemption
  pub event : List ℕ

abbrev pub columns : Head → Columns
columns h = record {
  context = h.context;
  masked = h.masked;
  preemption = h.preemption;
  event = h.event.now;
}

abbrev pub columns_of : ℕ → ℕ → List ℕ → List ℕ → Columns
columns_of task processor flags event = record {
  context = context_of task processor flags;
  masked = masked_of flags;
  preemption = preemption_of flags;
  event = event;
}

-- the number behind the name of a task; the number of its process may follow in parentheses
abbrev pub bare_task : List ℕ → Option (List ℕ)
bare_task column =
    if ends_with nat_eq column (41 ∷ []) then option_map trimmed_end (before_last 40 column)
    else Some column

abbrev pub task_number : List ℕ → Option ℕ
task_number column =
    option_and_then decimal (option_and_then (behind_last 45) (bare_task column))

-- digits and points, and a colon
abbrev pub is_of_time : ℕ → Bool
is_of_time b = is_ascii_digit b || nat_eq b 46

abbrev pub ends_time : List ℕ → Bool
ends_time [] = false
ends_time (b ∷ []) = nat_eq b 58
ends_time (b ∷ c ∷ bytes) = is_of_time b && ends_time (c ∷ bytes)

abbrev pub is_time : List ℕ → Bool
is_time [] = false
is_time (b ∷ bytes) = is_ascii_digit b && ends_time bytes

-- where the first word is no time, it is the flags
abbrev pub with_flags : ℕ → ℕ → List ℕ → List ℕ → Option Columns
with_flags task processor flags text =
    if is_time (before 32 text)
    then Some (columns_of task processor flags (rest (onward 32 text))) else None

abbrev pub columns_behind : ℕ → ℕ → List ℕ → Option Columns
columns_behind task processor text =
    if is_time (before 32 text)
    then Some (columns_of task processor [] (rest (onward 32 text)))
    else with_flags task processor (before 32 text) (trimmed_start (onward 32 text))

-- these stand before the bracket of the processor, and these behind it
abbrev pub head_parted : List ℕ → List ℕ → Option Columns
head_parted task text =
    option_and_then
    (λ processor. option_and_then
    (λ number. columns_behind number processor (trimmed_start (rest (onward 93 text))))
    (task_number (trimmed_end task)))
    (decimal (before 93 text))

-- the name of a task may have brackets: the first bracket with which the columns read counts
abbrev pub head_from : List ℕ → List ℕ → Option Columns
head_from task [] = None
head_from task (b ∷ bytes) =
    if nat_eq b 91
    then option_or (head_parted task bytes) (head_from (task ++ b ∷ []) bytes)
    else head_from (task ++ b ∷ []) bytes

-- a bracket stands first, or nothing
abbrev pub IsBracket : List ℕ → Type 0
IsBracket [] = Unit {0}
IsBracket (b ∷ bytes) = b ≡ 91

abbrev pub head_of : List ℕ → Option Columns
head_of bytes = head_from [] bytes
