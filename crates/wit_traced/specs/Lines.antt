-- What a line of ftrace tells.
use Rattle.std.specs.Prelude.{ℕ, ◌&&◌, ◌||◌, List, Option, Some, None, codes, length, nat_eq, if◌then◌else◌}
use Rattle.std.specs.Option.{option_or}
use Rattle.wit_traced.specs.Doings.{Doing}
use Rattle.wit_traced.specs.Heads.{Columns, head_of}
use Rattle.wit_traced.specs.Kprobes.{probed}
use Rattle.wit_traced.specs.Lockdep.{told_lockdep}
use Rattle.wit_traced.specs.Pieces.{begins, has}
use Rattle.wit_traced.specs.Tellings.{Telling, Lost, Tells, Remark}

-- a wait and its end, which no order needs, and the head of a stack
abbrev pub event_remark : List ℕ → Option Telling
event_remark event =
    if begins (codes "lock_acquired:") event || (begins (codes "lock_contended:") event
    || begins (codes "<stack trace>") event)
    then Some Remark else None

-- `CPU:N [LOST n EVENTS]`, what begins with `#`, and a step of a stack
abbrev pub remark_of : List ℕ → Option Telling
remark_of line =
    if has (codes "LOST") line && has (codes "EVENTS") line then Some Lost
    else if nat_eq (length line) 0 || (begins (codes "#") line || begins (codes " => ") line)
    then Some Remark
    else None

abbrev pub action_of : List ℕ → Option Doing
action_of event = option_or (probed event) (told_lockdep event)

abbrev pub told_by : Columns → Option Doing → Option Telling
told_by c None = event_remark c.event
told_by c (Some doing) = Some (Tells c.context c.masked c.preemption doing)

abbrev pub told_behind : List ℕ → Option Columns → Option Telling
told_behind line None = remark_of line
told_behind line (Some c) = told_by c (action_of c.event)

unfoldable pub told_of : List ℕ → Option Telling
told_of line = told_behind line (head_of line)
