-- What a judging in progress may write, and what becomes of a line.
use Rattle.std.specs.Prelude.{◌≡◌, ℕ, List, Option, Some, Result, Ok, Err}
use Rattle.wit_fields.specs.declared.errors.LineError.{LineError}
use Rattle.wit_fields.specs.declared.errors.LineError.TheVariants.{Bad, Memory}
use Rattle.wit_model.specs.declared.lines.Cause.{Cause}
use Rattle.wit_model.specs.declared.lines.Cause.TheVariants as why
use Rattle.wit_recordings.specs.Recordings.{NamedType}
use Rattle.wit_stream.specs.declared.machine.Step.{Step}
use Rattle.wit_stream.specs.declared.machine.Step.TheVariants.{Goes, Ends}
use Rattle.wit_stream.specs.declared.summary.Summary.{Summary}
use Rattle.wit_orders.specs.declared.reading.OrderLine.{OrderLine}
use Rattle.wit_orders.specs.declared.reading.OrderLine.TheVariants.{Pair}
use Rattle.wit_orders.specs.Reading.{order_line, type_text}
use Rattle.wit_orders.specs.Sequence.{written}
use Rattle.wit_against.specs.declared.judging.Judging.{Judging}
use Rattle.wit_against.specs.declared.orders.Orders.{Orders}
use Rattle.wit_against.specs.Existing.{some_judged}
use Rattle.wit_against.specs.Known.{Known, with_order}
use Rattle.wit_against.specs.Outputs.{JudgesLines, Refuses}

abbrev pub known : Orders → Known
known o =
    record { types = written o.types.keys; orders = o.orders.keys; lines = written o.lines.items }

abbrev pub allowed : Judging → ℕ → List (List ℕ) → List ℕ → List ℕ → Summary → Type 0
allowed m n lines tail text summary = JudgesLines (known m.orders) n lines tail text summary

-- something may always be written
abbrev pub some_allowed : (m : Judging) (n : ℕ) (lines : List (List ℕ)) (tail : List ℕ)
    → (text : List ℕ) × ((summary : Summary) × allowed m n lines tail text summary)
some_allowed m n lines tail = some_judged lines (known m.orders) n tail

-- a line of which this is read says no order
abbrev pub SaysNone : Option (OrderLine NamedType) → Type 0
SaysNone (Some (Pair a b)) = ⊥
SaysNone read = Unit {0}

-- a line of which this is read leads from what was known to what is known
abbrev pub LeadsTo : Known → List ℕ → Option (OrderLine NamedType) → Known → Type 0
LeadsTo old line (Some (Pair a b)) new = new ≡ with_order old (type_text a) (type_text b) line
LeadsTo old line read new = ⊥

-- a line was entered, or it is bad
abbrev pub Enters : Known → List ℕ → Known → Result Unit LineError → Type 0
Enters old line new (Ok x) = LeadsTo old line (order_line line) new
Enters old line new (Err (Bad cause)) = (cause ≡ why.Syntax) × SaysNone (order_line line)
Enters old line new (Err Memory) = Unit {0}

-- the reading ends at this bad line
abbrev pub RefusesAt : ℕ → Cause → List ℕ → Step → Type 0
RefusesAt n cause text Goes = ⊥
RefusesAt n cause text (Ends summary) = Refuses n cause text summary
