-- What a check in progress may answer, and what becomes of a line.
use Rattle.std.specs.Prelude.{◌≡◌, ℕ, List, Option, None}
use Rattle.wit_recordings.specs.Recordings.{NamedType}
use Rattle.wit_stream.specs.declared.machine.Step.{Step}
use Rattle.wit_stream.specs.declared.machine.Step.TheVariants.{Goes, Ends}
use Rattle.wit_stream.specs.declared.summary.Summary.{Summary}
use Rattle.wit_orders.specs.declared.answers.Flaw.{Flaw}
use Rattle.wit_orders.specs.declared.answers.Answer.{Answer}
use Rattle.wit_orders.specs.declared.checking.Checking.{Checking}
use Rattle.wit_orders.specs.declared.reading.OrderLine.{OrderLine}
use Rattle.wit_orders.specs.Answers.{Seen, answer_at, answer_from, answer_unless, flaw_of}
use Rattle.wit_orders.specs.Answers.{seen_after}
use Rattle.wit_orders.specs.Outputs.{IsAnswered}
use Rattle.wit_orders.specs.Reading.{order_line}
use Rattle.wit_orders.specs.Sequence.{written}

abbrev pub seen : Checking → Seen
seen m = record { types = written m.types.keys; pairs = m.pairs }

abbrev pub allowed : Checking → ℕ → List (List ℕ) → List ℕ → List ℕ → Summary → Type 0
allowed m n lines tail text summary = IsAnswered (answer_from (seen m) n lines tail) text summary

-- this is what is wrong with what a line says; where nothing is, it was entered
abbrev pub EntersAsDue : Seen → OrderLine NamedType → Seen → Option Flaw → Type 0
EntersAsDue old said new flaw =
    (flaw ≡ flaw_of old.types said) × (flaw ≡ None → new ≡ seen_after old said)

-- so with a line
abbrev pub ReadsAsDue : Seen → List ℕ → Seen → Option Flaw → Type 0
ReadsAsDue old line new flaw = (n : ℕ) (next : Seen → Answer)
    → answer_at old n (order_line line) next ≡ answer_unless flaw n (next new)

-- the check ends with this answer
abbrev pub EndsWith : Answer → List ℕ → Step → Type 0
EndsWith a text Goes = ⊥
EndsWith a text (Ends summary) = IsAnswered a text summary
