-- What an import in progress may write, and what becomes of a line.
use Rattle.std.specs.Prelude.{◌≡◌, ℕ, Bool, List, Option}
use Rattle.wit_model.specs.declared.lines.Cause.{Cause}
use Rattle.wit_stream.specs.declared.machine.Step.{Step}
use Rattle.wit_stream.specs.declared.machine.Step.TheVariants.{Goes, Ends}
use Rattle.wit_stream.specs.declared.summary.Summary.{Summary}
use Rattle.wit_import.specs.declared.importing.Importing.{Importing}
use Rattle.wit_import.specs.declared.events.Event.{Event}
use Rattle.wit_import.specs.Names.{written}
use Rattle.wit_import.specs.Outputs.{Seen, output_from, IsOutput, refused, seen_by, text_by}

abbrev pub seen : Importing → Seen
seen m = record {
  begun = m.begun;
  held = m.held.items;
  freed = written m.freed.keys;
  told = record { types = written m.types.keys; pairs = written m.pairs.keys };
}

abbrev pub allowed : Importing → ℕ → List (List ℕ) → List ℕ → List ℕ → Summary → Type 0
allowed m n lines tail text summary = IsOutput (output_from (seen m) n lines tail) text summary

-- what a line tells was entered, and this is written of it
abbrev pub Enters : Seen → Option Event → Seen → List ℕ → Type 0
Enters old event new text = (new ≡ seen_by old event) × (text ≡ text_by old event)

-- the reading ends at this bad line
abbrev pub RefusesAt : Bool → ℕ → Cause → List ℕ → Step → Type 0
RefusesAt begun n cause text Goes = ⊥
RefusesAt begun n cause text (Ends summary) = IsOutput (refused begun n cause) text summary
