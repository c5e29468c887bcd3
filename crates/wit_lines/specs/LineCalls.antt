-- What a line has a verifier do, once the file that it names has a number.
use Rattle.std.specs.Prelude.{◌≡◌, ℕ, List, Option, None, Some, Result, Ok, Err}
use Rattle.wit_model.specs.declared.faults.Fault.{Fault}
use Rattle.wit_model.specs.declared.locks.FileNo.{FileNo}
use Rattle.wit_model.specs.Rules.Files.{NamesFile}
use Rattle.wit_model.specs.Rules.State.{Story}
use Rattle.wit_model.specs.declared.calls.Call.{Call}
use Rattle.wit_model.specs.declared.lines.Line.{Line}
use Rattle.wit_model.specs.Trace.LineCalls as model
use Rattle.wit_model.specs.Trace.Reading.{line_of}
use Rattle.wit_lines.specs.declared.line_calls.LineCall.{LineCall}
use Rattle.wit_lines.specs.declared.line_calls.LineCall.TheVariants.{Logs, Asserts, Warns}
use Rattle.wit_lines.specs.declared.line_calls.LineCall.TheVariants.{Steps, NoCall}

-- what the model calls it
abbrev pub as_call : LineCall → model.LineCall
as_call (Logs seat call) = model.Logs seat.0 call
as_call (Asserts seat lock asserted) = model.Asserts seat.0 lock asserted
as_call (Warns seat lock flags) = model.Warns seat.0 lock flags
as_call (Steps seat lock step) = model.Steps seat.0 lock step
as_call NoCall = model.NoCall

-- the file that it names, if it names one
abbrev pub file_named : model.LineCall → Option (List ℕ)
file_named (model.LogsAt t file call) = Some file
file_named _ = None

-- what a line makes, once the file that it names has this number
abbrev pub at_number : model.LineCall → ℕ → model.LineCall
at_number (model.LogsAt t file call) f = model.Logs t (call f)
at_number call f = call

-- the file is entered, and this is its number; where none is named, nothing is
abbrev pub NumbersFile : Story → Option (List ℕ) → Result FileNo Fault → Story → Type 0
NumbersFile old (Some file) answer new = NamesFile old file answer new
NumbersFile old None (Ok f) new = new ≡ old
NumbersFile old None (Err fault) new = ⊥

-- the file that a line names, if it names one, has this number
abbrev pub HasNumber : (List ℕ → FileNo → Type 0) → Option (List ℕ) → FileNo → Type 0
HasNumber names (Some file) f = names file f
HasNumber names None f = Unit {0}

-- a line has t make this call, with the number that its file has
pub record Makes (names : List ℕ → FileNo → Type 0) (bytes : List ℕ) (t : ℕ)
    (call : Call) : Type 0 where
  pub line : Line
  pub found : line_of bytes ≡ Some line
  pub file : FileNo
  pub numbered : HasNumber names (file_named (model.call_of line)) file
  pub is : at_number (model.call_of line) file.0 ≡ model.Logs t call

-- to name this file gives this number, and changes nothing
abbrev pub Keeps : Story → List ℕ → FileNo → Type 0
Keeps s file f = NamesFile s file (Ok f) s
