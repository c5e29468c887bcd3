-- What the program does with its words and its input.
use Rattle.std.specs.Prelude.{ℕ, ◌≡◌, ◌⊎◌, false, IfSome, IsSome, List, Option, None, Ok}
use Rattle.std.specs.Io.KnownBytes.{Keeps}
use Rattle.json.specs.Json.{document}
use Rattle.wit_model.specs.Trace.Output.{Unstarted}
use Rattle.wit_model.specs.Trace.Moving.{Unmoved}
use Rattle.wit_demo.specs.Demonstration.{IsEnded, IsTold}
use Rattle.wit_migrate.specs.Again.{WritesTheSame}
use Rattle.wit_migrate.specs.Migrates.{Migrates, MigratesFrom}
use Rattle.wit_against.specs.Known.{nothing_known}
use Rattle.wit_against.specs.Outputs.{Judges, JudgesFrom}
use Rattle.wit_merge.specs.Lines.{nothing_merged}
use Rattle.wit_merge.specs.Outputs.{ShowsOrders, ShowsFrom as ShowsOrdersFrom}
use Rattle.wit_forecast.specs.Forecasts.{Forecasts}
use Rattle.wit_grades.specs.Outputs.{Grades, GradesFrom, nothing_told}
use Rattle.wit_findings.specs.Findings.{Finds, FindsFrom}
use Rattle.wit_findings.specs.Runs as known
use Rattle.wit_import.specs.Outputs.{Imports, ImportsFrom, nothing_seen}
use Rattle.wit_kernel.specs.declared.importing.Tracer.TheVariants as tracer
use Rattle.wit_kernel.specs.Outputs.{Imports as ImportsTraced, settings}
use Rattle.wit_lines.specs.Replays.{ShowsTrace, ShowsFrom}
use Rattle.wit_trace.specs.Status.{exit_status}
use Rattle.wit_lines.specs.declared.view.View.{View}
use Rattle.wit_lines.specs.declared.view.View.TheVariants.{Circle, Graph, Reports}
use Rattle.wit_stream.specs.Stream.{WritesOutput, WritesFront, WritesLines}
use Rattle.wit_stream.specs.declared.summary.Summary.{Summary}
use Rattle.witness.specs.declared.command.Machine.{Machine}
use Rattle.witness.specs.declared.command.Machine.TheVariants.{Find, Forecast, Grade, Import, Judge}
use Rattle.witness.specs.declared.command.Machine.TheVariants.{Merge, Migrate, Show}
use Rattle.witness.specs.declared.command.Source.{Source}
use Rattle.witness.specs.declared.command.Source.TheVariants.{Ftrace, Lttng, Plain}
use Rattle.witness.specs.declared.program.Ended.{Ended}
use Rattle.witness.specs.declared.program.Ended.TheVariants.{Exits, ShowsThreads}

-- what an import writes of its input: the one trace of a script's lines or of a tracer's
unfoldable pub ImportsBy : Source → List ℕ → List ℕ → Summary → Type 0
ImportsBy Plain = Imports
ImportsBy (Ftrace encoding) =
    ImportsTraced tracer.Ftrace (settings encoding.interrupts encoding.readers)
ImportsBy Lttng = ImportsTraced tracer.Lttng (settings false false)

-- what a machine makes of an input
unfoldable pub Makes : Machine → List ℕ → List ℕ → Summary → Type 0
Makes (Show view) = ShowsTrace view
Makes Migrate = Migrates
Makes Forecast = Forecasts
Makes Grade = Grades
Makes Find = Finds
Makes Judge = Judges
Makes (Merge shown) = ShowsOrders shown
Makes (Import source) = ImportsBy source

-- the view whose exit status it has: a schedule ends in a circle, and where nothing is reported it
-- is that of a graph
unfoldable pub view_of : Machine → View
view_of (Show view) = view
view_of Migrate = Graph
view_of Forecast = Circle
view_of Grade = Graph
view_of Find = Reports
view_of Judge = Reports
view_of (Merge shown) = Reports
view_of (Import source) = Graph

-- a migration tells the same as its input, where no line was bad
unfoldable pub TellsTheSame : Machine → Option (List ℕ) → Option (List ℕ) → Option (List ℕ) → Summary
    → Type 0
TellsTheSame Migrate read written_old written_new summary =
    summary.bad ≡ None → WritesTheSame read written_old written_new
TellsTheSame machine read written_old written_new summary = Unit {0}

-- what the machine makes of the input was written
pub record IsMade (machine : Machine) (read written_old written_new : Option (List ℕ))
    (summary : Summary) : Type 0 where
  pub written : WritesOutput (Makes machine) read written_old written_new summary
  pub same : TellsTheSame machine read written_old written_new summary

-- and this is its status
pub record IsMadeWhole (machine : Machine) (read written_old written_new : Option (List ℕ))
    (ended : ℕ) : Type 0 where
  pub summary : Summary
  pub made : IsMade machine read written_old written_new summary
  pub status : ended ≡ exit_status (view_of machine) (Ok summary)

-- and that is what is left to do
abbrev pub IsMadeAndExits : Machine → Option (List ℕ) → Option (List ℕ) → Option (List ℕ)
    → Ended → Type 0
IsMadeAndExits machine read written_old written_new (Exits status) =
    IsMadeWhole machine read written_old written_new status
IsMadeAndExits machine read written_old written_new ShowsThreads = ⊥

-- a beginning was written of what the machine makes of the input, which may be nothing
abbrev pub IsCutShort : Machine → Option (List ℕ) → Option (List ℕ) → Option (List ℕ) → Type 0
IsCutShort machine read written_old written_new =
    Keeps written_old written_new ⊎ WritesFront (Makes machine) read written_old written_new

-- what is told of every whole line that was taken from the input was written, no less, whatever is
-- left of it
pub record TellsLines {P : Type 0} (output : P → ℕ → List ℕ → List ℕ → Summary → Type 0) (start : P)
    (read written_old written_new : Option (List ℕ)) : Type 0 where
  pub left : Option (List ℕ)
  pub told : WritesLines output start read left written_old written_new

-- so it is of the import of a script's lines; of that of a tracer's nothing is said
unfoldable pub TellsImported : Source → Option (List ℕ) → Option (List ℕ) → Option (List ℕ) → Type 0
TellsImported Plain = TellsLines ImportsFrom nothing_seen
TellsImported (Ftrace encoding) = λ read written_old written_new. Unit {0}
TellsImported Lttng = λ read written_old written_new. Unit {0}

-- so it is of each machine but a forecast, of which nothing is said
unfoldable pub Tells : Machine → Option (List ℕ) → Option (List ℕ) → Option (List ℕ) → Type 0
Tells (Show view) = TellsLines (ShowsFrom view) Unstarted
Tells Migrate = TellsLines MigratesFrom Unmoved
Tells Forecast = λ read written_old written_new. Unit {0}
Tells Grade = TellsLines GradesFrom nothing_told
Tells Find = TellsLines FindsFrom known.nothing_told
Tells Judge = TellsLines JudgesFrom nothing_known
Tells (Merge shown) = TellsLines (ShowsOrdersFrom shown) nothing_merged
Tells (Import source) = TellsImported source

-- a document of the input was written, which is JSON then; or the input was refused, and nothing was
-- written
abbrev pub IsWrittenOrRefused : Option (List ℕ) → Option (List ℕ) → Option (List ℕ) → Ended → Type 0
IsWrittenOrRefused read written_old written_new (Exits status) =
    ((status ≡ 0) × IfSome read (λ bytes. IsSome (document bytes)))
    ⊎ ((status ≡ 3) × Keeps written_old written_new)
IsWrittenOrRefused read written_old written_new ShowsThreads = ⊥

-- the demonstration was told, or a call of it was refused, and this is its status, as that of a
-- replay which reports what was reported
pub record IsDemonstrated (written_old written_new : Option (List ℕ)) (ended : ℕ) : Type 0 where
  pub summary : Summary
  pub told : IsTold written_old written_new summary ⊎ IsEnded written_old written_new summary
  pub status : ended ≡ exit_status Reports (Ok summary)
