-- What a machine's own call tells of the lines that it took is what `Tells` says of the machine.
use Rattle.std.proofs.Common.{◌≡◌, ℕ, List, Option, sym, subst}
use Rattle.wit_model.specs.Trace.Output.{Unstarted}
use Rattle.wit_model.specs.Trace.Moving.{Unmoved}
use Rattle.wit_against.specs.Known.{nothing_known}
use Rattle.wit_against.specs.Outputs.{JudgesFrom}
use Rattle.wit_merge.specs.declared.machine.Shown.{Shown}
use Rattle.wit_merge.specs.Lines.{nothing_merged}
use Rattle.wit_merge.specs.Outputs.{ShowsFrom as ShowsOrdersFrom}
use Rattle.wit_migrate.specs.Migrates.{MigratesFrom}
use Rattle.wit_grades.specs.Outputs.{GradesFrom, nothing_told}
use Rattle.wit_findings.specs.Findings.{FindsFrom}
use Rattle.wit_findings.specs.Runs as known
use Rattle.wit_import.specs.Outputs.{ImportsFrom, nothing_seen}
use Rattle.wit_lines.specs.Replays.{ShowsFrom}
use Rattle.wit_lines.specs.declared.view.View.{View}
use Rattle.wit_stream.specs.Stream.{WritesLines}
use Rattle.witness.specs.Program.{Tells, TellsImported}
use Rattle.witness.specs.declared.command.Machine.{Machine}
use Rattle.witness.specs.declared.command.Machine.TheVariants.{Find, Grade, Judge, Merge, Migrate, Show}
use Rattle.witness.specs.declared.command.Source.{Source}
use Rattle.witness.specs.declared.command.Source.TheVariants.{Plain}

pub told-shown : (view : View) (read left written_old written_new : Option (List ℕ))
    → WritesLines (ShowsFrom view) Unstarted read left written_old written_new
    → Tells (Show view) read written_old written_new
unfolding Tells
told-shown view read left written_old written_new told = record { left = left; told = told }

pub told-moved : (read left written_old written_new : Option (List ℕ))
    → WritesLines MigratesFrom Unmoved read left written_old written_new
    → Tells Migrate read written_old written_new
unfolding Tells
told-moved read left written_old written_new told = record { left = left; told = told }

pub told-graded : (read left written_old written_new : Option (List ℕ))
    → WritesLines GradesFrom nothing_told read left written_old written_new
    → Tells Grade read written_old written_new
unfolding Tells
told-graded read left written_old written_new told = record { left = left; told = told }

pub told-found : (read left written_old written_new : Option (List ℕ))
    → WritesLines FindsFrom known.nothing_told read left written_old written_new
    → Tells Find read written_old written_new
unfolding Tells
told-found read left written_old written_new told = record { left = left; told = told }

pub told-judged : (read left written_old written_new : Option (List ℕ))
    → WritesLines JudgesFrom nothing_known read left written_old written_new
    → Tells Judge read written_old written_new
unfolding Tells
told-judged read left written_old written_new told = record { left = left; told = told }

pub told-merged : (shown : Shown) (read left written_old written_new : Option (List ℕ))
    → WritesLines (ShowsOrdersFrom shown) nothing_merged read left written_old written_new
    → Tells (Merge shown) read written_old written_new
unfolding Tells
told-merged shown read left written_old written_new told = record { left = left; told = told }

pub told-imported : (read left written_old written_new : Option (List ℕ))
    → WritesLines ImportsFrom nothing_seen read left written_old written_new
    → TellsImported Plain read written_old written_new
unfolding TellsImported
told-imported read left written_old written_new told = record { left = left; told = told }

-- of a machine that is another's name
pub of : (machine other : Machine) (read written_old written_new : Option (List ℕ))
    → machine ≡ other → Tells other read written_old written_new
    → Tells machine read written_old written_new
of machine other read written_old written_new is told =
    subst (λ (m : Machine). Tells m read written_old written_new) (sym is) told

pub of-source : (source other : Source) (read written_old written_new : Option (List ℕ))
    → source ≡ other → TellsImported other read written_old written_new
    → TellsImported source read written_old written_new
of-source source other read written_old written_new is told =
    subst (λ (s : Source). TellsImported s read written_old written_new) (sym is) told
