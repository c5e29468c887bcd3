-- What becomes of a line past the prelude.
use Rattle.std.proofs.Common.{◌≡◌, ℕ, false, List, [], None, Some, Result, Ok, Err, IfOk, refl}
use Rattle.std.specs.Global.{Vec}
use Rattle.wit_model.specs.Trace.Moving.{MovingOutcome, moving_outcome, read_to}
use Rattle.wit_model.specs.Trace.Output.{bad_text, summed}
use Rattle.wit_fields.specs.declared.errors.LineError.{LineError}
use Rattle.wit_fields.specs.declared.errors.LineError.TheVariants.{Bad, Memory}
use Rattle.wit_migrate.specs.Migrates.{EndsFor, GoesOver, HasMoved, MovesAsDue, standing}
use Rattle.wit_migrate.specs.declared.behind.Behind.{Behind}
use Rattle.wit_migrate.specs.declared.migrating.Migrating.TheVariants.{Moved}
use Rattle.wit_lines.specs.Replays.{total}
use Rattle.wit_stream.specs.declared.machine.Step as machine
use Rattle.wit_stream.specs.declared.machine.Step.TheVariants as step
use Rattle.wit_stream.specs.declared.summary.Summary.{Summary}
use Rattle.wit_migrate.proofs.MigrateLemmas.{ends-follow, line-bad, line-goes}
use Rattle.wit_migrate.proofs.MigrateReports.{written_one}
use Rattle.wit_migrate.proofs.Weights.{written_weighs}

module _ (old new : Behind) (n : ℕ) (line : List ℕ) where
  abbrev due : MovingOutcome
  due = moving_outcome (standing old) n line

  -- nothing is written before it
  over : GoesOver (standing old) n line (standing old) []
  over = record { lines = []; written = refl; on = λ next. refl }

  -- it was written
  pub behind-goes : (told : Vec ℕ) → MovesAsDue due (standing old) (standing new) (Ok told)
      → HasMoved (Moved old) n line (Moved new) told.items step.Goes
  behind-goes told moves = (
    line-goes (standing old) (standing old) n line [] over (standing new) told.items moves,
    record {
      counts = written_one (standing old) (standing new) n line told.items moves;
      weighs = written_weighs (standing old) (standing new) n line told.items moves;
    },
  )

  -- or is bad
  pub behind-fails : {E : Type 0} (e : LineError) (found : Summary) (written : List ℕ)
      (answer : Result machine.Step E)
      → MovesAsDue due (standing old) (standing new) (Err e)
      → total found ≡ summed (read_to (standing old)) None → found.circle ≡ false
      → IfOk answer (EndsFor found n e written)
      → IfOk answer (HasMoved (Moved old) n line (Moved new) written)
  behind-fails e found written (Err f) fails sums none ends = tt
  behind-fails Memory found written (Ok s) fails sums none ends = absurd ends
  behind-fails (Bad cause) found written (Ok s) fails sums none ends =
      let summary : Summary = record found { bad = Some (n, cause) } in (
        ends-follow (Moved old) (Moved new) n line (bad_text n cause) summary written s ends
            (line-bad (standing old) (standing old) n line [] over cause found summary
            (bad_text n cause) fails.0 refl sums none refl),
        fails.2,
      )
