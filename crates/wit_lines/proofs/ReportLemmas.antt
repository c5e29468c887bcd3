-- A line tells of one report at most.
use Rattle.std.proofs.Common.{◌≡◌, ℕ, ◌+◌, ◌≤◌, Bool, true, false, cond, ltb, length, List, []}
use Rattle.std.proofs.Common.{Option, None, Some, Result, Ok, Err, subst, arith}
use Rattle.wit_model.specs.declared.lines.Cause.{Cause}
use Rattle.wit_model.specs.declared.lines.Cause.TheVariants as why
use Rattle.wit_model.specs.declared.lines.Line.{Line}
use Rattle.wit_model.specs.declared.lines.Line.TheVariants.{Header, Profile, Order, Bless}
use Rattle.wit_model.specs.Rules.Sizes.{Sizes, sizes_of, are_within_limits}
use Rattle.wit_model.specs.Trace.Reading.{line_of}
use Rattle.wit_model.specs.Trace.Output as output
use Rattle.wit_model.specs.declared.lines.Version.{Version}
use Rattle.wit_fields.specs.declared.errors.LineError.{LineError}
use Rattle.wit_fields.specs.declared.errors.LineError.TheVariants.{Bad, Memory}
use Rattle.wit_stream.specs.declared.machine.Step.{Step}
use Rattle.wit_lines.specs.declared.view.View.{View}
use Rattle.wit_lines.specs.Replays.{EndsFor, GoesAsDue, reports_told}
use Rattle.std.specs.Global.{Vec}
use Rattle.wit_lines.proofs.CountLemmas.{keeps_reports, CountsOne, calls_one, calls_in_one}
use Rattle.wit_grammar.specs.declared.parse.TheConstants.{LONGEST}

header_one : (version : Version) (sizes : Sizes) (fits : Bool)
    → CountsOne 0 (cond fits (output.Goes (output.Opening (output.empty_prelude version sizes)) [])
    (output.Bad why.Limit))
header_one version sizes true = omega arith
header_one version sizes false = tt

entered_one : (p : output.Progress) (n : ℕ) (line : Line)
    → CountsOne (reports_told p) (output.entered p n line)
entered_one output.Unstarted n (Header version seats types locks chunks) =
    header_one version (sizes_of seats types locks chunks output.log_limit)
    (are_within_limits (sizes_of seats types locks chunks output.log_limit))
entered_one output.Unstarted n _ = tt
entered_one (output.Opening p) n Profile = omega arith
entered_one (output.Opening p) n (Order list) = omega arith
entered_one (output.Opening p) n (Bless first second) = omega arith
entered_one (output.Opening p) n _ = tt
entered_one (output.Reading s m) n line = calls_one s m (output.call_of line)
entered_one (output.Stepping s m) n line = calls_in_one s m (output.call_of line)

outcome_one : (p : output.Progress) (n : ℕ) (bytes : List ℕ)
    → CountsOne (reports_told p) (output.outcome p n bytes)
outcome_one p n bytes = go (ltb LONGEST (length bytes)) (line_of bytes)
  where
    go : (long : Bool) (o : Option Line)
        → CountsOne (reports_told p) (cond long (output.Bad why.Long) (output.read_as p n o))
    go true o = tt
    go false None = tt
    go false (Some line) = entered_one p n line

-- what became of a line counts one at most, unless for want of memory
abbrev CountsOn : ℕ → output.Progress → Result (Vec ℕ) LineError → Type 0
CountsOn n q (Ok text) = reports_told q ≤ n + 1
CountsOn n q (Err Memory) = Unit {0}
CountsOn n q (Err (Bad cause)) = reports_told q ≤ n + 1

passes_one : (due : output.Outcome) (p q : output.Progress) (r : Result (Vec ℕ) LineError)
    → CountsOne (reports_told p) due → GoesAsDue due p q r → CountsOn (reports_told p) q r
passes_one (output.Goes to text) p q (Ok told) one passes = rw (passes.0) one
passes_one (output.Bad why) p q (Ok told) one passes = elim passes [ ]
passes_one due p q (Err Memory) one passes = tt
passes_one (output.Goes to text) p q (Err (Bad cause)) one passes = elim passes [ ]
passes_one (output.Bad why) p q (Err (Bad cause)) one passes = let e =
    keeps_reports p q passes.1 in omega (arith, e)

module _ (p q : output.Progress) (n : ℕ) (bytes : List ℕ) (r : Result (Vec ℕ) LineError)
    (passes : GoesAsDue (output.outcome p n bytes) p q r) where
  -- a line that was told
  pub told_one : (text : Vec ℕ) → r ≡ Ok text → reports_told q ≤ reports_told p + 1
  told_one text is =
      subst (CountsOn (reports_told p) q) is
      (passes_one (output.outcome p n bytes) p q r (outcome_one p n bytes) passes)

  -- or is bad
  pub bad_one : (cause : Cause) → r ≡ Err (Bad cause) → reports_told q ≤ reports_told p + 1
  bad_one cause is =
      subst (CountsOn (reports_told p) q) is
      (passes_one (output.outcome p n bytes) p q r (outcome_one p n bytes) passes)

  -- what ended then
  pub ended_one : (view : View) (e : LineError) (text : List ℕ) (s : Step) → r ≡ Err e
      → EndsFor view q n e text s → reports_told q ≤ reports_told p + 1
  ended_one view Memory text s is ends = elim ends [ ]
  ended_one view (Bad cause) text s is ends = bad_one cause is
