-- What a replay of a trace writes and sums up.
use Rattle.std.specs.Prelude.{Bool, not, ◌||◌, ℕ, ◌+◌, ◌<◌, ◌≤◌, ◌≡◌, List, [], length, Option}
use Rattle.std.specs.Prelude.{None, Some, Result, Ok, Err, false, unwrap_or}
use Rattle.std.specs.Global.{Vec}
use Rattle.wit_model.specs.declared.lines.Cause.{Cause}
use Rattle.wit_model.specs.declared.faults.Fault.{Fault}
use Rattle.wit_model.specs.declared.lines.Cause.TheVariants as why
use Rattle.wit_model.specs.Rules.Numbers.{with_number}
use Rattle.wit_model.specs.Rules.State.{Story, fresh}
use Rattle.wit_model.specs.Trace.Output as output
use Rattle.wit_known.specs.Fresh.{start_of}
use Rattle.wit_fields.specs.declared.errors.LineError.{LineError}
use Rattle.wit_fields.specs.declared.errors.LineError.TheVariants.{Bad, Memory}
use Rattle.wit_grammar.specs.declared.parse.TheConstants.{LONGEST}
use Rattle.wit_stream.specs.Machine.{Follows}
use Rattle.wit_stream.specs.Text.{text_of}
use Rattle.wit_lines.specs.Shown.{IsShown}
use Rattle.wit_lines.specs.declared.view.View.{View}
use Rattle.wit_lines.specs.declared.prelude.Prelude.{Prelude}
use Rattle.wit_stream.specs.declared.machine.Step.{Step}
use Rattle.wit_stream.specs.declared.machine.Step.TheVariants as step
use Rattle.wit_stream.specs.declared.summary.Summary.{Summary}

-- what was read of a prelude
abbrev pub prelude_of : Prelude → output.Prelude
prelude_of p = record {
  version = p.version;
  start = start_of p.profile p.limits p.lists.items p.blessed.items;
  lines = p.lines.items;
}

-- whether the prelude ends before the line with this number
abbrev pub ends_prelude : output.Progress → ℕ → List ℕ → Bool
ends_prelude (output.Opening p) n line = not (output.is_prelude line || output.is_profile n line)
ends_prelude _ n line = false

abbrev pub total : Summary → output.Total
total s = record { calls = s.calls; reports = s.reports; bad = s.bad }

-- the text is one that the view shows of the reading, and the summary sums it up
pub record IsWritten (view : View) (c : output.Course) (bytes : List ℕ)
    (summary : Summary) : Type 0 where
  pub is_shown : IsShown view c bytes summary.circle
  pub summed : total summary ≡ output.summed c.reached c.bad

-- what the view shows of the rest of a trace, of which the first line has this number
abbrev pub ShowsFrom : View → output.Progress → ℕ → List ℕ → List ℕ → Summary → Type 0
ShowsFrom view p number input text summary =
    IsWritten view (output.course_from p number (text_of input).lines (text_of input).tail) text
    summary

-- what the view shows of a trace
abbrev pub ShowsTrace : View → List ℕ → List ℕ → Summary → Type 0
ShowsTrace view = ShowsFrom view output.Unstarted 1

-- how many reports were told so far
abbrev pub reports_told : output.Progress → ℕ
reports_told p = (output.summed p None).reports

-- a line that ends the reading changes nothing of what is summed up
abbrev pub KeepsTotal : output.Progress → output.Progress → Type 0
KeepsTotal old new = (bad : Option (ℕ × Cause)) → output.summed new bad ≡ output.summed old bad

-- the reading goes on, and this is what was told
abbrev pub GoesOnWith : output.Outcome → output.Progress → List ℕ → Type 0
GoesOnWith (output.Goes q text) new told = (new ≡ q) × (told ≡ text)
GoesOnWith (output.Bad why) new told = ⊥

-- the line is bad for this cause, and nothing is changed of what is summed up
abbrev pub IsBadFor : output.Outcome → output.Progress → output.Progress → Cause → Type 0
IsBadFor (output.Goes q text) old new cause = ⊥
IsBadFor (output.Bad why) old new cause = (cause ≡ why) × KeepsTotal old new

-- of want of memory nothing is said
abbrev pub FailsFor : output.Outcome → output.Progress → output.Progress → LineError → Type 0
FailsFor due old new Memory = Unit {0}
FailsFor due old new (Bad cause) = IsBadFor due old new cause

-- what became of a line is what should become of it
abbrev pub GoesAsDue : output.Outcome → output.Progress → output.Progress
    → Result (Vec ℕ) LineError → Type 0
GoesAsDue due old new (Ok told) = GoesOnWith due new told.items
GoesAsDue due old new (Err e) = FailsFor due old new e

-- what is told of a line whose call isn't logged: it counts where it says something
abbrev pub Remarks : Story → (ℕ → output.Outcome) → Result (Vec ℕ) LineError → Type 0
Remarks s due (Ok text) = (n : ℕ) → due n ≡ output.remarks s n text.items
Remarks s due (Err e) = (n : ℕ) → FailsFor (due n) (output.Reading s n) (output.Reading s n) e

-- the reading ends at a bad line, with its text and this summary; not for want of memory
abbrev pub EndsFor : View → output.Progress → ℕ → LineError → List ℕ → Step → Type 0
EndsFor view p number Memory text s = ⊥
EndsFor view p number (Bad cause) text step.Goes = ⊥
EndsFor view p number (Bad cause) text (step.Ends summary) =
    IsWritten view (output.ends_bad p (number, cause)) text summary

-- what may be written and summed up from there on
abbrev pub allowed_from : View → output.Progress → ℕ → List (List ℕ) → List ℕ → List ℕ → Summary
    → Type 0
allowed_from view p number lines tail text summary =
    IsWritten view (output.course_from p number lines tail) text summary

-- a line may be read: fewer reports were told than its number, it isn't too long, and nothing is
-- told of it yet
abbrev pub MayReadAt : output.Progress → ℕ → List ℕ → List ℕ → Type 0
MayReadAt p number line text =
    (reports_told p < number) × (length line ≤ LONGEST) × (text ≡ [])

-- a line is read: this text and what follows are allowed, and it counts for one report at most
abbrev pub IsRead : View → output.Progress → ℕ → List ℕ → output.Progress → List ℕ → Step → Type 0
IsRead view p number line q text s =
    Follows (allowed_from view) p q number line text s × (reports_told q ≤ reports_told p + 1)

-- the verifier was made, or a list refused at its line, as it should be
abbrev pub IsVerifierOf : output.Prelude → Option (ℕ × Fault) → Result Story (ℕ × Cause) → Type 0
IsVerifierOf p due (Ok s) = (due ≡ None) × (s ≡ fresh p.start)
IsVerifierOf p due (Err bad) =
    (refused : ℕ × Fault) × (due ≡ Some refused)
    × (bad ≡ (unwrap_or (with_number p.lines refused.0) 0, why.Fault refused.1))

-- the reading came to where it should stand, or to the refusal of a list, which changes nothing of
-- what is summed up
abbrev pub StandsAsDue : Result output.Progress output.BadLine → output.Progress → output.Progress
    → Option (ℕ × Cause) → Type 0
StandsAsDue due old new None = due ≡ Ok new
StandsAsDue due old new (Some bad) = (due ≡ Err bad) × KeepsTotal old new
