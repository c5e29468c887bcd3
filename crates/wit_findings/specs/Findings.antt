-- What is written of a recording, line by line.
use Rattle.std.specs.Prelude.{◌≡◌, ◌^◌, ◌-◌, ℕ, ◌+◌, Bool, true, false, nat_lt, min, List, [], ◌∷◌, ◌++◌}
use Rattle.std.specs.Prelude.{length, codes, None, if◌then◌else◌}
use Rattle.std.specs.Option.{option_or}
use Rattle.json.specs.Token.{end_object}
use Rattle.wit_model.specs.declared.lines.Cause.TheVariants as why
use Rattle.wit_model.specs.Rules.History.{reports_of}
use Rattle.wit_grammar.specs.declared.parse.TheConstants.{LONGEST}
use Rattle.wit_stream.specs.declared.machine.Step.{Step}
use Rattle.wit_stream.specs.declared.machine.Step.TheVariants as step
use Rattle.wit_stream.specs.declared.summary.Summary.{Summary}
use Rattle.wit_stream.specs.Text.{text_of}
use Rattle.wit_recorded.specs.Reading.{line_of}
use Rattle.wit_findings.specs.declared.processes.Processes.{Processes}
use Rattle.wit_findings.specs.Objects.{count_member, head_tokens, line_text}
use Rattle.wit_findings.specs.Runs.{Run, in_order, known, nothing_told, turned, with_now}
use Rattle.wit_findings.specs.States.{IsState}
use Rattle.wit_findings.specs.Graded.{TellsGrade}
use Rattle.wit_findings.specs.Steps.{After, Outcome, Tells, Shows, Grades, Turns, Stops, nothing}
use Rattle.wit_findings.specs.Steps.{outcome}
use Rattle.wit_findings.specs.Steps.{refused}
use Rattle.wit_findings.specs.Told.{Told}

-- what is told of a line, or of a process, and what is written after it
pub record GoesOn (says next : List ℕ → Type 0) (text : List ℕ) : Type 0 where
  pub first : List ℕ
  pub rest : List ℕ
  pub parted : text ≡ first ++ rest
  pub tells : says first
  pub goes_on : next rest

-- ---- the end

-- what was counted: calls that were logged, the reports among them, and the bad lines
abbrev pub end_line : Told → List ℕ
end_line t =
    line_text (head_tokens t.process (codes "end")
    ++ (count_member (codes "calls") (length t.story.history)
    ++ (count_member (codes "reports") (reports_of t.story.history)
    ++ (count_member (codes "bad") t.bads ++ end_object ∷ []))))

-- such a text is added
pub record Adds (says : List ℕ → Type 0) (old new : List ℕ) : Type 0 where
  pub more : List ℕ
  pub is : says more
  pub all : new ≡ old ++ more

-- the last moment of a process is shown, and what was counted
pub record IsEnd (t : Told) (text : List ℕ) : Type 0 where
  pub state : List ℕ
  pub is_state : IsState t state
  pub written : text ≡ state ++ end_line t

-- those of all these processes
abbrev pub AreEnds : List Told → List ℕ → Type 0
AreEnds [] text = text ≡ []
AreEnds (t ∷ ts) text = GoesOn (IsEnd t) (AreEnds ts) text

-- all are counted together; a sum that is too great for the machine is its greatest number
abbrev pub capped : ℕ → ℕ
capped n = min n (2 ^ 64 - 1)

-- what a process sums up, beside what those after it do
abbrev pub summed : Told → Summary → Summary
summed t after = record {
  calls = capped (after.calls + length t.story.history);
  reports = capped (after.reports + reports_of t.story.history);
  circle = false;
  bad = option_or t.bad after.bad;
}

abbrev pub sums : List Told → Summary → Summary
sums [] after = after
sums (t ∷ ts) after = summed t (sums ts after)

abbrev pub nothing_summed : Summary
nothing_summed = record { calls = 0; reports = 0; circle = false; bad = None }

abbrev pub summary_of : List Told → Summary
summary_of ts = sums ts nothing_summed

-- the reading ends once this was told
pub record Ends (r : Run) (told text : List ℕ) (summary : Summary) : Type 0 where
  pub ends : List ℕ
  pub are : AreEnds (in_order r) ends
  pub written : text ≡ told ++ ends
  pub sum : summary ≡ summary_of (in_order r)

abbrev pub EndsAfter : Run → After → List ℕ → Summary → Type 0
EndsAfter r a text summary = Ends (with_now r a.told) a.text text summary

-- after the last whole line; one that isn't whole is bad
abbrev pub at_tail : Told → ℕ → List ℕ → After
at_tail t n [] = nothing t
at_tail t n (b ∷ tail) =
    refused t n (if nat_lt LONGEST (length (b ∷ tail)) then why.Long else why.Cut)

-- ---- lines

-- by what becomes of the line with this number
abbrev pub AfterOutcome : Run → ℕ → Outcome → (Run → List ℕ → Type 0) → List ℕ → Summary → Type 0
AfterOutcome r n (Tells a) next text summary =
    GoesOn (λ told. told ≡ a.text) (next (with_now r a.told)) text
AfterOutcome r n Shows next text summary = GoesOn (IsState r.now) (next r) text
AfterOutcome r n (Grades report) next text summary = GoesOn (TellsGrade r.now report) (next r) text
AfterOutcome r n (Turns process) next text summary =
    GoesOn (λ told. told ≡ []) (next (turned r n process)) text
AfterOutcome r n (Stops a) next text summary = EndsAfter r a text summary

-- a line that is too long ends the reading
abbrev pub outcome_at : Told → ℕ → Bool → List ℕ → Outcome
outcome_at t n true line = Stops (refused t n why.Long)
outcome_at t n false line = outcome t n line (line_of line)

-- from here on, where the next line has number n, these whole lines and this unfinished one are to
-- come
abbrev pub FindsLines : Run → ℕ → List (List ℕ) → List ℕ → List ℕ → Summary → Type 0
FindsLines r n [] tail text summary = EndsAfter r (at_tail r.now n tail) text summary
FindsLines r n (line ∷ lines) tail text summary =
    AfterOutcome r n (outcome_at r.now n (nat_lt LONGEST (length line)) line)
    (λ next rest. FindsLines next (n + 1) lines tail rest summary) text summary

-- from here on, where the first line of the bytes has this number
abbrev pub FindsFrom : Run → ℕ → List ℕ → List ℕ → Summary → Type 0
FindsFrom r n input text summary =
    FindsLines r n (text_of input).lines (text_of input).tail text summary

-- the findings of a recording
abbrev pub Finds : List ℕ → List ℕ → Summary → Type 0
Finds = FindsFrom nothing_told 1

-- ---- of a machine

abbrev pub allowed : Processes → ℕ → List (List ℕ) → List ℕ → List ℕ → Summary → Type 0
allowed p n lines tail text summary = FindsLines (known p) n lines tail text summary

-- a line was entered: what is known now of its process, what was told, and whether the reading goes on
abbrev pub Enters : Told → Outcome → Told → List ℕ → Bool → Type 0
Enters old (Tells a) new text goes = (new ≡ a.told) × (text ≡ a.text) × (goes ≡ true)
Enters old Shows new text goes = (new ≡ old) × IsState old text × (goes ≡ true)
Enters old (Grades report) new text goes =
    (new ≡ old) × TellsGrade old report text × (goes ≡ true)
Enters old (Turns process) new text goes = (new ≡ old) × (text ≡ []) × (goes ≡ true)
Enters old (Stops a) new text goes = (new ≡ a.told) × (text ≡ a.text) × (goes ≡ false)

-- and of the run
abbrev pub EntersRun : Run → ℕ → Outcome → Run → List ℕ → Bool → Type 0
EntersRun old n (Tells a) new text goes =
    (new ≡ with_now old a.told) × (text ≡ a.text) × (goes ≡ true)
EntersRun old n Shows new text goes = (new ≡ old) × IsState old.now text × (goes ≡ true)
EntersRun old n (Grades report) new text goes =
    (new ≡ old) × TellsGrade old.now report text × (goes ≡ true)
EntersRun old n (Turns process) new text goes =
    (new ≡ turned old n process) × (text ≡ []) × (goes ≡ true)
EntersRun old n (Stops a) new text goes =
    (new ≡ with_now old a.told) × (text ≡ a.text) × (goes ≡ false)

-- the step after it: the reading goes on with this text, or ends with a last one
abbrev pub StepsBy : Run → List ℕ → Bool → List ℕ → Step → Type 0
StepsBy r before goes text step.Goes = (goes ≡ true) × (text ≡ before)
StepsBy r before goes text (step.Ends summary) = (goes ≡ false) × Ends r before text summary
