-- A line that is migrated tells of one report at most.
use Rattle.std.proofs.Common.{ℕ, ◌+◌, ◌≤◌, Bool, true, false, cond, List, [], ◌∷◌, ◌++◌, length}
use Rattle.std.proofs.Common.{Option, None, Some, Result, Ok, Err, subst, arith, nat_lt}
use Rattle.wit_model.specs.declared.calls.Call.{Call}
use Rattle.wit_model.specs.declared.calls.Reply.{Reply}
use Rattle.wit_model.specs.declared.faults.Fault.{Fault}
use Rattle.wit_model.specs.declared.faults.Fault.TheVariants.{RawNotFree}
use Rattle.wit_model.specs.declared.lines.Cause.TheVariants as why
use Rattle.wit_model.specs.declared.lines.Line.{Line}
use Rattle.wit_model.specs.declared.lines.Line.TheVariants.{Header}
use Rattle.wit_model.specs.declared.lines.Version.TheVariants.{One, Two}
use Rattle.wit_model.specs.Rules.Files.{files_after, naming_answer}
use Rattle.wit_model.specs.Rules.History.{reports_of}
use Rattle.wit_model.specs.Rules.Sizes.{Sizes, sizes_of, are_within_limits}
use Rattle.wit_model.specs.Rules.State.{Story}
use Rattle.wit_model.specs.Rules.Step.{answer_of, grown}
use Rattle.wit_model.specs.Trace.Moving.{Moving, Unmoved, Keeping, Moved, MovingOutcome, Goes, Bad}
use Rattle.wit_model.specs.Trace.Moving.{step_line, answered, answered_at, line_alone, moves, keeps}
use Rattle.wit_model.specs.Trace.Moving.{moving_outcome}
use Rattle.wit_model.specs.Trace.Moving.{moving_entered, moving_read_as}
use Rattle.wit_model.specs.Trace.Output.{LineCall, Logs, LogsAt, Opening, Reading, call_of, calls}
use Rattle.wit_model.specs.Trace.Output.{empty_prelude}
use Rattle.wit_model.specs.Trace.Output as output
use Rattle.wit_model.specs.Trace.Reading.{line_of}
use Rattle.wit_model.specs.Trace.Spelling.{spelling}
use Rattle.wit_model.specs.World.Moving.{step_before, step_behind, is_free_beside, raw_moved}
use Rattle.wit_model.specs.World.Scenes.{RawLock}
use Rattle.wit_migrate.specs.Migrates.{Writes, moving_reports}
use Rattle.wit_lines.proofs.CountLemmas.{CountsOne, calls_one, grown-le}
use Rattle.wit_grammar.specs.declared.parse.TheConstants.{LONGEST}

-- a line's outcome counts one at most
abbrev MovesOne : ℕ → MovingOutcome → Type 0
MovesOne n (Goes q lines) = moving_reports q ≤ n + 1
MovesOne n (Bad cause) = Unit {0}

answered_one : (s : Story) (raw : List RawLock) (m : ℕ) (bytes : List ℕ) (t : ℕ) (call : Call)
    (a : Result Reply Fault)
    → MovesOne (reports_of s.history + m) (answered s raw m bytes t call a)
answered_one s raw m bytes t call (Err fault) = tt
answered_one s raw m bytes t call (Ok r) =
    go (is_free_beside s.history raw t (step_before s.history t call))
  where
    go : (b : Bool) → MovesOne (reports_of s.history + m)
        (cond b (Goes (Moved (grown s t call r) (raw_moved s.history raw t call r) m)
        (step_line t (step_before s.history t call) ++ bytes ∷ step_line t
        (step_behind s.history raw t call)))
        (Bad (why.Fault RawNotFree)))
    go true = omega (arith, grown-le s t call r)
    go false = tt

at_one : (s : Story) (raw : List RawLock) (m : ℕ) (bytes : List ℕ) (t : ℕ) (call : ℕ
    → Call) (file : List ℕ) (a : Result ℕ Fault)
    → MovesOne (reports_of s.history + m) (answered_at s raw m bytes t call file a)
at_one s raw m bytes t call file (Err fault) = tt
at_one s raw m bytes t call file (Ok f) =
    let named : Story = record s { files = files_after file s.files } in
    answered_one named raw m bytes t (call f) (answer_of named t (call f))

alone_one : (n : ℕ) (raw : List RawLock) (bytes : List ℕ) (o : output.Outcome) → CountsOne n o
    → MovesOne n (line_alone raw bytes o)
alone_one n raw bytes (output.Goes (Reading s m) text) one = one
alone_one n raw bytes (output.Goes p text) one = tt
alone_one n raw bytes (output.Bad cause) one = tt

moves_one : (s : Story) (raw : List RawLock) (m : ℕ) (bytes : List ℕ) (c : LineCall)
    → MovesOne (reports_of s.history + m) (moves s raw m bytes c)
moves_one s raw m bytes (Logs t call) = answered_one s raw m bytes t call (answer_of s t call)
moves_one s raw m bytes (LogsAt t file call) =
    at_one s raw m bytes t call file (naming_answer s file)
moves_one s raw m bytes c =
    alone_one (reports_of s.history + m) raw bytes (calls s m c) (calls_one s m c)

keeps_one : (kept : List (List ℕ)) (line : List ℕ) (o : output.Outcome)
    → MovesOne 0 (keeps kept line o)
keeps_one kept line (output.Goes (Opening p) text) = omega arith
keeps_one kept line (output.Goes p text) = tt
keeps_one kept line (output.Bad cause) = tt

header_one : (sizes : Sizes) (line : List ℕ) (fits : Bool)
    → MovesOne 0 (cond fits (Goes (Keeping (empty_prelude One sizes) []) (line ∷ []))
    (Bad why.Limit))
header_one sizes line true = omega arith
header_one sizes line false = tt

entered_one : (m : Moving) (n : ℕ) (bytes : List ℕ) (line : Line)
    → MovesOne (moving_reports m) (moving_entered m n bytes line)
entered_one Unmoved n bytes (Header One s t l c) =
    header_one (sizes_of s t l c output.log_limit) (spelling (Header Two s t l c))
    (are_within_limits (sizes_of s t l c output.log_limit))
entered_one Unmoved n bytes (Header Two s t l c) = tt
entered_one Unmoved n bytes _ = tt
entered_one (Keeping p kept) n bytes line = keeps_one kept bytes (output.entered (Opening p) n line)
entered_one (Moved s raw m) n bytes line = moves_one s raw m bytes (call_of line)

outcome_one : (m : Moving) (n : ℕ) (bytes : List ℕ)
    → MovesOne (moving_reports m) (moving_outcome m n bytes)
outcome_one m n bytes = go (nat_lt LONGEST (length bytes)) (line_of bytes)
  where
    go : (long : Bool) (o : Option Line)
        → MovesOne (moving_reports m) (cond long (Bad why.Long) (moving_read_as m n bytes o))
    go true o = tt
    go false None = tt
    go false (Some line) = entered_one m n bytes line

pub written_one : (m new : Moving) (n : ℕ) (bytes text : List ℕ)
    → Writes (moving_outcome m n bytes) new text
    → moving_reports new ≤ moving_reports m + 1
written_one m new n bytes text w =
    subst (MovesOne (moving_reports m)) w.goes (outcome_one m n bytes)
