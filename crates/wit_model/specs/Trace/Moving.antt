-- How a trace of the first version is written in the second: its own lines, with the steps of the
-- locks themselves between them.
use Rattle.std.specs.Prelude.{◌≡◌, ℕ, ◌+◌, ◌-◌, ◌||◌, nat_lt, List, [], ◌∷◌, ◌++◌, length, take}
use Rattle.std.specs.Prelude.{unwrap_or, Option, None, Some, Result, Ok, Err, if◌then◌else◌}
use Rattle.wit_model.specs.declared.faults.Fault.{Fault}
use Rattle.wit_model.specs.declared.faults.Fault.TheVariants.{RawNotFree}
use Rattle.wit_model.specs.declared.calls.Call.{Call}
use Rattle.wit_model.specs.declared.calls.Reply.{Reply}
use Rattle.wit_model.specs.declared.lines.Cause.{Cause}
use Rattle.wit_model.specs.declared.lines.Cause.TheVariants as why
use Rattle.wit_model.specs.declared.lines.Line.{Line}
use Rattle.wit_model.specs.declared.lines.Line.TheVariants.{Header, OnLock}
use Rattle.wit_model.specs.declared.lines.LockLine.TheVariants.{Step}
use Rattle.wit_model.specs.declared.lines.Version.TheVariants.{One, Two}
use Rattle.wit_model.specs.Rules.Files.{naming_answer, files_after}
use Rattle.wit_model.specs.Rules.Numbers.{with_number}
use Rattle.wit_model.specs.Rules.Sizes.{sizes_of, are_within_limits}
use Rattle.wit_model.specs.Rules.Start.{start_fault}
use Rattle.wit_model.specs.Rules.State.{Story, fresh}
use Rattle.wit_model.specs.Rules.Step.{answer_of, grown}
use Rattle.wit_model.specs.World.Moving.{LockStep, step_before, step_behind, is_free_beside}
use Rattle.wit_model.specs.World.Moving.{raw_moved}
use Rattle.wit_model.specs.World.Scenes.{RawLock, Scene}
use Rattle.wit_model.specs.Trace.Output.{Prelude, Progress, BadLine, Course, LineCall, Logs}
use Rattle.wit_model.specs.Trace.Output.{LogsAt, empty_prelude, is_prelude, is_profile}
use Rattle.wit_model.specs.Trace.Output.{longest_line, log_limit, call_of, calls, bad_text}
use Rattle.wit_model.specs.Trace.Output.{course_from}
use Rattle.wit_model.specs.Trace.Output as output
use Rattle.wit_model.specs.Trace.Reading.{line_of}
use Rattle.wit_model.specs.Trace.Spelling.{spelling}

-- how far a migration is: before the header; in the prelude, whose lines are kept until it is known
-- to be good; or behind it, with the verifier's story, what threads have of the locks then, and the
-- number of failed assertions and warnings
pub data Moving : Type 0 where
  Unmoved : Moving
  Keeping : Prelude → List (List ℕ) → Moving
  Moved : Story → List RawLock → ℕ → Moving

abbrev pub read_to : Moving → Progress
read_to Unmoved = output.Unstarted
read_to (Keeping p kept) = output.Opening p
read_to (Moved s raw n) = output.Reading s n

-- the lines that are still to be written
abbrev pub kept_lines : Moving → List (List ℕ)
kept_lines (Keeping p kept) = kept
kept_lines _ = []

-- what becomes of a line: the migration goes on, having written these lines; or the line is bad
pub data MovingOutcome : Type 0 where
  Goes : Moving → List (List ℕ) → MovingOutcome
  Bad : Cause → MovingOutcome

-- ---- calls

-- the line of a step of t beside a call
abbrev pub step_line : ℕ → Option LockStep → List (List ℕ)
step_line t None = []
step_line t (Some k) = spelling (OnLock (Step (record { 0 = t }) k.0 k.1)) ∷ []

-- a call that is answered so: its own fault comes before that of the step before it
abbrev pub answered : Story → List RawLock → ℕ → List ℕ → ℕ → Call → Result Reply Fault
    → MovingOutcome
answered s raw n line t call (Ok r) =
    let before = step_before s.history t call in
    if is_free_beside s.history raw t before
    then Goes (Moved (grown s t call r) (raw_moved s.history raw t call r) n)
    (step_line t before ++ line ∷ step_line t (step_behind s.history raw t call))
    else Bad (why.Fault RawNotFree)
answered s raw n line t call (Err fault) = Bad (why.Fault fault)

abbrev pub answered_at : Story → List RawLock → ℕ → List ℕ → ℕ → (ℕ → Call) → List ℕ
    → Result ℕ Fault → MovingOutcome
answered_at s raw n line t call file (Ok f) =
    let named = record s { files = files_after file s.files } in
    answered named raw n line t (call f) (answer_of named t (call f))
answered_at s raw n line t call file (Err fault) = Bad (why.Fault fault)

-- a line that changes nothing of the story stands alone
abbrev pub line_alone : List RawLock → List ℕ → output.Outcome → MovingOutcome
line_alone raw line (output.Goes (output.Reading s n) text) = Goes (Moved s raw n) (line ∷ [])
line_alone raw line (output.Goes p text) = Bad why.Syntax
line_alone raw line (output.Bad cause) = Bad cause

abbrev pub moves : Story → List RawLock → ℕ → List ℕ → LineCall → MovingOutcome
moves s raw n line (Logs t call) = answered s raw n line t call (answer_of s t call)
moves s raw n line (LogsAt t file call) =
    answered_at s raw n line t call file (naming_answer s file)
moves s raw n line call = line_alone raw line (calls s n call)

-- ---- a line

-- a line of the prelude is kept
abbrev pub keeps : List (List ℕ) → List ℕ → output.Outcome → MovingOutcome
keeps kept line (output.Goes (output.Opening p) text) = Goes (Keeping p (kept ++ line ∷ [])) []
keeps kept line (output.Goes p text) = Bad why.Syntax
keeps kept line (output.Bad cause) = Bad cause

-- a line in its place, with its number and its bytes; a header of the second version is bad
abbrev pub moving_entered : Moving → ℕ → List ℕ → Line → MovingOutcome
moving_entered Unmoved n bytes (Header One seats types locks chunks) =
    let sizes = sizes_of seats types locks chunks log_limit in
    if are_within_limits sizes
    then Goes (Keeping (empty_prelude One sizes) [])
    (spelling (Header Two seats types locks chunks) ∷ [])
    else Bad why.Limit
moving_entered Unmoved n bytes (Header Two seats types locks chunks) = Bad why.Version
moving_entered Unmoved n bytes _ = Bad why.Syntax
moving_entered (Keeping p kept) n bytes line =
    keeps kept bytes (output.entered (output.Opening p) n line)
moving_entered (Moved s raw m) n bytes line = moves s raw m bytes (call_of line)

abbrev pub moving_read_as : Moving → ℕ → List ℕ → Option Line → MovingOutcome
moving_read_as m n bytes None = Bad why.Syntax
moving_read_as m n bytes (Some line) = moving_entered m n bytes line

-- a whole line, without its line feed
abbrev pub moving_outcome : Moving → ℕ → List ℕ → MovingOutcome
moving_outcome m n line =
    if nat_lt longest_line (length line) then Bad why.Long
    else moving_read_as m n line (line_of line)

-- ---- the whole trace

-- the lines that are written; how far the reading came; and the bad line that ended it
pub record Written : Type 0 where
  pub lines : List (List ℕ)
  pub reached : Progress
  pub bad : Option BadLine

abbrev pub lines_before : List (List ℕ) → Written → Written
lines_before lines w = record w { lines = lines ++ w.lines }

-- at a bad line nothing more is written than what was kept
abbrev pub moving_ends_bad : Moving → BadLine → Written
moving_ends_bad m bad = record { lines = kept_lines m; reached = read_to m; bad = Some bad }

abbrev pub moving_ends : Moving → ℕ → List ℕ → Written
moving_ends (Moved s raw m) n [] = record { lines = []; reached = output.Reading s m; bad = None }
moving_ends m n [] = moving_ends_bad m (n, why.Cut)
moving_ends m n (b ∷ tail) =
    moving_ends_bad m (n, if nat_lt longest_line (length (b ∷ tail)) then why.Long else why.Cut)

-- what stands before a line of the prelude, the header apart
abbrev pub kept_before : ℕ → List (List ℕ) → List (List ℕ)
kept_before n kept = take (n - 2) kept

-- the prelude ends: what was kept is written, and the migration goes on; where a list is refused,
-- the lines before it alone
abbrev pub moving_opened : Prelude → List (List ℕ) → Option (ℕ × Fault)
    → (Moving → Written) → Written
moving_opened p kept None next = lines_before kept (next (Moved (fresh p.start) [] 0))
moving_opened p kept (Some refused) next =
    let n = unwrap_or (with_number p.lines refused.0) 0 in
    moving_ends_bad (Keeping p (kept_before n kept)) (n, why.Fault refused.1)

-- what follows once a line, with its number, is looked at
abbrev pub moving_reached : Moving → ℕ → List ℕ → (Moving → Written) → Written
moving_reached (Keeping p kept) n line next =
    if is_prelude line || is_profile n line then next (Keeping p kept)
    else moving_opened p kept (start_fault p.start) next
moving_reached m n line next = next m

-- what follows a line
abbrev pub moving_after : Moving → ℕ → MovingOutcome → (Moving → Written) → Written
moving_after m n (Goes q lines) next = lines_before lines (next q)
moving_after m n (Bad cause) next = moving_ends_bad m (n, cause)

-- from here on, where the next line has number n, these whole lines and this unfinished one are to
-- come
abbrev pub moving_from : Moving → ℕ → List (List ℕ) → List ℕ → Written
moving_from m n [] tail = moving_reached m n tail (λ q. moving_ends q n tail)
moving_from m n (line ∷ lines) tail =
    moving_reached m n line
    (λ q. moving_after q n (moving_outcome q n line) (λ r. moving_from r (n + 1) lines tail))

-- ---- what is written

-- lines, each with its line feed
abbrev pub with_feeds : List (List ℕ) → List ℕ
with_feeds [] = []
with_feeds (line ∷ lines) = line ++ 10 ∷ with_feeds lines

-- the text of a bad line comes last
abbrev pub last_text : Option BadLine → List ℕ
last_text (Some bad) = bad_text bad.0 bad.1
last_text None = []

abbrev pub moved_text : Written → List ℕ
moved_text w = with_feeds w.lines ++ last_text w.bad

-- ---- the two traces

-- these lines are a trace of the first version and those one of the second, of which the same is
-- told and which end with the same story, so with the same log, files and listed orders
pub record TellsTheSame (lines moved : List (List ℕ)) : Type 0 where
  pub text : List ℕ
  pub story : Story
  pub scene : Scene
  pub count : ℕ
  pub was : course_from output.Unstarted 1 lines []
      ≡ record { text = text; reached = output.Reading story count; bad = None }
  pub now : course_from output.Unstarted 1 moved []
      ≡ record { text = text; reached = output.Stepping scene count; bad = None }
  pub same : scene.story ≡ story

-- where no line is bad, what a migration writes tells the same
abbrev pub MigrationsTellTheSame : Type 0
MigrationsTellTheSame =
    (lines : List (List ℕ)) (tail : List ℕ) (story : Story) (count : ℕ)
    → (moving_from Unmoved 1 lines tail).reached ≡ output.Reading story count
    → (moving_from Unmoved 1 lines tail).bad ≡ None
    → (tail ≡ []) × TellsTheSame lines (moving_from Unmoved 1 lines tail).lines
