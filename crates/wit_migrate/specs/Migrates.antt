-- What a migration of a trace writes and sums up.
use Rattle.std.specs.Prelude.{◌≡◌, ℕ, ◌+◌, ◌<◌, ◌≤◌, Bool, true, false, List, [], ◌∷◌, map, sum_by}
use Rattle.std.specs.Prelude.{length, Option, None, Some, Result, Ok, Err, refl}
use Rattle.std.specs.Prelude.{if◌then◌else◌}
use Rattle.std.specs.Global.{Vec}
use Rattle.wit_model.specs.declared.calls.Call.{Call}
use Rattle.wit_model.specs.declared.calls.Entry.{Entry}
use Rattle.wit_model.specs.declared.locks.LockNo.{LockNo}
use Rattle.wit_model.specs.declared.locks.SeatNo.{SeatNo}
use Rattle.wit_model.specs.declared.locks.Mode.TheVariants.{Exclusive}
use Rattle.wit_model.specs.declared.faults.Fault.TheVariants.{RawNotFree}
use Rattle.wit_model.specs.declared.lines.Cause.TheVariants.{Fault}
use Rattle.wit_model.specs.declared.lines.Line.TheVariants.{OnLock}
use Rattle.wit_model.specs.declared.calls.Call.TheVariants.{Note, Unlock}
use Rattle.wit_model.specs.declared.lines.LockLine.TheVariants as lock_line
use Rattle.wit_model.specs.declared.lines.Verb.TheVariants as verb
use Rattle.wit_model.specs.declared.locks.Mode.{Mode}
use Rattle.wit_model.specs.declared.raw_steps.RawStep.{RawStep}
use Rattle.wit_model.specs.declared.raw_steps.RawStep.TheVariants as raw_step
use Rattle.wit_model.specs.Rules.History.{pending}
use Rattle.wit_model.specs.Rules.State.{Story, state_of, is_seat}
use Rattle.wit_model.specs.Trace.LineCalls.{LineCall, Logs}
use Rattle.wit_model.specs.World.Deeds.{Deed}
use Rattle.wit_model.specs.World.Moving as model
use Rattle.wit_model.specs.World.Moving.{step_before, step_behind, deed_beside, stage_asked}
use Rattle.wit_model.specs.World.Scenes.{RawLock, is_free, mode_asked, raw_after}
use Rattle.wit_model.specs.Trace.Moving as moving
use Rattle.wit_model.specs.Trace.Moving.{Moving, Written, MovingOutcome, with_feeds, moved_text}
use Rattle.wit_model.specs.Trace.Moving.{lines_before}
use Rattle.wit_model.specs.Trace.Moving.{kept_lines, moving_from, moving_reached}
use Rattle.wit_model.specs.Trace.Output as output
use Rattle.wit_model.specs.Trace.Output.{BadLine, bad_text}
use Rattle.wit_model.specs.Trace.Spelling.{spelling}
use Rattle.wit_fields.specs.declared.errors.LineError.{LineError}
use Rattle.wit_fields.specs.declared.errors.LineError.TheVariants.{Bad, Memory}
use Rattle.wit_grammar.specs.declared.parse.TheConstants.{LONGEST}
use Rattle.wit_world.specs.Steps.{deed_in}
use Rattle.wit_stream.specs.Machine.{Follows}
use Rattle.wit_lines.specs.Outputs.{summary_of}
use Rattle.wit_lines.specs.Replays.{prelude_of, total}
use Rattle.wit_stream.specs.Text.{text_of}
use Rattle.wit_migrate.specs.declared.migrating.Migrating.{Migrating}
use Rattle.wit_migrate.specs.declared.migrating.Migrating.TheVariants.{Unmoved, Keeping, Moved}
use Rattle.wit_migrate.specs.declared.behind.Behind.{Behind}
use Rattle.wit_migrate.specs.declared.steps.LockStep.{LockStep}
use Rattle.wit_stream.specs.declared.machine.Step.{Step}
use Rattle.wit_stream.specs.declared.machine.Step.TheVariants as step
use Rattle.wit_stream.specs.declared.summary.Summary.{Summary}

-- ---- how far a migration is

abbrev pub kept_bytes : List (Vec ℕ) → List (List ℕ)
kept_bytes kept = map (λ (line : Vec ℕ). line.items) kept

abbrev pub standing : Behind → Moving
standing b = moving.Moved b.verifier b.raw b.remarks

abbrev pub moved_to : Migrating → Moving
moved_to Unmoved = moving.Unmoved
moved_to (Keeping prelude kept) = moving.Keeping (prelude_of prelude) (kept_bytes kept.items)
moved_to (Moved behind) = standing behind

-- how many reports were told so far
abbrev pub moving_reports : Moving → ℕ
moving_reports m = (output.summed (moving.read_to m) None).reports

-- a lock weighs one, and each share of it one more: so a line adds one at most, and all of them can
-- be counted
abbrev pub lock_weight : RawLock → ℕ
lock_weight k = 1 + sum_by (λ (x : ℕ × ℕ). x.1) k.holders

abbrev pub weight : List RawLock → ℕ
weight raw = sum_by lock_weight raw

-- what the locks weigh that were made so far
abbrev pub weighed : Moving → ℕ
weighed (moving.Moved s raw n) = weight raw
weighed m = 0

-- a line counts for one report at most, and weighs one at most
pub record AddsOneAtMost (old new : Moving) : Type 0 where
  pub counts : moving_reports new ≤ moving_reports old + 1
  pub weighs : weighed new ≤ weighed old + 1

-- ---- what is written

-- these lines are written, and the summary goes with the ending
pub record IsMigrated (w : Written) (text : List ℕ) (summary : Summary) : Type 0 where
  pub written : text ≡ moved_text w
  pub summed : total summary ≡ output.summed w.reached w.bad
  pub none : summary.circle ≡ false

abbrev pub migrated : Migrating → ℕ → List (List ℕ) → List ℕ → List ℕ → Summary → Type 0
migrated m number lines tail text summary =
    IsMigrated (moving_from (moved_to m) number lines tail) text summary

-- something is written of every trace
abbrev pub some_migration : (w : Written)
    → (text : List ℕ) × ((summary : Summary) × IsMigrated w text summary)
some_migration w = (
  moved_text w,
  (
    summary_of (output.summed w.reached w.bad) false,
    record { written = refl; summed = refl; none = refl },
  ),
)

-- what a migration that stands there makes of the rest of a trace, whose first line has this number
abbrev pub MigratesFrom : Moving → ℕ → List ℕ → List ℕ → Summary → Type 0
MigratesFrom m number input text summary =
    IsMigrated (moving_from m number (text_of input).lines (text_of input).tail) text summary

-- what it makes of a trace
abbrev pub Migrates : List ℕ → List ℕ → Summary → Type 0
Migrates = MigratesFrom moving.Unmoved 1

-- ---- a line

-- the migration goes on, and this is written
pub record Writes (due : MovingOutcome) (new : Moving) (text : List ℕ) : Type 0 where
  pub lines : List (List ℕ)
  pub goes : due ≡ moving.Goes new lines
  pub written : text ≡ with_feeds lines

-- what became of a line is what should; a bad one adds one at most too, as its call may have been
-- made; of want of memory nothing is said
abbrev pub MovesAsDue : MovingOutcome → Moving → Moving → Result (Vec ℕ) LineError → Type 0
MovesAsDue due old new (Ok text) = Writes due new text.items
MovesAsDue due old new (Err Memory) = Unit {0}
MovesAsDue due old new (Err (Bad cause)) =
    (due ≡ moving.Bad cause) × (kept_lines new ≡ kept_lines old) × AddsOneAtMost old new

-- a line may be moved: fewer reports were told than its number, and the locks weigh less; it isn't
-- too long, and nothing is written of it yet
abbrev pub MayMove : Migrating → ℕ → List ℕ → List ℕ → Type 0
MayMove m number line text =
    (moving_reports (moved_to m) < number) × (weighed (moved_to m) < number)
    × (length line ≤ LONGEST) × (text ≡ [])

-- a line is moved: this text is written, and what follows; it adds one at most
abbrev pub HasMoved : Migrating → ℕ → List ℕ → Migrating → List ℕ → Step → Type 0
HasMoved old number line new text s =
    Follows migrated old new number line text s × AddsOneAtMost (moved_to old) (moved_to new)

-- the migration ends with this text and this summary
abbrev pub EndsWith : List ℕ → Summary → List ℕ → Step → Type 0
EndsWith text summary written step.Goes = ⊥
EndsWith text summary written (step.Ends found) = (written ≡ text) × (found ≡ summary)

-- it ends at a line that is bad, where nothing is kept; not for want of memory
abbrev pub EndsFor : Summary → ℕ → LineError → List ℕ → Step → Type 0
EndsFor found number Memory written s = ⊥
EndsFor found number (Bad cause) written s =
    EndsWith (bad_text number cause) (record found { bad = Some (number, cause) }) written s

-- whatever follows a line that is looked at, this is written before it
pub record GoesOver (m : Moving) (n : ℕ) (line : List ℕ) (new : Moving)
    (text : List ℕ) : Type 0 where
  pub lines : List (List ℕ)
  pub written : text ≡ with_feeds lines
  pub on : (next : Moving → Written) → moving_reached m n line next ≡ lines_before lines (next new)

-- a list is refused, and this was written before its line
pub record IsRefusedAt (m : Moving) (n : ℕ) (line text : List ℕ) (bad : BadLine) : Type 0 where
  pub prelude : output.Prelude
  pub lines : List (List ℕ)
  pub written : text ≡ with_feeds lines
  pub is : (next : Moving → Written)
      → moving_reached m n line next
      ≡ record { lines = lines; reached = output.Opening prelude; bad = Some bad }

abbrev pub ReachesLine : Moving → ℕ → List ℕ → Moving → List ℕ → Option BadLine → Type 0
ReachesLine m n line new text None = GoesOver m n line new text
ReachesLine m n line new text (Some bad) = IsRefusedAt m n line text bad × (new ≡ moving.Unmoved)

-- ---- the steps beside a call

-- a step of a seat that takes no lock, and one that takes a lock as it was asked for
abbrev pub step_at : SeatNo → LockNo → RawStep → LockStep
step_at seat lock step = record { seat = seat; lock = lock; step = step; asked = Exclusive }

abbrev pub step_asked : List Entry → SeatNo → LockNo → LockStep
step_asked h seat lock =
    record {
      seat = seat;
      lock = lock;
      step = raw_step.Take;
      asked = mode_asked (stage_asked (pending seat.0 h));
    }

-- what a step does
abbrev pub deed : LockStep → Deed
deed k = deed_in k.asked k.seat.0 k.lock.0 k.step

-- whether it is done before the call
abbrev pub is_first : RawStep → Bool
is_first raw_step.Free = false
is_first raw_step.Down = false
is_first _ = true

-- the step before a call, where only one goes with it, and the one behind
abbrev pub before_of : Option LockStep → Option model.LockStep
before_of None = None
before_of (Some k) = if is_first k.step then Some (k.lock, k.step) else None

abbrev pub behind_of : Option LockStep → Option model.LockStep
behind_of None = None
behind_of (Some k) = if is_first k.step then None else Some (k.lock, k.step)

-- t does it, and where it stands behind the call the lock admits it
abbrev pub IsStepOf : List Entry → List RawLock → ℕ → Option LockStep → Type 0
IsStepOf h raw t None = Unit {0}
IsStepOf h raw t (Some k) =
    (k.seat.0 ≡ t) × (deed_beside h t (k.lock, k.step) ≡ deed k)
    × (is_first k.step ≡ false → is_free raw (deed k) ≡ true)

-- this step, or none, goes with a call of t
pub record IsBeside (h : List Entry) (raw : List RawLock) (t : ℕ) (call : Call)
    (k : Option LockStep) : Type 0 where
  pub first : step_before h t call ≡ before_of k
  pub last : step_behind h raw t call ≡ behind_of k
  pub own : IsStepOf h raw t k

-- it goes with a call, if a seat makes it
abbrev pub GoesWithCall : Story → List RawLock → ℕ → Call → Option LockStep → Type 0
GoesWithCall s raw t call k = is_seat (state_of s) t ≡ true → IsBeside s.history raw t call k

-- ---- the lines of a call and of its step

-- the bytes are the line of a call beside which a lock is taken or freed; of others nothing is said
abbrev pub IsLineOf : LineCall → List ℕ → Type 0
IsLineOf (Logs t (Note lock)) bytes =
    bytes ≡ spelling (OnLock (lock_line.Plain verb.Note (record { 0 = t }) lock))
IsLineOf (Logs t (Unlock lock mode)) bytes =
    bytes ≡ spelling (OnLock (lock_line.Unlock (record { 0 = t }) lock mode))
IsLineOf call bytes = Unit {0}

-- the bytes are the line of a call beside which this step is done; of others nothing is said
abbrev pub IsLineBeside : SeatNo → LockNo → RawStep → List ℕ → Type 0
IsLineBeside seat lock raw_step.Take bytes =
    bytes ≡ spelling (OnLock (lock_line.Plain verb.Note seat lock))
IsLineBeside seat lock raw_step.Free bytes =
    (mode : Mode) × (bytes ≡ spelling (OnLock (lock_line.Unlock seat lock mode)))
IsLineBeside seat lock step bytes = Unit {0}

abbrev pub StandsBeside : List ℕ → LockStep → Type 0
StandsBeside bytes k = IsLineBeside k.seat k.lock k.step bytes

-- the step is this one
abbrev pub Does : SeatNo → LockNo → RawStep → LockStep → Type 0
Does seat lock step k = (k.seat ≡ seat) × (k.lock ≡ lock) × (k.step ≡ step)

-- the line of a step
abbrev pub line_of_step : LockStep → List ℕ
line_of_step k = spelling (OnLock (lock_line.Step k.seat k.lock k.step))

-- a line, and the one of the step that goes with it
abbrev pub line_and_step : LockStep → List ℕ → List (List ℕ)
line_and_step k bytes =
    if is_first k.step then line_of_step k ∷ bytes ∷ [] else bytes ∷ line_of_step k ∷ []

-- the step was done, and both lines are the text; or the lock doesn't admit it, and stays
abbrev pub DoesBeside : LockStep → List ℕ → List RawLock → List RawLock
    → Result (Vec ℕ) LineError → Type 0
DoesBeside k bytes old new (Ok text) =
    (is_free old (deed k) ≡ true) × (new ≡ raw_after (deed k) old)
    × (text.items ≡ with_feeds (line_and_step k bytes))
DoesBeside k bytes old new (Err Memory) = Unit {0}
DoesBeside k bytes old new (Err (Bad cause)) =
    (is_free old (deed k) ≡ false) × (cause ≡ Fault RawNotFree) × (new ≡ old)
