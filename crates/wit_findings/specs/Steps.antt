-- What becomes of a line.
use Rattle.std.specs.Prelude.{◌≡◌, ℕ, ◌+◌, ◌==◌, List, [], ◌∷◌, ◌++◌, Option, Some, None, Result, Ok, Err}
use Rattle.std.specs.Prelude.{length, nat_lt, is_some, codes, Bool, if◌then◌else◌}
use Rattle.std.specs.Option.{option_or}
use Rattle.json.specs.Token.{end_object}
use Rattle.wit_model.specs.declared.calls.Call.{Call}
use Rattle.wit_model.specs.declared.calls.Call.TheVariants as call
use Rattle.wit_model.specs.declared.calls.NewLock.{NewLock}
use Rattle.wit_model.specs.declared.calls.Reply.{Reply}
use Rattle.wit_model.specs.declared.calls.Reply.TheVariants.{Made}
use Rattle.wit_model.specs.declared.calls.Request.{Request}
use Rattle.wit_model.specs.declared.faults.Fault.{Fault}
use Rattle.wit_model.specs.declared.faults.Fault.TheVariants.{BadName, LogFull, UnknownSeat}
use Rattle.wit_model.specs.declared.lines.Cause.{Cause}
use Rattle.wit_model.specs.declared.lines.Cause.TheVariants as why
use Rattle.wit_model.specs.declared.locks.Class.{Class}
use Rattle.wit_model.specs.declared.locks.Site.{Site}
use Rattle.wit_model.specs.Rules.Numbers.{is_given, with_changed}
use Rattle.wit_model.specs.Rules.Step.{answer_of, grown}
use Rattle.wit_model.specs.Trace.Output.{cause_text}
use Rattle.wit_recorded.specs.declared.lines.Asked.{Asked}
use Rattle.wit_recorded.specs.declared.lines.Line.{Line}
use Rattle.wit_recorded.specs.declared.lines.Line.TheVariants as said
use Rattle.wit_recorded.specs.declared.lines.TheConstants.{VERSION}
use Rattle.wit_recorded.specs.Reading.{makes_lock}
use Rattle.wit_findings.specs.declared.spots.Spot.{Spot}
use Rattle.wit_findings.specs.declared.spots.TheConstants.{MOST_SPOTS}
use Rattle.wit_tellings.specs.Heard.{Heard, with_join, with_life, with_lost, with_many, with_pair}
use Rattle.wit_findings.specs.declared.recording.Reported.{Reported}
use Rattle.wit_findings.specs.Graded.{report_at, with_reported}
use Rattle.wit_findings.specs.Objects.{finding_tokens, line_text, text_member}
use Rattle.wit_findings.specs.Reports.{error_tokens, reply_text}
use Rattle.wit_findings.specs.Told.{Told, lock_number, named_type, thread_of}

-- what is known after a line, and what was told of it
pub record After : Type 0 where
  pub told : Told
  pub text : List ℕ

-- so it came
abbrev pub IsAfter : After → Told → List ℕ → Type 0
IsAfter a new text = (new ≡ a.told) × (text ≡ a.text)

abbrev pub nothing : Told → After
nothing t = record { told = t; text = [] }

-- ---- a bad line

abbrev pub bad_line : Told → ℕ → Cause → List ℕ
bad_line t n cause =
    line_text (finding_tokens t.process (codes "bad") n
    ++ (text_member (codes "why") (cause_text cause) ++ end_object ∷ []))

-- it is told, and counted
abbrev pub refused : Told → ℕ → Cause → After
refused t n cause = record {
  told = record t { bads = t.bads + 1; bad = option_or t.bad (Some (n, cause)) };
  text = bad_line t n cause;
}

-- ---- a call of the verifier

-- the verifier's answer is told
abbrev pub answered : Told → ℕ → ℕ → Call → Result Reply Fault → After
answered t n seat call (Ok reply) =
    let after = with_reported (record t { story = grown t.story seat call reply }) n reply in
    record { told = after; text = reply_text after n reply }
answered t n seat call (Err fault) = refused t n (why.Fault fault)

unfoldable pub calls : Told → ℕ → ℕ → Call → After
calls t n seat call = answered t n seat call (answer_of t.story seat call)

-- ---- locks

-- one more lock, which the story has by this number
abbrev pub with_lock : Told → ℕ → Told
with_lock t number = record t { locks = t.locks ++ number ∷ [] }

-- ---- which the story has
abbrev pub with_made : Told → ℕ → Told
with_made t number =
    record t { locks = t.locks ++ number ∷ []; made = t.made ++ (length t.locks + 1) ∷ [] }

-- a lock is counted whether it was made or not
abbrev pub made_after : Told → ℕ → ℕ → Call → Result Reply Fault → After
made_after t n seat call (Ok (Made lock)) =
    nothing (with_made (record t { story = grown t.story seat call (Made lock) }) lock.0)
made_after t n seat call (Ok reply) =
    nothing (with_lock (record t { story = grown t.story seat call reply }) 0)
made_after t n seat call (Err fault) = refused (with_lock t 0) n (why.Fault fault)

abbrev pub new_lock : Class → Bool → List ℕ → NewLock
new_lock class recursive name = record {
  class = class;
  flags = record { 0 = if recursive then 1 else 0 };
  name = name;
  type_name = None;
}

-- a type has a name before it is used
abbrev pub makes : Told → ℕ → ℕ → Class → Bool → Option (List ℕ) → After
makes t n seat class recursive None = refused (with_lock t 0) n (why.Fault BadName)
makes t n seat class recursive (Some name) =
    let init = call.Init (new_lock class recursive name) in
    made_after t n seat init (answer_of t.story seat init)

-- a name is given once
abbrev pub names : Told → ℕ → ℕ → List ℕ → After
names t n number name =
    if is_some (named_type t.names number) then refused t n why.Syntax
    else nothing (record t { names = t.names ++ (number, name) ∷ [] })

-- ---- requests

abbrev pub spot_of : Told → ℕ → Asked → Spot
spot_of t n a = record {
  line = n;
  seat = a.seat;
  thread = thread_of t a.seat.0;
  place = a.place;
  stack = a.stack;
}

abbrev pub with_spot : Told → Spot → Told
with_spot t spot = record t { spots = t.spots ++ spot ∷ [] }

abbrev pub has_room : Told → Bool
has_room t = nat_lt (length t.spots) MOST_SPOTS

-- the place that is told next, where there is room for it
unfoldable pub next_site : Told → Site
next_site t =
    record { file = record { 0 = 1 }; line = if has_room t then length t.spots + 1 else 0 }

abbrev pub request_of : Told → Asked → Request
request_of t a = record {
  lock = record { 0 = lock_number t a.lock.0 };
  site = next_site t;
  mode = a.mode;
  ops = record { 0 = 1 };
}

-- a call that names the place, where there is room for one more
unfoldable pub asks : Told → ℕ → Asked → Call → After
asks t n a call =
    if has_room t then calls (with_spot t (spot_of t n a)) n a.seat.0 call
    else refused t n (why.Fault LogFull)

abbrev pub checks : Told → ℕ → Asked → After
checks t n a = asks t n a (call.Check (request_of t a))

abbrev pub tries : Told → ℕ → Asked → After
tries t n a =
    asks t n a (call.NoteTry (record { 0 = lock_number t a.lock.0 }) a.mode (next_site t))

-- ---- threads

abbrev pub seats : Told → ℕ → ℕ → ℕ → After
seats t n seat thread =
    if is_given t.threads seat
    then nothing (record t { threads = with_changed t.threads seat thread })
    else refused t n (why.Fault UnknownSeat)

-- ---- single locks and threads

abbrev pub with_heard : Told → Heard → After
with_heard t h = nothing (record t { heard = h })

-- ---- a line

-- what becomes of a line: it is told and the reading goes on; the moment is shown; the report's grade
-- is told; the lines after it are of the process with this number; or the reading ends, once it was
-- told
pub data Outcome : Type 0 where
  Tells : After → Outcome
  Shows : Outcome
  Grades : Reported → Outcome
  Turns : ℕ → Outcome
  Stops : After → Outcome

abbrev pub begins : Told → ℕ → ℕ → Bool → Outcome
begins t n version lost =
    if version == VERSION then Tells (with_heard t (with_lost t.heard lost))
    else Stops (refused t n why.Version)

-- there has to be such a report
abbrev pub grades : Told → ℕ → Option Reported → Outcome
grades t n None = Tells (refused t n why.Syntax)
grades t n (Some report) = Grades report

-- a line that says this
abbrev pub outcome_of : Told → ℕ → Line → Outcome
outcome_of t n (said.Begun version lost) = begins t n version lost
outcome_of t n (said.Name number name) = Tells (names t n number name)
outcome_of t n (said.Init seat class recursive of) =
    Tells (makes t n seat.0 class recursive (named_type t.names of))
outcome_of t n (said.Thread seat thread) = Tells (seats t n seat.0 thread)
outcome_of t n (said.Check a) = Tells (checks t n a)
outcome_of t n (said.Try a) = Tells (tries t n a)
outcome_of t n (said.Lock seat lock) =
    Tells (calls t n seat.0 (call.Note (record { 0 = lock_number t lock.0 })))
outcome_of t n (said.GiveUp seat lock) =
    Tells (calls t n seat.0 (call.GiveUp (record { 0 = lock_number t lock.0 })))
outcome_of t n (said.Unlock seat lock mode) =
    Tells (calls t n seat.0 (call.Unlock (record { 0 = lock_number t lock.0 }) mode))
outcome_of t n (said.Error what seat lock place) =
    Tells (record { told = t; text = line_text (error_tokens t n what seat.0 lock.0 place) })
outcome_of t n (said.Pair pair) = Tells (with_heard t (with_pair t.heard pair))
outcome_of t n said.Many = Tells (with_heard t (with_many t.heard))
outcome_of t n (said.Life thread maker at) =
    Tells (with_heard t (with_life t.heard thread maker at))
outcome_of t n (said.Joined thread by at) = Tells (with_heard t (with_join t.heard thread by at))
outcome_of t n (said.Grade line) = grades t n (report_at t.reports line)
outcome_of t n said.Look = Shows
outcome_of t n (said.Process process) = Turns process
outcome_of t n said.Passed = Tells (nothing t)

-- the process that the lines after this one are of
abbrev pub turns_to : Line → Option ℕ
turns_to (said.Process process) = Some process
turns_to line = None

-- a line that says nothing: where it was to make a lock, it counts one
abbrev pub unread : Told → ℕ → List ℕ → After
unread t n bytes =
    if makes_lock bytes then refused (with_lock t 0) n why.Syntax else refused t n why.Syntax

abbrev pub outcome : Told → ℕ → List ℕ → Option Line → Outcome
outcome t n bytes None = Tells (unread t n bytes)
outcome t n bytes (Some line) = outcome_of t n line
