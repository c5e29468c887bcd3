-- How far the reading of a trace is, and what becomes of a line: the reading goes on, having told a
-- text, or the line is bad.
use Rattle.std.specs.Prelude.{ℕ, ◌+◌, Bool, ◌&&◌, ◌||◌, ◌==◌, nat_lt, List, [], ◌∷◌, ◌++◌, length}
use Rattle.std.specs.Prelude.{take, unwrap_or, Option, None, Some, Result, Ok, Err, codes}
use Rattle.std.specs.Prelude.{if◌then◌else◌}
use Rattle.std.specs.Str.{bytes_eq}
use Rattle.wit_model.specs.declared.profiles.Profile.TheVariants.{Plain, AllHeld}
use Rattle.wit_model.specs.declared.faults.Fault.{Fault}
use Rattle.wit_model.specs.declared.lines.Line.{Line}
use Rattle.wit_model.specs.declared.lines.Line.TheVariants.{Header, Profile, Order, Bless}
use Rattle.wit_model.specs.declared.lines.Version.{Version}
use Rattle.wit_model.specs.declared.lines.Version.TheVariants.{One, Two}
use Rattle.wit_model.specs.declared.lines.Cause as cause
use Rattle.wit_model.specs.declared.lines.Cause.TheVariants as why
use Rattle.wit_model.specs.declared.locks.Class.{Class}
use Rattle.wit_model.specs.declared.locks.Instance.{Instance}
use Rattle.wit_model.specs.declared.assertions.AssertAnswer.{AssertAnswer}
use Rattle.wit_model.specs.declared.calls.Call.{Call}
use Rattle.wit_model.specs.declared.calls.Reply.{Reply}
use Rattle.wit_model.specs.declared.sizes.TheConstants.Limits.{MOST_ENTRIES}
use Rattle.wit_model.specs.Rules.Files.{naming_answer, files_after}
use Rattle.wit_model.specs.Trace.Reading.{line_of}
use Rattle.wit_model.specs.Rules.Sizes.{Sizes, sizes_of, are_within_limits}
use Rattle.wit_model.specs.Rules.Numbers.{with_number}
use Rattle.wit_model.specs.Rules.Start.{start_fault}
use Rattle.wit_model.specs.Rules.Assertions.{step_assert}
use Rattle.wit_model.specs.Rules.Warnings.{warned, step_warn}
use Rattle.wit_model.specs.Rules.State.{Start, Story, fresh, known_of, state_of, typed_locks}
use Rattle.wit_model.specs.Rules.Step.{answer_of, grown}
use Rattle.wit_model.specs.World.Scenes.{Scene, opening, step_raw, answer_in, scene_after}
use Rattle.wit_model.specs.Trace.Texts.{report_text}
use Rattle.wit_model.specs.Trace.Views.{assert_text, warn_text}
use Rattle.wit_model.specs.Trace.LineCalls.{LineCall, Logs, LogsAt, Asserts, Warns, Steps, call_of}

-- a prelude so far: the version of the format, how the verifier is to start, and the number of each
-- list's line
pub record Prelude : Type 0 where
  pub version : Version
  pub start : Start
  pub lines : List ℕ

-- how far the reading is: before the header, in the prelude, or behind it, with the verifier's
-- story, in the second version the scene, and the number of failed assertions and warnings so far,
-- which no log holds
pub data Progress : Type 0 where
  Unstarted : Progress
  Opening : Prelude → Progress
  Reading : Story → ℕ → Progress
  Stepping : Scene → ℕ → Progress

-- what becomes of a line: the reading goes on, having told a text; or the line is bad
pub data Outcome : Type 0 where
  Goes : Progress → List ℕ → Outcome
  Bad : cause.Cause → Outcome

-- nothing but the version and the sizes
abbrev pub empty_prelude : Version → Sizes → Prelude
empty_prelude version sizes =
    record {
      version = version;
      start = record { sizes = sizes; profile = Plain; lists = []; blessed = [] };
      lines = [];
    }

-- held locks are all compared with
abbrev pub with_profile : Prelude → Prelude
with_profile p = record p { start = record p.start { profile = AllHeld } }

-- one more list, from the line with this number
abbrev pub with_list : Prelude → ℕ → List (Class × List ℕ) → Prelude
with_list p n list =
    record p {
      start = record p.start { lists = p.start.lists ++ list ∷ [] };
      lines = p.lines ++ n ∷ [];
    }

-- one more pair that may be taken in either order
abbrev pub with_pair : Prelude → List ℕ → List ℕ → Prelude
with_pair p a b =
    record p { start = record p.start { blessed = p.start.blessed ++ (a, b) ∷ [] } }

-- the number of a bad line, and why it is bad
abbrev pub BadLine : Type 0
BadLine = ℕ × cause.Cause

-- whether a line begins as those of the prelude do
abbrev pub is_prelude : List ℕ → Bool
is_prelude line = bytes_eq (take 6 line) (codes "order ") || bytes_eq (take 6 line) (codes "bless ")

-- whether it names a profile where that may be named: in the second line
abbrev pub is_profile : ℕ → List ℕ → Bool
is_profile n line = (n == 2) && bytes_eq line (codes "profile all")

-- a verifier that starts so was told nothing yet
abbrev pub begun : Version → Start → Progress
begun One start = Reading (fresh start) 0
begun Two start = Stepping (opening (fresh start)) 0

-- the lists are entered: one that is refused is bad at its own line
abbrev pub opened : Prelude → Option (ℕ × Fault) → Result Progress BadLine
opened p None = Ok (begun p.version p.start)
opened p (Some refused) = Err (unwrap_or (with_number p.lines refused.0) 0, why.Fault refused.1)

-- where the reading stands when a line, with its number, is looked at: before one that is none of
-- the prelude's, and at the end of the input, the prelude ends
abbrev pub reached : Progress → ℕ → List ℕ → Result Progress BadLine
reached (Opening p) n line =
    if is_prelude line || is_profile n line then Ok (Opening p) else opened p (start_fault p.start)
reached p n line = Ok p

-- the text of a reply, as things stand once it was given
abbrev pub reply_text : Story → Reply → List ℕ
reply_text s reply = report_text (known_of s.start s.history) s.files reply

-- a call is made: its reply is told, and logged unless the call was passed over; or the line is bad
abbrev pub called : Story → ℕ → ℕ → Call → Result Reply Fault → Outcome
called s n t call (Ok reply) =
    Goes (Reading (grown s t call reply) n) (reply_text (grown s t call reply) reply)
called s n t call (Err fault) = Bad (why.Fault fault)

abbrev pub makes : Story → ℕ → ℕ → Call → Outcome
makes s n t call = called s n t call (answer_of s t call)

-- a line with a site enters its file first
abbrev pub at_file : Story → (Story → ℕ → Outcome) → List ℕ → Result ℕ Fault → Outcome
at_file s next file (Ok f) = next (record s { files = files_after file s.files }) f
at_file s next file (Err fault) = Bad (why.Fault fault)

-- how many bytes a line may have, without its line feed
abbrev pub longest_line : ℕ
longest_line = 4096

-- the log's limit in a replay
abbrev pub log_limit : ℕ
log_limit = MOST_ENTRIES

-- a text that says something is one report
abbrev pub said : List ℕ → ℕ
said [] = 0
said (b ∷ text) = 1

-- a call that isn't logged is answered, and this is told of it
abbrev pub remarks : Story → ℕ → List ℕ → Outcome
remarks s n text = Goes (Reading s (n + said text)) text

-- an assertion about a lock, by its answer
abbrev pub asserts : Story → ℕ → ℕ → Result AssertAnswer Fault → Outcome
asserts s n l (Ok answer) = remarks s n (assert_text (typed_locks s.start s.history) l answer)
asserts s n l (Err fault) = Bad (why.Fault fault)

-- a warning of these locks, where the call isn't refused
abbrev pub warns : Story → ℕ → List Instance → Result ℕ Fault → Outcome
warns s n counted (Ok count) =
    remarks s n (warn_text (typed_locks s.start s.history) s.files counted)
warns s n counted (Err fault) = Bad (why.Fault fault)

-- a line behind the prelude makes its call
abbrev pub calls : Story → ℕ → LineCall → Outcome
calls s n (Logs t call) = makes s n t call
calls s n (LogsAt t file call) =
    at_file s (λ s' f. makes s' n t (call f)) file (naming_answer s file)
calls s n (Asserts t lock flags) = asserts s n lock.0 (step_assert (state_of s) t lock.0 flags)
calls s n (Warns t lock flags) =
    warns s n (warned (state_of s) t lock flags) (step_warn (state_of s) t lock flags)
calls s n _ = Bad why.Syntax

-- ---- the second version

-- a call is made in a scene
abbrev pub called_in : Scene → ℕ → ℕ → Call → Result Reply Fault → Outcome
called_in s n t call (Ok reply) =
    Goes (Stepping (scene_after s t call reply) n) (reply_text (grown s.story t call reply) reply)
called_in s n t call (Err fault) = Bad (why.Fault fault)

abbrev pub makes_in : Scene → ℕ → ℕ → Call → Outcome
makes_in s n t call = called_in s n t call (answer_in s t call)

-- a scene in which one more file is named
abbrev pub with_file_in : List ℕ → Scene → Scene
with_file_in file s =
    record s { story = record s.story { files = files_after file s.story.files } }

abbrev pub at_file_in : Scene → (Scene → ℕ → Outcome) → List ℕ → Result ℕ Fault → Outcome
at_file_in s next file (Ok f) = next (with_file_in file s) f
at_file_in s next file (Err fault) = Bad (why.Fault fault)

-- a step of a lock itself
abbrev pub steps : ℕ → Result Scene Fault → Outcome
steps n (Ok s) = Goes (Stepping s n) []
steps n (Err fault) = Bad (why.Fault fault)

-- a line that changes nothing of the story leaves the scene
abbrev pub in_scene : Scene → Outcome → Outcome
in_scene s (Goes (Reading story n) text) = Goes (Stepping s n) text
in_scene s (Goes p text) = Goes p text
in_scene s (Bad why) = Bad why

-- a line behind the prelude makes its call, or its step
abbrev pub calls_in : Scene → ℕ → LineCall → Outcome
calls_in s n (Logs t call) = makes_in s n t call
calls_in s n (LogsAt t file call) =
    at_file_in s (λ s' f. makes_in s' n t (call f)) file (naming_answer s.story file)
calls_in s n (Steps t lock step) = steps n (step_raw s t lock.0 step)
calls_in s n call = in_scene s (calls s.story n call)

-- ---- a line

-- a line in its place, with its number; of those that name a profile the prelude is still open at
-- the second line alone
abbrev pub entered : Progress → ℕ → Line → Outcome
entered Unstarted n (Header version seats types locks chunks) =
    let sizes = sizes_of seats types locks chunks log_limit in
    if are_within_limits sizes then Goes (Opening (empty_prelude version sizes)) []
    else Bad why.Limit
entered (Opening p) n Profile = Goes (Opening (with_profile p)) []
entered (Opening p) n (Order list) = Goes (Opening (with_list p n list)) []
entered (Opening p) n (Bless first second) = Goes (Opening (with_pair p first second)) []
entered (Reading s m) n line = calls s m (call_of line)
entered (Stepping s m) n line = calls_in s m (call_of line)
entered _ n line = Bad why.Syntax

abbrev pub read_as : Progress → ℕ → Option Line → Outcome
read_as p n None = Bad why.Syntax
read_as p n (Some line) = entered p n line

-- a whole line, without its line feed
abbrev pub outcome : Progress → ℕ → List ℕ → Outcome
outcome p n line =
    if nat_lt longest_line (length line) then Bad why.Long else read_as p n (line_of line)
