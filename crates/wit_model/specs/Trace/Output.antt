-- What a replay writes for a trace, and what it sums up.
use Rattle.std.specs.Prelude.{◌≡◌, ℕ, ◌+◌, Bool, false, nat_lt, List, [], ◌∷◌, ◌++◌, length}
use Rattle.std.specs.Prelude.{Option, None, Some, is_some, Result, Ok, Err, codes, if◌then◌else◌}
use Rattle.std.specs.Fmt.{decimal}
use Rattle.wit_model.specs.declared.lines.View as view
use Rattle.wit_model.specs.declared.lines.View.TheVariants.{Reports, Graph, Locks, Circle}
use Rattle.wit_model.specs.declared.lines.Cause as cause
use Rattle.wit_model.specs.declared.lines.Cause.TheVariants as why
use Rattle.wit_model.specs.Rules.Faults.{fault_text}
use Rattle.wit_model.specs.Rules.History.{reports_of}
use Rattle.wit_model.specs.Rules.Circles.{Waits, TellsCircle}
use Rattle.wit_model.specs.Rules.State.{Story, state_of}
use Rattle.wit_model.specs.World.Shown.{WaitsIn}
use Rattle.wit_model.specs.Trace.Texts as texts
use Rattle.wit_model.specs.Trace.Views.{graph_text, all_locks_text, circle_text}
pub use Rattle.wit_model.specs.Trace.LineCalls.{LineCall, Logs, LogsAt, Asserts, Warns, Steps}
pub use Rattle.wit_model.specs.Trace.LineCalls.{NoCall, verb_call, site_in, check_in, try_in}
pub use Rattle.wit_model.specs.Trace.LineCalls.{lock_call, call_of}
pub use Rattle.wit_model.specs.Trace.Outcomes.{Prelude, Progress, Unstarted, Opening, Reading}
pub use Rattle.wit_model.specs.Trace.Outcomes.{Stepping, Outcome, Goes, Bad, empty_prelude}
pub use Rattle.wit_model.specs.Trace.Outcomes.{with_profile, with_list, with_pair, BadLine}
pub use Rattle.wit_model.specs.Trace.Outcomes.{is_prelude, is_profile, begun, opened, reached}
pub use Rattle.wit_model.specs.Trace.Outcomes.{reply_text, called, makes, at_file, longest_line}
pub use Rattle.wit_model.specs.Trace.Outcomes.{log_limit, said, remarks, asserts, warns, calls}
pub use Rattle.wit_model.specs.Trace.Outcomes.{called_in, makes_in, with_file_in, at_file_in, steps}
pub use Rattle.wit_model.specs.Trace.Outcomes.{in_scene, calls_in, entered, read_as, outcome}

abbrev pub cause_text : cause.Cause → List ℕ
cause_text why.Long = codes "long"
cause_text why.Cut = codes "cut"
cause_text why.Syntax = codes "syntax"
cause_text why.Version = codes "version"
cause_text why.Limit = codes "limit"
cause_text (why.Fault fault) = fault_text fault

-- the text of a bad line, by its number
abbrev pub bad_text : ℕ → cause.Cause → List ℕ
bad_text n cause = texts.line (codes "line " ∷ decimal n ∷ codes ": " ∷ cause_text cause ∷ [])

-- what a reading comes to: the texts told of its lines, one behind another; how far it came; and
-- the bad line that ended it, where not all was read
pub record Course : Type 0 where
  pub text : List ℕ
  pub reached : Progress
  pub bad : Option BadLine

-- the reading ends at a bad line
abbrev pub ends_bad : Progress → BadLine → Course
ends_bad p bad = record { text = []; reached = p; bad = Some bad }

-- or after the last whole line, if the header came
abbrev pub ends : Progress → ℕ → List ℕ → Course
ends (Reading s m) n [] = record { text = []; reached = Reading s m; bad = None }
ends (Stepping s m) n [] = record { text = []; reached = Stepping s m; bad = None }
ends p n [] = ends_bad p (n, why.Cut)
ends p n (b ∷ tail) =
    ends_bad p (n, if nat_lt longest_line (length (b ∷ tail)) then why.Long else why.Cut)

abbrev pub text_before : List ℕ → Course → Course
text_before text c = record c { text = text ++ c.text }

-- what follows a line
abbrev pub course_after : Progress → ℕ → Outcome → (Progress → Course) → Course
course_after p n (Goes q text) next = text_before text (next q)
course_after p n (Bad cause) next = ends_bad p (n, cause)

-- what follows once the reading stands there, unless a list was refused
abbrev pub course_at : Progress → Result Progress BadLine → (Progress → Course) → Course
course_at p (Ok q) next = next q
course_at p (Err bad) next = ends_bad p bad

-- from here on, where the next line has number n, these whole lines and this unfinished one are to
-- come
abbrev pub course_from : Progress → ℕ → List (List ℕ) → List ℕ → Course
course_from p n [] tail = course_at p (reached p n tail) (λ q. ends q n tail)
course_from p n (line ∷ lines) tail =
    course_at p (reached p n line)
    (λ q. course_after q n (outcome q n line) (λ r. course_from r (n + 1) lines tail))

-- ---- what is written

-- of the texts that are told of lines only the first view shows any
abbrev pub shown_by : view.View → List ℕ → List ℕ
shown_by Reports text = text
shown_by _ text = []

-- what is shown of a story after the whole trace, by who waits for whom, and whether that is a
-- circle. There may be more circles than one: any may be shown that starts with its least seat
abbrev pub IsViewOf : view.View → Story → (ℕ → ℕ → Type 0) → List ℕ → Bool → Type 0
IsViewOf Reports s waits text circle = (text ≡ []) × (circle ≡ false)
IsViewOf Graph s waits text circle = (text ≡ graph_text s) × (circle ≡ false)
IsViewOf Locks s waits text circle = (text ≡ all_locks_text s) × (circle ≡ false)
IsViewOf Circle s waits text circle =
    (seats : Option (List ℕ)) × TellsCircle waits seats
    × (text ≡ circle_text (state_of s) seats) × (circle ≡ is_some seats)

-- what is shown at the end: of a bad line its text, whatever the view. Of a scene, circles are of
-- seats that wait for one another's shares. Nothing that is short of a header is all that was read
abbrev pub IsLast : view.View → Progress → Option BadLine → List ℕ → Bool → Type 0
IsLast v p (Some bad) text circle = (text ≡ bad_text bad.0 bad.1) × (circle ≡ false)
IsLast v (Reading s m) None text circle = IsViewOf v s (Waits (state_of s)) text circle
IsLast v (Stepping s m) None text circle = IsViewOf v s.story (WaitsIn s) text circle
IsLast v p None text circle = ⊥

-- the text that a view shows of a reading, and whether it shows a circle
pub record IsShown (v : view.View) (c : Course) (text : List ℕ) (circle : Bool) : Type 0 where
  pub last : List ℕ
  pub parts : text ≡ shown_by v c.text ++ last
  pub ends : IsLast v c.reached c.bad last circle

-- what a replay sums up: the calls logged; the reports among them, with the failed assertions and
-- the warnings; and the bad line that ended the reading
pub record Total : Type 0 where
  pub calls : ℕ
  pub reports : ℕ
  pub bad : Option BadLine

abbrev pub summed : Progress → Option BadLine → Total
summed (Reading s m) bad =
    record { calls = length s.history; reports = reports_of s.history + m; bad = bad }
summed (Stepping s m) bad =
    record { calls = length s.story.history; reports = reports_of s.story.history + m; bad = bad }
summed _ bad = record { calls = 0; reports = 0; bad = bad }
