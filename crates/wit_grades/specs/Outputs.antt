-- What is written of facts, line by line.
use Rattle.std.specs.Prelude.{◌≡◌, ℕ, ◌+◌, ◌^◌, Bool, true, false, ◌&&◌, nat_lt, List, [], ◌∷◌, ◌++◌}
use Rattle.std.specs.Prelude.{length, map, Option, Some, None, if◌then◌else◌}
use Rattle.std.specs.List.{list_all}
use Rattle.wit_model.specs.declared.lines.Cause.{Cause}
use Rattle.wit_model.specs.declared.lines.Cause.TheVariants as why
use Rattle.wit_model.specs.Trace.Output.{bad_text}
use Rattle.wit_grammar.specs.declared.parse.TheConstants.{LONGEST}
use Rattle.wit_stream.specs.declared.summary.Summary.{Summary}
use Rattle.wit_stream.specs.Text.{text_of}
use Rattle.wit_alarms.specs.declared.facts.Fact.{Fact}
use Rattle.wit_alarms.specs.declared.facts.Life.{Life}
use Rattle.wit_alarms.specs.declared.facts.Join.{Join}
use Rattle.wit_alarms.specs.declared.facts.Lives.{Lives}
use Rattle.wit_alarms.specs.declared.grade.Grade.{Grade}
use Rattle.wit_alarms.specs.Grades.{IsGrade}
use Rattle.wit_grades.specs.declared.reading.GradeLine.{GradeLine}
use Rattle.wit_grades.specs.declared.reading.GradeLine.TheVariants as said
use Rattle.wit_grades.specs.Reading.{Said, line_of, shown}
use Rattle.wit_grades.specs.Answers.{grade_text}

-- ---- what was told so far: of the threads, and the facts since the last grade

pub record Told : Type 0 where
  pub made : List Life
  pub joined : List Join
  pub facts : List Said
  pub are_all : Bool

abbrev pub nothing_told : Told
nothing_told = record { made = []; joined = []; facts = []; are_all = true }

-- after a line; a grade forgets the facts, and nothing of the threads
abbrev pub told_after : Told → GradeLine Said → Told
told_after t (said.Fact f) = record t { facts = t.facts ++ f ∷ [] }
told_after t (said.Life life) = record t { made = t.made ++ life ∷ [] }
told_after t (said.Joined join) = record t { joined = t.joined ++ join ∷ [] }
told_after t said.Missing = record t { are_all = false }
told_after t said.Grade = record t { facts = []; are_all = true }

-- ---- the answer to what was told

-- a grade of these facts, written as a line
pub record IsGraded (t : Told) (text : List ℕ) : Type 0 where
  pub lives : Lives
  pub facts : List Fact
  pub grade : Grade
  pub made : lives.made.items ≡ t.made
  pub joined : lives.joined.items ≡ t.joined
  pub told : map shown facts ≡ t.facts
  pub graded : IsGrade lives facts t.are_all grade
  pub written : text ≡ grade_text grade

-- no vector has more elements
abbrev pub is_short : {A : Type 0} → List A → Bool
is_short xs = nat_lt (length xs) (2 ^ 63)

-- whether vectors can have what was told
abbrev pub fits : Told → Bool
fits t =
    is_short t.made && (is_short t.joined && (is_short t.facts
    && list_all (λ (f : Said). is_short f.besides) t.facts))

abbrev pub Answers : Told → List ℕ → Type 0
Answers t text = fits t ≡ true → IsGraded t text

-- ---- what is written, and how it is summed up

abbrev pub ended : Option (ℕ × Cause) → Summary
ended bad = record { calls = 0; reports = 0; circle = false; bad = bad }

-- the reading ends at the bad line with this number
pub record Refuses (n : ℕ) (cause : Cause) (text : List ℕ) (summary : Summary) : Type 0 where
  pub written : text ≡ bad_text n cause
  pub summed : summary ≡ ended (Some (n, cause))

-- it ends with the input
pub record Ends (text : List ℕ) (summary : Summary) : Type 0 where
  pub written : text ≡ []
  pub summed : summary ≡ ended None

-- after the last whole line
abbrev pub AtEnd : ℕ → List ℕ → List ℕ → Summary → Type 0
AtEnd n [] text summary = Ends text summary
AtEnd n (b ∷ tail) text summary =
    Refuses n (if nat_lt LONGEST (length (b ∷ tail)) then why.Long else why.Cut) text summary

-- an answer, and what is written after it
pub record AnswersThen (t : Told) (next : List ℕ → Type 0) (text : List ℕ) : Type 0 where
  pub answer : List ℕ
  pub rest : List ℕ
  pub parted : text ≡ answer ++ rest
  pub answers : Answers t answer
  pub goes_on : next rest

-- by a line that says this
abbrev pub AfterSaid : Told → GradeLine Said → (List ℕ → Type 0) → List ℕ → Type 0
AfterSaid t said.Grade next text = AnswersThen t next text
AfterSaid t _ next text = next text

-- by a line of which this is read
abbrev pub AfterRead : Told → ℕ → Option (GradeLine Said) → (Told → List ℕ → Type 0)
    → List ℕ → Summary → Type 0
AfterRead t n None next text summary = Refuses n why.Syntax text summary
AfterRead t n (Some line) next text summary = AfterSaid t line (next (told_after t line)) text

-- by a line, which may be too long
abbrev pub AfterLine : Told → ℕ → Bool → List ℕ → (Told → List ℕ → Type 0) → List ℕ → Summary
    → Type 0
AfterLine t n true line next text summary = Refuses n why.Long text summary
AfterLine t n false line next text summary = AfterRead t n (line_of line) next text summary

-- from here on, where the next line has number n, these whole lines and this unfinished one are to
-- come
abbrev pub GradesLines : Told → ℕ → List (List ℕ) → List ℕ → List ℕ → Summary → Type 0
GradesLines t n [] tail text summary = AtEnd n tail text summary
GradesLines t n (line ∷ lines) tail text summary =
    AfterLine t n (nat_lt LONGEST (length line)) line
    (λ next rest. GradesLines next (n + 1) lines tail rest summary) text summary

-- from here on, where the first line of the bytes has this number
abbrev pub GradesFrom : Told → ℕ → List ℕ → List ℕ → Summary → Type 0
GradesFrom t n input text summary =
    GradesLines t n (text_of input).lines (text_of input).tail text summary

-- each line that asks for a grade is answered by one of the facts since the last, up to the first
-- bad line
abbrev pub Grades : List ℕ → List ℕ → Summary → Type 0
Grades = GradesFrom nothing_told 1
