-- What grades in progress may write, and what becomes of a line.
use Rattle.std.specs.Prelude.{◌≡◌, ℕ, List, [], map}
use Rattle.wit_model.specs.declared.lines.Cause.{Cause}
use Rattle.wit_stream.specs.declared.machine.Step.{Step}
use Rattle.wit_stream.specs.declared.machine.Step.TheVariants.{Goes, Ends}
use Rattle.wit_stream.specs.declared.summary.Summary.{Summary}
use Rattle.wit_grades.specs.declared.grading.Grading.{Grading}
use Rattle.wit_grades.specs.declared.reading.GradeLine.{GradeLine}
use Rattle.wit_grades.specs.declared.reading.GradeLine.TheVariants as said
use Rattle.wit_grades.specs.Reading.{Said, shown}
use Rattle.wit_grades.specs.Outputs.{Told, told_after, Answers, GradesLines, Refuses}
use Rattle.wit_grades.specs.Existing.{some_grades}

abbrev pub told : Grading → Told
told m = record {
  made = m.lives.made.items;
  joined = m.lives.joined.items;
  facts = map shown m.facts.items;
  are_all = m.are_all;
}

abbrev pub allowed : Grading → ℕ → List (List ℕ) → List ℕ → List ℕ → Summary → Type 0
allowed m n lines tail text summary = GradesLines (told m) n lines tail text summary

-- something may always be written
abbrev pub some_allowed : (m : Grading) (n : ℕ) (lines : List (List ℕ)) (tail : List ℕ)
    → (text : List ℕ) × ((summary : Summary) × allowed m n lines tail text summary)
some_allowed m n lines tail = some_grades m.lives.made (told m) n lines tail

-- what is written of a line: the answer, where it asks for one, else nothing
abbrev pub IsTextOf : Told → GradeLine Said → List ℕ → Type 0
IsTextOf t said.Grade text = Answers t text
IsTextOf t _ text = text ≡ []

-- a line was entered, and this is written of it
abbrev pub Enters : Told → GradeLine Said → Told → List ℕ → Type 0
Enters old line new text = (new ≡ told_after old line) × IsTextOf old line text

-- the reading ends at this bad line
abbrev pub RefusesAt : ℕ → Cause → List ℕ → Step → Type 0
RefusesAt n cause text Goes = ⊥
RefusesAt n cause text (Ends summary) = Refuses n cause text summary
