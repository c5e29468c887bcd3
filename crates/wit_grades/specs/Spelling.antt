-- How a line is written that says something.
use Rattle.std.specs.Prelude.{◌≡◌, ◌↔◌, ℕ, ◌^◌, ◌<◌, List, [], ◌∷◌, ◌++◌, Option, Some, None, codes}
use Rattle.std.specs.Fmt.{decimal}
use Rattle.wit_model.specs.Trace.Spelling.{mode_text, spaced}
use Rattle.wit_alarms.specs.declared.facts.Had.{Had}
use Rattle.wit_alarms.specs.declared.facts.ThreadNo.{ThreadNo}
use Rattle.wit_alarms.specs.declared.facts.Life.{Life}
use Rattle.wit_alarms.specs.declared.facts.Join.{Join}
use Rattle.wit_grades.specs.declared.reading.GradeLine.{GradeLine}
use Rattle.wit_grades.specs.declared.reading.GradeLine.TheVariants as said
use Rattle.wit_grades.specs.declared.reading.Keyword.{Keyword}
use Rattle.wit_grades.specs.declared.reading.Keyword.TheVariants as keyword
use Rattle.wit_grades.specs.Reading.{Said, keyword_text, held_mode_text, manner_text, line_of}

-- ---- the fields of a line

abbrev pub thread_text : Option ThreadNo → List ℕ
thread_text None = codes "-"
thread_text (Some thread) = decimal thread.0

abbrev pub lock_fields : List Had → List (List ℕ)
lock_fields [] = []
lock_fields (had ∷ hads) = decimal had.lock.0 ∷ mode_text had.mode ∷ lock_fields hads

abbrev pub fact_fields : Said → List (List ℕ)
fact_fields f =
    decimal f.held.lock.0 ∷ held_mode_text (f.held.mode, f.under)
    ∷ decimal f.asked.lock.0 ∷ mode_text f.asked.mode ∷ manner_text f.manner
    ∷ thread_text f.thread ∷ decimal f.first ∷ decimal f.last ∷ lock_fields f.besides

abbrev pub life_fields : Life → List (List ℕ)
life_fields x = decimal x.thread.0 ∷ decimal x.maker.0 ∷ decimal x.made_at ∷ []

abbrev pub join_fields : Join → List (List ℕ)
join_fields x = decimal x.thread.0 ∷ decimal x.by.0 ∷ decimal x.at ∷ []

-- ---- a line, without the line feed that ends it

abbrev pub with_keyword : Keyword → List (List ℕ) → List ℕ
with_keyword word fields = keyword_text word ++ spaced fields

abbrev pub spelling : GradeLine Said → List ℕ
spelling (said.Fact f) = with_keyword keyword.Fact (fact_fields f)
spelling (said.Life x) = with_keyword keyword.Life (life_fields x)
spelling (said.Joined x) = with_keyword keyword.Joined (join_fields x)
spelling said.Missing = with_keyword keyword.Missing []
spelling said.Grade = with_keyword keyword.Grade []

-- ---- what can be written: each number is a u32

abbrev pub IsNumber : ℕ → Type 0
IsNumber n = n < 2 ^ 32

abbrev pub IsThread : Option ThreadNo → Type 0
IsThread None = Unit {0}
IsThread (Some thread) = IsNumber thread.0

abbrev pub AreLocks : List Had → Type 0
AreLocks [] = Unit {0}
AreLocks (had ∷ hads) = IsNumber had.lock.0 × AreLocks hads

abbrev pub IsFact : Said → Type 0
IsFact f =
    IsNumber f.held.lock.0 × (IsNumber f.asked.lock.0 × (IsThread f.thread
    × (IsNumber f.first × (IsNumber f.last × AreLocks f.besides))))

abbrev pub IsWritable : GradeLine Said → Type 0
IsWritable (said.Fact f) = IsFact f
IsWritable (said.Life x) = IsNumber x.thread.0 × (IsNumber x.maker.0 × IsNumber x.made_at)
IsWritable (said.Joined x) = IsNumber x.thread.0 × (IsNumber x.by.0 × IsNumber x.at)
IsWritable said.Missing = Unit {0}
IsWritable said.Grade = Unit {0}

-- the bytes spell what is said
abbrev pub Spells : List ℕ → GradeLine Said → Type 0
Spells bytes line = (bytes ≡ spelling line) × IsWritable line

-- reading finds what the bytes spell, and nothing else
abbrev pub ReadsSpellings : Type 0
ReadsSpellings = (bytes : List ℕ) (line : GradeLine Said)
    → (line_of bytes ≡ Some line) ↔ Spells bytes line
