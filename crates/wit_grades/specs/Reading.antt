-- Reading a line of facts from left to right: its keyword, and the fields after it.
use Rattle.std.specs.Prelude.{ℕ, ◌^◌, Bool, true, false, List, [], ◌∷◌, ◌++◌, length, Option, Some}
use Rattle.std.specs.Prelude.{None, codes, ◌==◌, if◌then◌else◌}
use Rattle.std.specs.Str.{bytes_eq}
use Rattle.wit_model.specs.declared.locks.Mode.{Mode}
use Rattle.wit_model.specs.declared.locks.Mode.TheVariants.{Shared, Exclusive}
use Rattle.wit_model.specs.Trace.Reading.{◌>>=◌, until, named, number_of, mode_named, Reader}
use Rattle.wit_model.specs.Trace.Reading.{field_at, repeated, both, whole, leading_count}
use Rattle.wit_model.specs.Trace.Spelling.{mode_text}
use Rattle.wit_alarms.specs.declared.facts.Had.{Had}
use Rattle.wit_alarms.specs.declared.facts.Manner.{Manner}
use Rattle.wit_alarms.specs.declared.facts.Manner.TheVariants.{Plain, Timed, EndsWait}
use Rattle.wit_alarms.specs.declared.facts.ThreadNo.{ThreadNo}
use Rattle.wit_alarms.specs.declared.facts.Fact.{Fact}
use Rattle.wit_alarms.specs.declared.facts.Life.{Life}
use Rattle.wit_alarms.specs.declared.facts.Join.{Join}
use Rattle.wit_grades.specs.declared.reading.GradeLine.{GradeLine}
use Rattle.wit_grades.specs.declared.reading.GradeLine.TheVariants as said
use Rattle.wit_grades.specs.declared.reading.Keyword.{Keyword}
use Rattle.wit_grades.specs.declared.reading.Keyword.TheVariants as keyword

-- ---- what a line says

-- a fact, with its other locks as a list
pub record Said : Type 0 where
  pub held : Had
  pub under : Bool
  pub asked : Had
  pub manner : Manner
  pub besides : List Had
  pub thread : Option ThreadNo
  pub first : ℕ
  pub last : ℕ

abbrev pub shown : Fact → Said
shown f = record {
  held = f.held;
  under = f.under;
  asked = f.asked;
  manner = f.manner;
  besides = f.besides.items;
  thread = f.thread;
  first = f.first;
  last = f.last;
}

abbrev pub shown_line : GradeLine Fact → GradeLine Said
shown_line (said.Fact f) = said.Fact (shown f)
shown_line (said.Life life) = said.Life life
shown_line (said.Joined join) = said.Joined join
shown_line said.Missing = said.Missing
shown_line said.Grade = said.Grade

-- ---- words

abbrev pub keyword_text : Keyword → List ℕ
keyword_text keyword.Fact = codes "fact"
keyword_text keyword.Life = codes "life"
keyword_text keyword.Joined = codes "joined"
keyword_text keyword.Missing = codes "missing"
keyword_text keyword.Grade = codes "grade"

unfoldable pub keyword_named : List ℕ → Option Keyword
keyword_named =
    named keyword_text (keyword.Fact ∷ keyword.Life ∷ keyword.Joined ∷ keyword.Missing
    ∷ keyword.Grade ∷ [])

abbrev pub under_text : Bool → List ℕ
under_text true = codes "u"
under_text false = []

-- the mode of the held lock, and whether it was acquired while the lock was held that is asked for
abbrev pub held_mode_text : Mode × Bool → List ℕ
held_mode_text x = mode_text x.0 ++ under_text x.1

unfoldable pub held_mode_named : List ℕ → Option (Mode × Bool)
held_mode_named =
    named held_mode_text ((Shared, false) ∷ (Exclusive, false) ∷ (Shared, true)
    ∷ (Exclusive, true) ∷ [])

abbrev pub manner_text : Manner → List ℕ
manner_text Plain = codes "n"
manner_text Timed = codes "l"
manner_text EndsWait = codes "w"

unfoldable pub manner_named : List ℕ → Option Manner
manner_named = named manner_text (Plain ∷ Timed ∷ EndsWait ∷ [])

-- a thread, or a dash
unfoldable pub thread_named : List ℕ → Option (Option ThreadNo)
thread_named word =
    if bytes_eq word (codes "-") then Some None
    else (number_of (2 ^ 32) word >>= λ n. Some (Some (record { 0 = n })))

-- ---- fields

unfoldable pub leading_had : Reader Had
leading_had bytes =
    both leading_count (field_at mode_named) bytes
    >>= λ x. Some (record { lock = record { 0 = x.0.0 }; mode = x.0.1 }, x.1)

unfoldable pub leading_held : Reader (Had × Bool)
leading_held bytes =
    both leading_count (field_at held_mode_named) bytes
    >>= λ x. Some ((record { lock = record { 0 = x.0.0 }; mode = x.0.1.0 }, x.0.1.1), x.1)

-- as many as there are
abbrev pub many : {A : Type 0} → Reader A → Reader (List A)
many read bytes = repeated read (length bytes) bytes

-- what a fact has before its other locks
abbrev pub leading_fact : Reader ((Had × Bool) × (Had × (Manner × (Option ThreadNo × (ℕ × ℕ)))))
leading_fact =
    both leading_held (both leading_had (both (field_at manner_named)
    (both (field_at thread_named) (both leading_count leading_count))))

unfoldable pub fact_of : List ℕ → Option Said
fact_of bytes =
    leading_fact bytes >>= λ x. whole (many leading_had) x.1 >>= λ besides.
    Some (record {
      held = x.0.0.0;
      under = x.0.0.1;
      asked = x.0.1.0;
      manner = x.0.1.1.0;
      thread = x.0.1.1.1.0;
      first = x.0.1.1.1.1.0;
      last = x.0.1.1.1.1.1;
      besides = besides;
    })

unfoldable pub life_of : List ℕ → Option Life
life_of bytes =
    whole (both leading_count (both leading_count leading_count)) bytes
    >>= λ x. Some (record {
      thread = record { 0 = x.0 };
      maker = record { 0 = x.1.0 };
      made_at = x.1.1;
    })

unfoldable pub join_of : List ℕ → Option Join
join_of bytes =
    whole (both leading_count (both leading_count leading_count)) bytes
    >>= λ x. Some (record { thread = record { 0 = x.0 }; by = record { 0 = x.1.0 }; at = x.1.1 })

-- what stands alone after its keyword
abbrev pub alone : GradeLine Said → List ℕ → Option (GradeLine Said)
alone line bytes = if length bytes == 0 then Some line else None

-- the fields of a line, by its keyword
abbrev pub fields_of : Keyword → List ℕ → Option (GradeLine Said)
fields_of keyword.Fact bytes = fact_of bytes >>= λ f. Some (said.Fact f)
fields_of keyword.Life bytes = life_of bytes >>= λ x. Some (said.Life x)
fields_of keyword.Joined bytes = join_of bytes >>= λ x. Some (said.Joined x)
fields_of keyword.Missing bytes = alone said.Missing bytes
fields_of keyword.Grade bytes = alone said.Grade bytes

-- a line
unfoldable pub line_of : List ℕ → Option (GradeLine Said)
line_of bytes = keyword_named (until 32 bytes).0 >>= λ word. fields_of word (until 32 bytes).1
