-- What a migration wrote, read again.
use Rattle.std.specs.Prelude.{◌≡◌, ℕ, List, [], Option}
use Rattle.std.specs.Io.KnownBytes.{Appends}
use Rattle.wit_model.specs.Trace.Moving.{TellsTheSame}
use Rattle.wit_stream.specs.Stream.{IsInput}
use Rattle.wit_stream.specs.Text.{text_of}
use Rattle.wit_stream.specs.declared.summary.Summary.{Summary}
use Rattle.wit_lines.specs.Replays.{ShowsTrace}
use Rattle.wit_lines.specs.declared.view.View.{View}
use Rattle.wit_lines.specs.declared.view.View.TheVariants.{Circle, State}

-- a view that shows no circle of seats: those of the two versions may differ
abbrev pub ShowsNoCircle : View → Type 0
ShowsNoCircle Circle = ⊥
ShowsNoCircle State = ⊥
ShowsNoCircle _ = Unit {0}

-- both are whole lines, of which the same is told; and what a view that shows no circle shows of
-- the input, it shows of the text
pub record SaysTheSame (input text : List ℕ) : Type 0 where
  pub ended : (text_of input).tail ≡ []
  pub whole : (text_of text).tail ≡ []
  pub told : TellsTheSame (text_of input).lines (text_of text).lines
  pub shown : (view : View) (bytes : List ℕ) (summary : Summary) → ShowsNoCircle view
      → ShowsTrace view input bytes summary → ShowsTrace view text bytes summary

-- a text was written that says the same as the input
pub record WritesTheSame (read written_old written_new : Option (List ℕ)) : Type 0 where
  pub input : List ℕ
  pub text : List ℕ
  pub is_input : IsInput read input
  pub written : Appends written_old written_new text
  pub same : SaysTheSame input text
