-- What is forecast of a trace.
use Rattle.std.specs.Prelude.{ℕ, ◌≡◌, ◌≤◌, ◌⊎◌, Bool, true, false, List, [], ◌∷◌, ◌++◌, None}
use Rattle.std.specs.Prelude.{Some, codes, string_bytes}
use Rattle.wit_model.specs.declared.lines.Cause.{Cause}
use Rattle.wit_model.specs.Trace.Moving.{with_feeds}
use Rattle.wit_model.specs.Trace.Output.{bad_text}
use Rattle.wit_stream.specs.declared.summary.Summary.{Summary}
use Rattle.wit_lines.specs.Replays.{ShowsTrace}
use Rattle.wit_lines.specs.declared.view.View.TheVariants.{Circle}
use Rattle.wit_forecast.specs.Errands.{AreErrands}
use Rattle.wit_forecast.specs.Owners.{own, Begins, most_seats}
use Rattle.wit_forecast.specs.declared.outcomes.Outcome.{Outcome}
use Rattle.wit_forecast.specs.declared.outcomes.Outcome.TheVariants.{Hangs, Meets, Alone}
use Rattle.wit_forecast.specs.declared.answers.Answer.{Answer}
use Rattle.wit_forecast.specs.declared.answers.Answer.TheVariants.{Schedule, Errands, Copies, Words}

-- ---- a schedule

-- a trace without a bad line, of which the view of circles shows one
pub record EndsInCircle (text : List ℕ) : Type 0 where
  pub shown : List ℕ
  pub summary : Summary
  pub is_shown : ShowsTrace Circle text shown summary
  pub circle : summary.circle ≡ true
  pub good : summary.bad ≡ None

-- after the prelude stand the trace's lines in another sequence: each seat's own are a beginning of
-- those that it has in the trace
pub record Reorders (trace text : List ℕ) : Type 0 where
  pub head : List (List ℕ)
  pub body : List (List ℕ)
  pub chosen : List (List ℕ)
  pub read : trace ≡ with_feeds (head ++ body)
  pub written : text ≡ with_feeds (head ++ chosen)
  pub begins : (seat : ℕ) → seat ≤ most_seats → Begins (own seat chosen) (own seat body)

pub record IsSchedule (trace text : List ℕ) : Type 0 where
  pub reorders : Reorders trace text
  pub ends : EndsInCircle text

-- errands of the trace alone, which end in a circle; each by its own seat, where that is said
pub record IsMeeting (own_alone : Bool) (trace text : List ℕ) : Type 0 where
  pub lines : List (List ℕ)
  pub opening : List (List ℕ)
  pub made : List (List ℕ)
  pub chosen : List (List ℕ)
  pub read : trace ≡ with_feeds lines
  pub written : text ≡ with_feeds (opening ++ (made ++ chosen))
  pub errands : AreErrands own_alone lines opening made chosen
  pub ends : EndsInCircle text

-- what came of the search for a schedule of a trace
abbrev pub IsOutcome : List ℕ → Outcome → Type 0
IsOutcome trace (Hangs text) = IsSchedule trace text.items
IsOutcome trace (Meets text) = IsMeeting true trace text.items
IsOutcome trace (Alone text copies) = IsMeeting false trace text.items
IsOutcome trace _ = Unit {0}

-- ---- what is written

abbrev pub IsAnswer : List ℕ → Answer → Type 0
IsAnswer trace (Schedule text) = IsSchedule trace text.items
IsAnswer trace (Errands text) = IsMeeting true trace text.items
IsAnswer trace (Copies text) = IsMeeting false trace text.items
IsAnswer trace (Words text) = Unit {0}

-- its text: words stand in a line of their own, which no trace begins with
abbrev pub text_of : Answer → List ℕ
text_of (Schedule text) = text.items
text_of (Errands text) = text.items
text_of (Copies text) = text.items
text_of (Words words) = codes "report " ++ string_bytes words ++ 10 ∷ []

-- each of them is one
abbrev pub AreAnswers : List ℕ → List Answer → Type 0
AreAnswers trace [] = Unit {0}
AreAnswers trace (answer ∷ answers) = IsAnswer trace answer × AreAnswers trace answers

abbrev pub texts_of : List Answer → List ℕ
texts_of [] = []
texts_of (answer ∷ answers) = text_of answer ++ texts_of answers

-- a line is refused
pub record Refuses (text : List ℕ) (summary : Summary) : Type 0 where
  pub number : ℕ
  pub cause : Cause
  pub written : text ≡ bad_text number cause
  pub bad : summary.bad ≡ Some (number, cause)

-- answers are given
pub record Answers (trace text : List ℕ) (summary : Summary) : Type 0 where
  pub answers : List Answer
  pub written : text ≡ texts_of answers
  pub each : AreAnswers trace answers
  pub good : summary.bad ≡ None

-- what may be written of a trace
abbrev pub Forecasts : List ℕ → List ℕ → Summary → Type 0
Forecasts trace text summary = Refuses text summary ⊎ Answers trace text summary
