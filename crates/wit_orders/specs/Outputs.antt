-- What is written of an answer and summed up, and the exit status.
use Rattle.std.specs.Prelude.{◌≡◌, ℕ, false, nat_lt, is_some, List, Some, None, Result, Ok, Err}
use Rattle.std.specs.Prelude.{refl, if◌then◌else◌}
use Rattle.wit_model.specs.declared.lines.Cause.{Cause}
use Rattle.wit_model.specs.declared.lines.Cause.TheVariants as why
use Rattle.wit_stream.specs.declared.summary.Summary.{Summary}
use Rattle.wit_stream.specs.declared.summary.ReplayError.{ReplayError}
use Rattle.wit_stream.specs.Text.{text_of}
use Rattle.wit_orders.specs.declared.answers.Flaw.{Flaw}
use Rattle.wit_orders.specs.declared.answers.Flaw.TheVariants.{Long, Cut, Syntax, Unknown, Twice}
use Rattle.wit_orders.specs.declared.answers.Flaw.TheVariants.{Backward}
use Rattle.wit_orders.specs.declared.answers.Answer.{Answer}
use Rattle.wit_orders.specs.declared.answers.Answer.TheVariants.{Acyclic, Refused}
use Rattle.wit_orders.specs.Answers.{Seen, nothing_seen, answer_from, answer_text}

-- the stream's own name of a flaw
abbrev pub cause_of : Flaw → Cause
cause_of Long = why.Long
cause_of Cut = why.Cut
cause_of Syntax = why.Syntax
cause_of Unknown = why.Syntax
cause_of Twice = why.Syntax
cause_of Backward = why.Syntax

-- a pair that goes backward counts as reported; any other flaw makes a bad line
abbrev pub refusal : ℕ → Flaw → Summary
refusal n Backward = record { calls = 0; reports = 1; circle = false; bad = None }
refusal n flaw = record { calls = 0; reports = 0; circle = false; bad = Some (n, cause_of flaw) }

abbrev pub summary_of : Answer → Summary
summary_of (Acyclic types pairs) = record { calls = 0; reports = 0; circle = false; bad = None }
summary_of (Refused n flaw) = refusal n flaw

-- the text and the summary of an answer
pub record IsAnswered (a : Answer) (text : List ℕ) (summary : Summary) : Type 0 where
  pub written : text ≡ answer_text a
  pub summed : summary ≡ summary_of a

-- what is answered from here on, where the first line of the bytes has this number
abbrev pub AnswersFrom : Seen → ℕ → List ℕ → List ℕ → Summary → Type 0
AnswersFrom s n input text summary =
    IsAnswered (answer_from s n (text_of input).lines (text_of input).tail) text summary

abbrev pub Answers : List ℕ → List ℕ → Summary → Type 0
Answers = AnswersFrom nothing_seen 1

abbrev pub some_answer : (a : Answer) → (text : List ℕ) × ((summary : Summary) × IsAnswered a text summary)
some_answer a = (answer_text a, (summary_of a, record { written = refl; summed = refl }))

-- the exit status: 4 where the reading failed, 3 where a line was bad, 1 where a pair goes
-- backward, else 0
abbrev pub exit_status : Result Summary ReplayError → ℕ
exit_status (Err e) = 4
exit_status (Ok s) = if is_some s.bad then 3 else (if nat_lt 0 s.reports then 1 else 0)
