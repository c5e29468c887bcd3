-- What is written of lines of orders.
use Rattle.std.specs.Prelude.{◌≡◌, ℕ, ◌+◌, Bool, true, false, nat_lt, List, [], ◌∷◌, ◌++◌}
use Rattle.std.specs.Prelude.{length, Option, Some, None, if◌then◌else◌}
use Rattle.wit_model.specs.declared.lines.Cause.{Cause}
use Rattle.wit_model.specs.declared.lines.Cause.TheVariants as why
use Rattle.wit_model.specs.Trace.Output.{bad_text}
use Rattle.wit_grammar.specs.declared.parse.TheConstants.{LONGEST}
use Rattle.wit_recordings.specs.Recordings.{NamedType}
use Rattle.wit_stream.specs.declared.summary.Summary.{Summary}
use Rattle.wit_stream.specs.Text.{text_of}
use Rattle.wit_circles.specs.Orders.{Told, Judged}
use Rattle.wit_orders.specs.declared.reading.OrderLine.{OrderLine}
use Rattle.wit_orders.specs.declared.reading.OrderLine.TheVariants.{Listed, Pair}
use Rattle.wit_orders.specs.Reading.{order_line, type_text}
use Rattle.wit_against.specs.Answers.{told_text, last_text}
use Rattle.wit_against.specs.Known.{Known, nothing_known, with_order}

-- each order that is told counts as reported
abbrev pub ended : ℕ → Option (ℕ × Cause) → Summary
ended reports bad = record { calls = 0; reports = reports; circle = false; bad = bad }

-- the reading ends at the bad line with this number
pub record Refuses (n : ℕ) (cause : Cause) (text : List ℕ) (summary : Summary) : Type 0 where
  pub written : text ≡ bad_text n cause
  pub summed : summary ≡ ended 0 (Some (n, cause))

-- it ends with the input: the orders are judged, and this is told of them
pub record Tells (k : Known) (text : List ℕ) (summary : Summary) : Type 0 where
  pub told : Told
  pub judged : Judged [] k.orders told
  pub written : text ≡ told_text k told ++ last_text k (length told)
  pub summed : summary ≡ ended (length told) None

-- after the last whole line
abbrev pub AtEnd : Known → ℕ → List ℕ → List ℕ → Summary → Type 0
AtEnd k n [] text summary = Tells k text summary
AtEnd k n (b ∷ tail) text summary =
    Refuses n (if nat_lt LONGEST (length (b ∷ tail)) then why.Long else why.Cut) text summary

-- after a line of which this is read
abbrev pub AfterRead : Known → ℕ → List ℕ → Option (OrderLine NamedType)
    → (Known → List ℕ → Summary → Type 0) → List ℕ → Summary → Type 0
AfterRead k n line None next text summary = Refuses n why.Syntax text summary
AfterRead k n line (Some (Listed t)) next text summary = Refuses n why.Syntax text summary
AfterRead k n line (Some (Pair a b)) next text summary =
    next (with_order k (type_text a) (type_text b) line) text summary

-- after a line, which may be too long
abbrev pub AfterLine : Known → ℕ → Bool → List ℕ → (Known → List ℕ → Summary → Type 0)
    → List ℕ → Summary → Type 0
AfterLine k n true line next text summary = Refuses n why.Long text summary
AfterLine k n false line next text summary = AfterRead k n line (order_line line) next text summary

-- from here on, where the next line has number n, these whole lines and this unfinished one are to
-- come
abbrev pub JudgesLines : Known → ℕ → List (List ℕ) → List ℕ → List ℕ → Summary → Type 0
JudgesLines k n [] tail text summary = AtEnd k n tail text summary
JudgesLines k n (line ∷ lines) tail text summary =
    AfterLine k n (nat_lt LONGEST (length line)) line
    (λ next. JudgesLines next (n + 1) lines tail) text summary

-- from here on, where the first line of the bytes has this number
abbrev pub JudgesFrom : Known → ℕ → List ℕ → List ℕ → Summary → Type 0
JudgesFrom k n input text summary =
    JudgesLines k n (text_of input).lines (text_of input).tail text summary

-- the orders of the lines are judged in the sequence in which each came first; or the first bad line
-- is told
abbrev pub Judges : List ℕ → List ℕ → Summary → Type 0
Judges = JudgesFrom nothing_known 1
