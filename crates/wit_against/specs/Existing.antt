-- Something may always be written.
use Rattle.std.specs.Prelude.{ℕ, ◌+◌, Bool, true, false, nat_lt, List, [], ◌∷◌, ◌++◌}
use Rattle.std.specs.Prelude.{length, Option, Some, None, refl, if◌then◌else◌}
use Rattle.wit_model.specs.declared.lines.Cause.{Cause}
use Rattle.wit_model.specs.declared.lines.Cause.TheVariants as why
use Rattle.wit_model.specs.Trace.Output.{bad_text}
use Rattle.wit_grammar.specs.declared.parse.TheConstants.{LONGEST}
use Rattle.wit_recordings.specs.Recordings.{NamedType}
use Rattle.wit_stream.specs.declared.summary.Summary.{Summary}
use Rattle.wit_circles.proofs.Existing.{some_told}
use Rattle.wit_orders.specs.declared.reading.OrderLine.{OrderLine}
use Rattle.wit_orders.specs.declared.reading.OrderLine.TheVariants.{Listed, Pair}
use Rattle.wit_orders.specs.Reading.{order_line, type_text}
use Rattle.wit_against.specs.Answers.{told_text, last_text}
use Rattle.wit_against.specs.Known.{Known, with_order}
use Rattle.wit_against.specs.Outputs.{AfterLine, AfterRead, AtEnd, JudgesLines, Refuses, Tells, ended}

abbrev Some_text : (List ℕ → Summary → Type 0) → Type 0
Some_text allowed = (text : List ℕ) × ((summary : Summary) × allowed text summary)

abbrev refused : (n : ℕ) (cause : Cause) → Some_text (Refuses n cause)
refused n cause =
    (bad_text n cause, (ended 0 (Some (n, cause)), record { written = refl; summed = refl }))

abbrev tells : (k : Known) → Some_text (Tells k)
tells k =
    let some = some_told k.orders [] in (
      told_text k some.0 ++ last_text k (length some.0),
      (
        ended (length some.0) None,
        record { told = some.0; judged = some.1; written = refl; summed = refl },
      ),
    )

abbrev at_end : (k : Known) (n : ℕ) (tail : List ℕ) → Some_text (AtEnd k n tail)
at_end k n [] = tells k
at_end k n (b ∷ tail) =
    refused n (if nat_lt LONGEST (length (b ∷ tail)) then why.Long else why.Cut)

abbrev after_read : (k : Known) (n : ℕ) (line : List ℕ) (read : Option (OrderLine NamedType))
    (next : Known → List ℕ → Summary → Type 0) → ((k : Known) → Some_text (next k))
    → Some_text (AfterRead k n line read next)
after_read k n line None next rest = refused n why.Syntax
after_read k n line (Some (Listed t)) next rest = refused n why.Syntax
after_read k n line (Some (Pair a b)) next rest =
    rest (with_order k (type_text a) (type_text b) line)

abbrev after_line : (k : Known) (n : ℕ) (is_long : Bool) (line : List ℕ)
    (next : Known → List ℕ → Summary → Type 0) → ((k : Known) → Some_text (next k))
    → Some_text (AfterLine k n is_long line next)
after_line k n true line next rest = refused n why.Long
after_line k n false line next rest = after_read k n line (order_line line) next rest

abbrev pub some_judged : (lines : List (List ℕ)) (k : Known) (n : ℕ) (tail : List ℕ)
    → (text : List ℕ) × ((summary : Summary) × JudgesLines k n lines tail text summary)
some_judged [] k n tail = at_end k n tail
some_judged (line ∷ lines) k n tail =
    after_line k n (nat_lt LONGEST (length line)) line
    (λ next. JudgesLines next (n + 1) lines tail) (λ next. some_judged lines next (n + 1) tail)
