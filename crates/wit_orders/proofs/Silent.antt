-- No line of a sequence or a pair has a text of its own, so nothing was written where reading failed.
use Rattle.std.proofs.Common.{◌≡◌, ℕ, ◌+◌, List, [], ◌∷◌, ◌++◌, Option, None, Some, length, refl}
use Rattle.std.proofs.Common.{sym, ap, ◌∙◌, append-nil, length-append, arith, unwrap_or}
use Rattle.std.specs.Io.KnownBytes.{Appends, Keeps}
use Rattle.std.proofs.lemmas.List.{nil_from_length}
use Rattle.wit_model.specs.declared.lines.Cause.{Cause}
use Rattle.wit_model.specs.declared.lines.Cause.TheVariants as why
use Rattle.wit_stream.specs.Stream.{ReadingGoesOn, WritesLines}
use Rattle.wit_stream.specs.Text.{text_of, feeds}
use Rattle.wit_stream.specs.declared.summary.Summary.{Summary}
use Rattle.wit_orders.specs.declared.answers.Flaw.TheVariants.{Long, Cut, Syntax, Unknown, Twice}
use Rattle.wit_orders.specs.declared.answers.Flaw.TheVariants.{Backward}
use Rattle.wit_orders.specs.declared.answers.Answer.{Answer}
use Rattle.wit_orders.specs.declared.answers.Answer.TheVariants.{Acyclic, Refused}
use Rattle.wit_orders.specs.Answers.{Seen, answer_from, answer_text}
use Rattle.wit_orders.specs.Outputs.{AnswersFrom, refusal, summary_of}

abbrev line_of : Option (ℕ × Cause) → ℕ
line_of bad = (unwrap_or bad (0, why.Version)).0

abbrev why_of : Option (ℕ × Cause) → Cause
why_of bad = (unwrap_or bad (0, why.Version)).1

-- the summary of a line that is cut tells the answer
cut-answer : (a : Answer) (n : ℕ) → refusal n Cut ≡ summary_of a → a ≡ Refused n Cut
cut-answer a n is =
    let bad = ap (λ (s : Summary). s.bad) is in by a (ap line_of bad) (ap why_of bad)
  where
    by : (a : Answer) → n ≡ line_of (summary_of a).bad → why.Cut ≡ why_of (summary_of a).bad
        → a ≡ Refused n Cut
    by (Acyclic types pairs) line cause = (cc)
    by (Refused m Long) line cause = (cc)
    by (Refused m Cut) line cause = ap (λ k. Refused k Cut) (sym line)
    by (Refused m Syntax) line cause = (cc)
    by (Refused m Unknown) line cause = (cc)
    by (Refused m Twice) line cause = (cc)
    by (Refused m Backward) line cause = (cc)

no-more : (xs ys : List ℕ) → xs ++ ys ≡ ys → xs ≡ []
no-more xs ys is =
    let long = sym (length-append xs ys) ∙ ap length is in
    nil_from_length xs (omega (arith, long))

-- whole lines behind which the reading goes on have no text: what is answered where a line that is
-- cut follows is the text of that line alone
no-text : (s : Seen) (lines text : List ℕ) → ReadingGoesOn AnswersFrom s lines text → text ≡ []
no-text s lines text goes =
    let n = feeds lines + 1 in
    let cut : Answer = Refused n Cut in
    let whole =
    goes.on (120 ∷ []) (answer_text cut) (refusal n Cut) (record { written = refl; summed = refl })
    in
    let all = text_of (lines ++ 120 ∷ []) in
    let same = cut-answer (answer_from s 1 all.lines all.tail) n whole.summed in
    no-more text (answer_text cut) (whole.written ∙ ap answer_text same)

kept : (old new : Option (List ℕ)) (text : List ℕ) → Appends old new text → text ≡ []
    → Keeps old new
kept None new text more none = tt
kept (Some xs) None text more none = more
kept (Some xs) (Some ys) text more none =
    more ∙ ap (λ (t : List ℕ). xs ++ t) none ∙ append-nil xs

pub silent : (s : Seen) (r0 r w0 w : Option (List ℕ)) → WritesLines AnswersFrom s r0 r w0 w
    → Keeps w0 w
silent s r0 r w0 w h = kept w0 w h.text h.written (no-text s h.lines h.text h.goes)
