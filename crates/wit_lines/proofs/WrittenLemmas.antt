-- What is written for a line.
use Rattle.std.proofs.Common.{◌≡◌, ℕ, ◌+◌, ◌≤◌, Bool, List, [], ◌∷◌, ◌++◌, length, Some, Result, Ok}
use Rattle.std.proofs.Common.{Err, IfOk, refl, sym, ap, ap₂, append_assoc, subst, ◌∙◌, false}
use Rattle.std.specs.Global.{Vec}
use Rattle.std.proofs.lemmas.Bool.{le-ltb}
use Rattle.wit_model.specs.declared.lines.Cause.{Cause}
use Rattle.wit_model.specs.Trace.Output as output
use Rattle.wit_model.specs.Trace.Reading.{line_of}
use Rattle.wit_fields.specs.declared.errors.LineError.{LineError}
use Rattle.wit_fields.specs.declared.errors.LineError.TheVariants.{Bad, Memory}
use Rattle.wit_stream.specs.Machine.{Follows}
use Rattle.wit_lines.specs.Replays.{EndsFor, GoesOnWith, IsBadFor, allowed_from}
use Rattle.wit_lines.specs.Replays.{GoesAsDue, KeepsTotal, StandsAsDue, IsWritten}
use Rattle.wit_lines.specs.Replays.{total}
use Rattle.wit_lines.specs.Shown.{shown_of, IsShown}
use Rattle.wit_lines.specs.declared.view.View.{View}
use Rattle.wit_lines.specs.declared.view.View.TheVariants.{Reports, Graph, Locks, Circle, State}
use Rattle.wit_lines.specs.declared.view.View.TheVariants.{Clean}
use Rattle.wit_stream.specs.declared.machine.Step.{Step}
use Rattle.wit_stream.specs.declared.machine.Step.TheVariants as step
use Rattle.wit_stream.specs.declared.summary.Summary.{Summary}
use Rattle.wit_grammar.specs.declared.parse.TheConstants.{LONGEST}

-- what holds anyway holds at an answer
pub at_ok : {T E : Type 0} (P : Type 0) (r : Result T E) → P → IfOk r (λ x. P)
at_ok P (Err e) h = tt
at_ok P (Ok x) h = h

-- what holds of each value holds of an answer that is one
pub if_ok : {T E : Type 0} (P Q : T → Type 0) (r : Result T E) → ((x : T) → P x → Q x)
    → IfOk r P → IfOk r Q
if_ok P Q (Err e) each h = tt
if_ok P Q (Ok x) each h = each x h

-- a line that isn't too long becomes what is read of it
pub short_line : (p q : output.Progress) (n : ℕ) (bytes : List ℕ) (r : Result (Vec ℕ) LineError)
    → length bytes ≤ LONGEST → GoesAsDue (output.read_as p n (line_of bytes)) p q r
    → GoesAsDue (output.outcome p n bytes) p q r
short_line p q n bytes r short passes = rw (le-ltb LONGEST (length bytes) short) passes

-- ---- what is shown

pub shown_none : (view : View) → shown_of view [] ≡ []
shown_none Reports = refl
shown_none Graph = refl
shown_none Locks = refl
shown_none Circle = refl
shown_none State = refl
shown_none Clean = refl

shown_append : (view : View) (a b : List ℕ) → shown_of view (a ++ b)
    ≡ shown_of view a ++ shown_of view b
shown_append Reports a b = refl
shown_append Graph a b = refl
shown_append Locks a b = refl
shown_append Circle a b = refl
shown_append State a b = refl
shown_append Clean a b = refl

-- a text before what follows
shown_before : (view : View) (told text more : List ℕ) (c : output.Course) (circle : Bool)
    → text ≡ shown_of view told → IsShown view c more circle
    → IsShown view (output.text_before told c) (text ++ more) circle
shown_before view told text more c circle is h = record {
  last = h.last;
  parts =
      ap₂ (λ a b. a ++ b) is h.parts
      ∙ (sym (append_assoc (shown_of view told) (shown_of view c.text) h.last)
      ∙ ap (λ (l : List ℕ). l ++ h.last) (sym (shown_append view told c.text)));
  ends = h.ends;
}

-- of a bad line its text is shown, and the summary is that of the reading up to it
pub bad_written : (view : View) (p : output.Progress) (bad : output.BadLine) (text : List ℕ)
    (summary : Summary) → text ≡ output.bad_text bad.0 bad.1
    → total summary ≡ output.summed p (Some bad) → summary.circle ≡ false
    → IsWritten view (output.ends_bad p bad) text summary
bad_written view p bad text summary texts sums circle = record {
  is_shown =
      record {
        last = text;
        parts = ap (λ (l : List ℕ). l ++ text) (sym (shown_none view));
        ends = (texts, circle);
      };
  summed = sums;
}

-- a line's text, and what follows it
told_after : (view : View) (w : output.Outcome) (p q : output.Progress) (n : ℕ) (raw text : List ℕ)
    (next : output.Progress → output.Course) (more : List ℕ) (summary : Summary)
    → GoesOnWith w q raw → text ≡ shown_of view raw
    → IsWritten view (next q) more summary
    → IsWritten view (output.course_after p n w next) (text ++ more) summary
told_after view (output.Bad why) p q n raw text next more summary goes is written = elim goes [ ]
told_after view (output.Goes to said) p q n raw text next more summary goes is written =
    subst (λ (x : output.Progress). IsWritten view (output.text_before said (next x))
    (text ++ more) summary) goes.0
    (record {
      is_shown = shown_before view said text more (next q) summary.circle
          (is ∙ ap (shown_of view) goes.1) written.is_shown;
      summed = written.summed;
    })

pub line_told : (view : View) (from p q : output.Progress) (n : ℕ) (line : List ℕ)
    (r : Result (Vec ℕ) LineError) (raw : Vec ℕ) (text : List ℕ) → output.reached from n line ≡ Ok p
    → GoesAsDue (output.outcome p n line) p q r → r ≡ Ok raw
    → text ≡ shown_of view raw.items
    → (lines : List (List ℕ)) (tail more : List ℕ) (summary : Summary)
    → IsWritten view (output.course_from q (n + 1) lines tail) more summary
    → IsWritten view (output.course_from from n (line ∷ lines) tail) (text ++ more) summary
line_told view from p q n line r raw text stands passes is shows lines tail more summary written =
    rw stands (told_after view (output.outcome p n line) p q n raw.items text _ more summary
    (subst (GoesAsDue (output.outcome p n line) p q) is passes) shows written)

-- the text of a bad line alone
written_bad : (view : View) (p : output.Progress) (bad : output.BadLine) (text : List ℕ)
    (summary : Summary) → IsWritten view (output.ends_bad p bad) text summary
    → text ≡ output.bad_text bad.0 bad.1
written_bad view p bad text summary w =
    w.is_shown.parts ∙ (ap (λ (l : List ℕ). l ++ w.is_shown.last) (shown_none view)
    ∙ w.is_shown.ends.0)

-- a bad line's text and summary, whatever follows it
bad_after : (view : View) (w : output.Outcome) (p q : output.Progress) (n : ℕ) (cause : Cause)
    (next : output.Progress → output.Course) (text : List ℕ) (summary : Summary)
    → IsBadFor w p q cause
    → IsWritten view (output.ends_bad q (n, cause)) text summary
    → IsWritten view (output.course_after p n w next) text summary
bad_after view (output.Goes to text') p q n cause next text summary bad ends = elim bad [ ]
bad_after view (output.Bad why) p q n cause next text summary bad ends =
    bad_written view p (n, why) text summary
    (written_bad view q (n, cause) text summary ends ∙ ap (output.bad_text n) bad.0)
    (ends.summed ∙ (bad.1 (Some (n, cause)) ∙ ap (λ c. output.summed p (Some (n, c))) bad.0))
    ends.is_shown.ends.1

-- what becomes of a line that is bad
pub line_ends : (view : View) (from p q : output.Progress) (n : ℕ) (line : List ℕ)
    (r : Result (Vec ℕ) LineError) (e : LineError) (text : List ℕ) (s : Step)
    → output.reached from n line ≡ Ok p → GoesAsDue (output.outcome p n line) p q r
    → r ≡ Err e → EndsFor view q n e text s → Follows (allowed_from view) from q n line text s
line_ends view from p q n line r Memory text s stands passes is ends = elim ends [ ]
line_ends view from p q n line r (Bad cause) text step.Goes stands passes is ends = elim ends [ ]
line_ends view from p q n line r (Bad cause) text (step.Ends summary) stands passes is ends =
    λ lines tail.
    rw stands (bad_after view (output.outcome p n line) p q n cause _ text
    summary (subst (GoesAsDue (output.outcome p n line) p q) is passes) ends)

-- the text and the summary at a list that is refused
refused_at : (view : View) (due : Result output.Progress output.BadLine) (p q : output.Progress)
    (line : output.BadLine) (next : output.Progress → output.Course) (text : List ℕ)
    (summary : Summary) → due ≡ Err line → KeepsTotal p q
    → text ≡ output.bad_text line.0 line.1 → total summary ≡ output.summed q (Some line)
    → summary.circle ≡ false → IsWritten view (output.course_at p due next) text summary
refused_at view due p q line next text summary is keeps texts sums circle =
    rw is (bad_written view p line text summary texts (sums ∙ keeps (Some line)) circle)

-- a list is refused at a line, whatever follows it
pub refused : (view : View) (p q : output.Progress) (n : ℕ) (line : List ℕ) (list : output.BadLine)
    (text : List ℕ) (summary : Summary) → output.reached p n line ≡ Err list → KeepsTotal p q
    → text ≡ output.bad_text list.0 list.1 → total summary ≡ output.summed q (Some list)
    → summary.circle ≡ false
    → (lines : List (List ℕ)) (tail : List ℕ)
    → IsWritten view (output.course_from p n (line ∷ lines) tail) text summary
refused view p q n line list text summary is keeps texts sums circle lines tail =
    refused_at view (output.reached p n line) p q list _ text summary is keeps texts sums circle

-- the step that ends the reading then
pub refused_step : (view : View) (p q : output.Progress) (n : ℕ) (line : List ℕ)
    (list : output.BadLine) (text : List ℕ) (s : Step)
    → StandsAsDue (output.reached p n line) p q (Some list)
    → EndsFor view q list.0 (Bad list.1) text s → Follows (allowed_from view) p q n line text s
refused_step view p q n line list text step.Goes reaches ends = elim ends [ ]
refused_step view p q n line list text (step.Ends summary) reaches ends =
    refused view p q n line list text summary reaches.0 reaches.1
    (written_bad view q list text summary ends) ends.summed ends.is_shown.ends.1

-- or at the end of the input
pub refused_at_end : (view : View) (p q : output.Progress) (n : ℕ) (tail : List ℕ)
    (list : output.BadLine) (text : List ℕ) (summary : Summary) → output.reached p n tail ≡ Err list
    → KeepsTotal p q
    → text ≡ output.bad_text list.0 list.1 → total summary ≡ output.summed q (Some list)
    → summary.circle ≡ false
    → IsWritten view (output.course_from p n [] tail) text summary
refused_at_end view p q n tail list text summary is keeps texts sums circle =
    refused_at view (output.reached p n tail) p q list _ text summary is keeps texts sums circle

-- what is answered then
pub refused_end : {E : Type 0} (view : View) (p q : output.Progress) (n : ℕ) (list : output.BadLine)
    (answer : Result (Vec ℕ × Summary) E) → StandsAsDue (output.reached p n []) p q (Some list)
    → IfOk answer (λ a. a.0.items ≡ output.bad_text list.0 list.1)
    → IfOk answer (λ a. total a.1 ≡ output.summed q (Some list))
    → IfOk answer (λ a. a.1.circle ≡ false)
    → IfOk answer (λ a. IsWritten view (output.course_from p n [] []) a.0.items a.1)
refused_end view p q n list (Err e) reaches texts sums circle = tt
refused_end view p q n list (Ok a) reaches texts sums circle =
    refused_at_end view p q n [] list a.0.items a.1 reaches.0 reaches.1 texts sums circle
