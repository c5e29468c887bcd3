-- What becomes of a line.
use Rattle.std.proofs.Common.{◌≡◌, ℕ, ◌+◌, ◌<◌, ◌≤◌, Bool, ◌||◌, ◌&&◌, true, cond, eqb, ltb, List}
use Rattle.std.proofs.Common.{[], ◌∷◌, length, take, length-take, arith, codes, Option, Some, None}
use Rattle.std.proofs.Common.{Result, Ok, Err, IfOk, refl, sym, ap, ap₂, subst, ◌∙◌, false}
use Rattle.std.proofs.Common.{unwrap_or}
use Rattle.std.specs.Global.{Vec}
use Rattle.std.specs.Io.{StartsWith}
use Rattle.std.specs.Str.{bytes_eq}
use Rattle.std.proofs.lemmas.Bool.{lt-ltb, le-ltb}
use Rattle.std.proofs.lemmas.List.{take-take}
use Rattle.std.proofs.lemmas.Slice.Eq.{bytes_eq-Decides}
use Rattle.wit_model.specs.declared.lines.Cause.{Cause}
use Rattle.wit_model.specs.declared.lines.Cause.TheVariants as why
use Rattle.wit_model.specs.Rules.Start.{start_fault}
use Rattle.wit_model.specs.Trace.Output as output
use Rattle.wit_stream.specs.Machine.{BreaksAt, first_of}
use Rattle.wit_lines.specs.declared.view.View.{View}
use Rattle.wit_lines.specs.Replays.{KeepsTotal, StandsAsDue, IsWritten, total}
use Rattle.wit_trace.specs.Replaying.{progress_of}
use Rattle.wit_trace.specs.declared.replaying.Progress.{Progress}
use Rattle.wit_stream.specs.declared.summary.Summary.{Summary}
use Rattle.wit_lines.proofs.LongLines.{begins_prelude, no_profile, starts-le}
use Rattle.wit_lines.proofs.WrittenLemmas.{bad_written, refused, refused_at_end}
use Rattle.wit_grammar.specs.declared.parse.TheConstants.{LONGEST}

begins_reached : (p : output.Progress) (n : ℕ) (bytes line : List ℕ) → LONGEST < length bytes
    → StartsWith line bytes → output.reached p n line ≡ output.reached p n bytes
begins_reached output.Unstarted n bytes line long starts = refl
begins_reached (output.Opening o) n bytes line long starts =
    ap₂ (λ (t u : Bool). cond (t || u) (Ok (output.Opening o))
    (output.opened o (start_fault o.start)))
    (begins_prelude bytes line long starts)
    (no_profile n line (omega (arith, long, starts-le bytes line starts))
    ∙ sym (no_profile n bytes long))
begins_reached (output.Reading s m) n bytes line long starts = refl
begins_reached (output.Stepping s m) n bytes line long starts = refl

first_reached : (p : output.Progress) (n : ℕ) (cause : Cause) (bytes : List ℕ)
    (lines : List (List ℕ)) (tail : List ℕ) → BreaksAt cause bytes lines tail
    → output.reached p n (first_of lines tail) ≡ output.reached p n bytes
first_reached p n why.Long bytes lines tail h =
    begins_reached p n bytes (first_of lines tail) h.0 h.1
first_reached p n why.Cut bytes lines tail h =
    ap (λ (ls : List (List ℕ)). output.reached p n (first_of ls tail)) h.2
    ∙ ap (output.reached p n) h.3
first_reached p n why.Syntax bytes lines tail h = elim h [ ]
first_reached p n why.Version bytes lines tail h = elim h [ ]
first_reached p n why.Limit bytes lines tail h = elim h [ ]
first_reached p n (why.Fault fault) bytes lines tail h = elim h [ ]

-- an unfinished line is bad
ends_some : (p : output.Progress) (n : ℕ) (tail : List ℕ) (cause : Cause) → 0 < length tail
    → cond (ltb LONGEST (length tail)) why.Long why.Cut ≡ cause
    → output.ends p n tail ≡ output.ends_bad p (n, cause)
ends_some p n [] cause some is = absurd (omega arith)
ends_some output.Unstarted n (b ∷ tail) cause some is =
    ap (λ (c : Cause). output.ends_bad output.Unstarted (n, c)) is
ends_some (output.Opening o) n (b ∷ tail) cause some is =
    ap (λ (c : Cause). output.ends_bad (output.Opening o) (n, c)) is
ends_some (output.Reading s m) n (b ∷ tail) cause some is =
    ap (λ (c : Cause). output.ends_bad (output.Reading s m) (n, c)) is
ends_some (output.Stepping s m) n (b ∷ tail) cause some is =
    ap (λ (c : Cause). output.ends_bad (output.Stepping s m) (n, c)) is

-- where a line breaks off, it is bad
broken_output : (from p : output.Progress) (n : ℕ) (cause : Cause) (bytes : List ℕ)
    (lines : List (List ℕ)) (tail : List ℕ) → output.reached from n bytes ≡ Ok p
    → BreaksAt cause bytes lines tail
    → output.course_from from n lines tail ≡ output.ends_bad p (n, cause)
broken_output from p n why.Long bytes [] tail stands h =
    let long : LONGEST < length tail = omega (arith, starts-le bytes tail h.1, h.0) in
    ap (λ (due : Result output.Progress output.BadLine). output.course_at from due
    (λ q. output.ends q n tail)) (first_reached from n why.Long bytes [] tail h ∙ stands)
    ∙ ends_some p n tail why.Long (omega arith) (rw (lt-ltb LONGEST (length tail) long) refl)
broken_output from p n why.Long bytes (line ∷ lines) tail stands h =
    let long : LONGEST < length line = omega (arith, starts-le bytes line h.1, h.0) in
    ap (λ (due : Result output.Progress output.BadLine). output.course_at from due
    (λ q. output.course_after q n (output.outcome q n line)
    (λ r. output.course_from r (n + 1) lines tail)))
    (first_reached from n why.Long bytes (line ∷ lines) tail h ∙ stands)
    ∙ rw (lt-ltb LONGEST (length line) long) refl
broken_output from p n why.Cut bytes lines tail stands h =
    let same : length tail ≡ length bytes = ap length h.3 in
    ap (λ (ls : List (List ℕ)). output.course_from from n ls tail) h.2
    ∙ ap (λ (due : Result output.Progress output.BadLine). output.course_at from due
    (λ q. output.ends q n tail)) (ap (output.reached from n) h.3 ∙ stands)
    ∙ ends_some p n tail why.Cut (omega (arith, h.0))
    (rw (le-ltb LONGEST (length tail) (omega (arith, h.1))) refl)
broken_output from p n why.Syntax bytes lines tail stands h = elim h [ ]
broken_output from p n why.Version bytes lines tail stands h = elim h [ ]
broken_output from p n why.Limit bytes lines tail stands h = elim h [ ]
broken_output from p n (why.Fault fault) bytes lines tail stands h = elim h [ ]

-- the text and the summary at a line that breaks off
pub broken : (view : View) (from p : output.Progress) (n : ℕ) (cause : Cause) (bytes : List ℕ)
    (text : List ℕ) (summary : Summary) → output.reached from n bytes ≡ Ok p
    → text ≡ output.bad_text n cause → total summary ≡ output.summed p (Some (n, cause))
    → summary.circle ≡ false
    → (lines : List (List ℕ)) (tail : List ℕ) → BreaksAt cause bytes lines tail
    → IsWritten view (output.course_from from n lines tail) text summary
broken view from p n cause bytes text summary stands texts sums circle lines tail h =
    subst (λ w. IsWritten view w text summary)
    (sym (broken_output from p n cause bytes lines tail stands h))
    (bad_written view p (n, cause) text summary texts sums circle)

-- a list may be refused there
pub refused_broken : (view : View) (p q : output.Progress) (n : ℕ) (cause : Cause) (bytes : List ℕ)
    (list : output.BadLine) (text : List ℕ) (summary : Summary)
    → output.reached p n bytes ≡ Err list → KeepsTotal p q
    → text ≡ output.bad_text list.0 list.1 → total summary ≡ output.summed q (Some list)
    → summary.circle ≡ false
    → (lines : List (List ℕ)) (tail : List ℕ) → BreaksAt cause bytes lines tail
    → IsWritten view (output.course_from p n lines tail) text summary
refused_broken view p q n cause bytes list text summary is keeps texts sums circle lines tail h =
    at lines (first_reached p n cause bytes lines tail h ∙ is)
  where
    at : (ls : List (List ℕ)) → output.reached p n (first_of ls tail) ≡ Err list
        → IsWritten view (output.course_from p n ls tail) text summary
    at [] e = refused_at_end view p q n tail list text summary e keeps texts sums circle
    at (line ∷ ls) e = refused view p q n line list text summary e keeps texts sums circle ls tail

-- what is answered at a line that breaks off, where a list may be refused
pub broken_answer : {E : Type 0} (view : View) (m r : Progress) (n : ℕ) (cause : Cause)
    (bytes : List ℕ) (list : Option output.BadLine) (at : output.BadLine)
    (answer : Result (Vec ℕ × Summary) E)
    → StandsAsDue (output.reached (progress_of m) n bytes) (progress_of m) (progress_of r) list
    → at ≡ unwrap_or list (n, cause)
    → IfOk answer (λ a. a.0.items ≡ output.bad_text at.0 at.1)
    → IfOk answer (λ a. total a.1 ≡ output.summed (progress_of r) (Some at))
    → IfOk answer (λ a. a.1.circle ≡ false)
    → IfOk answer (λ a. (lines : List (List ℕ)) (tail : List ℕ) → BreaksAt cause bytes lines tail
    → IsWritten view (output.course_from (progress_of m) n lines tail) a.0.items a.1)
broken_answer view m r n cause bytes list at (Err e) reaches is texts sums circle = tt
broken_answer view m r n cause bytes None at (Ok a) reaches is texts sums circle =
    broken view (progress_of m) (progress_of r) n cause bytes a.0.items a.1 reaches
    (texts ∙ ap (λ (l : output.BadLine). output.bad_text l.0 l.1) is)
    (sums ∙ ap (λ (l : output.BadLine). output.summed (progress_of r) (Some l)) is) circle
broken_answer view m r n cause bytes (Some line) at (Ok a) reaches is texts sums circle =
    refused_broken view (progress_of m) (progress_of r) n cause bytes line a.0.items a.1 reaches.0
    reaches.1 (texts ∙ ap (λ (l : output.BadLine). output.bad_text l.0 l.1) is)
    (sums ∙ ap (λ (l : output.BadLine). output.summed (progress_of r) (Some l)) is) circle
