-- What follows a line, and how the reading ends.
use Rattle.std.proofs.Common.{◌≡◌, ℕ, ◌+◌, ◌<◌, ◌≤◌, true, false, nat_lt, min, List}
use Rattle.std.proofs.Common.{[], ◌∷◌, ◌++◌, length, Option, Some, None, refl, sym, ap, ◌∙◌}
use Rattle.std.proofs.Common.{subst, arith, cond}
use Rattle.std.specs.Io.{StartsWith}
use Rattle.std.proofs.lemmas.Bool.{lt-ltb, le-ltb}
use Rattle.std.proofs.lemmas.List.{length-take}
use Rattle.wit_model.specs.declared.lines.Cause.{Cause}
use Rattle.wit_model.specs.declared.lines.Cause.TheVariants as why
use Rattle.wit_grammar.specs.declared.parse.TheConstants.{LONGEST}
use Rattle.wit_stream.specs.declared.summary.Summary.{Summary}
use Rattle.wit_stream.specs.Machine.{BreaksAt}
use Rattle.wit_grades.specs.declared.reading.GradeLine.{GradeLine}
use Rattle.wit_grades.specs.declared.reading.GradeLine.TheVariants as said
use Rattle.wit_grades.specs.Reading.{Said, line_of}
use Rattle.wit_grades.specs.Outputs.{Told, told_after, AfterSaid, AfterRead, AfterLine, AtEnd}
use Rattle.wit_grades.specs.Outputs.{GradesLines, Refuses}
use Rattle.wit_grades.specs.Grading.{Enters}

not-longer : (n : ℕ) → n ≤ LONGEST → nat_lt LONGEST n ≡ false
not-longer n short = le-ltb LONGEST n short

module _ (old : Told) (n : ℕ) (bytes : List ℕ) (short : length bytes ≤ LONGEST) where
  -- a line that isn't too long, of which this is read
  read-so : (read : Option (GradeLine Said)) → line_of bytes ≡ read
      → (next : Told → List ℕ → Type 0) (text : List ℕ) (summary : Summary)
      → AfterRead old n read next text summary
      → AfterLine old n (nat_lt LONGEST (length bytes)) bytes next text summary
  read-so read is next text summary after =
      subst (λ b. AfterLine old n b bytes next text summary)
      (sym (not-longer (length bytes) short))
      (subst (λ r. AfterRead old n r next text summary) (sym is) after)

  goes-on : (new : Told) (line : GradeLine Said) (text : List ℕ) → Enters old line new text
      → (next : Told → List ℕ → Type 0) (more : List ℕ) → next new more
      → AfterSaid old line (next (told_after old line)) (text ++ more)
  goes-on new (said.Fact f) text enters next more go =
      subst (λ x. next (told_after old (said.Fact f)) (x ++ more)) (sym enters.1)
      (subst (λ t. next t more) enters.0 go)
  goes-on new (said.Life life) text enters next more go =
      subst (λ x. next (told_after old (said.Life life)) (x ++ more)) (sym enters.1)
      (subst (λ t. next t more) enters.0 go)
  goes-on new (said.Joined join) text enters next more go =
      subst (λ x. next (told_after old (said.Joined join)) (x ++ more)) (sym enters.1)
      (subst (λ t. next t more) enters.0 go)
  goes-on new said.Missing text enters next more go =
      subst (λ x. next (told_after old said.Missing) (x ++ more)) (sym enters.1)
      (subst (λ t. next t more) enters.0 go)
  goes-on new said.Grade text enters next more go = record {
    answer = text;
    rest = more;
    parted = refl;
    answers = enters.1;
    goes_on = subst (λ t. next t more) enters.0 go;
  }

  -- the reading goes on after a line that was entered
  pub follows : (new : Told) (line : GradeLine Said) (text : List ℕ) → line_of bytes ≡ Some line
      → Enters old line new text → (lines : List (List ℕ)) (tail more : List ℕ) (summary : Summary)
      → GradesLines new (n + 1) lines tail more summary
      → GradesLines old n (bytes ∷ lines) tail (text ++ more) summary
  follows new line text is enters lines tail more summary go =
      read-so (Some line) is (λ t rest. GradesLines t (n + 1) lines tail rest summary)
      (text ++ more) summary
      (goes-on new line text enters
      (λ t rest. GradesLines t (n + 1) lines tail rest summary) more go)

  -- it ends at a line that says nothing
  pub ends_at : (text : List ℕ) (summary : Summary) → line_of bytes ≡ None
      → Refuses n why.Syntax text summary → (lines : List (List ℕ)) (tail : List ℕ)
      → GradesLines old n (bytes ∷ lines) tail text summary
  ends_at text summary is refuses lines tail =
      read-so None is (λ t rest. GradesLines t (n + 1) lines tail rest summary) text summary
      refuses

-- ---- a line that isn't whole, or too long

longer : (bytes line : List ℕ) → LONGEST < length bytes → StartsWith line bytes
    → nat_lt LONGEST (length line) ≡ true
longer bytes line long starts =
    let same : min (length bytes) (length line) ≡ length bytes =
    sym (length-take (length bytes) line) ∙ ap length starts in
    lt-ltb LONGEST (length line) (omega (arith, long, same))

tail-broken : (n : ℕ) (cause : Cause) (text : List ℕ) (summary : Summary) (tail : List ℕ)
    → 0 < length tail
    → cond (nat_lt LONGEST (length tail)) why.Long why.Cut ≡ cause
    → Refuses n cause text summary → AtEnd n tail text summary
tail-broken n cause text summary [] some is refuses = absurd (omega (arith, some))
tail-broken n cause text summary (b ∷ tail) some is refuses =
    subst (λ c. Refuses n c text summary) (sym is) refuses

pub breaks : (old : Told) (n : ℕ) (cause : Cause) (bytes : List ℕ) (text : List ℕ)
    (summary : Summary) → Refuses n cause text summary
    → (lines : List (List ℕ)) (tail : List ℕ) → BreaksAt cause bytes lines tail
    → GradesLines old n lines tail text summary
breaks old n why.Long bytes text summary refuses [] tail at =
    let long = longer bytes tail at.0 at.1 in
    let same : min (length bytes) (length tail) ≡ length bytes =
    sym (length-take (length bytes) tail) ∙ ap length at.1 in
    tail-broken n why.Long text summary tail (omega (arith, at.0, same))
    (ap (λ b. cond b why.Long why.Cut) long) refuses
breaks old n why.Long bytes text summary refuses (line ∷ lines) tail at =
    subst (λ b. AfterLine old n b line
    (λ t rest. GradesLines t (n + 1) lines tail rest summary) text summary)
    (sym (longer bytes line at.0 at.1)) refuses
breaks old n why.Cut bytes text summary refuses lines tail at =
    subst (λ (ls : List (List ℕ)). GradesLines old n ls tail text summary) (sym at.2)
    (subst (λ t. AtEnd n t text summary) (sym at.3)
    (tail-broken n why.Cut text summary bytes at.0
    (ap (λ b. cond b why.Long why.Cut) (not-longer (length bytes) at.1)) refuses))
breaks old n why.Syntax bytes text summary refuses lines tail at = absurd at
breaks old n why.Version bytes text summary refuses lines tail at = absurd at
breaks old n why.Limit bytes text summary refuses lines tail at = absurd at
breaks old n (why.Fault fault) bytes text summary refuses lines tail at = absurd at
