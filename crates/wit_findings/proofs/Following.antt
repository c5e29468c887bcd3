-- What follows a line, and how the reading ends.
use Rattle.std.proofs.Common.{◌≡◌, ℕ, ◌+◌, ◌<◌, ◌≤◌, Bool, true, false, nat_lt, min, List, true≢false}
use Rattle.std.proofs.Common.{[], ◌∷◌, ◌++◌, length, map, refl, sym, ap, ap₂, ◌∙◌}
use Rattle.std.proofs.Common.{subst, arith, cond}
use Rattle.std.specs.Io.{StartsWith}
use Rattle.std.proofs.lemmas.Bool.{lt-ltb, le-ltb}
use Rattle.std.proofs.lemmas.List.{length-take}
use Rattle.wit_model.specs.declared.lines.Cause.{Cause}
use Rattle.wit_model.specs.declared.lines.Cause.TheVariants as why
use Rattle.wit_grammar.specs.declared.parse.TheConstants.{LONGEST}
use Rattle.wit_stream.specs.declared.machine.Step.{Step}
use Rattle.wit_stream.specs.declared.machine.Step.TheVariants as step
use Rattle.wit_stream.specs.declared.summary.Summary.{Summary}
use Rattle.wit_stream.specs.Machine.{BreaksAt, Follows}
use Rattle.wit_recorded.specs.Reading.{line_of}
use Rattle.wit_findings.specs.declared.processes.Processes.{Processes}
use Rattle.wit_findings.specs.Findings.{AfterOutcome, Ends, EndsAfter, EntersRun, FindsLines}
use Rattle.wit_findings.specs.Findings.{StepsBy, allowed, at_tail, outcome_at}
use Rattle.wit_findings.specs.Runs.{Run, known, with_now}
use Rattle.wit_findings.specs.Steps.{After, IsAfter, Outcome, Tells, Shows, Grades, Turns, Stops}
use Rattle.wit_findings.specs.Steps.{outcome, refused}
use Rattle.wit_findings.specs.Told.{told}

not-longer : (n : ℕ) → n ≤ LONGEST → nat_lt LONGEST n ≡ false
not-longer n short = le-ltb LONGEST n short

-- a last text after one that was told
ends-so : (r : Run) (a : After) (new : Run) (before text : List ℕ) (summary : Summary)
    → new ≡ with_now r a.told → before ≡ a.text → Ends new before text summary
    → EndsAfter r a text summary
ends-so r a new before text summary is-new is-before ends =
    subst (λ b. Ends (with_now r a.told) b text summary) is-before
    (subst (λ u. Ends u before text summary) is-new ends)

goes-on : (old : Run) (n : ℕ) (o : Outcome) (new : Run) (before : List ℕ) (goes : Bool)
    → goes ≡ true → EntersRun old n o new before goes → (next : Run → List ℕ → Type 0)
    (more : List ℕ) (summary : Summary) → next new more
    → AfterOutcome old n o next (before ++ more) summary
goes-on old n (Tells a) new before goes on enters next more summary go = record {
  first = before;
  rest = more;
  parted = refl;
  tells = enters.1;
  goes_on = subst (λ u. next u more) enters.0 go;
}
goes-on old n Shows new before goes on enters next more summary go = record {
  first = before;
  rest = more;
  parted = refl;
  tells = enters.1;
  goes_on = subst (λ u. next u more) enters.0 go;
}
goes-on old n (Grades report) new before goes on enters next more summary go = record {
  first = before;
  rest = more;
  parted = refl;
  tells = enters.1;
  goes_on = subst (λ u. next u more) enters.0 go;
}
goes-on old n (Turns process) new before goes on enters next more summary go = record {
  first = before;
  rest = more;
  parted = refl;
  tells = enters.1;
  goes_on = subst (λ u. next u more) enters.0 go;
}
goes-on old n (Stops a) new before goes on enters next more summary go =
    absurd (true≢false (sym on ∙ enters.2))

stops : (old : Run) (n : ℕ) (o : Outcome) (new : Run) (before : List ℕ) (goes : Bool)
    → goes ≡ false → EntersRun old n o new before goes → (next : Run → List ℕ → Type 0)
    (text : List ℕ) (summary : Summary) → Ends new before text summary
    → AfterOutcome old n o next text summary
stops old n (Tells a) new before goes off enters next text summary ends =
    absurd (true≢false (sym enters.2 ∙ off))
stops old n Shows new before goes off enters next text summary ends =
    absurd (true≢false (sym enters.2 ∙ off))
stops old n (Grades report) new before goes off enters next text summary ends =
    absurd (true≢false (sym enters.2 ∙ off))
stops old n (Turns process) new before goes off enters next text summary ends =
    absurd (true≢false (sym enters.2 ∙ off))
stops old n (Stops a) new before goes off enters next text summary ends =
    ends-so old a new before text summary enters.0 enters.1 ends

-- the step after a line that was entered
pub follows : (old new : Processes) (n : ℕ) (bytes before : List ℕ) (goes : Bool) (text : List ℕ)
    (s : Step) → length bytes ≤ LONGEST
    → EntersRun (known old) n (outcome (known old).now n bytes (line_of bytes)) (known new) before
    goes
    → StepsBy (known new) before goes text s → Follows allowed old new n bytes text s
follows old new n bytes before goes text step.Goes short enters steps =
    let r : Run = known old in
    λ lines tail more summary go.
    subst (λ b. AfterOutcome r n (outcome_at r.now n b bytes)
    (λ u rest. FindsLines u (n + 1) lines tail rest summary) (text ++ more) summary)
    (sym (not-longer (length bytes) short))
    (subst (λ x. AfterOutcome r n (outcome r.now n bytes (line_of bytes))
    (λ u rest. FindsLines u (n + 1) lines tail rest summary) (x ++ more) summary)
    (sym steps.1)
    (goes-on r n (outcome r.now n bytes (line_of bytes)) (known new) before goes steps.0
    enters (λ u rest. FindsLines u (n + 1) lines tail rest summary) more summary go))
follows old new n bytes before goes text (step.Ends summary) short enters steps =
    let r : Run = known old in
    λ lines tail.
    subst (λ b. AfterOutcome r n (outcome_at r.now n b bytes)
    (λ u rest. FindsLines u (n + 1) lines tail rest summary) text summary)
    (sym (not-longer (length bytes) short))
    (stops r n (outcome r.now n bytes (line_of bytes)) (known new) before goes steps.0
    enters (λ u rest. FindsLines u (n + 1) lines tail rest summary) text summary steps.1)

-- ---- a line that isn't whole, or too long

longer : (bytes line : List ℕ) → LONGEST < length bytes → StartsWith line bytes
    → nat_lt LONGEST (length line) ≡ true
longer bytes line long starts =
    let same : min (length bytes) (length line) ≡ length bytes =
    sym (length-take (length bytes) line) ∙ ap length starts in
    lt-ltb LONGEST (length line) (omega (arith, long, same))

tail-broken : (r : Run) (n : ℕ) (cause : Cause) (text : List ℕ) (summary : Summary)
    (tail : List ℕ) → 0 < length tail
    → cond (nat_lt LONGEST (length tail)) why.Long why.Cut ≡ cause
    → EndsAfter r (refused r.now n cause) text summary
    → EndsAfter r (at_tail r.now n tail) text summary
tail-broken r n cause text summary [] some is ends = absurd (omega (arith, some))
tail-broken r n cause text summary (b ∷ tail) some is ends =
    subst (λ c. EndsAfter r (refused r.now n c) text summary) (sym is) ends

breaks-at : (old : Run) (n : ℕ) (cause : Cause) (bytes text : List ℕ) (summary : Summary)
    → EndsAfter old (refused old.now n cause) text summary
    → (lines : List (List ℕ)) (tail : List ℕ) → BreaksAt cause bytes lines tail
    → FindsLines old n lines tail text summary
breaks-at old n why.Long bytes text summary ends [] tail at =
    let long = longer bytes tail at.0 at.1 in
    let same : min (length bytes) (length tail) ≡ length bytes =
    sym (length-take (length bytes) tail) ∙ ap length at.1 in
    tail-broken old n why.Long text summary tail (omega (arith, at.0, same))
    (ap (λ b. cond b why.Long why.Cut) long) ends
breaks-at old n why.Long bytes text summary ends (line ∷ lines) tail at =
    subst (λ b. AfterOutcome old n (outcome_at old.now n b line)
    (λ u rest. FindsLines u (n + 1) lines tail rest summary) text summary)
    (sym (longer bytes line at.0 at.1)) ends
breaks-at old n why.Cut bytes text summary ends lines tail at =
    subst (λ (ls : List (List ℕ)). FindsLines old n ls tail text summary) (sym at.2)
    (subst (λ t. EndsAfter old (at_tail old.now n t) text summary) (sym at.3)
    (tail-broken old n why.Cut text summary bytes at.0
    (ap (λ b. cond b why.Long why.Cut) (not-longer (length bytes) at.1)) ends))
breaks-at old n why.Syntax bytes text summary ends lines tail at = absurd at
breaks-at old n why.Version bytes text summary ends lines tail at = absurd at
breaks-at old n why.Limit bytes text summary ends lines tail at = absurd at
breaks-at old n (why.Fault fault) bytes text summary ends lines tail at = absurd at

-- the reading ends at such a line, once it was refused
pub breaks : (old new : Processes) (n : ℕ) (cause : Cause) (bytes before text : List ℕ)
    (summary : Summary) → IsAfter (refused (told old.current) n cause) (told new.current) before
    → new.others.items ≡ old.others.items → Ends (known new) before text summary
    → (lines : List (List ℕ)) (tail : List ℕ) → BreaksAt cause bytes lines tail
    → FindsLines (known old) n lines tail text summary
breaks old new n cause bytes before text summary after same ends lines tail at =
    breaks-at (known old) n cause bytes text summary
    (ends-so (known old) (refused (told old.current) n cause) (known new) before text summary
    (ap₂ (λ t ts. let r : Run = record { now = t; others = ts } in r) after.0 (ap (map told) same))
    after.1 ends) lines tail at
