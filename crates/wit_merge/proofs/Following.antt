-- What follows a line, and how the reading ends.
use Rattle.std.proofs.Common.{◌≡◌, ℕ, ◌+◌, ◌<◌, ◌≤◌, true, false, nat_lt, min, List}
use Rattle.std.proofs.Common.{[], ◌∷◌, length, Result, Ok, Err, sym, ap, ◌∙◌}
use Rattle.std.proofs.Common.{subst, arith, cond}
use Rattle.std.specs.Io.{StartsWith}
use Rattle.std.proofs.lemmas.Bool.{lt-ltb, le-ltb}
use Rattle.std.proofs.lemmas.List.{length-take}
use Rattle.wit_model.specs.declared.lines.Cause.{Cause}
use Rattle.wit_model.specs.declared.lines.Cause.TheVariants as why
use Rattle.wit_grammar.specs.declared.parse.TheConstants.{LONGEST}
use Rattle.wit_stream.specs.declared.summary.Summary.{Summary}
use Rattle.wit_stream.specs.Machine.{BreaksAt}
use Rattle.wit_merge.specs.declared.flaws.Flaw.{Flaw}
use Rattle.wit_merge.specs.declared.flaws.Flaw.TheVariants as wrong
use Rattle.wit_merge.specs.declared.machine.Shown.{Shown}
use Rattle.wit_merge.specs.Flaws.{flaw_of}
use Rattle.wit_merge.specs.Lines.{Merged, after_line}
use Rattle.wit_merge.specs.Outputs.{AfterLine, AfterTaken, AtEnd, Refuses, ShowsLines}

not-longer : (n : ℕ) → n ≤ LONGEST → nat_lt LONGEST n ≡ false
not-longer n short = le-ltb LONGEST n short

module _ (by : Shown) (old : Merged) (n : ℕ) (bytes : List ℕ) (short : length bytes ≤ LONGEST) where
  -- a line that isn't too long, and is taken so
  taken-so : (taken : Result Merged Flaw) → after_line old bytes ≡ taken
      → (next : Merged → List ℕ → Summary → Type 0) (text : List ℕ) (summary : Summary)
      → AfterTaken n taken next text summary
      → AfterLine old n (nat_lt LONGEST (length bytes)) bytes next text summary
  taken-so taken is next text summary after =
      subst (λ b. AfterLine old n b bytes next text summary)
      (sym (not-longer (length bytes) short))
      (subst (λ t. AfterTaken n t next text summary) (sym is) after)

  -- the reading goes on after a line that was taken
  pub follows : (new : Merged) → after_line old bytes ≡ Ok new
      → (lines : List (List ℕ)) (tail more : List ℕ) (summary : Summary)
      → ShowsLines by new (n + 1) lines tail more summary
      → ShowsLines by old n (bytes ∷ lines) tail more summary
  follows new is lines tail more summary go =
      taken-so (Ok new) is (λ next. ShowsLines by next (n + 1) lines tail) more summary go

  -- it ends at a line with a flaw
  pub ends_at : (flaw : Flaw) (text : List ℕ) (summary : Summary) → after_line old bytes ≡ Err flaw
      → Refuses n flaw text summary → (lines : List (List ℕ)) (tail : List ℕ)
      → ShowsLines by old n (bytes ∷ lines) tail text summary
  ends_at flaw text summary is refuses lines tail =
      taken-so (Err flaw) is (λ next. ShowsLines by next (n + 1) lines tail) text summary refuses

-- ---- a line that isn't whole, or too long

longer : (bytes line : List ℕ) → LONGEST < length bytes → StartsWith line bytes
    → nat_lt LONGEST (length line) ≡ true
longer bytes line long starts =
    let same : min (length bytes) (length line) ≡ length bytes =
    sym (length-take (length bytes) line) ∙ ap length starts in
    lt-ltb LONGEST (length line) (omega (arith, long, same))

tail-broken : (by : Shown) (old : Merged) (n : ℕ) (flaw : Flaw) (text : List ℕ) (summary : Summary)
    (tail : List ℕ) → 0 < length tail
    → cond (nat_lt LONGEST (length tail)) wrong.Long wrong.Cut ≡ flaw
    → Refuses n flaw text summary → AtEnd by old n tail text summary
tail-broken by old n flaw text summary [] some is refuses = absurd (omega (arith, some))
tail-broken by old n flaw text summary (b ∷ tail) some is refuses =
    subst (λ c. Refuses n c text summary) (sym is) refuses

pub breaks : (by : Shown) (old : Merged) (n : ℕ) (cause : Cause) (bytes : List ℕ) (text : List ℕ)
    (summary : Summary) → Refuses n (flaw_of cause) text summary
    → (lines : List (List ℕ)) (tail : List ℕ) → BreaksAt cause bytes lines tail
    → ShowsLines by old n lines tail text summary
breaks by old n why.Long bytes text summary refuses [] tail at =
    let long = longer bytes tail at.0 at.1 in
    let same : min (length bytes) (length tail) ≡ length bytes =
    sym (length-take (length bytes) tail) ∙ ap length at.1 in
    tail-broken by old n wrong.Long text summary tail (omega (arith, at.0, same))
    (ap (λ b. cond b wrong.Long wrong.Cut) long) refuses
breaks by old n why.Long bytes text summary refuses (line ∷ lines) tail at =
    subst (λ b. AfterLine old n b line (λ next. ShowsLines by next (n + 1) lines tail) text summary)
    (sym (longer bytes line at.0 at.1)) refuses
breaks by old n why.Cut bytes text summary refuses lines tail at =
    subst (λ (ls : List (List ℕ)). ShowsLines by old n ls tail text summary) (sym at.2)
    (subst (λ t. AtEnd by old n t text summary) (sym at.3)
    (tail-broken by old n wrong.Cut text summary bytes at.0
    (ap (λ b. cond b wrong.Long wrong.Cut) (not-longer (length bytes) at.1)) refuses))
breaks by old n why.Syntax bytes text summary refuses lines tail at = absurd at
breaks by old n why.Version bytes text summary refuses lines tail at = absurd at
breaks by old n why.Limit bytes text summary refuses lines tail at = absurd at
breaks by old n (why.Fault fault) bytes text summary refuses lines tail at = absurd at
