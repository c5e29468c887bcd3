-- What follows a line, and how the reading ends.
use Rattle.std.proofs.Common.{◌≡◌, ℕ, ◌+◌, ◌<◌, ◌≤◌, true, false, nat_lt, min, List}
use Rattle.std.proofs.Common.{[], ◌∷◌, length, Option, Some, None, refl, sym, ap, ◌∙◌}
use Rattle.std.proofs.Common.{ap₂, subst, arith, cond}
use Rattle.std.specs.Borrow.{Bor}
use Rattle.std.specs.Io.{StartsWith}
use Rattle.std.proofs.lemmas.Bool.{lt-ltb, le-ltb}
use Rattle.std.proofs.lemmas.List.{length-take}
use Rattle.wit_model.specs.declared.lines.Cause.{Cause}
use Rattle.wit_model.specs.declared.lines.Cause.TheVariants as why
use Rattle.wit_grammar.specs.declared.parse.TheConstants.{LONGEST}
use Rattle.wit_recordings.specs.Recordings.{NamedType}
use Rattle.wit_stream.specs.declared.summary.Summary.{Summary}
use Rattle.wit_stream.specs.Machine.{BreaksAt}
use Rattle.wit_orders.specs.declared.reading.OrderLine.{OrderLine}
use Rattle.wit_orders.specs.declared.reading.OrderLine.TheVariants.{Listed, Pair}
use Rattle.wit_orders.specs.Reading.{IsLineText, IsWritten, order_line}
use Rattle.wit_against.specs.Judging.{LeadsTo, SaysNone}
use Rattle.wit_against.specs.Known.{Known, with_order}
use Rattle.wit_against.specs.Outputs.{AfterLine, AfterRead, AtEnd, JudgesLines, Refuses}

not-longer : (n : ℕ) → n ≤ LONGEST → nat_lt LONGEST n ≡ false
not-longer n short = le-ltb LONGEST n short

module _ (old : Known) (n : ℕ) (bytes : List ℕ) (short : length bytes ≤ LONGEST) where
  -- a line that isn't too long, of which this is read
  read-so : (read : Option (OrderLine NamedType)) → order_line bytes ≡ read
      → (next : Known → List ℕ → Summary → Type 0) (text : List ℕ) (summary : Summary)
      → AfterRead old n bytes read next text summary
      → AfterLine old n (nat_lt LONGEST (length bytes)) bytes next text summary
  read-so read is next text summary after =
      subst (λ b. AfterLine old n b bytes next text summary)
      (sym (not-longer (length bytes) short))
      (subst (λ r. AfterRead old n bytes r next text summary) (sym is) after)

  goes-on : (new : Known) (read : Option (OrderLine NamedType)) → LeadsTo old bytes read new
      → (next : Known → List ℕ → Summary → Type 0) (text : List ℕ) (summary : Summary)
      → next new text summary → AfterRead old n bytes read next text summary
  goes-on new (Some (Pair a b)) leads next text summary go =
      subst (λ k. next k text summary) leads go
  goes-on new (Some (Listed t)) leads next text summary go = absurd leads
  goes-on new None leads next text summary go = absurd leads

  -- the reading goes on after a line that was entered
  pub follows : (new : Known) → LeadsTo old bytes (order_line bytes) new
      → (lines : List (List ℕ)) (tail more : List ℕ) (summary : Summary)
      → JudgesLines new (n + 1) lines tail more summary
      → JudgesLines old n (bytes ∷ lines) tail more summary
  follows new leads lines tail more summary go =
      read-so (order_line bytes) refl (λ next. JudgesLines next (n + 1) lines tail) more summary
      (goes-on new (order_line bytes) leads (λ next. JudgesLines next (n + 1) lines tail) more
      summary go)

  refuses-so : (read : Option (OrderLine NamedType)) → SaysNone read
      → (next : Known → List ℕ → Summary → Type 0) (text : List ℕ) (summary : Summary)
      → Refuses n why.Syntax text summary → AfterRead old n bytes read next text summary
  refuses-so None none next text summary refuses = refuses
  refuses-so (Some (Listed t)) none next text summary refuses = refuses
  refuses-so (Some (Pair a b)) none next text summary refuses = absurd none

  -- it ends at a line that says no order
  pub ends_at : (cause : Cause) (text : List ℕ) (summary : Summary) → cause ≡ why.Syntax
      → SaysNone (order_line bytes) → Refuses n cause text summary → (lines : List (List ℕ))
      (tail : List ℕ) → JudgesLines old n (bytes ∷ lines) tail text summary
  ends_at cause text summary is none refuses lines tail =
      read-so (order_line bytes) refl (λ next. JudgesLines next (n + 1) lines tail) text summary
      (refuses-so (order_line bytes) none (λ next. JudgesLines next (n + 1) lines tail) text summary
      (subst (λ c. Refuses n c text summary) is refuses))

-- ---- a line that isn't whole, or too long

longer : (bytes line : List ℕ) → LONGEST < length bytes → StartsWith line bytes
    → nat_lt LONGEST (length line) ≡ true
longer bytes line long starts =
    let same : min (length bytes) (length line) ≡ length bytes =
    sym (length-take (length bytes) line) ∙ ap length starts in
    lt-ltb LONGEST (length line) (omega (arith, long, same))

tail-broken : (old : Known) (n : ℕ) (cause : Cause) (text : List ℕ) (summary : Summary)
    (tail : List ℕ) → 0 < length tail
    → cond (nat_lt LONGEST (length tail)) why.Long why.Cut ≡ cause
    → Refuses n cause text summary → AtEnd old n tail text summary
tail-broken old n cause text summary [] some is refuses = absurd (omega (arith, some))
tail-broken old n cause text summary (b ∷ tail) some is refuses =
    subst (λ c. Refuses n c text summary) (sym is) refuses

pub breaks : (old : Known) (n : ℕ) (cause : Cause) (bytes : List ℕ) (text : List ℕ)
    (summary : Summary) → Refuses n cause text summary
    → (lines : List (List ℕ)) (tail : List ℕ) → BreaksAt cause bytes lines tail
    → JudgesLines old n lines tail text summary
breaks old n why.Long bytes text summary refuses [] tail at =
    let long = longer bytes tail at.0 at.1 in
    let same : min (length bytes) (length tail) ≡ length bytes =
    sym (length-take (length bytes) tail) ∙ ap length at.1 in
    tail-broken old n why.Long text summary tail (omega (arith, at.0, same))
    (ap (λ b. cond b why.Long why.Cut) long) refuses
breaks old n why.Long bytes text summary refuses (line ∷ lines) tail at =
    subst (λ b. AfterLine old n b line (λ next. JudgesLines next (n + 1) lines tail) text summary)
    (sym (longer bytes line at.0 at.1)) refuses
breaks old n why.Cut bytes text summary refuses lines tail at =
    subst (λ (ls : List (List ℕ)). JudgesLines old n ls tail text summary) (sym at.2)
    (subst (λ t. AtEnd old n t text summary) (sym at.3)
    (tail-broken old n why.Cut text summary bytes at.0
    (ap (λ b. cond b why.Long why.Cut) (not-longer (length bytes) at.1)) refuses))
breaks old n why.Syntax bytes text summary refuses lines tail at = absurd at
breaks old n why.Version bytes text summary refuses lines tail at = absurd at
breaks old n why.Limit bytes text summary refuses lines tail at = absurd at
breaks old n (why.Fault fault) bytes text summary refuses lines tail at = absurd at

-- ---- an order that was read and entered

entered-so : (old new : Known) (bytes : List ℕ) (read : Option (OrderLine NamedType))
    (x y : Bor (List ℕ)) → (said : OrderLine NamedType) → read ≡ Some said
    → IsWritten (Pair x y) said → new ≡ with_order old x.now y.now bytes → LeadsTo old bytes read new
entered-so old new bytes read x y (Listed t) found written is = absurd written
entered-so old new bytes read x y (Pair a b) found written is =
    subst (λ r. LeadsTo old bytes r new) (sym found)
    (is ∙ ap₂ (λ (p q : List ℕ). with_order old p q bytes) written.0 written.1)

pub entered : (old new : Known) (bytes : List ℕ) (read : Option (OrderLine NamedType))
    (line : OrderLine (Bor (List ℕ))) (x y : Bor (List ℕ)) → line ≡ Pair x y
    → IsLineText read line → new ≡ with_order old x.now y.now bytes → LeadsTo old bytes read new
entered old new bytes read line x y is so same =
    entered-so old new bytes read x y so.said so.found
    (subst (λ l. IsWritten l so.said) is so.written) same
