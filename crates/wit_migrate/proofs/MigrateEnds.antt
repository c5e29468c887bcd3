-- How a migration ends where the input does.
use Rattle.std.proofs.Common.{◌≡◌, ℕ, ◌+◌, ◌<◌, Bool, false, ◌||◌, cond, nat_lt, List, [], ◌∷◌}
use Rattle.std.proofs.Common.{◌++◌, length, Option, None, Some, unwrap_or, Result, Ok, Err, IfOk}
use Rattle.std.proofs.Common.{refl, sym, ap, ap₂, ◌∙◌, subst, append-nil, arith}
use Rattle.std.specs.Global.{Vec}
use Rattle.std.specs.Io.{StartsWith}
use Rattle.std.proofs.lemmas.Bool.{lt-ltb, le-ltb}
use Rattle.wit_model.specs.declared.lines.Cause.{Cause}
use Rattle.wit_model.specs.declared.lines.Cause.TheVariants as why
use Rattle.wit_model.specs.Rules.Start.{start_fault}
use Rattle.wit_model.specs.Rules.State.{Story}
use Rattle.wit_model.specs.Trace.Moving.{Moving, Unmoved, Keeping, Moved, Written, MovingOutcome}
use Rattle.wit_model.specs.Trace.Moving.{Goes, with_feeds, last_text, moved_text, kept_lines}
use Rattle.wit_model.specs.Trace.Moving.{read_to, moving_reached, moving_opened, moving_after}
use Rattle.wit_model.specs.Trace.Moving.{moving_from, moving_outcome, moving_ends}
use Rattle.wit_model.specs.Trace.Moving as moving
use Rattle.wit_model.specs.Trace.Moving.{moving_ends_bad, moving_read_as, lines_before}
use Rattle.wit_model.specs.Trace.Output.{Unstarted, Opening, BadLine, bad_text, summed}
use Rattle.wit_model.specs.Trace.Reading.{line_of}
use Rattle.wit_model.specs.World.Scenes.{RawLock}
use Rattle.wit_stream.specs.Machine.{BreaksAt, first_of}
use Rattle.wit_migrate.specs.Migrates.{IsMigrated, MigratesFrom, GoesOver, IsRefusedAt, ReachesLine}
use Rattle.wit_migrate.specs.Migrates.{migrated, moved_to}
use Rattle.wit_lines.specs.Replays.{total}
use Rattle.wit_lines.proofs.LongLines.{begins_prelude, no_profile, starts-le}
use Rattle.wit_stream.specs.Stream.{ReadingGoesOn, OutputFrom, ReadsToEnd, WritesLines}
use Rattle.wit_migrate.specs.declared.migrating.Migrating.{Migrating}
use Rattle.wit_migrate.specs.declared.migrating.Migrating.TheVariants as kept
use Rattle.wit_stream.specs.declared.summary.Summary.{Summary}
use Rattle.wit_migrate.proofs.MigrateLemmas.{behind, bad-migrated, refused-migrated, next_of}
use Rattle.wit_grammar.specs.declared.parse.TheConstants.{LONGEST}

-- ---- where the input breaks off

-- the beginning of a long line decides whether it ends the prelude
begins-reached : (m : Moving) (n : ℕ) (bytes line : List ℕ) (next : Moving → Written)
    → LONGEST < length bytes → StartsWith line bytes
    → moving_reached m n line next ≡ moving_reached m n bytes next
begins-reached Unmoved n bytes line next long starts = refl
begins-reached (Keeping p kept) n bytes line next long starts =
    ap₂ (λ (t u : Bool). cond (t || u) (next (Keeping p kept))
    (moving_opened p kept (start_fault p.start) next))
    (begins_prelude bytes line long starts)
    (no_profile n line (omega (arith, long, starts-le bytes line starts))
    ∙ sym (no_profile n bytes long))
begins-reached (Moved s raw m) n bytes line next long starts = refl

first-reached : (m : Moving) (n : ℕ) (cause : Cause) (bytes : List ℕ) (lines : List (List ℕ))
    (tail : List ℕ) (next : Moving → Written)
    → BreaksAt cause bytes lines tail → moving_reached m n (first_of lines tail) next
    ≡ moving_reached m n bytes next
first-reached m n why.Long bytes lines tail next h =
    begins-reached m n bytes (first_of lines tail) next h.0 h.1
first-reached m n why.Cut bytes lines tail next h =
    ap (λ (ls : List (List ℕ)). moving_reached m n (first_of ls tail) next) h.2
    ∙ ap (λ t. moving_reached m n t next) h.3
first-reached m n why.Syntax bytes lines tail next h = elim h [ ]
first-reached m n why.Version bytes lines tail next h = elim h [ ]
first-reached m n why.Limit bytes lines tail next h = elim h [ ]
first-reached m n (why.Fault fault) bytes lines tail next h = elim h [ ]

-- what comes of the first line that is still to come
abbrev comes : ℕ → List (List ℕ) → List ℕ → Moving → Written
comes n [] tail = λ q. moving_ends q n tail
comes n (line ∷ lines) tail = next_of n line lines tail

from-first : (m : Moving) (n : ℕ) (lines : List (List ℕ)) (tail : List ℕ)
    → moving_from m n lines tail ≡ moving_reached m n (first_of lines tail) (comes n lines tail)
from-first m n [] tail = refl
from-first m n (line ∷ lines) tail = refl

-- an unfinished line is bad
ends-some : (q : Moving) (n : ℕ) (tail : List ℕ) (cause : Cause) → 0 < length tail
    → cond (nat_lt LONGEST (length tail)) why.Long why.Cut ≡ cause
    → moving_ends q n tail ≡ moving_ends_bad q (n, cause)
ends-some q n [] cause some is = absurd (omega arith)
ends-some Unmoved n (b ∷ tail) cause some is = ap (λ (c : Cause). moving_ends_bad Unmoved (n, c)) is
ends-some (Keeping p kept) n (b ∷ tail) cause some is =
    ap (λ (c : Cause). moving_ends_bad (Keeping p kept) (n, c)) is
ends-some (Moved s raw m) n (b ∷ tail) cause some is =
    ap (λ (c : Cause). moving_ends_bad (Moved s raw m) (n, c)) is

comes-bad : (q : Moving) (n : ℕ) (cause : Cause) (bytes : List ℕ) (lines : List (List ℕ))
    (tail : List ℕ)
    → BreaksAt cause bytes lines tail → comes n lines tail q ≡ moving_ends_bad q (n, cause)
comes-bad q n why.Long bytes [] tail h =
    let more = starts-le bytes tail h.1 in
    let long = h.0 in
    ends-some q n tail why.Long (omega (arith, more, long))
    (ap (λ b. cond b why.Long why.Cut) (lt-ltb LONGEST (length tail) (omega (arith, more, long))))
comes-bad q n why.Long bytes (line ∷ lines) tail h =
    let more = starts-le bytes line h.1 in
    let long = h.0 in
    ap (λ b. moving_after q n (cond b (moving.Bad why.Long)
    (moving_read_as q n line (line_of line))) (λ r. moving_from r (n + 1) lines tail))
    (lt-ltb LONGEST (length line) (omega (arith, more, long)))
comes-bad q n why.Cut bytes lines tail h =
    ap (λ (ls : List (List ℕ)). comes n ls tail q) h.2
    ∙ (ap (λ t. moving_ends q n t) h.3
    ∙ ends-some q n bytes why.Cut h.0
    (ap (λ b. cond b why.Long why.Cut) (le-ltb LONGEST (length bytes) h.1)))
comes-bad q n why.Syntax bytes lines tail h = elim h [ ]
comes-bad q n why.Version bytes lines tail h = elim h [ ]
comes-bad q n why.Limit bytes lines tail h = elim h [ ]
comes-bad q n (why.Fault fault) bytes lines tail h = elim h [ ]

-- what is answered there
pub broken-answer : {E : Type 0} (old q : Moving) (n : ℕ) (cause : Cause) (bytes told : List ℕ)
    (refused : Option BadLine)
    (at : BadLine) (found : Summary) (answer : Result (Vec ℕ × Summary) E)
    → ReachesLine old n bytes q told refused → at ≡ unwrap_or refused (n, cause)
    → total found ≡ summed (read_to q) None
    → found.circle ≡ false
    → IfOk answer (λ a. a.0.items ≡ told ++ (with_feeds (kept_lines q) ++ bad_text at.0 at.1))
    → IfOk answer (λ a. a.1 ≡ record found { bad = Some at })
    → IfOk answer (λ a. (lines : List (List ℕ)) (tail : List ℕ) → BreaksAt cause bytes lines tail
    → IsMigrated (moving_from old n lines tail) a.0.items a.1)
broken-answer old q n cause bytes told refused at found (Err e) reaches is sums none texts same = tt
broken-answer old q n cause bytes told None at found (Ok a) reaches is sums none texts same =
    λ lines tail h.
    let ended : moving_from old n lines tail
    ≡ lines_before reaches.lines (moving_ends_bad q (n, cause))
    = from-first old n lines tail
    ∙ (first-reached old n cause bytes lines tail (comes n lines tail) h
    ∙ (reaches.on (comes n lines tail) ∙ ap (λ w. lines_before reaches.lines w)
    (comes-bad q n cause bytes lines tail h))) in
    let text : a.0.items ≡ told ++ (with_feeds (kept_lines q) ++ bad_text n cause)
    = texts ∙ ap (λ (b : BadLine). told ++ (with_feeds (kept_lines q) ++ bad_text b.0 b.1)) is in
    subst (λ w. IsMigrated w a.0.items a.1) (sym ended)
    (subst (λ t. IsMigrated (lines_before reaches.lines (moving_ends_bad q (n, cause))) t a.1)
    (sym text)
    (behind reaches.lines (moving_ends_bad q (n, cause)) told
    (with_feeds (kept_lines q) ++ bad_text n cause) a.1 reaches.written
    (bad-migrated q (n, cause) found a.1 (with_feeds (kept_lines q) ++ bad_text n cause)
    refl sums none
    (same ∙ ap (λ (b : BadLine). record found { bad = Some b }) is))))
broken-answer old q n cause bytes told (Some bad) at found (Ok a) reaches is sums none texts same =
    λ lines tail h.
    let ended : moving_from old n lines tail
    ≡ record { lines = reaches.0.lines; reached = Opening reaches.0.prelude; bad = Some bad }
    = from-first old n lines tail
    ∙ (first-reached old n cause bytes lines tail (comes n lines tail) h
    ∙ reaches.0.is (comes n lines tail)) in
    subst (λ w. IsMigrated w a.0.items a.1) (sym ended)
    (refused-migrated reaches.0.prelude reaches.0.lines bad found a.1 told a.0.items
    reaches.0.written
    (texts ∙ (ap (λ (b : BadLine). told ++ (with_feeds (kept_lines q) ++ bad_text b.0 b.1)) is
    ∙ ap (λ r. told ++ (with_feeds (kept_lines r) ++ bad_text bad.0 bad.1)) reaches.1))
    (sums ∙ ap (λ r. summed (read_to r) None) reaches.1) none
    (same ∙ ap (λ (b : BadLine). record found { bad = Some b }) is))

-- the input ends behind a whole line
module _ (old q : Moving) (n : ℕ) (told : List ℕ) where
  pub end-read : (s : Story) (raw : List RawLock) (m : ℕ) (found : Summary)
      → GoesOver old n [] q told → q ≡ Moved s raw m
      → total found ≡ summed (read_to q) None → found.circle ≡ false
      → IsMigrated (moving_from old n [] []) told found
  end-read s raw m found over is sums none =
      let ended : moving_from old n [] []
      ≡ lines_before over.lines (moving_ends (Moved s raw m) n [])
      = over.on (λ r. moving_ends r n [])
      ∙ ap (λ r. lines_before over.lines (moving_ends r n [])) is in
      subst (λ w. IsMigrated w told found) (sym ended)
      (subst (λ t. IsMigrated (lines_before over.lines (moving_ends (Moved s raw m) n [])) t found)
      (append-nil told)
      (behind over.lines (moving_ends (Moved s raw m) n []) told [] found over.written
      (record {
        written = refl;
        summed = sums ∙ ap (λ r. summed (read_to r) None) is;
        none = none;
      })))

  pub end-cut : (found summary : Summary) (text : List ℕ) → GoesOver old n [] q told
      → moving_ends q n [] ≡ moving_ends_bad q (n, why.Cut)
      → text ≡ told ++ (with_feeds (kept_lines q) ++ bad_text n why.Cut)
      → total found ≡ summed (read_to q) None
      → found.circle ≡ false → summary ≡ record found { bad = Some (n, why.Cut) }
      → IsMigrated (moving_from old n [] []) text summary
  end-cut found summary text over cut is sums none same =
      let ended : moving_from old n [] [] ≡ lines_before over.lines (moving_ends_bad q (n, why.Cut))
      = over.on (λ r. moving_ends r n []) ∙ ap (λ w. lines_before over.lines w) cut in
      subst (λ w. IsMigrated w text summary) (sym ended)
      (subst (λ t. IsMigrated (lines_before over.lines (moving_ends_bad q (n, why.Cut))) t summary)
      (sym is)
      (behind over.lines (moving_ends_bad q (n, why.Cut)) told
      (with_feeds (kept_lines q) ++ bad_text n why.Cut) summary over.written
      (bad-migrated q (n, why.Cut) found summary (with_feeds (kept_lines q) ++ bad_text n why.Cut)
      refl sums none same)))

  pub end-refused : (bad : BadLine) (found summary : Summary) (text : List ℕ)
      → IsRefusedAt old n [] told bad
      → text ≡ told ++ bad_text bad.0 bad.1 → total found ≡ summed Unstarted None
      → found.circle ≡ false
      → summary ≡ record found { bad = Some bad }
      → IsMigrated (moving_from old n [] []) text summary
  end-refused bad found summary text r is sums none same =
      subst (λ v. IsMigrated v text summary) (sym (r.is (λ x. moving_ends x n [])))
      (refused-migrated r.prelude r.lines bad found summary told text r.written is sums none same)

-- ---- the whole run

-- what the machine that migrates allows
abbrev allowed : Migrating → ℕ → List ℕ → List ℕ → Summary → Type 0
allowed = OutputFrom migrated

moved_on : (lines text : List ℕ) → ReadingGoesOn allowed kept.Unmoved lines text
    → ReadingGoesOn MigratesFrom Unmoved lines text
moved_on lines text goes = record { at = moved_to goes.at; on = goes.on }

-- the end of a migration
pub moved_end : {E : Type 0} (r0 r w0 w : Option (List ℕ)) (answer : Result Summary E)
    → IfOk answer (ReadsToEnd allowed kept.Unmoved r0 r w0 w)
    → IfOk answer (ReadsToEnd MigratesFrom Unmoved r0 r w0 w)
moved_end r0 r w0 w (Err e) h = tt
moved_end r0 r w0 w (Ok summary) h = record {
  lines = h.lines;
  last = h.last;
  told = h.told;
  text = h.text;
  whole = h.whole;
  goes = moved_on h.lines h.told h.goes;
  one = h.one;
  read = h.read;
  is_last = h.is_last;
  written = h.written;
}

-- what stands after a failed look
pub moved_lines : (r0 r w0 w : Option (List ℕ)) → WritesLines allowed kept.Unmoved r0 r w0 w
    → WritesLines MigratesFrom Unmoved r0 r w0 w
moved_lines r0 r w0 w h = record {
  lines = h.lines;
  begun = h.begun;
  text = h.text;
  whole = h.whole;
  plain = h.plain;
  goes = moved_on h.lines h.text h.goes;
  read = h.read;
  written = h.written;
}
