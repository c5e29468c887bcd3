-- What a migration writes of a line, and how it ends.
use Rattle.std.proofs.Common.{◌≡◌, ℕ, ◌+◌, ◌-◌, ◌^◌, ◌<◌, ◌≤◌, true, false, ◌||◌, List, [], ◌∷◌}
use Rattle.std.proofs.Common.{◌++◌, length, take, get_or, None, Some, Ok, Err, refl, sym, ap, ap₂}
use Rattle.std.proofs.Common.{◌∙◌, subst, append_assoc, arith, Result, IfOk, OnOk}
use Rattle.std.specs.Global.{Vec}
use Rattle.std.proofs.lemmas.Bool.{le-ltb}
use Rattle.std.proofs.lemmas.List.{take-map, take_more}
use Rattle.wit_model.specs.declared.lines.Cause.{Cause}
use Rattle.wit_model.specs.declared.lines.Line.{Line}
use Rattle.wit_model.specs.declared.lines.Line.TheVariants.{Header, OnLock}
use Rattle.wit_model.specs.declared.lines.LockLine.TheVariants.{Step}
use Rattle.wit_model.specs.declared.lines.Version.{Version}
use Rattle.wit_model.specs.declared.locks.LockNo.{LockNo}
use Rattle.wit_model.specs.declared.locks.SeatNo.{SeatNo}
use Rattle.wit_model.specs.declared.raw_steps.RawStep.{RawStep}
use Rattle.wit_model.proofs.Spelling.Lengths.{spelled-le}
use Rattle.wit_model.specs.Rules.Start.{start_fault}
use Rattle.wit_model.specs.Rules.State.{Story}
use Rattle.wit_model.specs.Trace.Moving.{Moving, Unmoved, Keeping, Moved, Written, MovingOutcome}
use Rattle.wit_model.specs.Trace.Moving.{Goes, with_feeds, last_text, moved_text, kept_lines}
use Rattle.wit_model.specs.Trace.Moving.{read_to, moving_reached, moving_opened, moving_after}
use Rattle.wit_model.specs.Trace.Moving.{moves, moving_from, moving_outcome, moving_ends}
use Rattle.wit_model.specs.Trace.Moving as moving
use Rattle.wit_model.specs.Trace.Moving.{lines_before, moving_ends_bad}
use Rattle.wit_model.specs.Trace.Output.{Prelude, Progress, Unstarted, Opening, Reading, Stepping}
use Rattle.wit_model.specs.Trace.Output.{BadLine, bad_text, call_of, is_prelude}
use Rattle.wit_model.specs.Trace.Output.{is_profile, summed}
use Rattle.wit_model.specs.Trace.Output as output
use Rattle.wit_model.specs.Trace.Reading.{line_of}
use Rattle.wit_model.specs.World.Scenes.{RawLock}
use Rattle.wit_fields.specs.declared.errors.LineError.{LineError}
use Rattle.wit_grammar.specs.Lines.{IsSpelled}
use Rattle.wit_stream.specs.Machine.{Follows}
use Rattle.wit_migrate.specs.Migrates.{IsMigrated, EndsWith, GoesOver, HasMoved, IsRefusedAt}
use Rattle.wit_migrate.specs.Migrates.{MovesAsDue, Writes}
use Rattle.wit_migrate.specs.Migrates.{kept_bytes, migrated, moved_to}
use Rattle.wit_lines.specs.Replays.{IsVerifierOf, total}
use Rattle.wit_migrate.specs.declared.migrating.Migrating.{Migrating}
use Rattle.wit_stream.specs.declared.machine.Step as machine
use Rattle.wit_stream.specs.declared.machine.Step.TheVariants as step
use Rattle.wit_stream.specs.declared.summary.Summary.{Summary}
use Rattle.wit_grammar.specs.declared.parse.TheConstants.{LONGEST}

-- ---- lines that are written

pub step_spelled : (s : SeatNo) (l : LockNo) (step : RawStep) → s.0 < 2 ^ 16 → l.0 < 2 ^ 32
    → IsSpelled (OnLock (Step s l step))
step_spelled s l step seat lock =
    ((seat, lock), spelled-le (OnLock (Step s l step)) (seat, lock) (λ list e. cc))

pub header_spelled : (v : Version) (s t l c : ℕ) → s < 2 ^ 32 → t < 2 ^ 32 → l < 2 ^ 32 → c < 2 ^ 32
    → IsSpelled (Header v s t l c)
header_spelled v s t l c seats types locks chunks = (
  (seats, types, locks, chunks),
  spelled-le (Header v s t l c) (seats, types, locks, chunks) (λ list e. cc),
)

pub feeds-append : (a b : List (List ℕ)) → with_feeds (a ++ b) ≡ with_feeds a ++ with_feeds b
feeds-append [] b = refl
feeds-append (line ∷ a) b =
    ap (λ text. line ++ 10 ∷ text) (feeds-append a b)
    ∙ sym (append_assoc line (10 ∷ with_feeds a) (with_feeds b))

-- one more line that was kept
pub feeds-more : (kept : List (Vec ℕ)) (i : ℕ) (line : Vec ℕ) → i < length kept
    → line ≡ get_or kept i line
    → with_feeds (kept_bytes (take i kept)) ++ (line.items ++ 10 ∷ [])
    ≡ with_feeds (kept_bytes (take (i + 1) kept))
feeds-more kept i line within is =
    sym (ap (λ ls. with_feeds (kept_bytes ls)) (take_more kept i line within)
    ∙ ap (λ x. with_feeds (kept_bytes (take i kept ++ x ∷ []))) (sym is)
    ∙ ap with_feeds (bytes-append (take i kept) line)
    ∙ feeds-append (kept_bytes (take i kept)) (line.items ∷ []))
  where
    bytes-append : (xs : List (Vec ℕ)) (x : Vec ℕ)
        → kept_bytes (xs ++ x ∷ []) ≡ kept_bytes xs ++ x.items ∷ []
    bytes-append [] x = refl
    bytes-append (y ∷ xs) x = ap (λ ls. y.items ∷ ls) (bytes-append xs x)

-- ---- where the prelude ends

pub on-prelude : (m : Moving) (n : ℕ) (line : List ℕ)
    → (is_prelude line || is_profile n line) ≡ true → GoesOver m n line m []
on-prelude Unmoved n line is = record { lines = []; written = refl; on = λ next. refl }
on-prelude (Keeping p kept) n line is = record {
  lines = [];
  written = refl;
  on = λ next. rw is refl;
}
on-prelude (Moved s raw m) n line is = record { lines = []; written = refl; on = λ next. refl }

pub opens : (p : Prelude) (kept : List (List ℕ)) (n : ℕ) (line : List ℕ) (s : Story) (text : List ℕ)
    → (is_prelude line || is_profile n line) ≡ false → IsVerifierOf p (start_fault p.start) (Ok s)
    → text ≡ with_feeds kept → GoesOver (Keeping p kept) n line (Moved s [] 0) text
opens p kept n line s text over made told = record {
  lines = kept;
  written = told;
  on = λ next. rw (over, made.0) (ap (λ v. lines_before kept (next (Moved v [] 0))) (sym made.1));
}

abbrev refused_at : Prelude → List (Vec ℕ) → BadLine → Written
refused_at p kept bad =
    record { lines = take (bad.0 - 2) (kept_bytes kept); reached = Opening p; bad = Some bad }

pub refuses : (p : Prelude) (kept : List (Vec ℕ)) (n : ℕ) (line : List ℕ) (bad : BadLine)
    (text : List ℕ)
    → (is_prelude line || is_profile n line) ≡ false
    → IsVerifierOf p (start_fault p.start) (Err bad)
    → text ≡ with_feeds (kept_bytes (take (bad.0 - 2) kept))
    → IsRefusedAt (Keeping p (kept_bytes kept)) n line text bad
refuses p kept n line bad text over made told = record {
  prelude = p;
  lines = take (bad.0 - 2) (kept_bytes kept);
  written = told ∙ ap with_feeds (sym (take-map (λ (l : Vec ℕ). l.items) (bad.0 - 2) kept));
  is = λ next. rw (over, made.1) (ap (λ (b : BadLine). refused_at p kept b) (sym made.2));
}

-- ---- what is written and summed up

-- lines in front
pub behind : (lines : List (List ℕ)) (w : Written) (text more : List ℕ) (summary : Summary)
    → text ≡ with_feeds lines → IsMigrated w more summary
    → IsMigrated (lines_before lines w) (text ++ more) summary
behind lines w text more summary is h = record {
  written = ap₂ (λ a b. a ++ b) is h.written
      ∙ sym (append_assoc (with_feeds lines) (with_feeds w.lines) (last_text w.bad))
      ∙ ap (λ t. t ++ last_text w.bad) (sym (feeds-append lines w.lines));
  summed = h.summed;
  none = h.none;
}

-- a bad line is summed up with what was found before it
summed-bad : (p : Progress) (found : Summary) (bad : BadLine) → total found ≡ summed p None
    → total (record found { bad = Some bad }) ≡ summed p (Some bad)
summed-bad p found bad is = ap (λ (t : output.Total). record t { bad = Some bad }) is ∙ same p
  where
    same : (p : Progress) → ◌≡◌ {A = output.Total} (record (summed p None) { bad = Some bad })
        (summed p (Some bad))
    same Unstarted = refl
    same (Opening o) = refl
    same (Reading s m) = refl
    same (Stepping s m) = refl

-- the migration ends at a bad line
pub bad-migrated : (m : Moving) (bad : BadLine) (found summary : Summary) (text : List ℕ)
    → text ≡ with_feeds (kept_lines m) ++ bad_text bad.0 bad.1
    → total found ≡ summed (read_to m) None
    → found.circle ≡ false → summary ≡ record found { bad = Some bad }
    → IsMigrated (moving_ends_bad m bad) text summary
bad-migrated m bad found summary text is sums none same = record {
  written = is;
  summed = ap total same ∙ summed-bad (read_to m) found bad sums;
  none = ap (λ (s : Summary). s.circle) same ∙ none;
}

-- or at a list that is refused, before which nothing was called
pub refused-migrated : (p : Prelude) (lines : List (List ℕ)) (bad : BadLine)
    (found summary : Summary) (told text : List ℕ)
    → told ≡ with_feeds lines → text ≡ told ++ bad_text bad.0 bad.1
    → total found ≡ summed Unstarted None
    → found.circle ≡ false → summary ≡ record found { bad = Some bad }
    → IsMigrated (record { lines = lines; reached = Opening p; bad = Some bad }) text summary
refused-migrated p lines bad found summary told text wrote is sums none same = record {
  written = is ∙ ap (λ t. t ++ bad_text bad.0 bad.1) wrote;
  summed = ap total same ∙ summed-bad Unstarted found bad sums;
  none = ap (λ (s : Summary). s.circle) same ∙ none;
}

-- ---- what becomes of a line

-- what comes of a line and those behind it
abbrev pub next_of : ℕ → List ℕ → List (List ℕ) → List ℕ → Moving → Written
next_of n line lines tail q =
    moving_after q n (moving_outcome q n line) (λ r. moving_from r (n + 1) lines tail)

module _ (old q : Moving) (n : ℕ) (line before : List ℕ) (over : GoesOver old n line q before) where
  pub line-goes : (new : Moving) (text : List ℕ) → Writes (moving_outcome q n line) new text
      → (lines : List (List ℕ)) (tail more : List ℕ) (summary : Summary)
      → IsMigrated (moving_from new (n + 1) lines tail) more summary
      → IsMigrated (moving_from old n (line ∷ lines) tail) ((before ++ text) ++ more) summary
  line-goes new text w lines tail more summary h =
      let next = λ (r : Moving). moving_from r (n + 1) lines tail in
      let is : moving_from old n (line ∷ lines) tail
      ≡ lines_before over.lines (lines_before w.lines (next new))
      = over.on (next_of n line lines tail)
      ∙ ap (λ o. lines_before over.lines (moving_after q n o next)) w.goes in
      subst (λ t. IsMigrated (moving_from old n (line ∷ lines) tail) t summary)
      (sym (append_assoc before text more))
      (subst (λ v. IsMigrated v (before ++ (text ++ more)) summary) (sym is)
      (behind over.lines (lines_before w.lines (next new)) before
      (text ++ more) summary over.written
      (behind w.lines (next new) text more summary w.written h)))

  pub line-bad : (cause : Cause) (found summary : Summary) (text : List ℕ)
      → moving_outcome q n line ≡ moving.Bad cause
      → text ≡ before ++ (with_feeds (kept_lines q) ++ bad_text n cause)
      → total found ≡ summed (read_to q) None
      → found.circle ≡ false → summary ≡ record found { bad = Some (n, cause) }
      → (lines : List (List ℕ)) (tail : List ℕ)
      → IsMigrated (moving_from old n (line ∷ lines) tail) text summary
  line-bad cause found summary text bad is sums none same lines tail =
      let next = λ (r : Moving). moving_from r (n + 1) lines tail in
      let ended : moving_from old n (line ∷ lines) tail
      ≡ lines_before over.lines (moving_ends_bad q (n, cause))
      = over.on (next_of n line lines tail)
      ∙ ap (λ o. lines_before over.lines (moving_after q n o next)) bad in
      subst (λ t. IsMigrated (moving_from old n (line ∷ lines) tail) t summary) (sym is)
      (subst (λ v. IsMigrated v (before ++ (with_feeds (kept_lines q) ++ bad_text n cause)) summary)
      (sym ended)
      (behind over.lines (moving_ends_bad q (n, cause)) before
      (with_feeds (kept_lines q) ++ bad_text n cause) summary over.written
      (bad-migrated q (n, cause) found summary (with_feeds (kept_lines q) ++ bad_text n cause) refl
      sums none same)))

pub line-refused : (old : Moving) (n : ℕ) (line told : List ℕ) (bad : BadLine)
    → IsRefusedAt old n line told bad
    → (found summary : Summary) (text : List ℕ) → text ≡ told ++ bad_text bad.0 bad.1
    → total found ≡ summed Unstarted None → found.circle ≡ false
    → summary ≡ record found { bad = Some bad }
    → (lines : List (List ℕ)) (tail : List ℕ)
    → IsMigrated (moving_from old n (line ∷ lines) tail) text summary
line-refused old n line told bad r found summary text is sums none same lines tail =
    subst (λ v. IsMigrated v text summary) (sym (r.is (next_of n line lines tail)))
    (refused-migrated r.prelude r.lines bad found summary told text r.written is sums none same)

-- a line that is read makes its call
pub line-moves : (s : Story) (raw : List RawLock) (m n : ℕ) (bytes : List ℕ) (line : Line)
    (old new : Moving) (r : Result (Vec ℕ) LineError)
    → length bytes ≤ LONGEST → line_of bytes ≡ Some line
    → MovesAsDue (moves s raw m bytes (call_of line)) old new r
    → MovesAsDue (moving_outcome (Moved s raw m) n bytes) old new r
line-moves s raw m n bytes line old new r short reads does =
    let due : moving_outcome (Moved s raw m) n bytes ≡ moves s raw m bytes (call_of line)
    = rw (le-ltb LONGEST (length bytes) short, reads) refl in
    subst (λ o. MovesAsDue o old new r) (sym due) does

-- the step that ends the migration
pub ends-follow : (old new : Migrating) (n : ℕ) (line text : List ℕ) (summary : Summary)
    (written : List ℕ) (s : machine.Step)
    → EndsWith text summary written s
    → ((lines : List (List ℕ)) (tail : List ℕ)
    → IsMigrated (moving_from (moved_to old) n (line ∷ lines) tail) text summary)
    → Follows migrated old new n line written s
ends-follow old new n line text summary written step.Goes ends is = elim ends [ ]
ends-follow old new n line text summary written (step.Ends found) ends is = λ lines tail.
    subst (λ t. IsMigrated (moving_from (moved_to old) n (line ∷ lines) tail) t found) (sym ends.0)
    (subst (λ x. IsMigrated (moving_from (moved_to old) n (line ∷ lines) tail) text x) (sym ends.1)
    (is lines tail))

-- it has moved its last line then
pub ended-moved : {E : Type 0} (old new : Migrating) (n : ℕ) (line text : List ℕ)
    (summary : Summary) (written : List ℕ) (answer : Result machine.Step E)
    → IfOk answer (EndsWith text summary written) → OnOk answer (moved_to new ≡ Unmoved)
    → ((lines : List (List ℕ)) (tail : List ℕ)
    → IsMigrated (moving_from (moved_to old) n (line ∷ lines) tail) text summary)
    → IfOk answer (HasMoved old n line new written)
ended-moved old new n line text summary written (Err e) ends over is = tt
ended-moved old new n line text summary written (Ok s) ends over is = (
  ends-follow old new n line text summary written s ends is,
  record { counts = rw over (omega arith); weighs = rw over (omega arith) },
)
