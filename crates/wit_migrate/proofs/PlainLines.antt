-- No line that a migration writes has a line feed; and where none is bad, all was read.
use Rattle.std.proofs.Common.{◌≡◌, ◌≢◌, ℕ, ◌+◌, ◌^◌, ◌<◌, Bool, true, false, cond, eqb, ◌||◌, List}
use Rattle.std.proofs.Common.{[], ◌∷◌, ◌++◌, Option, None, Some, Result, Ok, Err, refl, sym}
use Rattle.std.proofs.Common.{subst}
use Rattle.std.proofs.lemmas.Bool.{eqb-false}
use Rattle.std.proofs.lemmas.List.Elements.{All-nil, All-cons, All-head, All-tail, All-append}
use Rattle.std.proofs.lemmas.List.Elements.{All-push, All-take}
use Rattle.wit_model.specs.declared.faults.Fault.{Fault}
use Rattle.wit_model.specs.declared.calls.Call.{Call}
use Rattle.wit_model.specs.declared.lines.Cause.TheVariants as why
use Rattle.wit_model.specs.declared.lines.Line.{Line}
use Rattle.wit_model.specs.declared.lines.Line.TheVariants.{Header, Order, Bless, OnLock}
use Rattle.wit_model.specs.declared.lines.Line.TheVariants as kind
use Rattle.wit_model.specs.declared.lines.Version.TheVariants.{One, Two}
use Rattle.wit_model.specs.Rules.Files.{naming_answer, files_after}
use Rattle.wit_model.specs.Rules.Sizes.{sizes_of, are_within_limits}
use Rattle.wit_model.specs.Rules.Start.{start_fault}
use Rattle.wit_model.specs.Rules.State.{Story, fresh}
use Rattle.wit_model.specs.Rules.Step.{answer_of}
use Rattle.wit_model.specs.World.Moving.{step_before, step_behind}
use Rattle.wit_model.specs.World.Scenes.{RawLock}
use Rattle.wit_model.specs.Trace.Moving.{Moving, Unmoved, Keeping, Moved, Written, MovingOutcome}
use Rattle.wit_model.specs.Trace.Moving.{step_line, answered, answered_at, line_alone, moves, keeps}
use Rattle.wit_model.specs.Trace.Moving.{moving_entered, moving_outcome, lines_before, moving_ends}
use Rattle.wit_model.specs.Trace.Moving.{moving_ends_bad, moving_opened, moving_reached}
use Rattle.wit_model.specs.Trace.Moving.{moving_after, moving_from, with_feeds, moved_text}
use Rattle.wit_model.specs.Trace.Moving.{kept_lines, TellsTheSame}
use Rattle.wit_model.specs.Trace.Moving as moving
use Rattle.wit_model.specs.Trace.Output.{Prelude, Progress, Reading, Stepping, BadLine, LineCall}
use Rattle.wit_model.specs.Trace.Output.{Logs, LogsAt, Asserts, Warns, Steps, NoCall, call_of, calls}
use Rattle.wit_model.specs.Trace.Output.{is_prelude, is_profile, empty_prelude, log_limit, course_from}
use Rattle.wit_model.specs.Trace.Output.{Course, IsLast, IsShown, summed}
use Rattle.wit_model.specs.Trace.Output as output
use Rattle.wit_model.specs.Trace.Spelling.{spelling}
use Rattle.wit_model.specs.Trace.Spelling.{IsSpellable}
use Rattle.wit_model.proofs.Moved.GoneOn.{was-read, was-answered}
use Rattle.wit_model.proofs.Moved.Lines.{IsSmall, IsSmallCall, small-before}
use Rattle.wit_model.proofs.Moved.Lines.{small-behind, small-line}
use Rattle.wit_model.proofs.Spelling.Laws.{line_takes}
use Rattle.wit_stream.specs.Text.{text, with_byte, text_of, HasNoFeed}
use Rattle.wit_migrate.proofs.AddedLines.{ArePlain, header-plain, step_line-plain}

-- ---- lines of a text

with_byte-plain : (b : ℕ) (lines : List (List ℕ)) (tail : List ℕ) → b ≢ 10 → ArePlain lines
    → ArePlain (with_byte b lines tail).lines
with_byte-plain b [] tail other plain = All-nil HasNoFeed
with_byte-plain b (line ∷ lines) tail other plain =
    All-cons HasNoFeed (b ∷ line) lines
    (All-cons (λ c. c ≢ 10) b line other (All-head HasNoFeed line lines plain))
    (All-tail HasNoFeed line lines plain)

pub lines-plain : (bytes : List ℕ) → ArePlain (text_of bytes).lines
lines-plain [] = All-nil HasNoFeed
lines-plain (b ∷ bytes) = by (eqb b 10) refl (lines-plain bytes)
  where
    by : (t : Bool) → eqb b 10 ≡ t → ArePlain (text_of bytes).lines
        → ArePlain (cond t (text ([] ∷ (text_of bytes).lines) (text_of bytes).tail)
        (with_byte b (text_of bytes).lines (text_of bytes).tail)).lines
    by true is plain = All-cons HasNoFeed [] (text_of bytes).lines (All-nil (λ c. c ≢ 10)) plain
    by false is plain =
        with_byte-plain b (text_of bytes).lines (text_of bytes).tail (eqb-false b 10 is) plain

-- ---- a line

-- where a line is good, plain lines are written of it, and plain ones are kept
abbrev GoesPlainly : Moving → List (List ℕ) → Type 0
GoesPlainly q lines = ArePlain lines × ArePlain (kept_lines q)

answered-plain : (s : Story) (raw : List RawLock) (m : ℕ) (bytes : List ℕ) (t : ℕ) (call : Call)
    (q : Moving) (lines : List (List ℕ)) → HasNoFeed bytes → t < 2 ^ 16 → IsSmallCall call
    → answered s raw m bytes t call (answer_of s t call) ≡ moving.Goes q lines
    → GoesPlainly q lines
answered-plain s raw m bytes t call q lines plain seat small goes =
    let a = was-answered s raw m bytes t call (answer_of s t call) q lines goes in (
      subst ArePlain (sym a.written)
          (All-append HasNoFeed (step_line t (step_before s.history t call))
          (bytes ∷ step_line t (step_behind s.history raw t call))
          (step_line-plain t (step_before s.history t call) seat
          (small-before s.history t call small))
          (All-cons HasNoFeed bytes (step_line t (step_behind s.history raw t call)) plain
          (step_line-plain t (step_behind s.history raw t call) seat
          (small-behind s.history raw t call small)))),
      subst (λ r. ArePlain (kept_lines r)) (sym a.next) (All-nil HasNoFeed),
    )

alone-plain : (raw : List RawLock) (bytes : List ℕ) (o : output.Outcome) (q : Moving)
    (lines : List (List ℕ)) → HasNoFeed bytes → line_alone raw bytes o ≡ moving.Goes q lines
    → GoesPlainly q lines
alone-plain raw bytes (output.Goes (output.Reading s n) told) q lines plain goes =
    let next : Moved s raw n ≡ q = cc in
    let written : bytes ∷ [] ≡ lines = cc in (
      subst ArePlain written (All-cons HasNoFeed bytes [] plain (All-nil HasNoFeed)),
      subst (λ r. ArePlain (kept_lines r)) next (All-nil HasNoFeed),
    )
alone-plain raw bytes (output.Goes output.Unstarted told) q lines plain goes = (cc)
alone-plain raw bytes (output.Goes (output.Opening p) told) q lines plain goes = (cc)
alone-plain raw bytes (output.Goes (output.Stepping s n) told) q lines plain goes = (cc)
alone-plain raw bytes (output.Bad cause) q lines plain goes = (cc)

at-plain : (s : Story) (raw : List RawLock) (m : ℕ) (bytes : List ℕ) (t : ℕ) (call : ℕ → Call)
    (file : List ℕ) (o : Result ℕ Fault) (q : Moving) (lines : List (List ℕ)) → HasNoFeed bytes
    → t < 2 ^ 16 → ((f : ℕ) → IsSmallCall (call f))
    → answered_at s raw m bytes t call file o ≡ moving.Goes q lines → GoesPlainly q lines
at-plain s raw m bytes t call file (Err fault) q lines plain seat small goes = (cc)
at-plain s raw m bytes t call file (Ok f) q lines plain seat small goes =
    answered-plain (record s { files = files_after file s.files }) raw m bytes t (call f) q lines
    plain seat (small f) goes

moves-plain : (s : Story) (raw : List RawLock) (m : ℕ) (bytes : List ℕ) (c : LineCall) (q : Moving)
    (lines : List (List ℕ)) → HasNoFeed bytes → IsSmall c
    → moves s raw m bytes c ≡ moving.Goes q lines → GoesPlainly q lines
moves-plain s raw m bytes (Logs t call) q lines plain small goes =
    answered-plain s raw m bytes t call q lines plain small.0 small.1 goes
moves-plain s raw m bytes (LogsAt t file call) q lines plain small goes =
    at-plain s raw m bytes t call file (naming_answer s file) q lines plain small.0 small.1 goes
moves-plain s raw m bytes (Asserts t l a) q lines plain small goes =
    alone-plain raw bytes (calls s m (Asserts t l a)) q lines plain goes
moves-plain s raw m bytes (Warns t l f) q lines plain small goes =
    alone-plain raw bytes (calls s m (Warns t l f)) q lines plain goes
moves-plain s raw m bytes (Steps t l step) q lines plain small goes =
    alone-plain raw bytes (calls s m (Steps t l step)) q lines plain goes
moves-plain s raw m bytes NoCall q lines plain small goes =
    alone-plain raw bytes (calls s m NoCall) q lines plain goes

keeps-plain : (kept : List (List ℕ)) (bytes : List ℕ) (o : output.Outcome) (q : Moving)
    (lines : List (List ℕ)) → ArePlain kept → HasNoFeed bytes
    → keeps kept bytes o ≡ moving.Goes q lines → GoesPlainly q lines
keeps-plain kept bytes (output.Goes (output.Opening p) told) q lines all plain goes =
    let next : Keeping p (kept ++ bytes ∷ []) ≡ q = cc in
    let written : [] ≡ lines = cc in (
      subst ArePlain written (All-nil HasNoFeed),
      subst (λ r. ArePlain (kept_lines r)) next (All-push HasNoFeed kept bytes all plain),
    )
keeps-plain kept bytes (output.Goes output.Unstarted told) q lines all plain goes = (cc)
keeps-plain kept bytes (output.Goes (output.Reading s n) told) q lines all plain goes = (cc)
keeps-plain kept bytes (output.Goes (output.Stepping s n) told) q lines all plain goes = (cc)
keeps-plain kept bytes (output.Bad cause) q lines all plain goes = (cc)

starts-plain : (n : ℕ) (bytes : List ℕ) (line : Line) (q : Moving) (lines : List (List ℕ))
    → IsSpellable line → moving_entered Unmoved n bytes line ≡ moving.Goes q lines
    → GoesPlainly q lines
starts-plain n bytes (Header One s t l c) q lines fits goes =
    go (are_within_limits (sizes_of s t l c log_limit)) goes
  where
    go : (b : Bool)
        → cond b (moving.Goes (Keeping (empty_prelude One (sizes_of s t l c log_limit)) [])
        (spelling (Header Two s t l c) ∷ [])) (moving.Bad why.Limit) ≡ moving.Goes q lines
        → GoesPlainly q lines
    go true goes =
        let next : Keeping (empty_prelude One (sizes_of s t l c log_limit)) [] ≡ q = cc in
        let written : spelling (Header Two s t l c) ∷ [] ≡ lines = cc in (
          subst ArePlain written
              (All-cons HasNoFeed _ [] (header-plain s t l c fits) (All-nil HasNoFeed)),
          subst (λ r. ArePlain (kept_lines r)) next (All-nil HasNoFeed),
        )
    go false goes = (cc)
starts-plain n bytes (Header Two s t l c) q lines fits goes = (cc)
starts-plain n bytes kind.Profile q lines fits goes = (cc)
starts-plain n bytes (Order list) q lines fits goes = (cc)
starts-plain n bytes (Bless a b) q lines fits goes = (cc)
starts-plain n bytes (kind.Init s lock) q lines fits goes = (cc)
starts-plain n bytes (OnLock l) q lines fits goes = (cc)
starts-plain n bytes (kind.Assert s l a) q lines fits goes = (cc)
starts-plain n bytes (kind.Warn s l f) q lines fits goes = (cc)
starts-plain n bytes (kind.Define s a b) q lines fits goes = (cc)
starts-plain n bytes (kind.Watch s w) q lines fits goes = (cc)

entered-plain : (m : Moving) (n : ℕ) (bytes : List ℕ) (line : Line) (q : Moving)
    (lines : List (List ℕ)) → ArePlain (kept_lines m) → HasNoFeed bytes → IsSpellable line
    → moving_entered m n bytes line ≡ moving.Goes q lines → GoesPlainly q lines
entered-plain Unmoved n bytes line q lines kept plain fits goes =
    starts-plain n bytes line q lines fits goes
entered-plain (Keeping p all) n bytes line q lines kept plain fits goes =
    keeps-plain all bytes (output.entered (output.Opening p) n line) q lines kept plain goes
entered-plain (Moved s raw m) n bytes line q lines kept plain fits goes =
    moves-plain s raw m bytes (call_of line) q lines plain (small-line line fits) goes

outcome-plain : (m : Moving) (n : ℕ) (bytes : List ℕ) (q : Moving) (lines : List (List ℕ))
    → ArePlain (kept_lines m) → HasNoFeed bytes → moving_outcome m n bytes ≡ moving.Goes q lines
    → GoesPlainly q lines
outcome-plain m n bytes q lines kept plain goes =
    let r = was-read m n bytes q lines goes in
    entered-plain m n bytes r.line q lines kept plain (line_takes bytes r.line r.spelled).1 r.enters

-- ---- the whole trace

-- all lines are plain, and where none is bad all was read
pub record IsGood (w : Written) : Type 0 where
  pub plain : ArePlain w.lines
  pub read : w.bad ≡ None → (s : Story) × (n : ℕ) × (w.reached ≡ Reading s n)

bad-good : (m : Moving) (bad : BadLine) → ArePlain (kept_lines m) → IsGood (moving_ends_bad m bad)
bad-good m bad kept = record { plain = kept; read = λ none. (cc) }

before-good : (lines : List (List ℕ)) (w : Written) → ArePlain lines → IsGood w
    → IsGood (lines_before lines w)
before-good lines w plain good =
    record { plain = All-append HasNoFeed lines w.lines plain good.plain; read = good.read }

reached-good : (m : Moving) (n : ℕ) (line : List ℕ) (next : Moving → Written)
    → ArePlain (kept_lines m) → ((q : Moving) → ArePlain (kept_lines q) → IsGood (next q))
    → IsGood (moving_reached m n line next)
reached-good Unmoved n line next kept on = on Unmoved kept
reached-good (Moved s raw m) n line next kept on = on (Moved s raw m) kept
reached-good (Keeping p all) n line next kept on =
    by (is_prelude line || is_profile n line) (start_fault p.start)
  where
    by : (b : Bool) (o : Option (ℕ × Fault))
        → IsGood (cond b (next (Keeping p all)) (moving_opened p all o next))
    by true o = on (Keeping p all) kept
    by false None =
        before-good all (next (Moved (fresh p.start) [] 0)) kept
        (on (Moved (fresh p.start) [] 0) (All-nil HasNoFeed))
    by false (Some refused) = bad-good (Keeping p _) _ (All-take HasNoFeed _ all kept)

ends-good : (m : Moving) (n : ℕ) (tail : List ℕ) → ArePlain (kept_lines m)
    → IsGood (moving_ends m n tail)
ends-good (Moved s raw m) n [] kept =
    record { plain = All-nil HasNoFeed; read = λ none. (s, m, refl) }
ends-good (Moved s raw m) n (b ∷ tail) kept = bad-good (Moved s raw m) _ kept
ends-good Unmoved n [] kept = bad-good Unmoved _ kept
ends-good Unmoved n (b ∷ tail) kept = bad-good Unmoved _ kept
ends-good (Keeping p all) n [] kept = bad-good (Keeping p all) _ kept
ends-good (Keeping p all) n (b ∷ tail) kept = bad-good (Keeping p all) _ kept

after-good : (m : Moving) (n : ℕ) (o : MovingOutcome) (next : Moving → Written)
    → ArePlain (kept_lines m)
    → ((q : Moving) (lines : List (List ℕ)) → o ≡ moving.Goes q lines → GoesPlainly q lines)
    → ((q : Moving) → ArePlain (kept_lines q) → IsGood (next q))
    → IsGood (moving_after m n o next)
after-good m n (moving.Goes q lines) next kept goes on =
    let plain = goes q lines refl in before-good lines (next q) plain.0 (on q plain.1)
after-good m n (moving.Bad cause) next kept goes on = bad-good m (n, cause) kept

pub from-good : (lines : List (List ℕ)) (m : Moving) (n : ℕ) (tail : List ℕ) → ArePlain lines
    → ArePlain (kept_lines m) → IsGood (moving_from m n lines tail)
from-good [] m n tail plain kept =
    reached-good m n tail (λ q. moving_ends q n tail) kept (λ q all. ends-good q n tail all)
from-good (line ∷ lines) m n tail plain kept =
    reached-good m n line
    (λ q. moving_after q n (moving_outcome q n line) (λ r. moving_from r (n + 1) lines tail)) kept
    (λ q all.
    after-good q n (moving_outcome q n line) (λ r. moving_from r (n + 1) lines tail) all
    (λ r written goes.
    outcome-plain q n line r written all (All-head HasNoFeed line lines plain) goes)
    (λ r some. from-good lines r (n + 1) tail (All-tail HasNoFeed line lines plain) some))
