-- What is written of a good trace is split into its lines again, and so is read as these.
use Rattle.std.proofs.Common.{◌≡◌, ℕ, Bool, List}
use Rattle.std.proofs.Common.{[], ◌∷◌, ◌++◌, Option, None, Result, Ok, Err, refl, sym}
use Rattle.std.proofs.Common.{ap, ◌∙◌, subst, append-nil}
use Rattle.std.specs.Prelude.{IfOk}
use Rattle.std.proofs.lemmas.List.Elements.{All-nil, All-head, All-tail}
use Rattle.wit_model.specs.Rules.State.{Story}
use Rattle.wit_model.specs.World.Scenes.{Scene}
use Rattle.wit_model.specs.Trace.Moving.{Moving, Unmoved, Keeping, Moved, Written, MovingOutcome}
use Rattle.wit_model.specs.Trace.Moving.{step_line, answered, answered_at, line_alone, moves, keeps}
use Rattle.wit_model.specs.Trace.Moving.{moving_entered, moving_outcome, lines_before, moving_ends}
use Rattle.wit_model.specs.Trace.Moving.{moving_ends_bad, moving_opened, moving_reached}
use Rattle.wit_model.specs.Trace.Moving.{moving_after, moving_from, with_feeds, moved_text}
use Rattle.wit_model.specs.Trace.Moving.{kept_lines, TellsTheSame}
use Rattle.wit_model.specs.Trace.Moving as moving
use Rattle.wit_model.specs.Trace.Output.{Prelude, Progress, Reading, Stepping, BadLine, LineCall}
use Rattle.wit_model.specs.Trace.Output.{Logs, LogsAt, Asserts, Warns, Steps, NoCall, call_of, calls}
use Rattle.wit_model.specs.Trace.Output.{is_prelude, is_profile, empty_prelude, log_limit, course_from}
use Rattle.wit_model.specs.Trace.Output.{Course, summed}
use Rattle.wit_model.specs.Trace.Output as output
use Rattle.wit_model.proofs.Moved.Preludes.{tells-same}
use Rattle.wit_stream.specs.Text.{text, text_of, HasNoFeed}
use Rattle.wit_stream.specs.declared.summary.Summary.{Summary}
use Rattle.wit_stream.proofs.TextLemmas.{text_of-line}
use Rattle.wit_lines.specs.Replays.{IsWritten, total}
use Rattle.wit_lines.specs.Shown.{IsLastOf, IsShownAtEnd}
use Rattle.wit_lines.specs.declared.view.View.{View}
use Rattle.wit_lines.specs.declared.view.View.TheVariants.{Reports, Graph, Locks, Circle, State}
use Rattle.wit_lines.specs.declared.view.View.TheVariants.{Clean}
use Rattle.wit_migrate.specs.Again.{SaysTheSame, ShowsNoCircle, WritesTheSame}
use Rattle.wit_migrate.specs.Migrates.{Migrates}
use Rattle.wit_stream.specs.Stream.{WritesOutput}
use Rattle.wit_migrate.proofs.AddedLines.{ArePlain}
use Rattle.wit_migrate.proofs.PlainLines.{lines-plain, from-good}

-- lines without a line feed are those of their text
text-again : (lines : List (List ℕ)) → ArePlain lines → text_of (with_feeds lines) ≡ text lines []
text-again [] plain = refl
text-again (line ∷ lines) plain =
    text_of-line line (with_feeds lines) (All-head HasNoFeed line lines plain)
    ∙ ap (λ t. text (line ∷ t.lines) t.tail)
    (text-again lines (All-tail HasNoFeed line lines plain))

-- ---- what is shown of both

-- what is shown at the end, where it is no circle
last-again : (view : View) (s : Story) (x : Scene) (n : ℕ) (bytes : List ℕ) (found : Bool)
    → ShowsNoCircle view → x.story ≡ s → IsLastOf view (Reading s n) None bytes found
    → IsLastOf view (Stepping x n) None bytes found
last-again Reports s x n bytes found other same last = last
last-again Graph s x n bytes found other same last =
    subst (λ y. IsShownAtEnd Graph y (λ i j. Unit {0}) bytes found) (sym same) last
last-again Locks s x n bytes found other same last =
    subst (λ y. IsShownAtEnd Locks y (λ i j. Unit {0}) bytes found) (sym same) last
last-again Circle s x n bytes found other same last = absurd other
last-again State s x n bytes found other same last = absurd other
last-again Clean s x n bytes found other same last =
    subst (λ y. IsShownAtEnd Clean y (λ i j. Unit {0}) bytes found) (sym same) last

written-again : (view : View) (told : List ℕ) (s : Story) (x : Scene) (n : ℕ) (bytes : List ℕ)
    (summary : Summary) → ShowsNoCircle view → x.story ≡ s
    → IsWritten view (record { text = told; reached = Reading s n; bad = None }) bytes summary
    → IsWritten view (record { text = told; reached = Stepping x n; bad = None }) bytes summary
written-again view told s x n bytes summary other same w = record {
  is_shown = record {
    last = w.is_shown.last;
    parts = w.is_shown.parts;
    ends = last-again view s x n w.is_shown.last summary.circle other same w.is_shown.ends;
  };
  summed = w.summed ∙ ap (λ (y : Story). summed (Reading y n) None) (sym same);
}

shown-again : (lines moved : List (List ℕ)) (t : TellsTheSame lines moved) (view : View)
    (bytes : List ℕ) (summary : Summary) → ShowsNoCircle view
    → IsWritten view (course_from output.Unstarted 1 lines []) bytes summary
    → IsWritten view (course_from output.Unstarted 1 moved []) bytes summary
shown-again lines moved t view bytes summary other w =
    subst (λ c. IsWritten view c bytes summary) (sym t.now)
    (written-again view t.text t.story t.scene t.count bytes summary other t.same
    (subst (λ c. IsWritten view c bytes summary) t.was w))

-- ---- the bytes

says-same : (input bytes : List ℕ) (lines : List (List ℕ))
    → text_of bytes ≡ text lines [] → (text_of input).tail ≡ []
    → TellsTheSame (text_of input).lines lines → SaysTheSame input bytes
says-same input bytes lines again ended told =
    let told' =
    subst (λ ls. TellsTheSame (text_of input).lines ls) (sym (ap (λ t. t.lines) again)) told in
    record {
      ended = ended;
      whole = ap (λ t. t.tail) again;
      told = told';
      shown = λ view shown summary other shows.
          subst (λ e. IsWritten view (course_from output.Unstarted 1 (text_of bytes).lines e) shown
          summary) (sym (ap (λ t. t.tail) again))
          (shown-again (text_of input).lines (text_of bytes).lines told' view shown summary other
          (subst (λ e. IsWritten view (course_from output.Unstarted 1 (text_of input).lines e) shown
          summary) ended shows));
    }

pub migrated-same : (input bytes : List ℕ) (summary : Summary) → Migrates input bytes summary
    → summary.bad ≡ None → SaysTheSame input bytes
migrated-same input bytes summary m none =
    let w = moving_from Unmoved 1 (text_of input).lines (text_of input).tail in
    let good : w.bad ≡ None = bad-sum w.reached w.bad m.summed none in
    let is =
    from-good (text_of input).lines Unmoved 1 (text_of input).tail (lines-plain input)
    (All-nil HasNoFeed) in
    let read = is.read good in
    let same =
    tells-same (text_of input).lines (text_of input).tail read.0 read.1 read.2 good in
    let all : bytes ≡ with_feeds w.lines
    = m.written ∙ (ap (λ b. with_feeds w.lines ++ moving.last_text b) good
    ∙ append-nil (with_feeds w.lines)) in
    says-same input bytes w.lines (ap text_of all ∙ text-again w.lines is.plain) same.0 same.1
  where
    bad-sum : (p : Progress) (bad : Option BadLine) → total summary ≡ summed p bad
        → summary.bad ≡ None → bad ≡ None
    bad-sum output.Unstarted bad sums none = sym (ap (λ t. t.bad) sums) ∙ none
    bad-sum (output.Opening p) bad sums none = sym (ap (λ t. t.bad) sums) ∙ none
    bad-sum (output.Reading s n) bad sums none = sym (ap (λ t. t.bad) sums) ∙ none
    bad-sum (output.Stepping s n) bad sums none = sym (ap (λ t. t.bad) sums) ∙ none

pub writes-same : {E : Type 0} (r0 w0 w : Option (List ℕ)) (answer : Result Summary E)
    → IfOk answer (WritesOutput Migrates r0 w0 w)
    → IfOk answer (λ s. s.bad ≡ None → WritesTheSame r0 w0 w)
writes-same r0 w0 w (Err e) h = tt
writes-same r0 w0 w (Ok summary) h =
    λ none. record {
      input = h.input;
      text = h.text;
      is_input = h.is_input;
      written = h.written;
      same = migrated-same h.input h.text summary h.is_output none;
    }
