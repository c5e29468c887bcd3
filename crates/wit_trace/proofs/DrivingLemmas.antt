-- What becomes of a line, whatever lines drive.
use Rattle.std.proofs.Common.{◌≡◌, ℕ, ◌+◌, ◌≤◌, List, [], Some, length, Result, Ok, Err}
use Rattle.std.proofs.Common.{IfOk, OnErr, refl, sym, ap, subst}
use Rattle.std.specs.Global.{Vec}
use Rattle.std.specs.Result.{IsErrAnd}
use Rattle.std.proofs.lemmas.Bool.{le-ltb}
use Rattle.wit_model.specs.declared.lines.Line.{Line}
use Rattle.wit_model.specs.Rules.State.{Story}
use Rattle.wit_model.specs.Trace.LineCalls as model
use Rattle.wit_model.specs.Trace.Output as output
use Rattle.wit_model.specs.Trace.Reading.{line_of}
use Rattle.wit_fields.specs.declared.errors.LineError.{LineError}
use Rattle.wit_fields.specs.declared.errors.LineError.TheVariants.{Bad, Memory}
use Rattle.wit_stream.specs.declared.machine.Step.{Step}
use Rattle.wit_stream.specs.declared.machine.Step.TheVariants as step
use Rattle.wit_stream.specs.declared.summary.Summary.{Summary}
use Rattle.wit_lines.specs.Shown.{shown_of}
use Rattle.wit_lines.specs.declared.view.View.{View}
use Rattle.wit_lines.specs.Driven.{Drives, IsRemark, read_at}
use Rattle.wit_lines.specs.Replays.{EndsFor, FailsFor, GoesAsDue, IsRead, IsWritten}
use Rattle.wit_lines.specs.Replays.{Remarks, allowed_from}
use Rattle.wit_trace.specs.Replaying.{allowed, progress}
use Rattle.wit_stream.specs.Machine.{Follows}
use Rattle.wit_trace.specs.declared.replaying.Replaying.{Replaying}
use Rattle.wit_lines.proofs.ReportLemmas.{ended_one, told_one}
use Rattle.wit_lines.proofs.WrittenLemmas.{if_ok, line_ends, line_told}
use Rattle.wit_grammar.specs.declared.parse.TheConstants.{LONGEST}

-- an error that is passed on
pub passed : (due : output.Outcome) (old new : output.Progress) (e : LineError)
    (r : Result (Vec ℕ) LineError) → FailsFor due old new e → IsErrAnd r (λ x. x ≡ e)
    → GoesAsDue due old new r
passed due old new e (Ok text) fails is = elim is [ ]
passed due old new e (Err x) fails is = subst (FailsFor due old new) (sym is) fails

-- what becomes of a line that is read, where what it shows is written
pub read_told : (view : View) (p q : output.Progress) (n : ℕ) (bytes : List ℕ)
    (r : Result (Vec ℕ) LineError) (told : Vec ℕ) (text : List ℕ)
    → output.reached p n bytes ≡ Ok p → GoesAsDue (output.outcome p n bytes) p q r → r ≡ Ok told
    → text ≡ shown_of view told.items → IsRead view p n bytes q text step.Goes
read_told view p q n bytes r told text stays passes is shows = (
  line_told view p p q n bytes r told text stays passes is shows,
  told_one p q n bytes r passes told is,
)

-- and where it ends the reading
pub read_ends : {E : Type 0} (view : View) (p q : output.Progress) (n : ℕ) (bytes : List ℕ)
    (r : Result (Vec ℕ) LineError) (e : LineError) (text : List ℕ) (answer : Result Step E)
    → output.reached p n bytes ≡ Ok p → GoesAsDue (output.outcome p n bytes) p q r → r ≡ Err e
    → IfOk answer (EndsFor view q n e text) → IfOk answer (IsRead view p n bytes q text)
read_ends view p q n bytes r e text answer stays passes is ends =
    if_ok (EndsFor view q n e text) (IsRead view p n bytes q text) answer
    (λ s ended. (
      line_ends view p p q n bytes r e text s stays passes is ended,
      ended_one p q n bytes r passes view e text s is ended,
    )) ends

module _ (s : Story) (reading : ℕ → output.Progress) (due : ℕ → model.LineCall → output.Outcome)
    (waits : ℕ → ℕ → Type 0) (drives : Drives s reading due waits) where
  -- a line on a lock is read as what it is
  pub call_read : (m n : ℕ) (bytes : List ℕ) (line : Line) (q : output.Progress)
      (r : Result (Vec ℕ) LineError) → length bytes ≤ LONGEST → line_of bytes ≡ Some line
      → GoesAsDue (due m (model.call_of line)) (reading m) q r
      → GoesAsDue (output.outcome (reading m) n bytes) (reading m) q r
  call_read m n bytes line q r short reads passes =
      rw (le-ltb LONGEST (length bytes) short, reads)
      (subst (λ w. GoesAsDue w (reading m) q r) (sym (drives.enters m n line)) passes)

  remark_read : (w : output.Outcome) (told : ℕ) (text : Vec ℕ) → w ≡ output.remarks s told text.items
      → read_at reading w ≡ output.Goes (reading (told + output.said text.items)) text.items
  remark_read w told text is = ap (read_at reading) is

  remark_fails : (w : output.Outcome) (told : ℕ) (e : LineError)
      → FailsFor w (output.Reading s told) (output.Reading s told) e
      → FailsFor (read_at reading w) (reading told) (reading told) e
  remark_fails w told Memory fails = tt
  remark_fails (output.Goes p text) told (Bad cause) fails = elim fails [ ]
  remark_fails (output.Bad why) told (Bad cause) fails = (fails.0, λ bad. refl)

  -- a failed assertion or a warning is counted where it says something
  pub remarked : (c : model.LineCall) (told after : ℕ) (text r : Result (Vec ℕ) LineError)
      → IsRemark c → Remarks s (λ m. output.calls s m c) text → r ≡ text
      → IfOk text (λ t. after ≡ told + output.said t.items) → OnErr text (after ≡ told)
      → GoesAsDue (due told c) (reading told) (reading after) r
  remarked c told after (Ok t) r is_remark remarks is counts keeps =
      rw (
        is,
        drives.remarks told c is_remark,
        remark_read (output.calls s told c) told t (remarks told),
        counts,
      ) (refl, refl)
  remarked c told after (Err e) r is_remark remarks is counts keeps =
      rw (is, keeps, drives.remarks told c is_remark)
      (remark_fails (output.calls s told c) told e (remarks told))

-- what is written after the whole trace
pub ended_reached : {E : Type 0} (view : View) (p q : output.Progress) (n : ℕ)
    (answer : Result (Vec ℕ × Summary) E) → output.reached p n [] ≡ Ok q
    → IfOk answer (λ a. IsWritten view (output.ends q n []) a.0.items a.1)
    → IfOk answer (λ a. IsWritten view (output.course_from p n [] []) a.0.items a.1)
ended_reached view p q n answer reaches written = rw reaches written

-- what a reading shows, its machine may write
pub shown_step : {E : Type 0} (view : View) (old new : Replaying) (p : output.Progress) (n : ℕ)
    (bytes text : List ℕ) (answer : Result Step E) → progress old ≡ p
    → IfOk answer (IsRead view p n bytes (progress new) text)
    → IfOk answer (Follows (allowed view) old new n bytes text)
shown_step view old new p n bytes text (Err e) is read = tt
shown_step view old new p n bytes text (Ok step.Goes) is read =
    subst (λ (x : output.Progress). Follows (allowed_from view) x (progress new) n bytes text
    step.Goes) (sym is) read.0
shown_step view old new p n bytes text (Ok (step.Ends found)) is read =
    subst (λ (x : output.Progress). Follows (allowed_from view) x (progress new) n bytes text
    (step.Ends found)) (sym is) read.0
