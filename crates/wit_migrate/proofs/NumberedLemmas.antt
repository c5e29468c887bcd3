-- What a line comes to that is bad, or whose file gets a number.
use Rattle.std.proofs.Common.{◌≡◌, ℕ, List, Option, None, Some, Result, Ok, Err, refl, sym, ap, ◌∙◌}
use Rattle.std.proofs.Common.{subst, arith}
use Rattle.std.specs.Global.{Vec}
use Rattle.std.specs.Result.{IsErrAnd}
use Rattle.wit_model.specs.declared.calls.Call.{Call}
use Rattle.wit_model.specs.declared.calls.Reply.{Reply}
use Rattle.wit_model.specs.declared.faults.Fault.{Fault}
use Rattle.wit_model.specs.declared.lines.Cause.{Cause}
use Rattle.wit_model.specs.declared.locks.FileNo.{FileNo}
use Rattle.wit_model.specs.Rules.Files.{naming_answer, files_after}
use Rattle.wit_model.specs.Rules.History.{reports_of}
use Rattle.wit_model.specs.Rules.State.{Story}
use Rattle.wit_model.specs.Rules.Step.{AnswersOrFails, answer_of}
use Rattle.wit_model.specs.Trace.Moving.{Moving, Moved, MovingOutcome, kept_lines, answered}
use Rattle.wit_model.specs.Trace.Moving.{answered_at, line_alone, moves}
use Rattle.wit_model.specs.Trace.Moving as moving
use Rattle.wit_model.specs.Trace.Output.{LineCall, Logs, LogsAt, Reading, called, calls, makes}
use Rattle.wit_model.specs.Trace.Output as output
use Rattle.wit_model.specs.World.Scenes.{RawLock}
use Rattle.wit_fields.specs.Fields.{RefusesLine}
use Rattle.wit_fields.specs.declared.errors.LineError.{LineError}
use Rattle.wit_fields.specs.declared.errors.LineError.TheVariants.{Bad, Memory}
use Rattle.wit_lines.specs.LineCalls.{NumbersFile, at_number, file_named}
use Rattle.wit_migrate.specs.Migrates.{AddsOneAtMost, MovesAsDue}
use Rattle.wit_lines.specs.Replays.{FailsFor, IsBadFor}
use Rattle.wit_lines.proofs.CallLemmas.{call_refused, not_numbered}

-- ---- a line that is bad

pub bad-alone : (raw : List RawLock) (bytes : List ℕ) (p q : output.Progress) (cause : Cause)
    (o : output.Outcome)
    → IsBadFor o p q cause → line_alone raw bytes o ≡ moving.Bad cause
bad-alone raw bytes p q cause (output.Goes r text) bad = elim bad [ ]
bad-alone raw bytes p q cause (output.Bad why) bad = ap moving.Bad (sym bad.0)

bad-answered : (s : Story) (raw : List RawLock) (m : ℕ) (bytes : List ℕ) (p q : output.Progress)
    (cause : Cause)
    (t : ℕ) (call : Call) (a : Result Reply Fault)
    → IsBadFor (called s m t call a) p q cause → answered s raw m bytes t call a ≡ moving.Bad cause
bad-answered s raw m bytes p q cause t call (Ok r) bad = elim bad [ ]
bad-answered s raw m bytes p q cause t call (Err fault) bad = ap moving.Bad (sym bad.0)

bad-at : (s : Story) (raw : List RawLock) (m : ℕ) (bytes : List ℕ) (p q : output.Progress)
    (cause : Cause)
    (t : ℕ) (file : List ℕ) (call : ℕ → Call) (a : Result ℕ Fault)
    → IsBadFor (output.at_file s (λ s' f. makes s' m t (call f)) file a) p q cause
    → answered_at s raw m bytes t call file a ≡ moving.Bad cause
bad-at s raw m bytes p q cause t file call (Err fault) bad = ap moving.Bad (sym bad.0)
bad-at s raw m bytes p q cause t file call (Ok f) bad =
    let named : Story = record s { files = files_after file s.files } in
    bad-answered named raw m bytes p q cause t (call f) (answer_of named t (call f)) bad

bad-moves : (s : Story) (raw : List RawLock) (m : ℕ) (bytes : List ℕ) (p q : output.Progress)
    (cause : Cause) (c : LineCall)
    → IsBadFor (calls s m c) p q cause → moves s raw m bytes c ≡ moving.Bad cause
bad-moves s raw m bytes p q cause (Logs t call) bad =
    bad-answered s raw m bytes p q cause t call (answer_of s t call) bad
bad-moves s raw m bytes p q cause (LogsAt t file call) bad =
    bad-at s raw m bytes p q cause t file call (naming_answer s file) bad
bad-moves s raw m bytes p q cause c bad = bad-alone raw bytes p q cause (calls s m c) bad

-- a story that stays adds nothing
story-adds : (s new : Story) (raw : List RawLock) (m : ℕ) → new ≡ s
    → AddsOneAtMost (Moved s raw m) (Moved new raw m)
story-adds s new raw m is =
    subst (λ (x : Story). AddsOneAtMost (Moved s raw m) (Moved x raw m)) (sym is)
    (record { counts = omega arith; weighs = omega arith })

-- what is passed on of a failure
pub failed : (due : MovingOutcome) (old new : Moving) (e : LineError) (r : Result (Vec ℕ) LineError)
    → kept_lines new ≡ kept_lines old → AddsOneAtMost old new
    → ((cause : Cause) → e ≡ Bad cause → due ≡ moving.Bad cause)
    → IsErrAnd r (λ x. x ≡ e) → MovesAsDue due old new r
failed due old new e (Ok text) same adds bad is = elim is [ ]
failed due old new e (Err Memory) same adds bad is = tt
failed due old new e (Err (Bad cause)) same adds bad is = (bad cause (sym is), same, adds)

bad-fails : (s new : Story) (raw : List RawLock) (m : ℕ) (bytes : List ℕ) (c : LineCall)
    (p q : output.Progress) (e : LineError)
    → FailsFor (calls s m c) p q e → (cause : Cause) → e ≡ Bad cause
    → moves s raw m bytes c ≡ moving.Bad cause
bad-fails s new raw m bytes c p q e fails cause is =
    bad-moves s raw m bytes p q cause c (subst (FailsFor (calls s m c) p q) is fails)

-- a call that was refused
pub log-refused : (s new : Story) (raw : List RawLock) (m : ℕ) (bytes : List ℕ) (t : ℕ)
    (call : Call) (fault : Fault) (r : Result (Vec ℕ) LineError)
    → AnswersOrFails s t call (Err fault) new → IsErrAnd r (RefusesLine fault)
    → MovesAsDue (moves s raw m bytes (Logs t call)) (Moved s raw m) (Moved new raw m) r
log-refused s new raw m bytes t call fault (Ok text) answers refuses = elim refuses [ ]
log-refused s new raw m bytes t call fault (Err e) answers refuses =
    failed (moves s raw m bytes (Logs t call)) (Moved s raw m) (Moved new raw m) e (Err e) refl
    (story-adds s new raw m answers.1)
    (bad-fails s new raw m bytes (Logs t call) (Reading s m) (Reading new m) e
    (call_refused s new t call fault (Err e) answers refuses m)) refl

-- ---- the file of a line

not-named : (s new : Story) (file : Option (List ℕ)) (fault : Fault)
    → NumbersFile s file (Err fault) new → new ≡ s
not-named s new (Some file) fault names = names.2
not-named s new None fault names = absurd names

-- it gets no number
pub not-numbered : (s new : Story) (raw : List RawLock) (m : ℕ) (bytes : List ℕ) (c : LineCall)
    (fault : Fault) (r : Result (Vec ℕ) LineError)
    → NumbersFile s (file_named c) (Err fault) new → IsErrAnd r (RefusesLine fault)
    → MovesAsDue (moves s raw m bytes c) (Moved s raw m) (Moved new raw m) r
not-numbered s new raw m bytes c fault (Ok text) names refuses = elim refuses [ ]
not-numbered s new raw m bytes c fault (Err e) names refuses =
    failed (moves s raw m bytes c) (Moved s raw m) (Moved new raw m) e (Err e) refl
    (story-adds s new raw m (not-named s new (file_named c) fault names))
    (bad-fails s new raw m bytes c (Reading s m) (Reading new m) e
    (not_numbered s new c fault e names refuses m)) refl

-- it gets one
pub moves-numbered : (s mid : Story) (raw : List RawLock) (m : ℕ) (bytes : List ℕ) (c : LineCall)
    (f : FileNo) → NumbersFile s (file_named c) (Ok f) mid
    → moves s raw m bytes c ≡ moves mid raw m bytes (at_number c f.0)
moves-numbered s mid raw m bytes (LogsAt t file call) f names =
    ap (answered_at s raw m bytes t call file) names.0
    ∙ ap (λ (x : Story). answered x raw m bytes t (call f.0) (answer_of x t (call f.0)))
    (sym names.1)
moves-numbered s mid raw m bytes c f names = ap (λ (x : Story). moves x raw m bytes c) (sym names)

-- to name a file enters nothing into the log
named-log : (s mid : Story) (file : Option (List ℕ)) (f : FileNo) → NumbersFile s file (Ok f) mid
    → mid.history ≡ s.history
named-log s mid (Some file) f names = ap (λ (x : Story). x.history) names.1
named-log s mid None f names = ap (λ (x : Story). x.history) names

-- nothing was kept before or behind it, and to name the file added nothing
moves-from : (due : MovingOutcome) (s mid : Story) (raw : List RawLock) (m : ℕ) (new : Moving)
    (r : Result (Vec ℕ) LineError) → mid.history ≡ s.history
    → MovesAsDue due (Moved mid raw m) new r → MovesAsDue due (Moved s raw m) new r
moves-from due s mid raw m new (Ok text) log does = does
moves-from due s mid raw m new (Err Memory) log does = tt
moves-from due s mid raw m new (Err (Bad cause)) log does = (
  does.0,
  does.1,
  record {
    counts = omega (arith, ap reports_of log, does.2.counts);
    weighs = does.2.weighs;
  },
)

-- then what becomes of the call becomes of the line
pub line-numbered : (s mid : Story) (raw : List RawLock) (m : ℕ) (bytes : List ℕ)
    (c made : LineCall) (f : FileNo) (new : Moving) (r : Result (Vec ℕ) LineError)
    → NumbersFile s (file_named c) (Ok f) mid → made ≡ at_number c f.0
    → MovesAsDue (moves mid raw m bytes made) (Moved mid raw m) new r
    → MovesAsDue (moves s raw m bytes c) (Moved s raw m) new r
line-numbered s mid raw m bytes c made f new r names is does =
    subst (λ due. MovesAsDue due (Moved s raw m) new r)
    (ap (moves mid raw m bytes) is ∙ sym (moves-numbered s mid raw m bytes c f names))
    (moves-from (moves mid raw m bytes made) s mid raw m new r
    (named-log s mid (file_named c) f names) does)

-- ---- a call that was made
