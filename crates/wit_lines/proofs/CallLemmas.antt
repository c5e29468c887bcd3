-- What a verifier's call, its step and a file's number leave, where lines drive it.
use Rattle.std.proofs.Common.{◌≡◌, ℕ, List, Some, Result, Ok, Err}
use Rattle.std.proofs.Common.{sym, ap, subst, ◌⊎◌, inl, inr}
use Rattle.std.specs.Result.{IsErrAnd}
use Rattle.wit_model.specs.declared.calls.Call.{Call}
use Rattle.wit_model.specs.declared.calls.Reply.{Reply}
use Rattle.wit_model.specs.declared.faults.Fault.{Fault}
use Rattle.wit_model.specs.declared.faults.Fault.TheVariants.{OutOfMemory}
use Rattle.wit_model.specs.declared.locks.FileNo.{FileNo}
use Rattle.wit_model.specs.Rules.Files.{NamesFile, naming_answer}
use Rattle.wit_model.specs.Rules.Refusals.{IsRefusal}
use Rattle.wit_model.specs.Rules.State.{Story}
use Rattle.wit_model.specs.Rules.Step.{AnswersOrFails, IsEntered, answer_of}
use Rattle.wit_model.specs.Trace.Output as output
use Rattle.wit_fields.specs.Fields.{RefusesLine}
use Rattle.wit_fields.specs.declared.errors.LineError.{LineError}
use Rattle.wit_fields.specs.declared.errors.LineError.TheVariants.{Bad, Memory}
use Rattle.wit_lines.specs.Driven.{Answers, NumbersLine, calls_numbered}
use Rattle.wit_lines.specs.LineCalls.{NumbersFile, file_named}
use Rattle.wit_lines.specs.Replays.{FailsFor}

-- a call that was answered
pub call_made : (s new : Story) (t : ℕ) (c : Call) (reply : Reply)
    → AnswersOrFails s t c (Ok reply) new
    → Answers (λ n. output.makes s n t c) (output.Reading s) (output.Reading new) new (Ok reply)
call_made s new t c reply answers n =
    rw answers.0 (ap (λ (x : Story). output.Goes (output.Reading x n) (output.reply_text x reply))
    (sym answers.1))

-- a call that was refused
pub call_refused : (s new : Story) (t : ℕ) (c : Call) (fault : Fault) (r : Result Reply LineError)
    → AnswersOrFails s t c (Err fault) new → IsErrAnd r (RefusesLine fault)
    → Answers (λ n. output.makes s n t c) (output.Reading s) (output.Reading new) new r
call_refused s new t c fault (Ok reply) answers refuses = elim refuses [ ]
call_refused s new t c fault (Err Memory) answers refuses = λ n. tt
call_refused s new t c fault (Err (Bad cause)) answers refuses = λ n. go n answers.0
  where
    go : (n : ℕ) → (answer_of s t c ≡ Err fault)
        ⊎ ((fault ≡ OutOfMemory) × IsEntered (answer_of s t c))
        → FailsFor (output.makes s n t c) (output.Reading s n) (output.Reading new n) (Bad cause)
    go n (inl e) =
        rw e (
          refuses.0,
          λ bad. ap (λ (x : Story). output.summed (output.Reading x n) bad)
              answers.1,
        )
    go n (inr none) = absurd (refuses.1 none.0)

-- ---- a line whose call has the number of a file

-- its file gets no number
pub not_numbered : (old new : Story) (c : output.LineCall) (fault : Fault) (e : LineError)
    → NumbersFile old (file_named c) (Err fault) new → RefusesLine fault e
    → (n : ℕ) → FailsFor (output.calls old n c) (output.Reading old n) (output.Reading new n) e
not_numbered old new c fault Memory names refuses n = tt
not_numbered old new (output.LogsAt t file call) fault (Bad cause) names refuses n = go names.0
  where
    go : IsRefusal (naming_answer old file) fault
        → FailsFor (output.calls old n (output.LogsAt t file call)) (output.Reading old n)
        (output.Reading new n) (Bad cause)
    go (inl e) =
        rw e (refuses.0, λ bad. ap (λ (x : Story). output.summed (output.Reading x n) bad) names.2)
    go (inr none) = absurd (refuses.1 none.0)
not_numbered old new c fault (Bad cause) names refuses n = absurd names

-- its file got one
module _ (old new : Story) (file : List ℕ) (c : output.LineCall)
    (named : file_named c ≡ Some file) where
  pub line_numbered : (f : FileNo) → NamesFile old file (Ok f) new
      → NumbersLine (output.calls old) (output.calls new) (output.Reading old)
      (output.Reading new) c (Ok f)
  line_numbered f names = (
    calls_numbered old new c f (subst (λ at. NumbersFile old at (Ok f) new) (sym named) names),
    λ n bad. ap (λ (x : Story). output.summed (output.Reading x n) bad) names.1,
  )

  pub line_refused : (fault : Fault) (r : Result FileNo LineError)
      → NamesFile old file (Err fault) new → IsErrAnd r (RefusesLine fault)
      → NumbersLine (output.calls old) (output.calls new) (output.Reading old)
      (output.Reading new) c r
  line_refused fault (Ok f) names refuses = elim refuses [ ]
  line_refused fault (Err e) names refuses =
      not_numbered old new c fault e
      (subst (λ at. NumbersFile old at (Err fault) new) (sym named) names) refuses
