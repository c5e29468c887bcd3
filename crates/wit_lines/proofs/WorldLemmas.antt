-- What a world's call, its step and a file's number leave, where lines drive it.
use Rattle.std.proofs.Common.{◌≡◌, ℕ, List, Some, Result, Ok, Err}
use Rattle.std.proofs.Common.{sym, ap, subst, inl, inr}
use Rattle.std.specs.Result.{IsErrAnd}
use Rattle.wit_model.specs.declared.faults.Fault.{Fault}
use Rattle.wit_model.specs.declared.locks.FileNo.{FileNo}
use Rattle.wit_model.specs.Rules.Files.{NamesFile, naming_answer}
use Rattle.wit_model.specs.Rules.Refusals.{IsRefusal}
use Rattle.wit_model.specs.Rules.State.{Story}
use Rattle.wit_model.specs.Trace.Output as output
use Rattle.wit_model.specs.World.Scenes.{Scene}
use Rattle.wit_fields.specs.declared.errors.LineError.{LineError}
use Rattle.wit_fields.specs.declared.errors.LineError.TheVariants.{Bad, Memory}
use Rattle.wit_fields.specs.Fields.{RefusesLine}
use Rattle.wit_lines.specs.Driven.{NumbersLine, calls_in_numbered}
use Rattle.wit_lines.specs.LineCalls.{NumbersFile, file_named}
use Rattle.wit_lines.specs.Replays.{FailsFor}

-- a line's file gets no number
not_numbered : (old new : Scene) (c : output.LineCall) (fault : Fault) (e : LineError)
    → NumbersFile old.story (file_named c) (Err fault) new.story → RefusesLine fault e
    → (n : ℕ)
    → FailsFor (output.calls_in old n c) (output.Stepping old n) (output.Stepping new n) e
not_numbered old new c fault Memory names refuses n = tt
not_numbered old new (output.LogsAt t file call) fault (Bad cause) names refuses n = go names.0
  where
    go : IsRefusal (naming_answer old.story file) fault
        → FailsFor (output.calls_in old n (output.LogsAt t file call)) (output.Stepping old n)
        (output.Stepping new n) (Bad cause)
    go (inl e) =
        rw e (refuses.0, λ bad. ap (λ (x : Story). output.summed (output.Reading x n) bad) names.2)
    go (inr none) = absurd (refuses.1 none.0)
not_numbered old new c fault (Bad cause) names refuses n = absurd names

-- its file got one
module _ (old new : Scene) (file : List ℕ) (c : output.LineCall)
    (named : file_named c ≡ Some file) where
  pub line_numbered : (f : FileNo) → NamesFile old.story file (Ok f) new.story
      → new ≡ record old { story = new.story }
      → NumbersLine (output.calls_in old) (output.calls_in new) (output.Stepping old)
      (output.Stepping new) c (Ok f)
  line_numbered f names rest = (
    calls_in_numbered old new c f
        (subst (λ at. NumbersFile old.story at (Ok f) new.story) (sym named) names) rest,
    λ n bad. ap (λ (x : Story). output.summed (output.Reading x n) bad) names.1,
  )

  pub line_refused : (fault : Fault) (r : Result FileNo LineError)
      → NamesFile old.story file (Err fault) new.story → IsErrAnd r (RefusesLine fault)
      → NumbersLine (output.calls_in old) (output.calls_in new) (output.Stepping old)
      (output.Stepping new) c r
  line_refused fault (Ok f) names refuses = elim refuses [ ]
  line_refused fault (Err e) names refuses =
      not_numbered old new c fault e
      (subst (λ at. NumbersFile old.story at (Err fault) new.story) (sym named) names) refuses
