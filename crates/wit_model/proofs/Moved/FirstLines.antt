-- What is written of a line begins with it, or with a step.
use Rattle.std.proofs.Common.{◌≡◌, ℕ, Bool, true, false, ◌&&◌, ◌||◌, eqb, List, [], ◌∷◌, ◌++◌}
use Rattle.std.proofs.Common.{Option, None, Some, Result, Ok, Err, refl, sym}
use Rattle.wit_model.specs.declared.faults.Fault.{Fault}
use Rattle.wit_model.specs.declared.calls.Call.{Call}
use Rattle.wit_model.specs.declared.lines.Line.TheVariants.{OnLock}
use Rattle.wit_model.specs.declared.lines.LockLine.TheVariants.{Step}
use Rattle.wit_model.specs.declared.raw_steps.RawStep.TheVariants as raw_step
use Rattle.wit_model.specs.Rules.Files.{naming_answer, files_after}
use Rattle.wit_model.specs.Rules.State.{Story}
use Rattle.wit_model.specs.Rules.Step.{answer_of}
use Rattle.wit_model.specs.World.Moving.{LockStep, step_before}
use Rattle.wit_model.specs.World.Scenes.{RawLock}
use Rattle.wit_model.specs.Trace.Moving.{Moving, step_line, answered, answered_at, line_alone}
use Rattle.wit_model.specs.Trace.Moving.{moves}
use Rattle.wit_model.specs.Trace.Moving as moving
use Rattle.wit_model.specs.Trace.Output.{Reading, Stepping, LineCall, Logs, LogsAt, Asserts, Warns}
use Rattle.wit_model.specs.Trace.Output.{Steps, NoCall, is_prelude, is_profile, calls}
use Rattle.wit_model.specs.Trace.Output as output
use Rattle.wit_model.specs.Trace.Spelling.{spelling}
use Rattle.wit_model.proofs.Moved.GoneOn.{was-answered}

-- whether a line, with its number, stands in the prelude
abbrev pub is_opening : ℕ → List ℕ → Bool
is_opening n line = is_prelude line || is_profile n line

pub record Starts (n : ℕ) (lines : List (List ℕ)) : Type 0 where
  pub first : List ℕ
  pub rest : List (List ℕ)
  pub is : lines ≡ first ∷ rest
  pub ends : is_opening n first ≡ false

never : (b : Bool) → (b && false) ≡ false
never true = refl
never false = refl

step-ends : (n t : ℕ) (k : LockStep)
    → is_opening n (spelling (OnLock (Step (record { 0 = t }) k.0 k.1))) ≡ false
step-ends n t (l, raw_step.Take) = never (eqb n 2)
step-ends n t (l, raw_step.TryTake m) = never (eqb n 2)
step-ends n t (l, raw_step.Free) = never (eqb n 2)
step-ends n t (l, raw_step.Up) = never (eqb n 2)
step-ends n t (l, raw_step.Down) = never (eqb n 2)

step-starts : (n t : ℕ) (o : Option LockStep) (bytes : List ℕ) (rest lines : List (List ℕ))
    → is_opening n bytes ≡ false → lines ≡ step_line t o ++ bytes ∷ rest → Starts n lines
step-starts n t None bytes rest lines ends is =
    record { first = bytes; rest = rest; is = is; ends = ends }
step-starts n t (Some k) bytes rest lines ends is =
    record {
      first = spelling (OnLock (Step (record { 0 = t }) k.0 k.1));
      rest = bytes ∷ rest;
      is = is;
      ends = step-ends n t k;
    }

module _ (n : ℕ) (s : Story) (raw : List RawLock) (m : ℕ) (bytes : List ℕ) (q : Moving)
    (lines : List (List ℕ)) (ends : is_opening n bytes ≡ false) where
  answered-starts : (z : Story) (t : ℕ) (call : Call)
      → answered z raw m bytes t call (answer_of z t call) ≡ moving.Goes q lines → Starts n lines
  answered-starts z t call goes =
      let a = was-answered z raw m bytes t call (answer_of z t call) q lines goes in
      step-starts n t (step_before z.history t call) bytes _ lines ends a.written

  answered_at-starts : (t : ℕ) (file : List ℕ) (call : ℕ → Call) (na : Result ℕ Fault)
      → answered_at s raw m bytes t call file na ≡ moving.Goes q lines → Starts n lines
  answered_at-starts t file call (Err fault) goes = (cc)
  answered_at-starts t file call (Ok f) goes =
      answered-starts (record s { files = files_after file s.files }) t (call f) goes

  alone-starts : (o : output.Outcome) → line_alone raw bytes o ≡ moving.Goes q lines
      → Starts n lines
  alone-starts (output.Goes (Reading z k) text) goes =
      record {
        first = bytes;
        rest = [];
        is = (let is : bytes ∷ [] ≡ lines = cc in sym is);
        ends = ends;
      }
  alone-starts (output.Goes output.Unstarted text) goes = (cc)
  alone-starts (output.Goes (output.Opening p) text) goes = (cc)
  alone-starts (output.Goes (Stepping z k) text) goes = (cc)
  alone-starts (output.Bad cause) goes = (cc)

  pub moves-start : (c : LineCall) → moves s raw m bytes c ≡ moving.Goes q lines → Starts n lines
  moves-start (Logs t call) goes = answered-starts s t call goes
  moves-start (LogsAt t file call) goes = answered_at-starts t file call (naming_answer s file) goes
  moves-start (Asserts t l flags) goes = alone-starts (calls s m (Asserts t l flags)) goes
  moves-start (Warns t l flags) goes = alone-starts (calls s m (Warns t l flags)) goes
  moves-start (Steps t l step) goes = (cc)
  moves-start NoCall goes = (cc)
