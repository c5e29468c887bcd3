-- What lines drive: what should become of a line's call, and how far the reading is then.
use Rattle.std.specs.Prelude.{ℕ, ◌+◌, ◌≡◌, Bool, List, [], length, Option, None, Some, Result}
use Rattle.std.specs.Prelude.{Ok, Err, refl}
use Rattle.std.proofs.Common.{sym, ap, ◌∙◌}
use Rattle.wit_model.specs.declared.calls.Reply.{Reply}
use Rattle.wit_model.specs.declared.assertions.AssertAnswer.{AssertAnswer}
use Rattle.wit_model.specs.declared.faults.Fault.{Fault}
use Rattle.wit_model.specs.declared.lines.Cause.TheVariants as why
use Rattle.wit_model.specs.declared.lines.Line.{Line}
use Rattle.wit_model.specs.declared.locks.FileNo.{FileNo}
use Rattle.wit_model.specs.declared.locks.Instance.{Instance}
use Rattle.wit_model.specs.Rules.Assertions.{step_assert}
use Rattle.wit_model.specs.Rules.Warnings.{warned, step_warn}
use Rattle.wit_model.specs.Rules.Circles.{Waits}
use Rattle.wit_model.specs.Rules.History.{reports_of}
use Rattle.wit_model.specs.Rules.State.{Story, state_of}
use Rattle.wit_model.specs.Trace.LineCalls as model
use Rattle.wit_model.specs.Trace.Output as output
use Rattle.wit_model.specs.World.Scenes.{Scene}
use Rattle.wit_model.specs.World.Shown.{WaitsIn}
use Rattle.wit_fields.specs.declared.errors.LineError.{LineError}
use Rattle.wit_lines.specs.LineCalls.{HasNumber, Keeps, NumbersFile, at_number, file_named}
use Rattle.wit_lines.specs.Replays.{FailsFor, KeepsTotal}
use Rattle.wit_lines.specs.Shown.{IsLastOf, IsShownAtEnd}
use Rattle.wit_lines.specs.declared.view.View.{View}

-- the file that a line names has this number, with which its call becomes what it should become; or
-- the file gets none
abbrev pub NumbersLine : (old new : ℕ → model.LineCall → output.Outcome)
    (before after : ℕ → output.Progress) → model.LineCall → Result FileNo LineError → Type 0
NumbersLine old new before after c (Ok f) =
    ((m : ℕ) → old m c ≡ new m (at_number c f.0)) × ((m : ℕ) → KeepsTotal (before m) (after m))
NumbersLine old new before after c (Err e) = (m : ℕ) → FailsFor (old m c) (before m) (after m) e

-- the call got its reply, as it should; or it is refused
abbrev pub Answers : (due : ℕ → output.Outcome) (before after : ℕ → output.Progress) → Story
    → Result Reply LineError → Type 0
Answers due before after s (Ok reply) =
    (m : ℕ) → due m ≡ output.Goes (after m) (output.reply_text s reply)
Answers due before after s (Err e) = (m : ℕ) → FailsFor (due m) (before m) (after m) e

-- the step is done, as it should, and nothing is told; or it is refused
abbrev pub Does : {X : Type 0} → (due : ℕ → output.Outcome) (before after : ℕ → output.Progress)
    → Result X LineError → Type 0
Does due before after (Ok done) = (m : ℕ) → due m ≡ output.Goes (after m) []
Does due before after (Err e) = (m : ℕ) → FailsFor (due m) (before m) (after m) e

-- whether a line's call isn't logged, but told of
abbrev pub IsRemark : model.LineCall → Type 0
IsRemark (model.Asserts t lock asserted) = Unit {0}
IsRemark (model.Warns t lock flags) = Unit {0}
IsRemark _ = ⊥

-- what becomes of such a line, where the reading is so far once so many were told
abbrev pub read_at : (ℕ → output.Progress) → output.Outcome → output.Outcome
read_at reading (output.Goes (output.Reading s m) text) = output.Goes (reading m) text
read_at reading (output.Goes p text) = output.Goes p text
read_at reading (output.Bad cause) = output.Bad cause

-- how far the reading of what is driven is, in the words of the definitions
pub record Drives (s : Story) (reading : ℕ → output.Progress)
    (due : ℕ → model.LineCall → output.Outcome) (waits : ℕ → ℕ → Type 0) : Type 0 where
  -- a line makes its call
  pub enters : (m n : ℕ) (line : Line)
      → output.entered (reading m) n line ≡ due m (model.call_of line)
  -- the prelude is over
  pub stays : (m n : ℕ) (line : List ℕ) → output.reached (reading m) n line ≡ Ok (reading m)
  pub ends : (m n : ℕ) → output.ends (reading m) n []
      ≡ record { text = []; reached = reading m; bad = None }
  -- what is summed up is the verifier's
  pub sums : (m : ℕ) (bad : Option output.BadLine) → output.summed (reading m) bad
      ≡ record { calls = length s.history; reports = reports_of s.history + m; bad = bad }
  -- an assertion and a warning are the verifier's
  pub remarks : (m : ℕ) (c : model.LineCall) → IsRemark c
      → due m c ≡ read_at reading (output.calls s m c)
  -- a line whose file has a number makes its call with that
  pub numbered : (m : ℕ) (c : model.LineCall) (f : FileNo)
      → HasNumber (Keeps s) (file_named c) f → due m c ≡ due m (at_number c f.0)
  -- a line that makes no call is bad
  pub none : (m : ℕ) → due m model.NoCall ≡ output.Bad why.Syntax
  -- what is shown at the end
  pub last : (view : View) (m : ℕ) (text : List ℕ) (found : Bool)
      → IsShownAtEnd view s waits text found → IsLastOf view (reading m) None text found

-- ---- the file of a line gets its number

-- where lines drive a verifier
pub calls_numbered : (old mid : Story) (c : model.LineCall) (f : FileNo)
    → NumbersFile old (file_named c) (Ok f) mid → (n : ℕ)
    → output.calls old n c ≡ output.calls mid n (at_number c f.0)
calls_numbered old mid (model.LogsAt t file call) f names n =
    ap (output.at_file old (λ s f. output.makes s n t (call f)) file) names.0
    ∙ ap (λ (s : Story). output.makes s n t (call f.0)) (sym names.1)
calls_numbered old mid c f names n = ap (λ (s : Story). output.calls s n c) (sym names)

-- and where they drive a world
pub calls_in_numbered : (old mid : Scene) (c : model.LineCall) (f : FileNo)
    → NumbersFile old.story (file_named c) (Ok f) mid.story → mid ≡ record old { story = mid.story }
    → (n : ℕ) → output.calls_in old n c ≡ output.calls_in mid n (at_number c f.0)
calls_in_numbered old mid (model.LogsAt t file call) f names rest n =
    ap (output.at_file_in old (λ s f. output.makes_in s n t (call f)) file) names.0
    ∙ ap (λ (s : Scene). output.makes_in s n t (call f.0))
    (sym (rest ∙ ap (λ (x : Story). record old { story = x }) names.1))
calls_in_numbered old mid c f names rest n =
    ap (λ (s : Scene). output.calls_in s n c)
    (sym (rest ∙ ap (λ (x : Story). record old { story = x }) names))

-- a file that has its number is named, and nothing changes
pub named_again : (s : Story) (file : Option (List ℕ)) (f : FileNo)
    → HasNumber (Keeps s) file f → NumbersFile s file (Ok f) s
named_again s (Some file) f has = has
named_again s None f has = refl

-- ---- a verifier, and a world

asserts_at : (s : Story) (m l : ℕ) (r : Result AssertAnswer Fault)
    → output.asserts s m l r ≡ read_at (output.Reading s) (output.asserts s m l r)
asserts_at s m l (Ok answer) = refl
asserts_at s m l (Err fault) = refl

warns_at : (s : Story) (m : ℕ) (counted : List Instance) (r : Result ℕ Fault)
    → output.warns s m counted r ≡ read_at (output.Reading s) (output.warns s m counted r)
warns_at s m counted (Ok count) = refl
warns_at s m counted (Err fault) = refl

remark_at : (s : Story) (m : ℕ) (c : model.LineCall) → IsRemark c
    → output.calls s m c ≡ read_at (output.Reading s) (output.calls s m c)
remark_at s m (model.Asserts t lock asserted) is =
    asserts_at s m lock.0 (step_assert (state_of s) t lock.0 asserted)
remark_at s m (model.Warns t lock flags) is =
    warns_at s m (warned (state_of s) t lock flags) (step_warn (state_of s) t lock flags)
remark_at s m (model.Logs t call) is = elim is [ ]
remark_at s m (model.LogsAt t file call) is = elim is [ ]
remark_at s m (model.Steps t lock step) is = elim is [ ]
remark_at s m model.NoCall is = elim is [ ]

pub drives_verifier : (s : Story)
    → Drives s (output.Reading s) (output.calls s) (Waits (state_of s))
drives_verifier s = record {
  enters = λ m n line. refl;
  stays = λ m n line. refl;
  ends = λ m n. refl;
  sums = λ m bad. refl;
  remarks = remark_at s;
  numbered = λ m c f has. calls_numbered s s c f (named_again s (file_named c) f has) m;
  none = λ m. refl;
  last = λ view m text found is. is;
}

scene_at : (s : Scene) (due : output.Outcome)
    → output.in_scene s due ≡ read_at (output.Stepping s) due
scene_at s (output.Goes (output.Reading story m) text) = refl
scene_at s (output.Goes (output.Stepping scene m) text) = refl
scene_at s (output.Goes (output.Opening p) text) = refl
scene_at s (output.Goes output.Unstarted text) = refl
scene_at s (output.Bad cause) = refl

remark_in : (s : Scene) (m : ℕ) (c : model.LineCall) → IsRemark c
    → output.calls_in s m c ≡ read_at (output.Stepping s) (output.calls s.story m c)
remark_in s m (model.Asserts t lock asserted) is =
    scene_at s (output.calls s.story m (model.Asserts t lock asserted))
remark_in s m (model.Warns t lock flags) is =
    scene_at s (output.calls s.story m (model.Warns t lock flags))
remark_in s m (model.Logs t call) is = elim is [ ]
remark_in s m (model.LogsAt t file call) is = elim is [ ]
remark_in s m (model.Steps t lock step) is = elim is [ ]
remark_in s m model.NoCall is = elim is [ ]

pub drives_world : (s : Scene)
    → Drives s.story (output.Stepping s) (output.calls_in s) (WaitsIn s)
drives_world s = record {
  enters = λ m n line. refl;
  stays = λ m n line. refl;
  ends = λ m n. refl;
  sums = λ m bad. refl;
  remarks = remark_in s;
  numbered = λ m c f has.
      calls_in_numbered s s c f (named_again s.story (file_named c) f has) refl m;
  none = λ m. refl;
  last = λ view m text found is. is;
}
