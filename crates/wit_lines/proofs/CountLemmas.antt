-- A call tells of one report at most.
use Rattle.std.proofs.Common.{◌≡◌, ℕ, ◌+◌, ◌≤◌, Bool, true, false, ◌||◌, cond, not, List, [], ◌∷◌}
use Rattle.std.proofs.Common.{Option, None, Some, Result, Ok, Err, refl, sym, ap, ◌∙◌, arith}
use Rattle.std.proofs.lemmas.List.Sums.{sum_by-cons}
use Rattle.wit_model.specs.declared.calls.Call.{Call}
use Rattle.wit_model.specs.declared.calls.Reply.{Reply}
use Rattle.wit_model.specs.declared.calls.Entry.{Entry}
use Rattle.wit_model.specs.declared.faults.Fault.{Fault}
use Rattle.wit_model.specs.declared.faults.Fault.TheVariants.{UnknownSeat, UnknownLock, RawNotFree}
use Rattle.wit_model.specs.declared.faults.Fault.TheVariants.{StepOrder}
use Rattle.wit_model.specs.declared.lines.Cause.{Cause}
use Rattle.wit_model.specs.declared.assertions.AssertAnswer.{AssertAnswer}
use Rattle.wit_model.specs.declared.locks.Instance.{Instance}
use Rattle.wit_model.specs.Rules.Assertions.{step_assert}
use Rattle.wit_model.specs.Rules.Files.{files_after, naming_answer}
use Rattle.wit_model.specs.Rules.Start.{start_fault}
use Rattle.wit_model.specs.Rules.Warnings.{warned, step_warn}
use Rattle.wit_model.specs.Trace.Views.{assert_text, warn_text}
use Rattle.wit_model.specs.Rules.History.{reports_of, is_report}
use Rattle.wit_model.specs.Rules.State.{Start, Story, state_of, is_seat, typed_locks}
use Rattle.wit_model.specs.Rules.Step.{answer_of, grown, logged, is_logged}
use Rattle.wit_model.specs.Trace.Output as output
use Rattle.wit_model.specs.World.Deeds.{Deed, thread_of}
use Rattle.wit_model.specs.World.Scenes.{Scene, answer_in, deed_of, is_free, is_known, may_come}
use Rattle.wit_model.specs.World.Scenes.{stage_at, step_raw, stepped}
use Rattle.wit_model.specs.declared.lines.Version.{Version}
use Rattle.wit_model.specs.declared.lines.Version.TheVariants.{One, Two}
use Rattle.wit_model.specs.declared.raw_steps.RawStep.{RawStep}
use Rattle.wit_lines.specs.Replays.{KeepsTotal, StandsAsDue, reports_told}

ok_is : (p q : output.Progress) → ◌≡◌ {A = Result output.Progress output.BadLine} (Ok p) (Ok q)
    → p ≡ q
ok_is p q e = cc

-- where a sum keeps, the reports do
pub keeps_reports : (p q : output.Progress) → KeepsTotal p q → reports_told q ≡ reports_told p
keeps_reports p q keeps = ap (λ (t : output.Total). t.reports) (keeps None)

-- a verifier that was told nothing yet told no report
begun_none : (version : Version) (start : Start) → reports_told (output.begun version start) ≡ 0
begun_none One start = refl
begun_none Two start = refl

-- where the prelude ends, none was told
reached_same : (p : output.Progress) (n : ℕ) (line : List ℕ) (q : output.Progress)
    → output.reached p n line ≡ Ok q → reports_told q ≡ reports_told p
reached_same output.Unstarted n line q is = ap reports_told (sym (ok_is _ q is))
reached_same (output.Opening o) n line q is =
    go (output.is_prelude line || output.is_profile n line) (start_fault o.start) is
  where
    go : (on : Bool) (fault : Option (ℕ × Fault))
        → cond on (Ok (output.Opening o)) (output.opened o fault) ≡ Ok q → reports_told q ≡ 0
    go true fault e = ap reports_told (sym (ok_is _ q e))
    go false None e = ap reports_told (sym (ok_is _ q e)) ∙ begun_none o.version o.start
    go false (Some refused) e = absurd cc
reached_same (output.Reading s m) n line q is = ap reports_told (sym (ok_is _ q is))
reached_same (output.Stepping s m) n line q is = ap reports_told (sym (ok_is _ q is))

pub reaches_same : (p q : output.Progress) (n : ℕ) (line : List ℕ) (refused : Option (ℕ × Cause))
    → StandsAsDue (output.reached p n line) p q refused → reports_told q ≡ reports_told p
reaches_same p q n line None reaches = reached_same p n line q reaches
reaches_same p q n line (Some bad) reaches = keeps_reports p q reaches.1

pub grown-le : (s : Story) (t : ℕ) (c : Call) (reply : Reply)
    → reports_of (grown s t c reply).history ≤ reports_of s.history + 1
grown-le s t c reply = go (is_logged reply)
  where
    one : (b : Bool) → cond b 1 0 ≤ 1
    one true = omega arith
    one false = omega arith

    more : reports_of (logged s t c reply).history ≤ reports_of s.history + 1
    more =
        let e : reports_of (logged s t c reply).history
        ≡ cond (is_report reply) 1 0 + reports_of s.history =
        sum_by-cons (λ (e : Entry). cond (is_report e.reply) 1 0)
        (record { seat = record { 0 = t }; call = c; reply = reply }) s.history in
        omega (arith, e, one (is_report reply))

    go : (b : Bool) → reports_of (cond b (logged s t c reply) s).history ≤ reports_of s.history + 1
    go true = more
    go false = omega arith

-- a line's outcome counts one at most
abbrev pub CountsOne : ℕ → output.Outcome → Type 0
CountsOne n (output.Goes q text) = reports_told q ≤ n + 1
CountsOne n (output.Bad why) = Unit {0}

makes_one : (s : Story) (n t : ℕ) (c : Call)
    → CountsOne (reports_of s.history + n) (output.makes s n t c)
makes_one s n t c = go (answer_of s t c)
  where
    go : (r : Result Reply Fault) → CountsOne (reports_of s.history + n) (output.called s n t c r)
    go (Ok reply) = omega (arith, grown-le s t c reply)
    go (Err fault) = tt

file_one : (s : Story) (n t : ℕ) (make : ℕ → Call) (file : List ℕ) (r : Result ℕ Fault)
    → CountsOne (reports_of s.history + n)
    (output.at_file s (λ s' f. output.makes s' n t (make f)) file r)
file_one s n t make file (Ok f) =
    makes_one (record s { files = files_after file s.files }) n t (make f)
file_one s n t make file (Err fault) = tt

pub said-le : (text : List ℕ) → output.said text ≤ 1
said-le [] = omega arith
said-le (b ∷ text) = omega arith

remarks_one : (s : Story) (n : ℕ) (text : List ℕ)
    → CountsOne (reports_of s.history + n) (output.remarks s n text)
remarks_one s n text = omega (arith, said-le text)

asserts_one : (s : Story) (n l : ℕ) (r : Result AssertAnswer Fault)
    → CountsOne (reports_of s.history + n) (output.asserts s n l r)
asserts_one s n l (Ok answer) =
    remarks_one s n (assert_text (typed_locks s.start s.history) l answer)
asserts_one s n l (Err fault) = tt

warns_one : (s : Story) (n : ℕ) (counted : List Instance) (r : Result ℕ Fault)
    → CountsOne (reports_of s.history + n) (output.warns s n counted r)
warns_one s n counted (Ok count) =
    remarks_one s n (warn_text (typed_locks s.start s.history) s.files counted)
warns_one s n counted (Err fault) = tt

pub calls_one : (s : Story) (n : ℕ) (c : output.LineCall)
    → CountsOne (reports_of s.history + n) (output.calls s n c)
calls_one s n (output.Logs t c) = makes_one s n t c
calls_one s n (output.LogsAt t file c) = file_one s n t c file (naming_answer s file)
calls_one s n (output.Asserts t lock flags) =
    asserts_one s n lock.0 (step_assert (state_of s) t lock.0 flags)
calls_one s n (output.Warns t lock flags) =
    warns_one s n (warned (state_of s) t lock flags) (step_warn (state_of s) t lock flags)
calls_one s n (output.Steps t lock step) = tt
calls_one s n output.NoCall = tt

-- ---- in a scene

makes_in_one : (s : Scene) (n t : ℕ) (c : Call)
    → CountsOne (reports_of s.story.history + n) (output.makes_in s n t c)
makes_in_one s n t c = go (answer_in s t c)
  where
    go : (r : Result Reply Fault)
        → CountsOne (reports_of s.story.history + n) (output.called_in s n t c r)
    go (Ok reply) = omega (arith, grown-le s.story t c reply)
    go (Err fault) = tt

file_in_one : (s : Scene) (n t : ℕ) (make : ℕ → Call) (file : List ℕ) (r : Result ℕ Fault)
    → CountsOne (reports_of s.story.history + n)
    (output.at_file_in s (λ s' f. output.makes_in s' n t (make f)) file r)
file_in_one s n t make file (Ok f) = makes_in_one (output.with_file_in file s) n t (make f)
file_in_one s n t make file (Err fault) = tt

step_one : (s : Scene) (n t l : ℕ) (step : RawStep)
    → CountsOne (reports_of s.story.history + n) (output.steps n (step_raw s t l step))
step_one s n t l step =
    go (is_seat (state_of s.story) (thread_of d)) (is_known (state_of s.story) l step)
    (may_come s d) (is_free s.raw d)
  where
    d : Deed
    d = deed_of (stage_at s t) t l step

    go : (seat known may free : Bool) → CountsOne (reports_of s.story.history + n)
        (output.steps n (cond (not seat) (Err UnknownSeat)
        (cond (not known) (Err UnknownLock)
        (cond (not may) (Err StepOrder)
        (cond (not free) (Err RawNotFree) (Ok (stepped s d)))))))
    go false known may free = tt
    go true false may free = tt
    go true true false free = tt
    go true true true false = tt
    go true true true true = omega arith

remarks_in_one : (s : Scene) (n : ℕ) (text : List ℕ)
    → CountsOne (reports_of s.story.history + n) (output.in_scene s (output.remarks s.story n text))
remarks_in_one s n text = omega (arith, said-le text)

asserts_in_one : (s : Scene) (n l : ℕ) (r : Result AssertAnswer Fault)
    → CountsOne (reports_of s.story.history + n) (output.in_scene s (output.asserts s.story n l r))
asserts_in_one s n l (Ok answer) =
    remarks_in_one s n (assert_text (typed_locks s.story.start s.story.history) l answer)
asserts_in_one s n l (Err fault) = tt

warns_in_one : (s : Scene) (n : ℕ) (counted : List Instance) (r : Result ℕ Fault)
    → CountsOne (reports_of s.story.history + n)
    (output.in_scene s (output.warns s.story n counted r))
warns_in_one s n counted (Ok count) =
    remarks_in_one s n (warn_text (typed_locks s.story.start s.story.history) s.story.files counted)
warns_in_one s n counted (Err fault) = tt

pub calls_in_one : (s : Scene) (n : ℕ) (c : output.LineCall)
    → CountsOne (reports_of s.story.history + n) (output.calls_in s n c)
calls_in_one s n (output.Logs t c) = makes_in_one s n t c
calls_in_one s n (output.LogsAt t file c) = file_in_one s n t c file (naming_answer s.story file)
calls_in_one s n (output.Steps t lock step) = step_one s n t lock.0 step
calls_in_one s n (output.Asserts t lock flags) =
    asserts_in_one s n lock.0 (step_assert (state_of s.story) t lock.0 flags)
calls_in_one s n (output.Warns t lock flags) =
    warns_in_one s n (warned (state_of s.story) t lock flags)
    (step_warn (state_of s.story) t lock flags)
calls_in_one s n output.NoCall = tt

-- ---- a line
