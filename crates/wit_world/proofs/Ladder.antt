-- The order of the faults, and which steps may come next.
use Rattle.std.proofs.Common.{◌≡◌, ℕ, Bool, true, false, not, ◌&&◌, cond, eqb, nat_lt, Result, Ok}
use Rattle.std.proofs.Common.{Err, refl, ap, ◌∙◌, subst, inl, inr}
use Rattle.std.proofs.lemmas.Bool.{false≢true, true≢false}
use Rattle.std.proofs.lemmas.Bool.Decides.{eqb_tells}
use Rattle.wit_model.specs.declared.faults.Fault.{Fault}
use Rattle.wit_model.specs.declared.faults.Fault.TheVariants.{UnknownSeat, UnknownLock, RawNotFree}
use Rattle.wit_model.specs.declared.faults.Fault.TheVariants.{StepOrder}
use Rattle.wit_model.specs.declared.locks.LockNo.{LockNo}
use Rattle.wit_model.specs.declared.locks.Mode.{Mode}
use Rattle.wit_model.specs.declared.locks.Mode.TheVariants.{Shared, Exclusive}
use Rattle.wit_model.specs.declared.calls.Call.{Call}
use Rattle.wit_model.specs.declared.calls.Call.TheVariants.{Init, Check, Note, NoteTry, GiveUp}
use Rattle.wit_model.specs.declared.calls.Call.TheVariants.{Unlock, SetWatch, Destroy, Upgrade}
use Rattle.wit_model.specs.declared.calls.Call.TheVariants.{Downgrade, NoRelease, ReleaseOk}
use Rattle.wit_model.specs.declared.calls.Call.TheVariants.{DefineOrder}
use Rattle.wit_model.specs.declared.raw_steps.RawStep.{RawStep}
use Rattle.wit_model.specs.declared.raw_steps.RawStep.TheVariants as raw_step
use Rattle.wit_model.specs.Rules.History.{is_held}
use Rattle.wit_model.specs.Rules.State.{state_of, is_seat}
use Rattle.wit_model.specs.World.Deeds.{Deed, Take, Free, RawDown}
use Rattle.wit_model.specs.World.Stages.{Stage, Over, Asked, Taken, Tried, Forgot, Raised, Lowered}
use Rattle.wit_model.specs.World.Stages.{is_over, is_same_mode, call_follows, deed_follows}
use Rattle.wit_model.specs.World.Scenes.{Scene, stage_at, mode_asked, deed_of, is_known}
use Rattle.wit_model.specs.World.Scenes.{is_way_back, may_come, is_free, shares_of, stepped}
use Rattle.wit_model.specs.World.Scenes.{step_raw, may_call}
use Rattle.wit_model.specs.Rules.Step.{answer_of}
use Rattle.wit_world.specs.Stages.{is_forgotten, is_lowered}
use Rattle.wit_world.specs.Steps.{holds_asked}

-- ---- the order of the faults

abbrev ladder : {X : Type 0} → Bool → Bool → Bool → Result X Fault → Result X Fault
ladder seat known may rest =
    cond (not seat) (Err UnknownSeat)
    (cond (not known) (Err UnknownLock) (cond (not may) (Err StepOrder) rest))

module _ {X : Type 0} (rest : Result X Fault) where
  by_seat : (seat known may : Bool) → seat ≡ false → ladder seat known may rest ≡ Err UnknownSeat
  by_seat true known may none = absurd (true≢false none)
  by_seat false known may none = refl

  by_lock : (seat known may : Bool) → seat ≡ true → known ≡ false
      → ladder seat known may rest ≡ Err UnknownLock
  by_lock false known may is none = absurd (false≢true is)
  by_lock true true may is none = absurd (true≢false none)
  by_lock true false may is none = refl

  by_order : (seat known may : Bool) → seat ≡ true → known ≡ true → may ≡ false
      → ladder seat known may rest ≡ Err StepOrder
  by_order false known may is lock none = absurd (false≢true is)
  by_order true false may is lock none = absurd (false≢true lock)
  by_order true true true is lock none = absurd (true≢false none)
  by_order true true false is lock none = refl

  by_rest : (seat known may : Bool) → seat ≡ true → known ≡ true → may ≡ true
      → ladder seat known may rest ≡ rest
  by_rest false known may is lock comes = absurd (false≢true is)
  by_rest true false may is lock comes = absurd (false≢true lock)
  by_rest true true false is lock comes = absurd (false≢true comes)
  by_rest true true true is lock comes = refl

unfree : {X : Type 0} (b : Bool) (x : X) → b ≡ false
    → cond (not b) (Err RawNotFree) (Ok x) ≡ Err RawNotFree
unfree true x none = absurd (true≢false none)
unfree false x none = refl

free : {X : Type 0} (b : Bool) (x : X) → b ≡ true → cond (not b) (Err RawNotFree) (Ok x) ≡ Ok x
free true x is = refl
free false x is = absurd (false≢true is)

-- ---- a step

abbrev step_rest : Scene → Deed → Result Scene Fault
step_rest s d = cond (not (is_free s.raw d)) (Err RawNotFree) (Ok (stepped s d))

module _ (s : Scene) (t l : ℕ) where
  abbrev step_ladder : RawStep → Result Scene Fault
  step_ladder step =
      ladder (is_seat (state_of s.story) t) (is_known (state_of s.story) l step)
      (may_come s (deed_of (stage_at s t) t l step))
      (step_rest s (deed_of (stage_at s t) t l step))

  ruled : (step : RawStep) → step_raw s t l step ≡ step_ladder step
  ruled raw_step.Take = refl
  ruled (raw_step.TryTake mode) = refl
  ruled raw_step.Free = refl
  ruled raw_step.Up = refl
  ruled raw_step.Down = refl

  module _ (step : RawStep) where
    pub no_seat : is_seat (state_of s.story) t ≡ false → step_raw s t l step ≡ Err UnknownSeat
    no_seat none =
        ruled step ∙ by_seat (step_rest s (deed_of (stage_at s t) t l step))
        (is_seat (state_of s.story) t) (is_known (state_of s.story) l step)
        (may_come s (deed_of (stage_at s t) t l step)) none

    module _ (seat : is_seat (state_of s.story) t ≡ true) where
      pub no_lock : is_known (state_of s.story) l step ≡ false
          → step_raw s t l step ≡ Err UnknownLock
      no_lock none =
          ruled step ∙ by_lock (step_rest s (deed_of (stage_at s t) t l step))
          (is_seat (state_of s.story) t) (is_known (state_of s.story) l step)
          (may_come s (deed_of (stage_at s t) t l step)) seat none

      module _ (known : is_known (state_of s.story) l step ≡ true) where
        pub no_turn : may_come s (deed_of (stage_at s t) t l step) ≡ false
            → step_raw s t l step ≡ Err StepOrder
        no_turn none =
            ruled step ∙ by_order (step_rest s (deed_of (stage_at s t) t l step))
            (is_seat (state_of s.story) t) (is_known (state_of s.story) l step)
            (may_come s (deed_of (stage_at s t) t l step)) seat known none

        module _ (comes : may_come s (deed_of (stage_at s t) t l step) ≡ true) where
          pub not_free : is_free s.raw (deed_of (stage_at s t) t l step) ≡ false
              → step_raw s t l step ≡ Err RawNotFree
          not_free none =
              ruled step ∙ by_rest (step_rest s (deed_of (stage_at s t) t l step))
              (is_seat (state_of s.story) t) (is_known (state_of s.story) l step)
              (may_come s (deed_of (stage_at s t) t l step)) seat known comes
              ∙ unfree (is_free s.raw (deed_of (stage_at s t) t l step))
              (stepped s (deed_of (stage_at s t) t l step)) none

          pub accepted : is_free s.raw (deed_of (stage_at s t) t l step) ≡ true
              → step_raw s t l step ≡ Ok (stepped s (deed_of (stage_at s t) t l step))
          accepted is =
              ruled step ∙ by_rest (step_rest s (deed_of (stage_at s t) t l step))
              (is_seat (state_of s.story) t) (is_known (state_of s.story) l step)
              (may_come s (deed_of (stage_at s t) t l step)) seat known comes
              ∙ free (is_free s.raw (deed_of (stage_at s t) t l step))
              (stepped s (deed_of (stage_at s t) t l step)) is

-- ---- a call

module _ (s : Scene) (t : ℕ) (call : Call) (known : Bool) where
  pub call-no_seat : is_seat (state_of s.story) t ≡ false
      → ladder (is_seat (state_of s.story) t) known (may_call s t call) (answer_of s.story t call)
      ≡ Err UnknownSeat
  call-no_seat none =
      by_seat (answer_of s.story t call) (is_seat (state_of s.story) t) known
      (may_call s t call) none

  module _ (seat : is_seat (state_of s.story) t ≡ true) where
    pub call-no_lock : known ≡ false
        → ladder (is_seat (state_of s.story) t) known (may_call s t call) (answer_of s.story t call)
        ≡ Err UnknownLock
    call-no_lock none =
        by_lock (answer_of s.story t call) (is_seat (state_of s.story) t) known
        (may_call s t call) seat none

    pub call-no_turn : known ≡ true → may_call s t call ≡ false
        → ladder (is_seat (state_of s.story) t) known (may_call s t call) (answer_of s.story t call)
        ≡ Err StepOrder
    call-no_turn lock none =
        by_order (answer_of s.story t call) (is_seat (state_of s.story) t) known
        (may_call s t call) seat lock none

    pub call-accepted : known ≡ true → may_call s t call ≡ true
        → ladder (is_seat (state_of s.story) t) known (may_call s t call) (answer_of s.story t call)
        ≡ answer_of s.story t call
    call-accepted lock comes =
        by_rest (answer_of s.story t call) (is_seat (state_of s.story) t) known
        (may_call s t call) seat lock comes

-- ---- which steps may come next

pub and-then : (a b : Bool) → a ≡ true → b ≡ (a && b)
and-then true b is = refl
and-then false b is = absurd (false≢true is)

pub and-else : (a b : Bool) → a ≡ false → a ≡ (a && b)
and-else true b is = absurd (true≢false is)
and-else false b is = refl

and-true : (b : Bool) → (b && true) ≡ b
and-true true = refl
and-true false = refl

and-false : (b : Bool) → (b && false) ≡ false
and-false true = refl
and-false false = refl

same-mode : (m : Mode) → is_same_mode m m ≡ true
same-mode Exclusive = refl
same-mode Shared = refl

module _ (s : Scene) (t l : ℕ) where
  pub may-take : (lock : LockNo) → lock.0 ≡ l
      → may_come s (deed_of (stage_at s t) t l raw_step.Take)
      ≡ (call_follows (GiveUp lock) (λ _. true) (stage_at s t) && not (is_held t l s.story.history))
  may-take lock is =
      subst (λ m. may_come s (deed_of (stage_at s t) t m raw_step.Take)
      ≡ (call_follows (GiveUp lock) (λ _. true) (stage_at s t)
      && not (is_held t m s.story.history))) is (go (stage_at s t))
    where
      go : (at : Stage) → (deed_follows (Take t lock.0 (mode_asked at))
          (λ m. is_held t m s.story.history) at
          && (not (is_way_back (Take t lock.0 (mode_asked at)) at) && true))
          ≡ (call_follows (GiveUp lock) (λ _. true) at && not (is_held t lock.0 s.story.history))
      go (Asked q) =
          and-true (eqb q.lock.0 lock.0
          && (is_same_mode q.mode q.mode && not (is_held t lock.0 s.story.history)))
          ∙ ap (λ b. eqb q.lock.0 lock.0 && (b && not (is_held t lock.0 s.story.history)))
          (same-mode q.mode)
      go Over = refl
      go (Taken m) = refl
      go (Tried m mode) = refl
      go (Forgot m may_keep) = refl
      go (Raised m) = refl
      go (Lowered m passed) = refl

  pub may-try : (mode : Mode) → may_come s (deed_of (stage_at s t) t l (raw_step.TryTake mode))
      ≡ is_over (stage_at s t)
  may-try mode = and-true (is_over (stage_at s t))

  pub may-up : may_come s (deed_of (stage_at s t) t l raw_step.Up) ≡ is_over (stage_at s t)
  may-up = and-true (is_over (stage_at s t))

  pub may-free : may_come s (deed_of (stage_at s t) t l raw_step.Free)
      ≡ (is_forgotten l (stage_at s t) && nat_lt 0 (shares_of s.raw t l))
  may-free = go (stage_at s t)
    where
      go : (at : Stage) → (deed_follows (Free t l) (λ m. is_held t m s.story.history) at
          && (not (is_way_back (Free t l) at) && nat_lt 0 (shares_of s.raw t l)))
          ≡ (is_forgotten l at && nat_lt 0 (shares_of s.raw t l))
      go (Tried m mode) = and-false (eqb m l)
      go (Forgot m may_keep) = refl
      go Over = refl
      go (Asked q) = refl
      go (Taken m) = refl
      go (Raised m) = refl
      go (Lowered m passed) = refl

  pub may-down : may_come s (deed_of (stage_at s t) t l raw_step.Down) ≡ is_lowered l (stage_at s t)
  may-down = go (stage_at s t)
    where
      go : (at : Stage) → (deed_follows (RawDown t l) (λ m. is_held t m s.story.history) at
          && (not (is_way_back (RawDown t l) at) && true)) ≡ is_lowered l at
      go (Raised m) = and-false (eqb m l)
      go (Lowered m passed) = and-true (eqb m l)
      go Over = refl
      go (Asked q) = refl
      go (Taken m) = refl
      go (Tried m mode) = refl
      go (Forgot m may_keep) = refl

-- ---- which calls may

asked-same : (s : Scene) (t m l : ℕ) → (eqb m l && is_held t m s.story.history)
    ≡ (eqb m l && is_held t l s.story.history)
asked-same s t m l =
    elim (eqb_tells m l) [
      | inl is ↦ ap (λ k. eqb m l && is_held t k s.story.history) is.1
      | inr other ↦ rw other.0 refl
    ]

-- a call asks for the record of the lock alone that was asked for
pub may-called : (s : Scene) (t : ℕ) (call : Call)
    → call_follows call (λ _. holds_asked s t (stage_at s t)) (stage_at s t) ≡ may_call s t call
may-called s t call = go call (stage_at s t)
  where
    go : (x : Call) (at : Stage) → call_follows x (λ _. holds_asked s t at) at
        ≡ call_follows x (λ l. is_held t l s.story.history) at
    go (Note l) (Asked q) = asked-same s t q.lock.0 l.0
    go (Note l) Over = refl
    go (Note l) (Taken m) = refl
    go (Note l) (Tried m mode) = refl
    go (Note l) (Forgot m may_keep) = refl
    go (Note l) (Raised m) = refl
    go (Note l) (Lowered m passed) = refl
    go (NoteTry l mode site) (Tried m tried) = refl
    go (NoteTry l mode site) (Asked q) = refl
    go (NoteTry l mode site) Over = refl
    go (NoteTry l mode site) (Taken m) = refl
    go (NoteTry l mode site) (Forgot m may_keep) = refl
    go (NoteTry l mode site) (Raised m) = refl
    go (NoteTry l mode site) (Lowered m passed) = refl
    go (GiveUp l) (Asked q) = refl
    go (GiveUp l) Over = refl
    go (GiveUp l) (Taken m) = refl
    go (GiveUp l) (Tried m mode) = refl
    go (GiveUp l) (Forgot m may_keep) = refl
    go (GiveUp l) (Raised m) = refl
    go (GiveUp l) (Lowered m passed) = refl
    go (Upgrade l) (Raised m) = refl
    go (Upgrade l) (Asked q) = refl
    go (Upgrade l) Over = refl
    go (Upgrade l) (Taken m) = refl
    go (Upgrade l) (Tried m mode) = refl
    go (Upgrade l) (Forgot m may_keep) = refl
    go (Upgrade l) (Lowered m passed) = refl
    go (Init lock) at = refl
    go (Check q) at = refl
    go (Unlock l mode) at = refl
    go (SetWatch watch) at = refl
    go (Destroy l) at = refl
    go (Downgrade l) at = refl
    go (NoRelease l) at = refl
    go (ReleaseOk l) at = refl
    go (DefineOrder a b) at = refl
