-- What comes of a call and of a step, and what of that is known beforehand.
use Rattle.std.specs.Prelude.{ℕ, ◌<◌, ◌-◌, ◌^◌, ◌≡◌, ◌⊎◌, Bool, true, false, List, Result, Ok, Err}
use Rattle.std.specs.Prelude.{IsOk}
use Rattle.wit_model.specs.declared.faults.Fault.{Fault}
use Rattle.wit_model.specs.declared.faults.Fault.TheVariants.{OutOfMemory}
use Rattle.wit_model.specs.declared.locks.Mode.{Mode}
use Rattle.wit_model.specs.declared.calls.Call.{Call}
use Rattle.wit_model.specs.declared.calls.Call.TheVariants.{Init}
use Rattle.wit_model.specs.declared.calls.Reply.{Reply}
use Rattle.wit_model.specs.declared.raw_steps.RawStep.{RawStep}
use Rattle.wit_model.specs.declared.raw_steps.RawStep.TheVariants as raw_step
use Rattle.wit_model.specs.Rules.Numbers.{IsGiven}
use Rattle.wit_model.specs.Rules.History.{is_held}
use Rattle.wit_model.specs.Rules.Step.{IsEntered}
use Rattle.wit_model.specs.World.Deeds.{Deed, Take, TryTake, Free, RawUp, RawDown}
use Rattle.wit_model.specs.World.Stages.{Stage, Asked}
use Rattle.wit_model.specs.World.Scenes.{RawLock, Scene, shares_of, answer_in, scene_after}
use Rattle.wit_model.specs.World.Scenes.{step_raw}

-- an accepted call gets its reply, and the scene is that after it; a refused one gets its fault,
-- and changes nothing. In place of a reply that the log would keep, a growth may be refused: then
-- too nothing changes
abbrev pub AnswersIn : Scene → ℕ → Call → Result Reply Fault → Scene → Type 0
AnswersIn old t call (Ok reply) new =
    (answer_in old t call ≡ Ok reply) × (new ≡ scene_after old t call reply)
AnswersIn old t call (Err fault) new =
    ((answer_in old t call ≡ Err fault)
    ⊎ ((fault ≡ OutOfMemory) × IsEntered (answer_in old t call))) × (new ≡ old)

-- so too, but that no growth is refused: the call takes no memory
abbrev pub AnswersSurelyIn : Scene → ℕ → Call → Result Reply Fault → Scene → Type 0
AnswersSurelyIn old t call (Ok reply) new =
    (answer_in old t call ≡ Ok reply) × (new ≡ scene_after old t call reply)
AnswersSurelyIn old t call (Err fault) new = (answer_in old t call ≡ Err fault) × (new ≡ old)

-- whether a thread gets a share by it
abbrev pub takes_share : RawStep → Bool
takes_share raw_step.Take = true
takes_share (raw_step.TryTake mode) = true
takes_share _ = false

-- an accepted step makes the scene that after it; a refused one changes nothing. Only for a share
-- that is had may a growth be refused in its place
abbrev pub StepsTo : {X : Type 0} → Scene → ℕ → ℕ → RawStep → Result X Fault → Scene → Type 0
StepsTo old t l step (Ok done) new = step_raw old t l step ≡ Ok new
StepsTo old t l step (Err fault) new =
    ((step_raw old t l step ≡ Err fault)
    ⊎ ((fault ≡ OutOfMemory) × (takes_share step ≡ true) × IsOk (step_raw old t l step)))
    × (new ≡ old)

-- the deed of a step, where it takes the lock in this mode
abbrev pub deed_in : Mode → ℕ → ℕ → RawStep → Deed
deed_in mode t l raw_step.Take = Take t l mode
deed_in mode t l (raw_step.TryTake tried) = TryTake t l tried
deed_in mode t l raw_step.Free = Free t l
deed_in mode t l raw_step.Up = RawUp t l
deed_in mode t l raw_step.Down = RawDown t l

-- the lock is there, and the thread has few shares of it, or some, as the step needs
abbrev pub IsReadyFor : List RawLock → ℕ → ℕ → RawStep → Type 0
IsReadyFor raw t l raw_step.Take = IsGiven raw l × (shares_of raw t l < 2 ^ 64 - 1)
IsReadyFor raw t l (raw_step.TryTake mode) = IsGiven raw l × (shares_of raw t l < 2 ^ 64 - 1)
IsReadyFor raw t l _ = 0 < shares_of raw t l

abbrev pub makes_lock : Call → Bool
makes_lock (Init lock) = true
makes_lock _ = false

-- whether the thread holds by the record the lock that it asked for
abbrev pub holds_asked : Scene → ℕ → Stage → Bool
holds_asked s t (Asked q) = is_held t q.lock.0 s.story.history
holds_asked s t _ = false
