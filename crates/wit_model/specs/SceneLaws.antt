-- Laws of scenes: what is accepted in one is a deed of the world that it shows, and what the world
-- allows is accepted.
use Rattle.std.specs.Prelude.{ℕ, ◌≡◌, ◌↔◌, true, false, List, [], ◌∷◌, ◌++◌, Ok, IsOk}
use Rattle.wit_model.specs.declared.calls.Call.{Call}
use Rattle.wit_model.specs.declared.calls.Reply.{Reply}
use Rattle.wit_model.specs.declared.raw_steps.RawStep.{RawStep}
use Rattle.wit_model.specs.Rules.Circles.{IsCircle}
use Rattle.wit_model.specs.Rules.State.{Start, Story, state_of}
use Rattle.wit_model.specs.Rules.Step.{answer_of}
use Rattle.wit_model.specs.World.Deeds.{Deed}
use Rattle.wit_model.specs.World.Steps.{CanDo, IsWorld}
use Rattle.wit_model.specs.World.Waiting.{IsWaiting, IsDeadlock}
use Rattle.wit_model.specs.World.Scenes.{Scene, opening, stage_at, deed_of, is_known, is_way_back}
use Rattle.wit_model.specs.World.Scenes.{may_call, step_raw, answer_in, scene_after}
use Rattle.wit_model.specs.World.Shown.{Shows, deed_called, waits_in, WaitsIn}

-- where nothing was done yet
abbrev pub OpeningShows : Type 0
OpeningShows =
    (story : Story) → story.history ≡ [] → Shows story.start story.files [] (opening story)

-- an accepted step of a lock is a deed of its thread, and the scene shows the longer world
abbrev pub StepsAreDeeds : Type 0
StepsAreDeeds =
    (start : Start) (files : List (List ℕ)) (w : List Deed) (s then : Scene) (t l : ℕ)
    (step : RawStep)
    → IsWorld start files w → Shows start files w s → step_raw s t l step ≡ Ok then
    → IsWorld start files (deed_of (stage_at s t) t l step ∷ w)
    × Shows start files (deed_of (stage_at s t) t l step ∷ w) then

-- and so is an accepted call
abbrev pub CallsAreDeeds : Type 0
CallsAreDeeds =
    (start : Start) (files : List (List ℕ)) (w : List Deed) (s : Scene) (t : ℕ)
    (call : Call) (r : Reply)
    → IsWorld start files w → Shows start files w s → answer_in s t call ≡ Ok r
    → IsWorld start files (deed_called t call r ∷ w)
    × Shows start files (deed_called t call r ∷ w) (scene_after s t call r)

-- what the world allows its thread is accepted, where the lock is known and the thread doesn't let
-- go of what it was refused
abbrev pub DeedsAreSteps : Type 0
DeedsAreSteps =
    (start : Start) (files : List (List ℕ)) (w : List Deed) (s : Scene) (t l : ℕ) (step : RawStep)
    → IsWorld start files w → Shows start files w s
    → CanDo start files (deed_of (stage_at s t) t l step) w
    → is_known (state_of s.story) l step ≡ true
    → is_way_back (deed_of (stage_at s t) t l step) (stage_at s t) ≡ false
    → IsOk (step_raw s t l step)

-- and so is each call
abbrev pub DeedsAreCalls : Type 0
DeedsAreCalls =
    (start : Start) (files : List (List ℕ)) (w : List Deed) (s : Scene) (t : ℕ)
    (call : Call) (r : Reply)
    → Shows start files w s → CanDo start files (deed_called t call r) w
    → answer_in s t call ≡ Ok r

-- a call that may come next is answered as the verifier answers it
abbrev pub CallsAreAnswered : Type 0
CallsAreAnswered =
    (s : Scene) (t : ℕ) (call : Call)
    → may_call s t call ≡ true → answer_in s t call ≡ answer_of s.story t call

-- one more file changes neither the world nor what is shown of it
abbrev pub NamingKeepsWorlds : Type 0
NamingKeepsWorlds =
    (start : Start) (files : List (List ℕ)) (name : List ℕ) (w : List Deed) (s : Scene)
    → IsWorld start files w → Shows start files w s
    → IsWorld start (files ++ name ∷ []) w
    × Shows start (files ++ name ∷ []) w
    (record s { story = record s.story { files = files ++ name ∷ [] } })

-- a scene tells who waits for whom
abbrev pub WaitsAreShown : Type 0
WaitsAreShown =
    (start : Start) (files : List (List ℕ)) (w : List Deed) (s : Scene) (t u : ℕ)
    → Shows start files w s → (waits_in s t u ≡ true) ↔ IsWaiting w t u

-- and so its circles are the world's deadlocks
abbrev pub CirclesAreDeadlocks : Type 0
CirclesAreDeadlocks =
    (start : Start) (files : List (List ℕ)) (w : List Deed) (s : Scene) (threads : List ℕ)
    → Shows start files w s → IsCircle (WaitsIn s) threads ↔ IsDeadlock w threads
