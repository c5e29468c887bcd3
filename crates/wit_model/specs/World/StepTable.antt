-- Which steps and calls may come next, stage by stage; and which steps a lock itself admits.
use Rattle.std.specs.Prelude.{ℕ, ◌≡◌, Bool, true, false, ◌&&◌, List, [], ◌∷◌, None, filter}
use Rattle.std.specs.Prelude.{codes}
use Rattle.wit_model.specs.declared.locks.Class.TheVariants.{Rw}
use Rattle.wit_model.specs.declared.locks.LockNo.{LockNo}
use Rattle.wit_model.specs.declared.locks.Mode.{Mode}
use Rattle.wit_model.specs.declared.locks.Mode.TheVariants.{Shared, Exclusive}
use Rattle.wit_model.specs.declared.calls.Request.{Request}
use Rattle.wit_model.specs.declared.calls.Call.TheVariants.{Init, Check, Note, NoteTry, GiveUp}
use Rattle.wit_model.specs.declared.calls.Call.TheVariants.{Upgrade}
use Rattle.wit_model.specs.declared.calls.Reply.TheVariants.{Made, Pass, Recorded}
use Rattle.wit_model.specs.declared.raw_steps.RawStep.TheVariants as raw_step
use Rattle.wit_model.specs.Rules.Step.{story_after}
use Rattle.wit_model.specs.World.Deeds.{Deed, Take, TryTake, Free, RawUp, RawDown, log_of}
use Rattle.wit_model.specs.World.Examples.{small, files, by, at_line, request}
use Rattle.wit_model.specs.World.Scenes.{RawLock, Scene, nobodys, deed_of, is_free, has_share}
use Rattle.wit_model.specs.World.Scenes.{may_come, may_call}
use Rattle.wit_model.specs.World.Stages.{Stage, Over, Asked, Taken, Tried, Forgot, Raised, Lowered}

abbrev first : LockNo
first = record { 0 = 1 }

abbrev lock_made : List Deed
lock_made =
    by 1 (Init (record {
      class = Rw;
      flags = record { 0 = 0 };
      name = codes "r";
      type_name = None;
    })) (Made first)
    ∷ []

-- thread 1 has an exclusive share of the first lock, after these deeds, and stands at this stage
abbrev standing_at : List Deed → Stage → Scene
standing_at w at = record {
  story = story_after small files (log_of w);
  raw = record { mode = Exclusive; holders = (1, 1) ∷ [] } ∷ [];
  stages = at ∷ Over ∷ [];
}

abbrev unheld : Stage → Scene
unheld at = standing_at lock_made at

-- a thread that holds the lock by the record
abbrev holding : Stage → Scene
holding at =
    standing_at (by 1 (Note first) Recorded ∷ by 1 (Check (request 1 1)) Pass ∷ lock_made) at

-- what a thread may do next, of the first lock
pub data Next : Type 0 where
  -- make another lock: a sequence's first call
  Makes : Next
  -- try to get it: a sequence's first step
  Tries : Next
  -- turn it exclusive: another
  Raises : Next
  -- take it as the step of a scene does, and in this mode
  Takes : Next
  TakesIn : (mode : Mode) → Next
  -- tell that it has it, or gives its request up
  Notes : Next
  GivesUp : Next
  -- tell that it got it so by a try
  NotesTry : (mode : Mode) → Next
  -- tell that it turned it exclusive
  Upgrades : Next
  -- free it, or turn it shared
  Frees : Next
  Lowers : Next

-- whether it may come next
abbrev may_be : Scene → Stage → Next → Bool
may_be s at Makes =
    may_call s 1 (Init (record {
      class = Rw;
      flags = record { 0 = 0 };
      name = codes "s";
      type_name = None;
    }))
may_be s at Tries = may_come s (deed_of at 1 1 (raw_step.TryTake Exclusive))
may_be s at Raises = may_come s (deed_of at 1 1 raw_step.Up)
may_be s at Takes = may_come s (deed_of at 1 1 raw_step.Take)
may_be s at (TakesIn mode) = may_come s (Take 1 1 mode)
may_be s at Notes = may_call s 1 (Note first)
may_be s at GivesUp = may_call s 1 (GiveUp first)
may_be s at (NotesTry mode) = may_call s 1 (NoteTry first mode (at_line 1))
may_be s at Upgrades = may_call s 1 (Upgrade first)
may_be s at Frees = may_come s (deed_of at 1 1 raw_step.Free)
may_be s at Lowers = may_come s (deed_of at 1 1 raw_step.Down)

abbrev nexts : List Next
nexts =
    Makes ∷ Tries ∷ Raises ∷ Takes ∷ TakesIn Shared ∷ TakesIn Exclusive ∷ Notes ∷ GivesUp
    ∷ NotesTry Shared ∷ NotesTry Exclusive ∷ Upgrades ∷ Frees ∷ Lowers ∷ []

-- where thread 1 stands so, exactly these may come next
abbrev Follow : (Stage → Scene) → Stage → List Next → Type 0
Follow standing at allowed = filter (may_be (standing at) at) nexts ≡ allowed

-- a request for the first lock in this mode
abbrev asked_in : Mode → Request
asked_in mode = record (request 1 1) { mode = mode }

abbrev pub LinesFollow : Type 0
LinesFollow =
    Follow unheld Over (Makes ∷ Tries ∷ Raises ∷ [])
    × Follow unheld (Asked (asked_in Exclusive)) (Takes ∷ TakesIn Exclusive ∷ GivesUp ∷ [])
    × Follow unheld (Asked (asked_in Shared)) (Takes ∷ TakesIn Shared ∷ GivesUp ∷ [])
    × Follow holding (Asked (asked_in Exclusive)) (Notes ∷ GivesUp ∷ [])
    × Follow unheld (Taken 1) (Notes ∷ [])
    × Follow unheld (Tried 1 Exclusive) (NotesTry Exclusive ∷ [])
    × Follow unheld (Tried 1 Shared) (NotesTry Shared ∷ [])
    × Follow unheld (Raised 1) (Upgrades ∷ [])
    × Follow unheld (Forgot 1 false) (Frees ∷ [])
    × Follow unheld (Forgot 1 true) (Makes ∷ Tries ∷ Raises ∷ Frees ∷ [])
    × Follow unheld (Lowered 1 false) (Lowers ∷ [])
    × Follow unheld (Lowered 1 true) (Makes ∷ Tries ∷ Raises ∷ Lowers ∷ [])

-- in the midst of another lock's sequence nothing of the first lock may come
abbrev pub OtherLocksDont : Type 0
OtherLocksDont =
    Follow unheld (Asked (request 2 1)) []
    × Follow holding (Asked (request 2 1)) []
    × Follow unheld (Taken 2) []
    × Follow unheld (Tried 2 Exclusive) []
    × Follow unheld (Raised 2) []
    × Follow unheld (Forgot 2 false) []
    × Follow unheld (Lowered 2 false) []

-- ---- what a lock itself admits

abbrev had : Mode → List (ℕ × ℕ) → RawLock
had mode holders = record { mode = mode; holders = holders }

-- whether the lock that is had so admits the deed
abbrev may_do : RawLock → Deed → Bool
may_do k d = has_share (k ∷ []) d && is_free (k ∷ []) d

-- of such a lock thread 1 may do exactly these deeds, were it their turn
abbrev Admits : RawLock → List Deed → Type 0
Admits k deeds =
    filter (may_do k)
    (Take 1 1 Shared ∷ TryTake 1 1 Shared ∷ Take 1 1 Exclusive ∷ TryTake 1 1 Exclusive ∷ RawUp 1 1
    ∷ RawDown 1 1 ∷ Free 1 1 ∷ [])
    ≡ deeds

-- where nobody has it; thread 1 exclusively, shared once, twice, and beside another; another thread
-- exclusively, and shared
abbrev pub LocksAdmit : Type 0
LocksAdmit =
    Admits nobodys
    (Take 1 1 Shared ∷ TryTake 1 1 Shared ∷ Take 1 1 Exclusive ∷ TryTake 1 1 Exclusive ∷ [])
    × Admits (had Exclusive ((1, 1) ∷ [])) (RawDown 1 1 ∷ Free 1 1 ∷ [])
    × Admits (had Shared ((1, 1) ∷ []))
    (Take 1 1 Shared ∷ TryTake 1 1 Shared ∷ RawUp 1 1 ∷ Free 1 1 ∷ [])
    × Admits (had Shared ((1, 2) ∷ [])) (Take 1 1 Shared ∷ TryTake 1 1 Shared ∷ Free 1 1 ∷ [])
    × Admits (had Shared ((1, 1) ∷ (2, 1) ∷ []))
    (Take 1 1 Shared ∷ TryTake 1 1 Shared ∷ Free 1 1 ∷ [])
    × Admits (had Exclusive ((2, 1) ∷ [])) []
    × Admits (had Shared ((2, 1) ∷ [])) (Take 1 1 Shared ∷ TryTake 1 1 Shared ∷ [])
