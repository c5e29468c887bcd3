-- What the calls of a shared verifier leave of their seats.
use Rattle.std.specs.Prelude.{ℕ, ◌≡◌, ◌≢◌, true, List, [], ◌∷◌, ◌++◌, Option, None, Result, Ok, Err}
use Rattle.std.specs.Prelude.{IfOk, IfErr}
use Rattle.std.specs.Global.{Vec}
use Rattle.wit_model.specs.declared.faults.Fault.{Fault}
use Rattle.wit_model.specs.declared.faults.Fault.TheVariants.{OutOfMemory}
use Rattle.wit_model.specs.declared.locks.FileNo.{FileNo}
use Rattle.wit_model.specs.declared.locks.SeatNo.{SeatNo}
use Rattle.wit_model.specs.declared.calls.Entry.{Entry}
use Rattle.wit_model.specs.Rules.Circles.{Waits, TellsCircle, circle_numbers}
use Rattle.wit_model.specs.Rules.Clean.{is_clean}
use Rattle.wit_model.specs.Rules.History.{own_entries}
use Rattle.wit_model.specs.Rules.State.{Story, state_of}

-- a verifier went on: at most by entries of this seat, and more files may be named
pub record StoryGoesOn (t : ℕ) (old new : Story) : Type 0 where
  pub start : new.start ≡ old.start
  pub entries : (added : List Entry) × (new.history ≡ added ++ old.history)
      × ((other : ℕ) → other ≢ t → own_entries other added ≡ [])
  pub files : (more : List (List ℕ)) × (new.files ≡ old.files ++ more)

-- the file that a naming gives
abbrev pub given_by : Result FileNo Fault → List ℕ → List (FileNo × List ℕ)
given_by (Ok f) name = (f, name) ∷ []
given_by (Err fault) name = []

-- the answer to whether seats wait for one another in a circle by the record: what is so, and while
-- the log is clean that none do; or there was no memory to tell it
pub record TellsWaits (s : Story) (result : Result (Option (Vec SeatNo)) Fault) : Type 0 where
  pub told : IfOk result (λ c. TellsCircle (Waits (state_of s)) (circle_numbers c))
  pub clean : s.start.blessed ≡ [] → is_clean s.start.profile s.history ≡ true
      → IfOk result (λ c. c ≡ None)
  pub failed : IfErr result (λ e. e ≡ OutOfMemory)
