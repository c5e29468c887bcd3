-- What is done with a lock.
use Rattle.std.specs.Prelude.{ℕ, Bool, List}
use Rattle.wit_traced.specs.declared.events.Action.{Action}
use Rattle.wit_traced.specs.declared.events.Action.TheVariants as action
use Rattle.wit_traced.specs.declared.events.Call.{Call}
use Rattle.wit_traced.specs.declared.events.MutexDeed.{MutexDeed}
use Rattle.wit_traced.specs.Acquiring.{Acquiring, acquiring}

pub data Doing : Type 0 where
  Enters : (call : Call) (lock : ℕ) (place : List ℕ) → Doing
  Returns : (call : Call) (gives : Bool) (place : List ℕ) → Doing
  Acquires : (acquired : Acquiring) → Doing
  PassesOver : (lock : ℕ) → Doing
  Releases : (lock : ℕ) (place : List ℕ) → Doing
  Does : (deed : MutexDeed) (lock : ℕ) (place : List ℕ) → Doing

abbrev pub doing : Action → Doing
doing (action.Enters call lock place) = Enters call lock place.now
doing (action.Returns call gives place) = Returns call gives place.now
doing (action.Acquires acquired) = Acquires (acquiring acquired)
doing (action.PassesOver lock) = PassesOver lock
doing (action.Releases lock place) = Releases lock place.now
doing (action.Does deed lock place) = Does deed lock place.now
