-- The laws: what it says of an input and of threads that nothing is told.
use Rattle.std.specs.Prelude.{◌≡◌, ℕ, List, [], ◌∷◌, ◌++◌, None, codes}
use Rattle.wit_model.specs.declared.locks.Class.TheVariants.{SleepMutex}
use Rattle.wit_model.specs.World.Deeds.{Deed}
use Rattle.wit_model.specs.World.Examples.{agreed}
use Rattle.wit_model.specs.World.Waiting.{IsDeadlock}
use Rattle.wit_recordings.specs.Recordings.{AllAskWithin, GoAsInRuns, NamedType, types_in}
use Rattle.wit_stream.specs.declared.summary.Summary.{Summary}
use Rattle.wit_orders.specs.Laws.{HasPair, OrdersLeadRoundToNone}
use Rattle.wit_orders.specs.Reading.{type_text}
use Rattle.wit_against.specs.Outputs.{Judges}

-- the input was read whole, and nothing is told of it: so it is with status 0
pub record IsClean (input : List ℕ) : Type 0 where
  pub text : List ℕ
  pub summary : Summary
  pub judged : Judges input text summary
  pub silent : summary.reports ≡ 0
  pub whole : summary.bad ≡ None

abbrev pub HasNoCircle : Type 0
HasNoCircle = (input : List ℕ) → IsClean input → OrdersLeadRoundToNone input

abbrev pub ThreadsWithinNeverDeadlock : Type 0
ThreadsWithinNeverDeadlock =
    (input : List ℕ) (types : ℕ → NamedType) (v : List Deed) (threads : List ℕ)
    → IsClean input → AllAskWithin (HasPair input) types v → IsDeadlock v threads → ⊥

abbrev pub RunsWithinNeverDeadlock : Type 0
RunsWithinNeverDeadlock =
    (input : List ℕ) (types : ℕ → NamedType) (runs : ℕ → List Deed) (v : List Deed)
    (threads : List ℕ)
    → IsClean input → ((t : ℕ) → AllAskWithin (HasPair input) types (runs t))
    → GoAsInRuns runs v → IsDeadlock v threads → ⊥

-- ---- such an input, and such threads

-- A before B
abbrev pub one_order : List ℕ
one_order =
    type_text (SleepMutex, codes "A") ++ (codes " > " ++ (type_text (SleepMutex, codes "B") ++ 10 ∷ []))

-- nothing is told of it, and threads take the two locks so
abbrev pub OneOrderIsMet : Type 0
OneOrderIsMet = IsClean one_order × AllAskWithin (HasPair one_order) (types_in agreed) agreed
