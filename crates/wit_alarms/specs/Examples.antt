-- Two threads that take two locks: in one order, and in opposite ones.
use Rattle.std.specs.Prelude.{ℕ, ◌<◌, ◌≡◌, Bool, true, false, List, [], ◌∷◌, ◌++◌, Some, map}
use Rattle.std.specs.List.{AllByRecursion}
use Rattle.wit_model.specs.Rules.Verdict.{is_exclusive}
use Rattle.wit_model.specs.World.Deeds.{Deed}
use Rattle.wit_model.specs.World.Examples.{small, files, agreed, crossed}
use Rattle.wit_model.specs.World.Waiting.{IsDeadlock}
use Rattle.wit_alarms.specs.declared.facts.Manner.TheVariants.{Plain}
use Rattle.wit_alarms.specs.declared.facts.Fact.{Fact}
use Rattle.wit_alarms.specs.declared.facts.Lives.{Lives}
use Rattle.wit_alarms.specs.Courses.{Event, Does, Makes, deeds, IsCourse}
use Rattle.wit_alarms.specs.Facts.{closes, all_reasons, NoneCloses}
use Rattle.wit_alarms.specs.Keeping.{AsksAsSaid}
use Rattle.wit_alarms.specs.NoneMeansNone.{AsksForGood}

-- thread t asks for lock m under lock l, and nothing else is known of it
pub record IsPlainFact (f : Fact) (t l m : ℕ) : Type 0 where
  pub held : f.held.lock.0 ≡ l
  pub held_mode : is_exclusive f.held.mode ≡ true
  pub asked : f.asked.lock.0 ≡ m
  pub asked_mode : is_exclusive f.asked.mode ≡ true
  pub besides : f.besides.items ≡ []
  pub under : f.under ≡ false
  pub manner : f.manner ≡ Plain
  pub thread : f.thread ≡ Some (record { 0 = t })
  pub last : 0 < f.last

-- nothing is known of lives
pub record IsUnknown (lives : Lives) : Type 0 where
  pub made : lives.made.items ≡ []
  pub joined : lives.joined.items ≡ []

-- thread 1 makes thread 2, and then the threads do this
abbrev pub with_two : List Deed → List Event
with_two w = map Does w ++ Makes 1 2 ∷ []

-- nothing that these threads ask for has a time limit
abbrev pub unlimited : List Event → Bool
unlimited own = false

abbrev pub all_locks : ℕ → Bool
all_locks l = true

-- both threads take the two locks in one order: their course keeps to the facts, none of whose
-- circles closes
abbrev pub AgreedKeeps : Type 0
AgreedKeeps =
    (f g : Fact) (lives : Lives) → IsPlainFact f 1 1 2 → IsPlainFact g 2 1 2 → IsUnknown lives
    → IsCourse small files 1 lives (with_two agreed)
    × (AsksAsSaid all_locks (f ∷ g ∷ []) lives unlimited 1 (with_two agreed)
    × NoneCloses all_reasons lives (f ∷ g ∷ []))

-- they take them in opposite orders: their course keeps to the facts, which close a circle, and it
-- has a deadlock
abbrev pub CrossedDeadlocks : Type 0
CrossedDeadlocks =
    (f g : Fact) (lives : Lives) → IsPlainFact f 1 1 2 → IsPlainFact g 2 2 1 → IsUnknown lives
    → IsCourse small files 1 lives (with_two crossed)
    × (AsksAsSaid all_locks (f ∷ g ∷ []) lives unlimited 1 (with_two crossed)
    × ((closes all_reasons lives (f ∷ g ∷ []) (0 ∷ 1 ∷ []) ≡ true)
    × (AllByRecursion (AsksForGood all_locks unlimited (with_two crossed)) (1 ∷ 2 ∷ [])
    × IsDeadlock (deeds (with_two crossed)) (1 ∷ 2 ∷ []))))
