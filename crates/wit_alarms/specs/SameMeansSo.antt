-- Same means so: what a circle of facts that closes says of threads and locks.
use Rattle.std.specs.Prelude.{ℕ, ◌<◌, ◌≡◌, true, false, ◌||◌, List, [], ◌∷◌, Some, slice_get}
use Rattle.std.specs.List.{AllByRecursion, Contains}
use Rattle.wit_model.specs.Rules.Circles.{IsCircle}
use Rattle.wit_model.specs.Rules.Verdict.{is_exclusive}
use Rattle.wit_alarms.specs.declared.facts.Had.{Had}
use Rattle.wit_alarms.specs.declared.facts.Fact.{Fact}
use Rattle.wit_alarms.specs.declared.facts.Lives.{Lives}
use Rattle.wit_alarms.specs.Lives.{is_thread, are_apart}
use Rattle.wit_alarms.specs.Facts.{locks_held, is_timed, closes, all_reasons, no_reasons, NoneCloses}

-- two facts by different threads, which can be there at one time, and have no lock in common but as
-- readers
pub record Compatible (lives : Lives) (f g : Fact) : Type 0 where
  pub threads : (t : ℕ) → is_thread t f.thread ≡ true → is_thread t g.thread ≡ true → ⊥
  pub locks : (a b : Had) → Contains (locks_held f) a → Contains (locks_held g) b
      → a.lock.0 ≡ b.lock.0 → (is_exclusive a.mode ≡ false) × (is_exclusive b.mode ≡ false)
  pub together : are_apart lives f g ≡ false

-- the one's thread waits for the other's: for a lock that this holds, where not both are readers,
-- and not with a time limit
pub record WaitsFor (f g : Fact) : Type 0 where
  pub lock : f.asked.lock.0 ≡ g.held.lock.0
  pub barred : (is_exclusive f.asked.mode || is_exclusive g.held.mode) ≡ true
  pub unlimited : is_timed f.manner ≡ false

-- so it is with the facts of these two places
pub record OfPlaces (facts : List Fact) (R : Fact → Fact → Type 0) (i j : ℕ) : Type 0 where
  pub one : Fact
  pub other : Fact
  pub first : slice_get facts i ≡ Some one
  pub second : slice_get facts j ≡ Some other
  pub is : R one other

-- of any two of these places, the one before the other
abbrev pub EachTwo : (ℕ → ℕ → Type 0) → List ℕ → Type 0
EachTwo R [] = Unit {0}
EachTwo R (i ∷ is) = AllByRecursion (R i) is × EachTwo R is

-- the facts of a circle that closes are among those that were read; each one's thread waits for the
-- next one's; and any two are compatible: so the locks admit that each thread holds what its fact
-- says, while it asks as it says
abbrev pub SameMeansSo : Type 0
SameMeansSo =
    (lives : Lives) (facts : List Fact) (circle : List ℕ)
    → closes all_reasons lives facts circle ≡ true
    → IsCircle (OfPlaces facts WaitsFor) circle
    × EachTwo (OfPlaces facts (Compatible lives)) circle

-- where each fact goes forward in some order of the locks, there is no circle of single locks
abbrev pub OneOrderIsNone : Type 0
OneOrderIsNone =
    (lives : Lives) (facts : List Fact) (rank : ℕ → ℕ)
    → ((i : ℕ) (f : Fact) → slice_get facts i ≡ Some f
    → rank f.held.lock.0 < rank f.asked.lock.0)
    → NoneCloses no_reasons lives facts
