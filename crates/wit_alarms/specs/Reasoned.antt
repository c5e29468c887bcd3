-- Two facts of two locks in opposite orders, which one reason alone keeps from closing a circle.
use Rattle.std.specs.Prelude.{ℕ, ◌≡◌, Bool, true, false, List, [], ◌∷◌, Some}
use Rattle.wit_model.specs.declared.locks.Mode.TheVariants.{Shared, Exclusive}
use Rattle.wit_alarms.specs.declared.facts.Had.{Had}
use Rattle.wit_alarms.specs.declared.facts.Manner.{Manner}
use Rattle.wit_alarms.specs.declared.facts.Manner.TheVariants.{Plain, Timed, EndsWait}
use Rattle.wit_alarms.specs.declared.facts.Fact.{Fact}
use Rattle.wit_alarms.specs.declared.facts.Life.{Life}
use Rattle.wit_alarms.specs.declared.facts.Join.{Join}
use Rattle.wit_alarms.specs.declared.facts.Lives.{Lives}
use Rattle.wit_alarms.specs.declared.grade.Reason.{Reason}
use Rattle.wit_alarms.specs.declared.grade.Reason.TheVariants.{OneThread, Gate, Readers, Limit, Apart}
use Rattle.wit_alarms.specs.declared.grade.Reason.TheVariants.{Waits}
use Rattle.wit_alarms.specs.Facts.{closes, all_reasons}
use Rattle.wit_alarms.specs.Grades.{all_but}

abbrev pub exclusive : ℕ → Had
exclusive l = record { lock = record { 0 = l }; mode = Exclusive }

abbrev pub shared : ℕ → Had
shared l = record { lock = record { 0 = l }; mode = Shared }

-- a fact in these words; it was done first when no thread had been made or joined, and last when so
-- many had
pub record IsFact (f : Fact) (held asked : Had) (besides : List Had) (manner : Manner)
    (under : Bool) (t last : ℕ) : Type 0 where
  pub has : f.held ≡ held
  pub asks : f.asked ≡ asked
  pub also : f.besides.items ≡ besides
  pub how : f.manner ≡ manner
  pub below : f.under ≡ under
  pub by : f.thread ≡ Some (record { 0 = t })
  pub begins : f.first ≡ 0
  pub ends : f.last ≡ last

pub record AreLives (lives : Lives) (made : List Life) (joined : List Join) : Type 0 where
  pub making : lives.made.items ≡ made
  pub joining : lives.joined.items ≡ joined

-- the circle of the two closes for all that the other reasons say, and not for all that they and
-- this one say
abbrev pub IsKeptBy : Reason → Lives → Fact → Fact → Type 0
IsKeptBy reason lives f g =
    (closes all_reasons lives (f ∷ g ∷ []) (0 ∷ 1 ∷ []) ≡ false)
    × (closes (all_but reason) lives (f ∷ g ∷ []) (0 ∷ 1 ∷ []) ≡ true)

-- ---- of threads of which no more is known

abbrev pub AloneByThread : Type 0
AloneByThread =
    (f g : Fact) (lives : Lives) → AreLives lives [] []
    → IsFact f (exclusive 1) (exclusive 2) [] Plain false 1 9
    → IsFact g (exclusive 2) (exclusive 1) [] Plain false 1 9 → IsKeptBy OneThread lives f g

-- both held lock 3, the one of them as a reader
abbrev pub AloneByGate : Type 0
AloneByGate =
    (f g : Fact) (lives : Lives) → AreLives lives [] []
    → IsFact f (exclusive 1) (exclusive 2) (exclusive 3 ∷ []) Plain false 1 9
    → IsFact g (exclusive 2) (exclusive 1) (shared 3 ∷ []) Plain false 2 9
    → IsKeptBy Gate lives f g

-- both have lock 1 as readers
abbrev pub AloneByReaders : Type 0
AloneByReaders =
    (f g : Fact) (lives : Lives) → AreLives lives [] []
    → IsFact f (shared 1) (exclusive 2) [] Plain false 1 9
    → IsFact g (exclusive 2) (shared 1) [] Plain false 2 9 → IsKeptBy Readers lives f g

abbrev pub AloneByLimit : Type 0
AloneByLimit =
    (f g : Fact) (lives : Lives) → AreLives lives [] []
    → IsFact f (exclusive 1) (exclusive 2) [] Timed false 1 9
    → IsFact g (exclusive 2) (exclusive 1) [] Plain false 2 9 → IsKeptBy Limit lives f g

-- both ask as a wait for a condition ends
abbrev pub AloneByWaits : Type 0
AloneByWaits =
    (f g : Fact) (lives : Lives) → AreLives lives [] []
    → IsFact f (exclusive 1) (exclusive 2) [] EndsWait false 1 9
    → IsFact g (exclusive 2) (exclusive 1) [] EndsWait false 2 9 → IsKeptBy Waits lives f g

-- the one does, and the other took its lock under the one that the first keeps
abbrev pub AloneByWait : Type 0
AloneByWait =
    (f g : Fact) (lives : Lives) → AreLives lives [] []
    → IsFact f (exclusive 1) (exclusive 2) [] EndsWait false 1 9
    → IsFact g (exclusive 2) (exclusive 1) [] Plain true 2 9 → IsKeptBy Waits lives f g

-- thread 1 did so before there was another thread
abbrev pub AloneAtFirst : Type 0
AloneAtFirst =
    (f g : Fact) (lives : Lives) → AreLives lives [] []
    → IsFact f (exclusive 1) (exclusive 2) [] Plain false 1 0
    → IsFact g (exclusive 2) (exclusive 1) [] Plain false 2 9 → IsKeptBy Apart lives f g

-- ---- thread 1 makes thread 2, joins it, and makes thread 3

abbrev pub makes_two : List Life
makes_two =
    record { thread = record { 0 = 2 }; maker = record { 0 = 1 }; made_at = 0 }
    ∷ record { thread = record { 0 = 3 }; maker = record { 0 = 1 }; made_at = 2 } ∷ []

abbrev pub joins_one : List Join
joins_one = record { thread = record { 0 = 2 }; by = record { 0 = 1 }; at = 1 } ∷ []

-- thread 2 had ended before thread 3 was made
abbrev pub AloneByJoin : Type 0
AloneByJoin =
    (f g : Fact) (lives : Lives) → AreLives lives makes_two joins_one
    → IsFact f (exclusive 1) (exclusive 2) [] Plain false 2 9
    → IsFact g (exclusive 2) (exclusive 1) [] Plain false 3 9 → IsKeptBy Apart lives f g

-- thread 1 did so last before it made thread 3
abbrev pub AloneByMaking : Type 0
AloneByMaking =
    (f g : Fact) (lives : Lives) → AreLives lives makes_two joins_one
    → IsFact f (exclusive 1) (exclusive 2) [] Plain false 1 2
    → IsFact g (exclusive 2) (exclusive 1) [] Plain false 3 9 → IsKeptBy Apart lives f g
