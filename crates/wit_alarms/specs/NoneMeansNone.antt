-- None means none: where no circle of facts closes, threads that ask only as the facts say reach no
-- deadlock.
use Rattle.std.specs.Prelude.{ℕ, ◌≡◌, Bool, true, false, List}
use Rattle.std.specs.List.{AllByRecursion}
use Rattle.wit_model.specs.declared.calls.Request.{Request}
use Rattle.wit_model.specs.Rules.State.{Start}
use Rattle.wit_model.specs.World.Deeds.{own}
use Rattle.wit_model.specs.World.Stages.{Asked, stage}
use Rattle.wit_model.specs.World.Waiting.{IsDeadlock}
use Rattle.wit_alarms.specs.declared.facts.Fact.{Fact}
use Rattle.wit_alarms.specs.declared.facts.Lives.{Lives}
use Rattle.wit_alarms.specs.declared.grade.Cause.{Cause}
use Rattle.wit_alarms.specs.declared.grade.Grade.TheVariants.{Never}
use Rattle.wit_alarms.specs.Courses.{Event, own_events, deeds, IsCourse}
use Rattle.wit_alarms.specs.Facts.{NoneCloses, all_reasons}
use Rattle.wit_alarms.specs.Grades.{IsGrade}
use Rattle.wit_alarms.specs.Keeping.{AsksAsSaid}

-- t asks for one of these locks, and not with a time limit
pub record AsksForGood (these : ℕ → Bool) (limited : List Event → Bool) (c : List Event) (t : ℕ)
    : Type 0 where
  pub one : (q : Request) → stage t (own t (deeds c)) ≡ Asked q → these q.lock.0 ≡ true
  pub unlimited : limited (own_events t c) ≡ false

-- no moment of such a course has threads that wait for one another in a circle, for good, and for
-- these locks
abbrev pub NoneMeansNone : Type 0
NoneMeansNone =
    (start : Start) (files : List (List ℕ)) (first : ℕ) (lives : Lives) (facts : List Fact)
    (these : ℕ → Bool) (limited : List Event → Bool) (c : List Event) (threads : List ℕ)
    → IsCourse start files first lives c → AsksAsSaid these facts lives limited first c
    → NoneCloses all_reasons lives facts
    → AllByRecursion (AsksForGood these limited c) threads
    → IsDeadlock (deeds c) threads → ⊥

-- so it is where the grade of the facts is that no circle closes, whatever the cause
abbrev pub NeverMeansNever : Type 0
NeverMeansNever =
    (start : Start) (files : List (List ℕ)) (first : ℕ) (lives : Lives) (facts : List Fact)
    (these : ℕ → Bool) (limited : List Event → Bool) (c : List Event) (threads : List ℕ)
    (are_all : Bool) (cause : Cause)
    → IsGrade lives facts are_all (Never cause)
    → IsCourse start files first lives c → AsksAsSaid these facts lives limited first c
    → AllByRecursion (AsksForGood these limited c) threads
    → IsDeadlock (deeds c) threads → ⊥
