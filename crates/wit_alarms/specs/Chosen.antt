-- The facts of some locks decide about these locks.
use Rattle.std.specs.Prelude.{ℕ, Bool, ◌&&◌, List, filter}
use Rattle.wit_alarms.specs.declared.facts.Fact.{Fact}
use Rattle.wit_alarms.specs.declared.facts.Lives.{Lives}
use Rattle.wit_alarms.specs.Courses.{Event}
use Rattle.wit_alarms.specs.Examples.{all_locks}
use Rattle.wit_alarms.specs.Keeping.{AsksAsSaid}

-- whether both the held lock and the one that is asked for are of these
abbrev pub is_between : (ℕ → Bool) → Fact → Bool
is_between these f = these f.held.lock.0 && these f.asked.lock.0

-- who asks for all locks as the facts say asks for these as the facts between them say
abbrev pub ChosenFactsAreEnough : Type 0
ChosenFactsAreEnough =
    (these : ℕ → Bool) (facts : List Fact) (lives : Lives) (limited : List Event → Bool)
    (first : ℕ) (c : List Event) → AsksAsSaid all_locks facts lives limited first c
    → AsksAsSaid these (filter (is_between these) facts) lives limited first c
