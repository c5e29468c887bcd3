-- What keeps to facts keeps to those of some locks, at requests for these.
use Rattle.std.proofs.Common.{◌≡◌, ℕ, zero, suc, Bool, true, List, [], ◌∷◌}
use Rattle.std.proofs.Common.{Some, slice_get, filter, refl, ap, ◌∙◌, inl, inr}
use Rattle.std.proofs.lemmas.Bool.{and_from, cases_Bool}
use Rattle.wit_model.specs.World.Deeds.{Logged, PassedOver, Take, TryTake, Free, RawUp}
use Rattle.wit_model.specs.World.Deeds.{RawDown}
use Rattle.wit_alarms.specs.declared.facts.Fact.{Fact}
use Rattle.wit_alarms.specs.declared.facts.Lives.{Lives}
use Rattle.wit_alarms.specs.Courses.{Event, Does, Makes, Joins}
use Rattle.wit_alarms.specs.Chosen.{is_between}
use Rattle.wit_alarms.specs.Examples.{all_locks}
use Rattle.wit_alarms.specs.Keeping.{IsSaidAt, IsAllSaid}

-- what passes stands among those that pass
among-chosen : (p : Fact → Bool) (facts : List Fact) (i : ℕ) (f : Fact)
    → slice_get facts i ≡ Some f → p f ≡ true
    → (j : ℕ) × (slice_get (filter p facts) j ≡ Some f)
among-chosen p [] i f is passes = (cc)
among-chosen p (x ∷ facts) zero f is passes =
    let same : x ≡ f = cc in
    (0, rw (ap p same ∙ passes) is)
among-chosen p (x ∷ facts) (suc i) f is passes =
    let rest = among-chosen p facts i f is passes in
    elim (cases_Bool (p x)) [
      | inl kept ↦ (suc rest.0, rw kept rest.1)
      | inr dropped ↦ (rest.0, rw dropped rest.1)
    ]

module _ (these : ℕ → Bool) (facts : List Fact) (lives : Lives) (limited : List Event → Bool)
    (first t : ℕ) where
  said-at : (e : Event) (own : List Event) → IsSaidAt all_locks facts lives limited first t e own
      → IsSaidAt these (filter (is_between these) facts) lives limited first t e own
  said-at (Does (Logged e)) own said = λ q l asks unheld wanted had some.
      let whole = said q l asks unheld refl refl some in
      let place =
      among-chosen (is_between these) facts whole.place whole.fact whole.told
      (and_from (these whole.fact.held.lock.0) (these whole.fact.asked.lock.0)
      (ap these whole.held ∙ had) (ap these whole.asked ∙ wanted)) in
      record {
        place = place.0;
        fact = whole.fact;
        told = place.1;
        held = whole.held;
        held_mode = whole.held_mode;
        asked = whole.asked;
        asked_mode = whole.asked_mode;
        besides = whole.besides;
        thread = whole.thread;
        under = whole.under;
        timed = whole.timed;
        wait_end = whole.wait_end;
        in_time = whole.in_time;
      }
  said-at (Does (Take u m mode)) own said = tt
  said-at (Does (TryTake u m mode)) own said = tt
  said-at (Does (PassedOver u c)) own said = tt
  said-at (Does (Free u m)) own said = tt
  said-at (Does (RawUp u m)) own said = tt
  said-at (Does (RawDown u m)) own said = tt
  said-at (Makes m u) own said = tt
  said-at (Joins b u) own said = tt

  pub all-said : (own : List Event) → IsAllSaid all_locks facts lives limited first t own
      → IsAllSaid these (filter (is_between these) facts) lives limited first t own
  all-said [] said = tt
  all-said (e ∷ own) said = (said-at e own said.0, all-said own said.1)
