use Rattle.wit_alarms.specs.Courses.{own_events}
use Rattle.wit_alarms.proofs.Choosing.{all-said}
use Rattle.wit_alarms.proofs.laws.law_chosen_facts.Goals as goal

pub returns : goal.returns
returns c = record {
  enough = λ these facts lives limited first course keeps t.
      all-said these facts lives limited first t (own_events t course) (keeps t);
}
