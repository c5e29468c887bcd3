use Rattle.wit_alarms.proofs.Shown.{agreed-shown, crossed-shown}
use Rattle.wit_alarms.proofs.laws.law_facts_kept.Goals as goal

pub returns-clause-agreed : goal.returns-clause-agreed
returns-clause-agreed c = λ f g lives one two unknown. agreed-shown f g lives unknown one two

pub returns-clause-crossed : goal.returns-clause-crossed
returns-clause-crossed c = λ f g lives one two unknown. crossed-shown f g lives unknown one two
