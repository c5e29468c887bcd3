use Rattle.wit_alarms.proofs.So.{same-so}
use Rattle.wit_alarms.proofs.laws.law_same_means_so.Goals as goal

pub returns : goal.returns
returns c = record { same = same-so }
