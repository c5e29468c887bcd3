use Rattle.wit_model.proofs.Chains.Regrouping.{groups-short, groups-tidy}
use Rattle.wit_model.proofs.laws.groups.law_groups_are_tidy.Goals as goal

pub returns-clause-short : goal.returns-clause-short
returns-clause-short c = groups-short

pub returns-clause-tidy : goal.returns-clause-tidy
returns-clause-tidy c = groups-tidy
