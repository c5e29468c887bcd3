use Rattle.wit_model.proofs.Histories.Legal.{sane_legal}
use Rattle.wit_model.proofs.Chains.Regrouping.{groups-chain}
use Rattle.wit_model.proofs.laws.groups.law_groups_make_chains.Goals as goal

pub returns : goal.returns
returns c = λ start files h legal kind t. groups-chain kind t h (sane_legal start files h legal)
