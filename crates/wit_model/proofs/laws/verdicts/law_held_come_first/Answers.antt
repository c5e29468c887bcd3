use Rattle.std.proofs.Common.{refl}
use Rattle.wit_model.specs.Rules.History.{num, place, mode, mark, site}
use Rattle.wit_model.specs.Rules.SeatGroups.{seat_groups}
use Rattle.wit_model.proofs.VerdictLaws.AheadLaws.{ahead-at_check}
use Rattle.wit_model.proofs.laws.verdicts.law_held_come_first.Goals as goal

pub returns-clause-ahead : goal.returns-clause-ahead
returns-clause-ahead c =
    λ start files e h q l unblessed legal clean asks unheld holds.
    ahead-at_check start files unblessed e h q l legal clean asks unheld holds

pub returns-clause-met : goal.returns-clause-met
unfolding num place mode mark site seat_groups
returns-clause-met c =
    (refl, ((refl, refl, (refl, refl, (refl, refl, (refl, refl, (refl, refl, tt))))), refl))
