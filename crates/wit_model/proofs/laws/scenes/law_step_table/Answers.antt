use Rattle.std.proofs.Common.{refl}
use Rattle.wit_model.specs.Rules.History.{num, place, mode, mark, site}
use Rattle.wit_model.specs.Rules.SeatGroups.{seat_groups}
use Rattle.wit_model.proofs.laws.scenes.law_step_table.Goals as goal

pub returns-clause-lines : goal.returns-clause-lines
unfolding num place mode mark site seat_groups
returns-clause-lines c =
    (refl, refl, refl, refl, refl, refl, refl, refl, refl, refl, refl, refl)

pub returns-clause-others : goal.returns-clause-others
unfolding num place mode mark site seat_groups
returns-clause-others c = (refl, refl, refl, refl, refl, refl, refl)

pub returns-clause-admits : goal.returns-clause-admits
returns-clause-admits c = (refl, refl, refl, refl, refl, refl, refl)
