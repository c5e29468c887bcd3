use Rattle.std.proofs.Common.{refl}
use Rattle.wit_model.specs.Rules.History.{num, place, mode, mark, site}
use Rattle.wit_model.specs.Rules.SeatGroups.{seat_groups}
use Rattle.wit_model.specs.World.Examples.{small, files}
use Rattle.wit_model.specs.World.Sequences.{varied, scarce, exhausted}
use Rattle.wit_model.proofs.World.Runs.{is_world}
use Rattle.wit_model.proofs.laws.worlds.law_sequences_run.Goals as goal

pub returns-clause-all : goal.returns-clause-all
unfolding num place mode mark site seat_groups
returns-clause-all c = (refl, is_world small files varied refl refl)

pub returns-clause-exhausted : goal.returns-clause-exhausted
unfolding num place mode mark site seat_groups
returns-clause-exhausted c = (refl, is_world scarce files exhausted refl refl)
