use Rattle.std.proofs.Common.{refl}
use Rattle.wit_model.specs.Rules.History.{num, place, mode, mark, site}
use Rattle.wit_model.specs.Rules.SeatGroups.{seat_groups}
use Rattle.wit_model.specs.World.Examples.{files}
use Rattle.wit_model.specs.World.Tried.{small_all_held, tried}
use Rattle.wit_model.proofs.World.Runs.{is_world}
use Rattle.wit_model.proofs.laws.worlds.law_clean_run_all_held.Goals as goal

pub returns-clause-run : goal.returns-clause-run
unfolding num place mode mark site seat_groups
returns-clause-run c = (refl, is_world small_all_held files tried refl refl)

pub returns-clause-clean : goal.returns-clause-clean
returns-clause-clean c = (refl, refl)
