use Rattle.std.proofs.Common.{refl}
use Rattle.wit_model.specs.Rules.History.{num, place, mode, mark, site}
use Rattle.wit_model.specs.Rules.SeatGroups.{seat_groups}
use Rattle.wit_model.specs.World.Examples.{files}
use Rattle.wit_model.specs.World.Tried.{small_all_held, tried_in_turn, tried_crossed}
use Rattle.wit_model.proofs.World.Runs.{is_world}
use Rattle.wit_model.proofs.World.TriedCrossed.{tried-begins, first_waits_tried, second_waits_tried}
use Rattle.wit_model.proofs.laws.worlds.law_circle_reached_all_held.Goals as goal

pub returns-clause-run : goal.returns-clause-run
unfolding num place mode mark site seat_groups
returns-clause-run c = (is_world small_all_held files tried_in_turn refl refl, refl)

pub returns-clause-reordering : goal.returns-clause-reordering
unfolding num place mode mark site seat_groups
returns-clause-reordering c = record {
  files = files;
  world = is_world small_all_held files tried_crossed refl refl;
  same = tried-begins;
}

pub returns-clause-circle : goal.returns-clause-circle
returns-clause-circle c = (first_waits_tried, second_waits_tried)
