use Rattle.std.proofs.Common.{refl}
use Rattle.wit_model.specs.Rules.History.{num, place, mode, mark, site}
use Rattle.wit_model.specs.Rules.SeatGroups.{seat_groups}
use Rattle.wit_model.specs.World.Waiting.{IsWaiting}
use Rattle.wit_model.specs.World.Examples.{small, files, in_turn, crossed}
use Rattle.wit_model.proofs.World.Crossed.{begins, none_waits, one_waits, two_waits}
use Rattle.wit_model.proofs.World.Rounds.{first_waits}
use Rattle.wit_model.proofs.World.Runs.{is_world}
use Rattle.wit_model.proofs.laws.worlds.law_circle_reached.Goals as goal

pub returns-clause-run : goal.returns-clause-run
unfolding num place mode mark site seat_groups
returns-clause-run c = (refl, is_world small files in_turn refl refl)

pub returns-clause-none : goal.returns-clause-none
returns-clause-none c = λ threads circle. let two =
    first_waits (IsWaiting in_turn) threads circle in none_waits two.0 two.1 two.2

pub returns-clause-reordering : goal.returns-clause-reordering
unfolding num place mode mark site seat_groups
returns-clause-reordering c = record {
  files = files;
  world = is_world small files crossed refl refl;
  same = begins;
}

pub returns-clause-circle : goal.returns-clause-circle
returns-clause-circle c = (one_waits, two_waits)
