use Rattle.std.proofs.Common.{refl}
use Rattle.wit_model.specs.Rules.History.{num, place, mode, mark, site}
use Rattle.wit_model.specs.Rules.SeatGroups.{seat_groups}
use Rattle.wit_model.specs.World.Examples.{small, files, defined, defined_before}
use Rattle.wit_model.proofs.World.Crossed.{defined-begins}
use Rattle.wit_model.proofs.World.Runs.{is_world}
use Rattle.wit_model.proofs.laws.worlds.law_replies_differ.Goals as goal

pub returns-clause-run : goal.returns-clause-run
unfolding num place mode mark site seat_groups
returns-clause-run c = (refl, is_world small files defined refl refl)

pub returns-clause-reordering : goal.returns-clause-reordering
unfolding num place mode mark site seat_groups
returns-clause-reordering c = record {
  files = files;
  world = is_world small files defined_before refl refl;
  same = defined-begins;
}
