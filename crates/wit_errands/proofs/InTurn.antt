-- The run in turn meets the premises of the law.
use Rattle.std.proofs.Common.{[], ◌∷◌, ◌++◌, reverse, refl, arith}
use Rattle.wit_model.specs.declared.calls.Reply.TheVariants.{Pass, Adopted, Recorded}
use Rattle.wit_model.specs.declared.calls.Call.TheVariants.{Check, Note}
use Rattle.wit_model.specs.Rules.History.{num, place, mode, mark, site}
use Rattle.wit_model.specs.Rules.SeatGroups.{seat_groups}
use Rattle.wit_model.specs.declared.locks.Mode.TheVariants.{Exclusive}
use Rattle.wit_model.specs.World.Deeds.{Take}
use Rattle.wit_model.specs.World.Examples.{small, files, by, request, locks, unlocks}
use Rattle.wit_model.specs.World.Examples.{reverses}
use Rattle.wit_model.proofs.World.Runs.{is_world}
use Rattle.wit_errands.specs.Settled.{IsSettled}
use Rattle.wit_errands.specs.Errands.{Errand}
use Rattle.wit_errands.specs.Examples.{two_made, then_in_turn, InTurnReverses}

settled : IsSettled small files two_made then_in_turn
unfolding num place mode mark site seat_groups
settled = record {
  world = is_world small files (then_in_turn ++ two_made) refl refl;
  nothing = λ t l. refl;
  watched = refl;
  calm = refl;
  chunks = omega arith;
  log = omega arith;
}

first_errand : Errand 1 two_made then_in_turn
unfolding num
first_errand = record {
  before = [];
  way = reverse (locks 1 1 1 Pass);
  entry =
      record {
        seat = record { 0 = 1 };
        call = Check (request 2 2);
        reply = Adopted (record { 0 = 1 }) (record { 0 = 2 });
      };
  request = request 2 2;
  after =
      reverse (Take 1 2 Exclusive ∷ by 1 (Note (record { 0 = 2 })) Recorded ∷ unlocks 1 2
      ++ unlocks 1 1);
  whole = refl;
  asks = refl;
  nothing = λ l. refl;
  unheld = refl;
}

second_errand : Errand 2 two_made then_in_turn
unfolding num
second_errand = record {
  before = [];
  way = reverse (locks 2 2 3 Pass);
  entry =
      record {
        seat = record { 0 = 2 };
        call = Check (request 1 4);
        reply = reverses 2 3 1 4;
      };
  request = request 1 4;
  after = [];
  whole = refl;
  asks = refl;
  nothing = λ l. refl;
  unheld = refl;
}

pub in_turn-reverses : InTurnReverses
unfolding first_errand second_errand
in_turn-reverses = (refl, settled, (first_errand, second_errand, refl, refl, refl))
