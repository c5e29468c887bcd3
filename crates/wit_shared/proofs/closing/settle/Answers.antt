use Rattle.wit_shared.proofs.Settling.{may_look, left}
use Rattle.wit_shared.proofs.closing.settle.Goals as goal

pub follow-requires : goal.follow-requires
follow-requires g c = record {
  start = c.requires.start;
  grows =
      may_look c.args.keeper.now c.args.verifier.now c.args.keeper.now.handed c.args.seat.seat
      c.requires.same;
}

pub returns-clause-left : goal.returns-clause-left
returns-clause-left g c =
    left g.J.Room.start c.args.keeper.now c.args.verifier.now c.args.keeper.now.handed c.args.seat
    c.follow.new.seat c.requires.same c.follow.ensures.entered
