use Rattle.wit_shared.proofs.Own.{check_finds}
use Rattle.wit_shared.proofs.shared.Shared.check.Goals as goal

pub returns-clause-file : goal.returns-clause-file
returns-clause-file g c =
    check_finds g.J.Room.start (record {
      lock = c.args.lock;
      site = c.args.site;
      mode = c.args.mode;
      ops = c.args.ops;
    }) c.call.result c.args.seat.now c.call.new.seat c.call.ensures
