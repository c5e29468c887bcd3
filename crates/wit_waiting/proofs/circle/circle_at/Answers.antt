use Rattle.std.proofs.Common.{refl, arith}
use Rattle.wit_waiting.specs.Searching.{table_of}
use Rattle.wit_waiting.proofs.Ways.{way_more}
use Rattle.wit_waiting.proofs.circle.circle_at.Goals as goal

pub loop-at-preserved : goal.loop-at-preserved
loop-at-preserved c =
    way_more (table_of c.args.rows.now) c.args.reached.now c.loop-at.circle.items
    c.push-in-loop-at.new.self.items c.loop-at.at _ c.requires.trail c.loop-at.invariant
    (omega arith) refl c.in_ok-push-2.ensures.items
