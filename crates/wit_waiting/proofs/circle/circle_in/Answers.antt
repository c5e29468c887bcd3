use Rattle.std.proofs.Common.{arith}
use Rattle.wit_waiting.specs.Searching.{table_of}
use Rattle.wit_waiting.proofs.WaitTables.{rows-many}
use Rattle.wit_waiting.proofs.Waits.{tells_none}
use Rattle.wit_waiting.proofs.circle.circle_in.Goals as goal

pub returns : goal.returns
returns c =
    tells_none (table_of c.args.rows.now) c.requires.table
    (λ t some most. c.loop-place.invariant t some (omega (arith, most, rows-many c.args.rows.now)))
