use Rattle.std.proofs.Common.{◌-◌, arith}
use Rattle.wit_waiting.proofs.WaitTables.{row-length, said}
use Rattle.wit_waiting.proofs.circle.says.Goals as goal

pub index-requires : goal.index-requires
index-requires c =
    omega (
      arith,
      row-length c.args.rows.now (c.args.other.0 - 1) c.index-rows-other.result
          c.requires.table (omega arith) c.index-rows-other.is,
    )

pub returns : goal.returns
returns c =
    said c.args.rows.now c.args.seat.0 c.args.other.0 c.index-rows-other.result c.index.result.now
    c.requires.table c.requires.seat c.requires.other c.index-rows-other.is c.index.ensures
