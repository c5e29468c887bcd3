use Rattle.std.proofs.Common.{arith}
use Rattle.wit_condensed.proofs.Bits.{bit_added}
use Rattle.wit_condensed.proofs.row.add_bit.Goals as goal

pub returns : goal.returns
returns c = bit_added c.args.row.now c.args.held (omega arith)
