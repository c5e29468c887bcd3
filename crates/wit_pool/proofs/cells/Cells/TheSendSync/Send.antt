use denote.RattleType.{RattleType}
use denote.Param.Send.{IsSend}
use Rattle.wit_pool.specs.contracts.cells.Cells.{the_row}
use Rattle.wit_pool.proofs.Threads.{Cells-send}

pub send : (R : RattleType) → IsSend R → IsSend (the_row R)
send = Cells-send
