use denote.RattleType.{RattleType}
use denote.Param.Send.{IsSync}
use Rattle.wit_pool.specs.contracts.cells.Cells.{the_row}
use Rattle.wit_pool.proofs.Threads.{Cells-sync}

pub sync : (R : RattleType) → IsSync R → IsSync (the_row R)
sync = Cells-sync
