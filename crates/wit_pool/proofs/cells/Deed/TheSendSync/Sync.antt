use denote.RattleType.{RattleType}
use denote.Param.Send.{IsSync}
use Rattle.core.specs.declared.alloc.Allocator.{Ghosts}
use Rattle.wit_pool.specs.contracts.cells.Deed.{the_row}
use Rattle.wit_pool.proofs.Threads.{Deed-sync}

pub sync : (R A : RattleType) (g : Ghosts A.Denot) → IsSync (the_row R A g)
sync = Deed-sync
