use denote.RattleType.{RattleType}
use denote.Param.Send.{IsSend, Frees}
use Rattle.core.specs.declared.alloc.Allocator.{Ghosts}
use Rattle.wit_pool.specs.contracts.cells.Deed.{the_row}
use Rattle.wit_pool.proofs.Threads.{Deed-send}

pub send : (R A : RattleType) (g : Ghosts A.Denot) → IsSend A → Frees g g.dealloc_token
    → IsSend (the_row R A g)
send R A g s = Deed-send R A g
