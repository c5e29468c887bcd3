use Rattle.std.proofs.Common.{length}
use Rattle.wit_tellings.proofs.tellers.+put_hads.Given as goal

abbrev pub decreases-put_hads : goal.decreases-put_hads
decreases-put_hads l = length l.locks.now
