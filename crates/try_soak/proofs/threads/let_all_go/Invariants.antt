use Rattle.std.proofs.Common.{vec_len}
use Rattle.try_soak.proofs.threads.let_all_go.Given as goal

abbrev pub decreases-loop-worker : goal.decreases-loop-worker
decreases-loop-worker g l = vec_len l.workers
