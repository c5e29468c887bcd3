use Rattle.std.proofs.Common.{length}
use Rattle.wit_traced.proofs.heads.+ends_time.Given as goal

-- what was not read
abbrev pub decreases-ends_time : goal.decreases-ends_time
decreases-ends_time l = length l.word.now
