use Rattle.std.proofs.Common.{◌-◌, length}
use Rattle.wit_traced.proofs.heads.+head_from.Given as goal

-- what was not read
abbrev pub decreases-head_from : goal.decreases-head_from
decreases-head_from l = length l.bytes.now - l.at
