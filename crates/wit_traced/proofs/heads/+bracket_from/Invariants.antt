use Rattle.std.proofs.Common.{◌-◌, length}
use Rattle.wit_traced.proofs.heads.+bracket_from.Given as goal

-- what was not read
abbrev pub decreases-bracket_from : goal.decreases-bracket_from
decreases-bracket_from l = length l.bytes.now - l.at
