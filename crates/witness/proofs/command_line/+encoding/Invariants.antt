use Rattle.std.proofs.Common.{length}
use Rattle.witness.proofs.command_line.+encoding.Given as goal

-- the options that are left
abbrev pub decreases-encoding : goal.decreases-encoding
decreases-encoding l = length l.options.now
