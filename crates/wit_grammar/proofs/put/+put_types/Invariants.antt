use Rattle.std.proofs.Common.{length}
use Rattle.wit_grammar.proofs.put.+put_types.Given as goal

-- the types that are left
abbrev pub decreases-put_types : goal.decreases-put_types
decreases-put_types l = length l.types.now
