use Rattle.std.proofs.Common.{length}
use Rattle.wit_grammar.proofs.spellable.+are_within.Given as goal

-- the types that are left
abbrev pub decreases-are_within : goal.decreases-are_within
decreases-are_within l = length l.types.now
