use Rattle.std.proofs.Common.{◌≤◌}
use Rattle.wit_documents.proofs.log.put_piece.Given as goal

-- what is added next begins before that place
abbrev pub invariant-loop-at : goal.invariant-loop-at
invariant-loop-at g l = l.from ≤ l.at
