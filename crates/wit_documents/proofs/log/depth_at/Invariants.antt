use Rattle.std.proofs.Common.{◌*◌, ◌≤◌, length}
use Rattle.wit_documents.proofs.log.depth_at.Given as goal

-- so many pairs of spaces were seen
abbrev pub invariant-loop-depth : goal.invariant-loop-depth
invariant-loop-depth l = 2 * l.depth ≤ length l.rest
