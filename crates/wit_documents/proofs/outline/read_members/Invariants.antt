use Rattle.std.proofs.Common.{◌≤◌, length}
use Rattle.wit_documents.proofs.outline.read_members.Given as goal

abbrev pub invariant-loop-key : goal.invariant-loop-key
invariant-loop-key l = length l.reader ≤ length l.initial.reader

abbrev pub decreases-loop-key : goal.decreases-loop-key
decreases-loop-key l = length l.reader
