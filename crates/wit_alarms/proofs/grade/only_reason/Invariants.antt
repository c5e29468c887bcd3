use Rattle.std.proofs.Common.{ℕ, ◌<◌, slice_index_or}
use Rattle.wit_alarms.specs.declared.grade.Reason.TheVariants.{OneThread}
use Rattle.wit_alarms.specs.Facts.{NoneCloses}
use Rattle.wit_alarms.specs.Grades.{all_but}
use Rattle.wit_alarms.proofs.grade.only_reason.Given as goal

-- none of the reasons so far is the only one
abbrev pub invariant-loop-reason : goal.invariant-loop-reason
invariant-loop-reason l =
    (k : ℕ) → k < l.reason-index
    → NoneCloses (all_but (slice_index_or l.reason-items k OneThread)) l.lives l.facts
