use Rattle.wit_errands.proofs.GatedRuns.{never-hangs}
use Rattle.wit_errands.proofs.laws.law_gated_runs.Goals as goal

pub returns : goal.returns
returns c = λ start v w threads gate gated reordered circle.
    never-hangs start v w gate gated reordered threads circle
