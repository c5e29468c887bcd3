-- Where a seat stands in its sequence, as it is kept.
use Rattle.std.specs.Prelude.{ℕ, Bool, false, ◌==◌}
use Rattle.wit_model.specs.World.Stages.{Stage, Over, Asked, Taken, Tried, Forgot, Raised, Lowered}
use Rattle.wit_world.specs.declared.stages.Stage as declared
use Rattle.wit_world.specs.declared.stages.Stage.TheVariants as kept

abbrev pub stage_of : declared.Stage → Stage
stage_of kept.Over = Over
stage_of (kept.Asked q) = Asked q
stage_of (kept.Taken l) = Taken l.0
stage_of (kept.Tried l mode) = Tried l.0 mode
stage_of (kept.Forgot l may_keep) = Forgot l.0 may_keep
stage_of (kept.Raised l) = Raised l.0
stage_of (kept.Lowered l passed) = Lowered l.0 passed

-- whether it called unlock, or downgrade, for this lock last
abbrev pub is_forgotten : ℕ → Stage → Bool
is_forgotten l (Forgot m may_keep) = m == l
is_forgotten l _ = false

abbrev pub is_lowered : ℕ → Stage → Bool
is_lowered l (Lowered m passed) = m == l
is_lowered l _ = false
