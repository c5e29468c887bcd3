use Rattle.std.proofs.Common.{◌≡◌, None, drop}
use Rattle.wit_model.specs.Trace.Reading.{parted_at_last}
use Rattle.wit_fields.proofs.names.split_at_last.Given as goal

-- the byte stands nowhere behind
abbrev pub invariant-loop-i : goal.invariant-loop-i
invariant-loop-i l = parted_at_last l.byte (drop l.i l.word) ≡ None
