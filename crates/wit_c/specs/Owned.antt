-- What a handle has.
use Rattle.std.specs.Prelude.{Option, None, Some}
use base.Fml.{Fml, ftrue}
use mir.Syntax.{Ty}
use denote.RattleType.{RattleType}
use denote.RawPtr.{Ptr}
use Rattle.std_alloc.specs.Box.Ownership.{box_owns}

-- a value on the heap, with the right to free it, or nothing
abbrev pub owned : (Ty → Ptr → Fml) → (R : RattleType) → Ptr → Option R.Denot → Fml
owned may_free R at None = ftrue
owned may_free R at (Some value) = box_owns may_free R at value
