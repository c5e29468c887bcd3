-- Which place of a block an address is.
use Rattle.std.specs.Prelude.{◌≡◌, ℕ, ◌+◌, ◌-◌, ◌*◌, ◌/◌, ◌<◌}
use Rattle.std.specs.Prelude.{List, length, Option, None, Some, get_or}
use Rattle.std.specs.Mem.{type_size}
use denote.RattleType.{RattleType}
use denote.RawPtr.{Ptr, block_ptr, null_ptr, count_of}

module _ (R : RattleType) where
  -- where the n-th place of the block at this address lies
  abbrev pub spot_at : Ptr → ℕ → Ptr
  spot_at (block_ptr b o) n = block_ptr b (n * type_size R + o)
  spot_at null_ptr n = null_ptr

  -- which place lies at an address
  unfoldable pub spot : Ptr → Ptr → ℕ
  spot at p = (count_of p - count_of at) / type_size R

  -- a place of the block
  abbrev pub IsPlace : Ptr → List (Option R.Denot) → Ptr → Type 0
  IsPlace at cs p = (p ≡ spot_at at (spot at p)) × (spot at p < length cs)

  -- a place of the block that holds a value
  abbrev pub IsSpot : Ptr → List (Option R.Denot) → Ptr → Type 0
  IsSpot at cs p =
      (p ≡ spot_at at (spot at p)) × ((x : R.Denot) × (get_or cs (spot at p) None ≡ Some x))
