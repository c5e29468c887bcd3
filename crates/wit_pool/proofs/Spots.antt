-- The place with a number has that number.
use Rattle.std.proofs.Common.{◌≡◌, ℕ, ◌+◌, ◌-◌, ◌*◌, ◌/◌, ◌<◌, ap, ◌∙◌, arith}
use Rattle.std.proofs.Math.Nat.{mul-div_cancel}
use Rattle.std.specs.Mem.{type_size}
use denote.RattleType.{RattleType}
use denote.RawPtr.{block_ptr}
use Rattle.wit_pool.specs.Places.{spot, spot_at}

pub spot-back : (R : RattleType) (b o n : ℕ) → 0 < type_size R
    → spot R (block_ptr b o) (spot_at R (block_ptr b o) n) ≡ n
unfolding spot
spot-back R b o n wide =
    let past : n * type_size R + o - o ≡ n * type_size R = omega arith in
    ap (λ k. k / type_size R) past ∙ mul-div_cancel n wide
