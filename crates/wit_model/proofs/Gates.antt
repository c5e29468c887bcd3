-- A gate's word, by cases and as a sum.
use Rattle.std.proofs.Common.{ℕ, ◌≤◌, arith, ⊎_elim, inl, inr}
use native.Mathlib.Decide.{dec_le}
use Rattle.wit_model.specs.Gates.{IsGateWord, AddsUp}

pub adds_up : (word shares exclusives : ℕ) → IsGateWord word shares exclusives
    → AddsUp word shares exclusives
adds_up word shares exclusives w = ⊎_elim (λ alone. omega arith) (λ shared. omega arith) w

from_sum_at : (word shares exclusives : ℕ) → Dec (exclusives ≤ 0) → AddsUp word shares exclusives
    → IsGateWord word shares exclusives
from_sum_at word shares exclusives (yes none) a = inr (omega arith)
from_sum_at word shares exclusives (no some) a = inl (omega arith)

pub from_sum : (word shares exclusives : ℕ) → AddsUp word shares exclusives
    → IsGateWord word shares exclusives
from_sum word shares exclusives = from_sum_at word shares exclusives (dec_le exclusives 0)
