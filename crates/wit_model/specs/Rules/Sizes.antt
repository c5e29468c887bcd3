-- How much a verifier holds.
use Rattle.std.specs.Prelude.{ℕ, Bool, ◌&&◌}
use Rattle.wit_model.specs.declared.sizes.TheConstants.Limits.{MOST_SEATS, MOST_TYPES}
use Rattle.wit_model.specs.declared.sizes.TheConstants.Limits.{MOST_LOCKS, MOST_CHUNKS}
use Rattle.wit_model.specs.declared.sizes.TheConstants.Limits.{MOST_ENTRIES}
use Rattle.wit_model.specs.Rules.Numbers.{is_number, IsNumber}

-- seats, lock types, locks ever made, chunks of held locks, entries of the log
pub record Sizes : Type 0 where
  pub seats : ℕ
  pub types : ℕ
  pub locks : ℕ
  pub chunks : ℕ
  pub log : ℕ

-- the sizes with these numbers
abbrev pub sizes_of : ℕ → ℕ → ℕ → ℕ → ℕ → Sizes
sizes_of s t l c n = record { seats = s; types = t; locks = l; chunks = c; log = n }

-- each is at least 1, and at most what a verifier can hold
pub record AreWithinLimits (s : Sizes) : Type 0 where
  pub seats : IsNumber MOST_SEATS s.seats
  pub types : IsNumber MOST_TYPES s.types
  pub locks : IsNumber MOST_LOCKS s.locks
  pub chunks : IsNumber MOST_CHUNKS s.chunks
  pub log : IsNumber MOST_ENTRIES s.log

-- the test for it
abbrev pub are_within_limits : Sizes → Bool
are_within_limits s =
    is_number MOST_SEATS s.seats && (is_number MOST_TYPES s.types && (is_number MOST_LOCKS s.locks
    && (is_number MOST_CHUNKS s.chunks && is_number MOST_ENTRIES s.log)))
