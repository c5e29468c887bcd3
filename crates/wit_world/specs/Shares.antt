-- Shares of locks as callers see them, and what they keep.
use Rattle.std.specs.Prelude.{ℕ, ◌-◌, ◌≤◌, List, ◌++◌, length, replicate}
use Rattle.wit_model.specs.World.Scenes.{RawLock, nobodys}
use Rattle.wit_world.specs.Holders.{all_had}
use Rattle.wit_world.specs.declared.shares.Shares.TheInside as shares
use Rattle.wit_world.specs.declared.raw.Raw.TheInside as raw

abbrev pub shares_in : shares.Inside → RawLock
shares_in s = record { mode = s.mode; holders = all_had s.holders.items }

-- n locks, of which those behind these are nobody's
abbrev pub up_to : ℕ → List RawLock → List RawLock
up_to n locks = locks ++ replicate (n - length locks) nobodys

abbrev pub raw_in : raw.Inside → List RawLock
raw_in r = up_to r.made r.locks.items

-- none has a place that wasn't made
abbrev pub AreMade : raw.Inside → Type 0
AreMade r = length r.locks.items ≤ r.made
