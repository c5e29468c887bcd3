-- Where a held lock stands in its list.
use Rattle.std.specs.Prelude.{ℕ, ◌≡◌, ◌+◌, ◌<◌, List, Some, find, length, position, take}
use Rattle.wit_model.specs.declared.locks.Instance.{Instance}
use Rattle.wit_model.specs.Rules.Groups.{flat}
use Rattle.wit_model.specs.Rules.Chunks.{Chunks, IsSpot, groups_of, group_of, chain_of}
use Rattle.wit_model.specs.Rules.Verdict.{is_of}
use Rattle.wit_held.specs.declared.spots.Found.{Found}

-- its place in the groups joined, oldest first
abbrev pub place_at : List (List Instance) → Found → ℕ
place_at gs f = length (flat (take f.spot.group gs)) + f.index

abbrev pub held_at : Found → Instance
held_at f = f.held

-- the list holds the lock with this number there first
pub record IsThere (c : Chunks) (list l : ℕ) (f : Found) : Type 0 where
  pub spot : IsSpot c list f.spot
  pub index : f.index < length (group_of c list f.spot)
  pub place : Some (place_at (groups_of c list) f) ≡ position (is_of l) (chain_of c list)
  pub held : Some f.held ≡ find (is_of l) (chain_of c list)
