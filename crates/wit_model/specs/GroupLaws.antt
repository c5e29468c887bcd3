-- Laws of the groups in which held locks lie.
use Rattle.std.specs.Prelude.{ℕ, ◌+◌, ◌≡◌, Bool, List, sum_by}
use Rattle.wit_model.specs.declared.calls.Entry.{Entry}
use Rattle.wit_model.specs.Rules.History.{chain}
use Rattle.wit_model.specs.Rules.Groups.{flat, AreShort, AreTidy}
use Rattle.wit_model.specs.Rules.SeatGroups.{seat_groups, held_groups}
use Rattle.wit_model.specs.Rules.State.{Start, Story, state_of, chunks_of, free}
use Rattle.wit_model.specs.Rules.Step.{IsLegal}

-- after a legal history the groups joined in order are the chain
abbrev pub GroupsMakeChains : Type 0
GroupsMakeChains =
    (start : Start) (files : List (List ℕ)) (h : List Entry) → IsLegal start files h
    → (kind : Bool) (t : ℕ) → flat (held_groups kind t h) ≡ chain kind t h

-- no group has more than five locks
abbrev pub GroupsAreShort : Type 0
GroupsAreShort = (kind : Bool) (t : ℕ) (h : List Entry) → AreShort (seat_groups kind t h)

-- none is empty unless it is the only one
abbrev pub GroupsAreTidy : Type 0
GroupsAreTidy = (kind : Bool) (t : ℕ) (h : List Entry) → AreTidy (seat_groups kind t h)

-- after a legal history the free chunks and those of all seats are all chunks
abbrev pub ChunksAddUp : Type 0
ChunksAddUp =
    (s : Story) → IsLegal s.start s.files s.history
    → free (state_of s) + sum_by chunks_of (state_of s).seats ≡ s.start.sizes.chunks
