-- Lists of held locks in chunks, as their callers see them. Each list is held in groups, and each
-- group lies in a chunk of its own. The lists are counted from 1.
use Rattle.std.specs.Prelude.{ℕ, ◌+◌, ◌-◌, ◌*◌, ◌<◌, ◌≡◌, ◌==◌, Bool, ◌&&◌, List, [], ◌∷◌, ◌++◌}
use Rattle.std.specs.Prelude.{length, map, nat_lt, replicate}
use Rattle.std.specs.Prelude.{slice_get, slice_set, Option, Some, None, if◌then◌else◌}
use Rattle.std.specs.List.{slice_index_or, sum_by, concat}
use Rattle.wit_model.specs.declared.chunks.Spot.{Spot}
use Rattle.wit_model.specs.declared.locks.Instance.{Instance}
use Rattle.wit_model.specs.Rules.Numbers.{IsGiven}
use Rattle.wit_model.specs.Rules.Groups.{flat, joined, opens}

-- how many chunks there are, numbered from 0; each list's groups, oldest first; the chunk of each
-- of these groups; and the free chunks
pub record Chunks : Type 0 where
  pub size : ℕ
  pub groups : List (List (List Instance))
  pub places : List (List ℕ)
  pub unused : List ℕ

-- the list of the locks of one kind that a seat holds
abbrev pub list_of : Bool → ℕ → ℕ
list_of spin seat = if spin then 2 * seat else 2 * seat - 1

abbrev pub IsList : Chunks → ℕ → Type 0
IsList c list = IsGiven c.groups list

abbrev pub groups_of : Chunks → ℕ → List (List Instance)
groups_of c list = slice_index_or c.groups (list - 1) []

-- what a list holds, oldest first
abbrev pub chain_of : Chunks → ℕ → List Instance
chain_of c list = flat (groups_of c list)

-- the chunks in which its groups lie
abbrev pub places_in : Chunks → ℕ → List ℕ
places_in c list = slice_index_or c.places (list - 1) []

-- among these chunks, this one stands there, and that one behind it
pub record StandsIn (places : List ℕ) (s : Spot) : Type 0 where
  pub chunk : slice_get places s.group ≡ Some s.chunk
  pub newer : slice_get places (s.group + 1) ≡ s.newer

-- one of a list's groups lies there
pub record IsSpot (c : Chunks) (list : ℕ) (s : Spot) : Type 0 where
  pub group : s.group < length (groups_of c list)
  pub stands : StandsIn (places_in c list) s

-- how many groups lie there and before it
abbrev pub upto : Option Spot → ℕ
upto None = 0
upto (Some s) = s.group + 1

-- the group that lies there
abbrev pub group_of : Chunks → ℕ → Spot → List Instance
group_of c list s = slice_index_or (groups_of c list) s.group []

-- all groups, where those of this list become others
abbrev pub set_groups : Chunks → ℕ → List (List Instance) → List (List (List Instance))
set_groups c list gs = slice_set c.groups (list - 1) gs

-- no other list's chunks become others
abbrev pub KeepOthers : Chunks → Chunks → ℕ → Type 0
KeepOthers old new list = new.places ≡ slice_set old.places (list - 1) (places_in new list)

-- no room for one more: the list has no chunk or its newest one is full, and none is free
abbrev pub is_refused : Chunks → ℕ → Bool
is_refused c list = opens (groups_of c list) && (length c.unused == 0)

-- all groups, once one more was taken in, or refused
abbrev pub pushed : Chunks → ℕ → Instance → List (List (List Instance))
pushed c list i =
    if is_refused c list then c.groups else set_groups c list (joined i (groups_of c list))

-- how often a number stands in a list
abbrev pub times : ℕ → List ℕ → ℕ
times p [] = 0
times p (q ∷ qs) = if q == p then times p qs + 1 else times p qs

-- each list has a chunk for each of its groups; in all lists and the free list together each chunk
-- stands once, and nothing else; so the groups and the free chunks are as many as there are chunks
pub record IsPlaced (c : Chunks) : Type 0 where
  pub lists : map length c.places ≡ map length c.groups
  pub once : (p : ℕ) → times p (concat c.places ++ c.unused) ≡ if nat_lt p c.size then 1 else 0
  pub all : sum_by length c.groups + length c.unused ≡ c.size

-- lists that hold nothing, with all these chunks free
pub record IsNew (chunks lists : ℕ) (c : Chunks) : Type 0 where
  pub size : c.size ≡ chunks
  pub groups : c.groups ≡ replicate lists []
  pub free : length c.unused ≡ chunks
  pub placed : IsPlaced c
