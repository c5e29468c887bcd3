-- Chunks by number: what each holds, beside the numbers of each list's chunks, and the free ones.
use Rattle.std.specs.Prelude.{ℕ, ◌+◌, ◌<◌, ◌≡◌, ◌≤◌, ◌++◌, List, [], map, length, nat_lt}
use Rattle.std.specs.Prelude.{if◌then◌else◌}
use Rattle.std.specs.List.{All, concat, slice_index_or}
use Rattle.wit_model.specs.declared.chunks.TheConstants.{CHUNK}
use Rattle.wit_model.specs.declared.locks.Instance.{Instance}
use Rattle.wit_model.specs.declared.sizes.TheConstants.Limits.{MOST_CHUNKS}
use Rattle.wit_model.specs.Rules.Groups.{flat, AreTidy}
use Rattle.wit_model.specs.Rules.Chunks.{Chunks, times}

-- what the chunk with this number holds
abbrev pub row : List (List Instance) → ℕ → List Instance
row rows p = slice_index_or rows p []

-- the groups of a list that has these chunks
abbrev pub groups_at : List (List Instance) → List ℕ → List (List Instance)
groups_at rows places = map (row rows) places

-- the chunks of the list at this place
abbrev pub places_at : List (List ℕ) → ℕ → List ℕ
places_at lists list = slice_index_or lists list []

-- the numbers below the size stand once in the lists and among the unused ones
pub record ArePlaced (size : ℕ) (lists : List (List ℕ)) (unused : List ℕ) : Type 0 where
  pub once : (p : ℕ) → times p (concat lists ++ unused) ≡ if nat_lt p size then 1 else 0
  pub all : length (concat lists) + length unused ≡ size

-- what callers see
abbrev pub shown_chunks : List (List Instance) → List (List ℕ) → List ℕ → Chunks
shown_chunks rows lists unused =
    record {
      size = length rows;
      groups = map (groups_at rows) lists;
      places = lists;
      unused = unused;
    }

-- each chunk stands once and holds five at most, the free ones are empty, and no group is empty
-- unless it is its list's only one
pub record AreSettled (rows : List (List Instance)) (lists : List (List ℕ))
    (unused : List ℕ) : Type 0 where
  pub placed : ArePlaced (length rows) lists unused
  pub few : length rows ≤ MOST_CHUNKS
  pub short : All (λ (g : List Instance). length g ≤ CHUNK) rows
  pub empty : flat (groups_at rows unused) ≡ []
  pub tidy : All AreTidy (map (groups_at rows) lists)

-- each of these chunks is there
abbrev pub AreWithin : ℕ → List ℕ → Type 0
AreWithin size places = All (λ (p : ℕ). p < size) places
