-- Through which chunks the links lead.
use Rattle.std.specs.Prelude.{◌≡◌, ℕ, ◌+◌, zero, suc, List, [], ◌∷◌, ◌++◌, map, Option, None, Some}
use Rattle.std.specs.Prelude.{slice_set, ◌⊎◌}
use Rattle.std.specs.List.{All}
use denote.RawPtr.{Ptr}
use Rattle.wit_model.specs.declared.locks.Instance.{Instance}
use Rattle.wit_pool.specs.declared.chunk.Next.{Next}
use Rattle.wit_pool.specs.declared.chunk.Chunk.{Chunk}
use Rattle.wit_pool.specs.declared.chain.Chain.{Chain}
use Rattle.wit_pool.specs.Chunks.{chunk_at, content, next_of, rows_in, Leads, IsAt, IsLed}

-- the places of so many chunks from this link on, the last one first
abbrev pub places : List (Option Chunk) → ℕ → Option Next → List ℕ
places cs zero h = []
places cs (suc n) None = []
places cs (suc n) (Some l) = places cs n (next_of (chunk_at cs l.place)) ++ l.place ∷ []

-- so many chunks are linked, and the last one leads no further
abbrev pub IsChain : Ptr → List (Option Chunk) → ℕ → Option Next → Type 0
IsChain at cs zero h = h ≡ None
IsChain at cs (suc n) None = ⊥
IsChain at cs (suc n) (Some l) = IsAt at cs l × IsChain at cs n (next_of (chunk_at cs l.place))

-- a list's chunks, oldest first
abbrev pub chain_chunks : List (Option Chunk) → Chain → List ℕ
chain_chunks cs c = places cs c.count c.head

abbrev pub IsLinked : Ptr → List (Option Chunk) → Chain → Type 0
IsLinked at cs c = IsChain at cs c.count c.head

-- what each chunk holds, which chunks each list has, oldest first, and which are free
pub record Stands (at : Ptr) (cs : List (Option Chunk)) (chains : List Chain) (free : Chain)
    (held : List (List Instance)) (taken : List (List ℕ)) (rest : List ℕ) : Type 0 where
  pub rows : rows_in cs ≡ held
  pub lists : map (chain_chunks cs) chains ≡ taken
  pub unused : chain_chunks cs free ≡ rest
  pub linked : All (IsLinked at cs) chains
  pub spare : IsLinked at cs free

-- the next newer chunk leads past one to the next older, or the list begins there
abbrev pub Passes : List (Option Chunk) → List (Option Chunk) → Option Next → Option Next
    → Option Next → Option Next → Type 0
Passes cs cs' None next head head' = (cs' ≡ cs) × (head' ≡ next)
Passes cs cs' (Some q) next head head' = IsLed cs cs' q.place next × (head' ≡ head)

-- a list with this first link is led past a chunk, and then the chunk leads to the free ones
pub record IsFreed (cs cs' : List (Option Chunk)) (p : ℕ) (newer head free head' : Option Next)
    : Type 0 where
  pub between : List (Option Chunk)
  pub passed : Passes cs between newer (next_of (chunk_at cs p)) head head'
  pub freed : IsLed between cs' p free

-- the free chunks stay, and one is free unless each place holds a chunk
pub record Stays (cs cs' : List (Option Chunk)) (old : Chain) (unmade : ℕ)
    (result : Chain × ℕ) : Type 0 where
  pub slots : cs' ≡ cs
  pub free : result ≡ (old, unmade)
  pub none : old.head ≡ None → unmade ≡ 0

-- no chunk is free, and the last place that holds none gets an empty one, the only free one
pub record Makes (at : Ptr) (cs cs' : List (Option Chunk)) (old : Chain) (unmade : ℕ)
    (result : Chain × ℕ) : Type 0 where
  pub none : old.head ≡ None
  pub link : Next
  pub chunk : Chunk
  pub leads : Leads at link
  pub place : link.place ≡ result.1
  pub last : result.1 + 1 ≡ unmade
  pub now : cs' ≡ slice_set cs link.place (Some chunk)
  pub empty : content (Some chunk) ≡ []
  pub ends : chunk.next ≡ None
  pub free : (result.0.head ≡ Some link) × (result.0.count ≡ 1)

-- a chunk is free, unless all places hold chunks of lists
abbrev pub IsReady : Ptr → List (Option Chunk) → List (Option Chunk) → Chain → ℕ → Chain × ℕ
    → Type 0
IsReady at cs cs' free unmade result =
    Stays cs cs' free unmade result ⊎ Makes at cs cs' free unmade result
