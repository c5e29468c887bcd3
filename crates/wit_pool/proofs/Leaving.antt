-- What a call leaves.
use Rattle.std.proofs.Common.{◌≡◌, ℕ, zero, suc, ◌-◌, List, [], ◌∷◌, ◌++◌, length, map}
use Rattle.std.proofs.Common.{replicate, set}
use Rattle.std.proofs.Common.{get_or, None, refl, ap, ap₂, sym, ◌∙◌, subst}
use Rattle.std.specs.Prelude.{Option}
use Rattle.std.specs.List.{All, range_with_len}
use Rattle.std.proofs.lemmas.List.{length-map, length-set}
use Rattle.std.proofs.lemmas.List.Elements.{All-replicate}
use Rattle.wit_model.specs.declared.locks.Instance.{Instance}
use Rattle.wit_model.specs.Rules.Chunks.{Chunks, IsList, IsPlaced}
use Rattle.wit_model.specs.Rules.Rows.{groups_at, AreSettled}
use Rattle.wit_model.proofs.Rows.Settled.{others-set}
use Rattle.wit_model.proofs.Rows.Shown.{Leaves, placed-shown}
use denote.RawPtr.{Ptr}
use Rattle.wit_pool.specs.declared.chunk.Chunk.{Chunk}
use Rattle.wit_pool.specs.declared.chain.Chain.{Chain}
use Rattle.wit_pool.specs.declared.pool.Pool.TheInside.{Inside}
use Rattle.wit_pool.specs.Chunks.{content, AreBare}
use Rattle.wit_pool.specs.Chains.{chain_chunks, IsLinked, Stands}
use Rattle.wit_pool.specs.Kept.{rows_of, lists_of, free_of, chunks_in, AreKept}
use Rattle.wit_pool.proofs.Keeping.{in-lists}

-- the same block, with other chunks in it
pub record IsBeside {A : Type 0} (v w : Inside A) : Type 0 where
  pub at : w.cells.at ≡ v.cells.at
  pub first : w.first.ptr ≡ v.first.ptr
  pub count : w.count ≡ v.count
  pub unmade : w.unmade ≡ v.unmade
  pub deed : (w.deed.at ≡ w.first.ptr) × (w.deed.len ≡ w.count) × (w.deed.alloc ≡ w.alloc)

-- what a call leaves where one list's groups become others
pub record IsLeft {A : Type 0} (shows : Chunks) (list : ℕ) (groups : List (List (List Instance)))
    (w : Inside A) : Type 0 where
  pub kept : AreKept w
  pub are : map (groups_at (rows_of w)) (lists_of w) ≡ groups
  pub size : length (rows_of w) ≡ shows.size
  pub placed : IsPlaced (chunks_in w)
  pub others : lists_of w ≡ set shows.places (list - 1) (get_or (lists_of w) (list - 1) [])

module _ {A : Type 0} (v : Inside A) (shows : Chunks) (is : chunks_in v ≡ shows) (kept : AreKept v)
    (list : ℕ) (there : IsList shows list)
    (w : Inside A) (beside : IsBeside v w) (p : ℕ) (y : List Instance) (ps spare : List ℕ)
    (groups : List (List (List Instance))) where
  -- one chunk holds other locks, and one list has these chunks
  pub left-now : (lists : List (List ℕ)) → lists ≡ set (lists_of v) (list - 1) ps
      → Stands v.cells.at w.cells.slots w.chains.items w.free (set (rows_of v) p y) lists spare
      → AreBare w.cells.slots v.unmade
      → Leaves (set (rows_of v) p y) lists (range_with_len 0 v.unmade ++ spare) groups
      → IsLeft shows list groups w
  left-now lists e s bare leaves =
      let settled : AreSettled (rows_of w) (lists_of w) (free_of w) =
      rw (s.rows, s.lists, s.unused, beside.unmade) leaves.settled in
      let long : length (rows_of w) ≡ length (rows_of v) =
      ap length s.rows ∙ length-set (rows_of v) p y in
      let set-there : lists_of w ≡ set (lists_of v) (list - 1) ps = s.lists ∙ e in
      record {
        kept = record {
          settled = settled;
          linked =
              subst (λ a. All (IsLinked a w.cells.slots) w.chains.items) (sym beside.at) s.linked;
          spare = subst (λ a. IsLinked a w.cells.slots w.free) (sym beside.at) s.spare;
          bare = subst (AreBare w.cells.slots) (sym beside.unmade) bare;
          first = beside.first ∙ kept.first ∙ sym beside.at;
          size =
              sym (length-map w.cells.slots content) ∙ long ∙ length-map v.cells.slots content
              ∙ kept.size ∙ sym beside.count;
          deed = beside.deed;
        };
        are = ap₂ (λ gs ls. map (groups_at gs) ls) s.rows s.lists ∙ leaves.groups;
        size = long ∙ ap (λ (c : Chunks). c.size) is;
        placed = placed-shown (rows_of w) (lists_of w) (free_of w) settled.placed;
        others =
            subst (λ ls. ls ≡ set shows.places (list - 1) (get_or ls (list - 1) [])) (sym set-there)
            (others-set (lists_of v) (list - 1) ps (in-lists v shows is kept list there)
            ∙ ap (λ (c : Chunks). set c.places (list - 1)
            (get_or (set (lists_of v) (list - 1) ps) (list - 1) [])) is);
      }

-- lists that have no chunk
pub no-chunks : (cs : List (Option Chunk)) (lists : ℕ)
    → map (chain_chunks cs) (replicate lists (record { head = None; count = 0 }))
    ≡ replicate lists []
no-chunks cs zero = refl
no-chunks cs (suc n) = ap (λ ls. [] ∷ ls) (no-chunks cs n)

pub all-none : (at : Ptr) (cs : List (Option Chunk)) (lists : ℕ) (chains : List Chain)
    → chains ≡ replicate lists (record { head = None; count = 0 })
    → All (IsLinked at cs) chains
all-none at cs lists chains e =
    subst (All (IsLinked at cs)) (sym e)
    (All-replicate (IsLinked at cs) lists (record { head = None; count = 0 }) refl)
