-- The places of a block, and the right to give it back, go to another thread where what they are
-- made of does.
use Rattle.std.specs.Prelude.{ℕ, ◌+◌, List, [], ◌∷◌, Option, Some, None}
use Rattle.std.specs.Mem.{type_size}
use base.Fraction.{full_share}
use base.Shift.{Keyless}
use denote.RattleType.{RattleType}
use denote.RawPtr.{Ptr, block_ptr, null_ptr}
use denote.Struct.Struct.{exits_of}
use denote.Struct.Owning.{shape, fields, to}
use denote.Param.Send.{IsSend, IsSync, Common, AllSend, part_keyless, owning_send, struct_send}
use denote.Param.Send.{struct_sync, sendable}
use Rattle.core.specs.declared.alloc.Allocator.{Ghosts}
use Rattle.std_alloc.proofs.SendSync.{FreesAnywhere, quiet}
use Rattle.circular_buffer.specs.Ownership.{slot, slots, slot_lent, slots_lent, cells_own}
use Rattle.circular_buffer.specs.Ownership.{cells_lent}
use Rattle.wit_pool.specs.contracts.cells.Cells as Cells
use Rattle.wit_pool.specs.contracts.cells.Deed as Deed

module _ (R : RattleType) where
  place-moves : IsSend R → (b o : ℕ) (c : Option R.Denot) → Keyless (slot R b o c)
  place-moves send b o None = tt
  place-moves send b o (Some x) = part_keyless R send full_share x b o

  row-moves : IsSend R → (b o : ℕ) (cs : List (Option R.Denot)) → Keyless (slots R b o cs)
  row-moves send b o [] = tt
  row-moves send b o (c ∷ cs) = (place-moves send b o c, row-moves send b (o + type_size R) cs)

  block-moves : IsSend R → (p : Ptr) (cs : List (Option R.Denot)) → Keyless (cells_own R p cs)
  block-moves send null_ptr cs = tt
  block-moves send (block_ptr b o) cs = (tt, row-moves send b o cs)

  place-shared : IsSync R → (b o : ℕ) (c : Option R.Denot) → Common (slot_lent R b o c)
  place-shared sync b o None κ = tt
  place-shared sync b o (Some x) κ = sync.shared x b o κ

  row-shared : IsSync R → (b o : ℕ) (cs : List (Option R.Denot)) → Common (slots_lent R b o cs)
  row-shared sync b o [] κ = tt
  row-shared sync b o (c ∷ cs) κ =
      (place-shared sync b o c κ, row-shared sync b (o + type_size R) cs κ)

  block-shared : IsSync R → (p : Ptr) (cs : List (Option R.Denot)) → Common (cells_lent R p cs)
  block-shared sync null_ptr cs κ = tt
  block-shared sync (block_ptr b o) cs κ = (tt, row-shared sync b o cs κ)

  pub Cells-send : IsSend R → IsSend (Cells.the_row R)
  Cells-send send =
      let T = Cells.the_type R in
      let marks : AllSend (fields T) = (search sendable, tt) in
      owning_send T marks (λ c. block-moves send c.at c.slots)
      (λ k. quiet (to T) (exits_of k (fields T)) ((struct_send (shape T) marks).leaving k))

  pub Cells-sync : IsSync R → IsSync (Cells.the_row R)
  Cells-sync sync =
      let T = Cells.the_type R in
      record {
        shared = λ c b o κ. (
          (struct_sync (shape T) (search sendable, tt)).shared (to T c) b o κ,
          block-shared sync c.at c.slots κ,
        );
      }

  module _ (A : RattleType) (g : Ghosts A.Denot) where
    pub Deed-send : FreesAnywhere A.Denot g → IsSend (Deed.the_row R A g)
    Deed-send frees =
        let T = Deed.the_type R A g in
        let marks : AllSend (fields T) = (search sendable, tt) in
        owning_send T marks (λ d. frees.frees d.alloc _ d.at)
        (λ k. quiet (to T) (exits_of k (fields T)) ((struct_send (shape T) marks).leaving k))

    pub Deed-sync : IsSync (Deed.the_row R A g)
    Deed-sync =
        let T = Deed.the_type R A g in
        record {
          shared =
              λ d b o κ. ((struct_sync (shape T) (search sendable, tt)).shared (to T d) b o κ, tt);
        }
