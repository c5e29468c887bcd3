-- Whoever has a `&` to the places reaches what each of them holds. Assumes `Logic`.
use mathlib.Core.List.{[], ◌++◌}
use base.Fml.{Incl-trans}
use contract.BorrowLft.{meet_⊑_left}
use denote.RattleType.{RattleType}
use denote.RawPtr.{RawPtr}
use denote.Param.Laws.{Laws}
use denote.Param.Shared.{copy_shared}
use denote.Struct.Laws.{field_copy}
use denote.Struct.Lending.{of_Lends}
use Rattle.core.specs.contracts.marker.PhantomData as Mark
use Rattle.circular_buffer.proofs.Sharing.{cells_lent_laws, Lends-cells}
use Rattle.wit_pool.specs.contracts.cells.Cells as Cells
use Rattle.wit_pool.proofs.cells.Cells.TheLaw.Statement.{statement}

pub shares : (R : RattleType) (L : Laws R) → statement R L
shares R L =
    of_Lends (Cells.struct R) (Cells.the_codes R.Denot R.coded (Mark.the_row RawPtr).coded)
    (Cells.the_heap R) (Cells.the_lent R)
    (λ c p. cells_lent_laws R L.shr_laws c.at c.slots)
    (copy_shared (Mark.the_field RawPtr) (field_copy (Mark.the_type RawPtr) tt), tt)
    (λ M 𝓤 𝓛 c p.
    Lends-cells 𝓛 (Cells.the_row R).lives R L
    (Incl-trans (meet_⊑_left (R.lives ++ []) _) (meet_⊑_left R.lives [])) c.at c.slots)
