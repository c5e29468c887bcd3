use Rattle.std.proofs.Common.{true, false, sym, ◌∙◌, arith}
use Rattle.wit_known.proofs.Listing.{types-next}
use Rattle.wit_known.proofs.list_faults.types_with.Goals.{then-is_new, else-is_new}
use Rattle.wit_known.proofs.list_faults.types_with.Goals as goal

pub loop-place-preserved : goal.loop-place-preserved
loop-place-preserved c =
    elim c.if-is_new.branch [
      | then-is_new w ↦ (
        types-next c.args.names.now.types c.args.list.now c.loop-place.place
            c.index-list-place.result true c.loop-place.count c.if-is_new.count
            (omega arith) c.index-list-place.is
            (sym w.if-is_new.true ∙ c.is_new.ensures) w.count-is c.loop-place.invariant.0,
        omega (arith, w.count-is, c.loop-place.invariant.1),
      )
      | else-is_new w ↦ (
        types-next c.args.names.now.types c.args.list.now c.loop-place.place
            c.index-list-place.result false c.loop-place.count c.if-is_new.count
            (omega arith) c.index-list-place.is
            (sym w.if-is_new.false ∙ c.is_new.ensures)
            (omega (arith, w.count-is)) c.loop-place.invariant.0,
        omega (arith, w.count-is, c.loop-place.invariant.1),
      )
    ]
