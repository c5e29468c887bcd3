use Rattle.std.proofs.Common.{ap, sym, ◌∙◌, arith}
use Rattle.std.proofs.lemmas.Result.{err_from_is_err_and}
use Rattle.wit_known.specs.Known.{Facts}
use Rattle.wit_known.specs.Listed.{listed}
use Rattle.wit_known.proofs.Going.{within-next}
use Rattle.wit_known.proofs.Entering.{entered-fault, refused-list, known-step}
use Rattle.wit_known.proofs.known.Known.enter_lists.Goals as goal

pub loop-place-preserved : goal.loop-place-preserved
loop-place-preserved c =
    let old = c.loop-place.self in
    let new = c.enter_next.new.self in
    let items = c.deref.result.now in
    let types = ap (λ (k : Facts). k.known.types) c.in_ok-enter_next.ensures.entered in
    let orders = ap (λ (k : Facts). k.known.orders) c.in_ok-enter_next.ensures.entered in
    record {
      fault =
          entered-fault c.args.lists.now c.args.most c.loop-place.place c.index-lists-place.result
          items old.known.types old.known.orders (omega arith) c.index-lists-place.is
          c.deref.ensures.value
          new.known.types new.known.orders _ c.loop-place.invariant.fault
          c.in_ok-enter_next.ensures.accepted types orders;
      entered =
          known-step c.args.lists.now c.args.most c.loop-place.place c.index-lists-place.result
          items old.known.types old.known.orders (omega arith) c.index-lists-place.is
          c.deref.ensures.value
          old new _ c.in_ok-enter_next.ensures.entered c.loop-place.invariant.entered;
      most =
          c.loop-place.invariant.most ∙ sym
          (ap (λ (k : Facts). k.most_types) c.in_ok-enter_next.ensures.entered);
      within =
          within-next old.known.types (listed items) old.known.orders new.known.types
          new.known.orders c.loop-place.invariant.within types orders;
    }

pub returns-in_err-enter_next-clause-err : goal.returns-in_err-enter_next-clause-err
returns-in_err-enter_next-clause-err c =
    let p = err_from_is_err_and c.from_residual.result c.from_residual.ensures.1 in
    rw (p.1, p.2)
    (refused-list c.args.lists.now c.args.most c.loop-place.place c.index-lists-place.result
    c.deref.result.now c.loop-place.self.known.types c.loop-place.self.known.orders
    (omega arith) c.index-lists-place.is c.deref.ensures.value
    _ _ _ c.in_err-enter_next.ensures.number c.loop-place.invariant.fault
    c.in_err-enter_next.ensures.err)
