use Rattle.wit_circles.proofs.Leading.{up-tells, way-tells}
use Rattle.wit_circles.proofs.kept.Kept.way_back.Goals as goal

pub returns-then-goes_up : goal.returns-then-goes_up
returns-then-goes_up c = λ orders is.
    let up = c.goes_up.ensures c.if-goes_up.true in
    up-tells orders c.args.self.now is c.args.order up.0 up.1

pub returns : goal.returns
returns c = λ orders is.
    way-tells orders c.args.self.now is c.args.order c.way.result
    (rw c.deref.ensures.value at c.way.ensures)
