use Rattle.wit_matrix.proofs.Ways.{IsOnWay}
use Rattle.wit_matrix.proofs.matrix.Matrix.way.Given as goal
use Rattle.wit_model.specs.Rules.Numbers.{IsNumber}

abbrev pub invariant-loop-step : goal.invariant-loop-step
invariant-loop-step l =
    IsNumber l.self.size l.at.0 × IsOnWay l.self.orders l.self.size l.fn.from.0 l.to.0 l._step
    l.way.items l.at.0
