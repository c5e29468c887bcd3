use Rattle.std.proofs.Common.{◌≡◌, ◌+◌, drop}
use Rattle.wit_observers.specs.Numbers.{numbered_all}
use Rattle.wit_observers.proofs.cells.put_all.Given as goal

-- what is left of the orders has its numbers still to come
abbrev pub invariant-loop-index : goal.invariant-loop-index
invariant-loop-index l =
    numbered_all l.n l.cells (l.before + l.index) (drop l.index l.orders)
    ≡ numbered_all l.n l.fn.cells l.before l.orders
