use Rattle.std.proofs.Common.{◌≡◌, drop}
use Rattle.wit_known.specs.Listed.{listed, goes_back}
use Rattle.wit_known.proofs.known.Known.goes_back.Given as goal

abbrev pub invariant-loop-place : goal.invariant-loop-place
invariant-loop-place l =
    goes_back l.self.known.types l.self.known.orders (listed (drop l.place l.list))
    ≡ goes_back l.self.known.types l.self.known.orders (listed l.list)
