use Rattle.wit_against.specs.Judging.{known}
use Rattle.wit_against.proofs.Following.{entered}
use Rattle.wit_against.proofs.judging.Judging.enter.Goals as goal

pub returns-in_ok-enter-in-Pair : goal.returns-in_ok-enter-in-Pair
returns-in_ok-enter-in-Pair c =
    entered (known c.args.self.now.orders) (known c.enter.new.self) c.args.bytes.now _ _ _ _
    c.in-Pair.is c.in_ok-from.ensures c.in_ok-enter-in-Pair.ensures
