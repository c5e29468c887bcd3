use Rattle.std.proofs.Common.{subst, sym}
use Rattle.wit_known.specs.Listed.{listed, CanBeAdopted}
use Rattle.wit_known.proofs.Enrolling.{can-adopt}
use Rattle.wit_known.proofs.known.Known.enter_list.Goals as goal

pub adopt_all-requires-clause-can : goal.adopt_all-requires-clause-can
adopt_all-requires-clause-can c =
    subst (λ ts. CanBeAdopted ts c.self.inside.orders.orders (listed c.args.list.now))
    (sym c.in_ok-enroll_all.ensures.types)
    (can-adopt c.args.most c.self.inside.names.types c.self.inside.orders.orders
    (listed c.args.list.now) (rw (← c.self.view_is) at c.requires.accepted))
