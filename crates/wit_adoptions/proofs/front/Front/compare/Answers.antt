use Rattle.std.proofs.Common.{ap, subst, List}
use Rattle.std.specs.Cmp.{ranked}
use mathlib.Core.List.{IsPrefix}
use Rattle.wit_adoptions.specs.declared.link.ListLink.{ListLink}
use Rattle.wit_adoptions.proofs.Ends.{orders_begin}
use Rattle.wit_adoptions.proofs.Fronts.{compared}
use Rattle.wit_adoptions.specs.Links.{orders_since}
use Rattle.wit_adoptions.proofs.front.Front.compare.Goals as goal

pub returns : goal.returns
returns g c =
    let start = g.J.Naming.list.start in
    let one = c.self.inside in
    let two = c.other.inside in
    let both = c.learn.new.self.log in
    let first : IsPrefix one.seen.log both =
    subst (λ (l : List ListLink). IsPrefix l both) (ap (λ s. s.log) c.again-both.ensures)
    c.learn.ensures.2 in
    rw (← c.self.view_is, ← c.other.view_is)
    (compared (orders_since start one.seen.log) (orders_since start two.seen.log)
    (orders_since start both) one.count two.count
    (orders_begin start one.seen.log both first)
    (orders_begin start two.seen.log both c.learn.ensures.3)
    c.self.invariant.1 c.other.invariant.1 c.cmp.result
    (ranked one.count two.count c.cmp.result c.cmp.ensures))
