use Rattle.std.proofs.Common.{sym, subst}
use Rattle.wit_observers.specs.declared.store.Shape.{Shape}
use Rattle.wit_observers.specs.Shown.{shape_of, GoesOn}
use Rattle.wit_observers.proofs.Looking.{goes}
use Rattle.wit_observers.proofs.publisher.show.Goals as goal

pub publish_as-writer-requires : goal.publish_as-writer-requires
publish_as-writer-requires g c next is =
    let now = c.args.writer.desk.shown.value in
    goes g.J.Naming.list _ _ now next
    (subst (λ (z : Shape). GoesOn g.J.Naming.list (shape_of now) z) (sym is) c.requires)
