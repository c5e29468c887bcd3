use Rattle.std.proofs.Common.{ap, subst, arith}
use Rattle.wit_model.specs.Rules.Circles.{circle_numbers}
use Rattle.wit_model.specs.World.Scenes.{Scene}
use Rattle.wit_world.specs.Kept.{IsKept}
use Rattle.wit_world.proofs.Circling.{rows_table, rows-count, told_of_scene}
use Rattle.wit_world.proofs.world.World.wait_circle.Goals as goal

pub circle_in-requires-clause-table : goal.circle_in-requires-clause-table
circle_in-requires-clause-table c =
    let kept = subst IsKept c.self.view_is c.self.invariant in
    rw c.deref.ensures.value (rows_table c.args.self.now kept c.in_ok-rows.rows.items
    c.in_ok-rows.ensures)

pub circle_in-requires-clause-few : goal.circle_in-requires-clause-few
circle_in-requires-clause-few c =
    let kept = subst IsKept c.self.view_is c.self.invariant in
    let seats = ap (λ (s : Scene). s.story.start.sizes.seats) c.self.view_is in
    rw c.deref.ensures.value
    (omega (
      arith,
      rows-count c.args.self.now kept c.in_ok-rows.rows.items c.in_ok-rows.ensures,
      c.seats-seats.ensures.within,
      c.seats-seats.ensures.value,
      seats,
    ))

pub returns-clause-ok : goal.returns-clause-ok
returns-clause-ok c =
    let kept = subst IsKept c.self.view_is c.self.invariant in
    told_of_scene c.args.self.now kept c.in_ok-rows.rows.items c.in_ok-rows.ensures
    (circle_numbers c.in_ok-circle_in.field-0)
    (rw c.deref.ensures.value at c.in_ok-circle_in.ensures)
