use Rattle.std.proofs.Common.{arith}
use Rattle.wit_model.specs.Rules.Circles.{circle_numbers}
use Rattle.wit_model.specs.Rules.Clean.{CleanMeansNoCircle}
use Rattle.wit_core.proofs.Apart.{apart_kept}
use Rattle.wit_waiting.proofs.Waits.{rows_table, rows-count, told_of_state, none_told}
use Rattle.wit_core.proofs.verifier.Verifier.wait_circle.Goals as goal

pub circle_in-requires-clause-table : goal.circle_in-requires-clause-table
circle_in-requires-clause-table c =
    rw c.deref.ensures.value (rows_table c.args.self.now c.in_ok-rows.rows.items
    c.in_ok-rows.ensures)

pub circle_in-requires-clause-few : goal.circle_in-requires-clause-few
circle_in-requires-clause-few c =
    rw c.deref.ensures.value
    (omega (
      arith,
      rows-count c.args.self.now c.in_ok-rows.rows.items c.in_ok-rows.ensures,
      c.seats-seats.ensures.within,
      c.seats-seats.ensures.value,
    ))

pub returns-clause-ok : goal.returns-clause-ok
returns-clause-ok c =
    told_of_state c.args.self.now c.in_ok-rows.rows.items c.in_ok-rows.ensures
    (circle_numbers c.in_ok-circle_in.field-0)
    (rw c.deref.ensures.value at c.in_ok-circle_in.ensures)

pub returns-clause-clean : goal.returns-clause-clean
returns-clause-clean c = λ unblessed clean.
    let apart : CleanMeansNoCircle c.args.self.now =
    rw (← c.self.view_is) (apart_kept c.self.inside c.self.invariant.tied) in
    none_told c.args.self.now c.in_ok-rows.rows.items c.in_ok-rows.ensures c.in_ok-circle_in.field-0
    (apart unblessed clean)
    (told_of_state c.args.self.now c.in_ok-rows.rows.items c.in_ok-rows.ensures
    (circle_numbers c.in_ok-circle_in.field-0)
    (rw c.deref.ensures.value at c.in_ok-circle_in.ensures))
