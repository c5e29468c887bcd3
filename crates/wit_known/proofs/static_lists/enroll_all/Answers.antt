use Rattle.std.proofs.Common.{arith}
use Rattle.std.proofs.lemmas.Result.{err_from_is_err_and}
use Rattle.wit_known.proofs.Enrolling.{no-refusal, can-step, types-step, rest-step}
use Rattle.wit_known.proofs.static_lists.enroll_all.Goals as goal

pub loop-entry-preserved : goal.loop-entry-preserved
loop-entry-preserved c =
    let list = c.args.list.now in
    let i = c.loop-entry.entry-index in
    let a = c.entry-item.result in
    let name = c.deref.result.now in
    let names = c.loop-entry.names in
    let can = c.loop-entry.invariant.can in
    record {
      types =
          types-step list i a name names (omega arith) c.entry-item.is c.deref.ensures can
          c.enroll.new.self _ c.in_ok-_number.ensures.enrolled c.loop-entry.invariant.types;
      can =
          can-step list i a name names (omega arith) c.entry-item.is c.deref.ensures can
          c.enroll.new.self c.in_ok-_number.ensures.enrolled;
      rest =
          rest-step list i a name names (omega arith) c.entry-item.is c.deref.ensures can
          c.args.names.now c.enroll.new.self c.in_ok-_number.ensures.enrolled
          c.loop-entry.invariant.rest;
    }

pub returns-in_err-_number-clause-err : goal.returns-in_err-_number-clause-err
returns-in_err-_number-clause-err c =
    let p = err_from_is_err_and c.from_residual.result c.from_residual.ensures.1 in
    rw (p.1, p.2)
    (no-refusal c.args.list.now c.loop-entry.entry-index c.entry-item.result c.deref.result.now
    c.loop-entry.names (omega arith) c.entry-item.is c.deref.ensures c.loop-entry.invariant.can
    c.in_err-_number.field-0.0 c.in_err-_number.ensures.err)
