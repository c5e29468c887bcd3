use Rattle.wit_model.specs.Trace.Output.{Asserts, Warns, calls}
use Rattle.wit_migrate.proofs.AloneLemmas.{remark-goes, remark-fails}
use Rattle.wit_migrate.proofs.behind.Behind.make_call.Goals as goal

pub returns-in-Logs : goal.returns-in-Logs
returns-in-Logs c = rw c.in-Logs.is c.log.ensures

pub returns-in_err-remark-in-Asserts : goal.returns-in_err-remark-in-Asserts
returns-in_err-remark-in-Asserts c =
    let s = c.args.self.now.verifier in
    rw c.in-Asserts.is
    (remark-fails s c.args.self.now.raw c.args.self.now.remarks c.args.bytes.now
    (λ n. calls s n (Asserts c.in-Asserts.seat.0 c.in-Asserts.lock c.in-Asserts.asserted))
    c.remark.new.remarks c.in_err-remark-in-Asserts.field-0.0 c.remark.result
    c.assertion-said.result c.from_residual.result c.assertion-said.ensures
    c.remark.ensures.refused c.remark.ensures.same c.in_err-remark-in-Asserts.was c.from_residual.ensures.1)

pub returns-in_err-remark-in-Warns : goal.returns-in_err-remark-in-Warns
returns-in_err-remark-in-Warns c =
    let s = c.args.self.now.verifier in
    rw c.in-Warns.is
    (remark-fails s c.args.self.now.raw c.args.self.now.remarks c.args.bytes.now
    (λ n. calls s n (Warns c.in-Warns.seat.0 c.in-Warns.lock c.in-Warns.flags))
    c.remark-in-Warns.new.remarks c.in_err-remark-in-Warns.field-0.0 c.remark-in-Warns.result
    c.warning-said.result c.from_residual-in_err-remark-in-Warns.result
    c.warning-said.ensures c.remark-in-Warns.ensures.refused
    c.remark-in-Warns.ensures.same c.in_err-remark-in-Warns.was
    c.from_residual-in_err-remark-in-Warns.ensures.1)

pub returns-in_ok-line_in-in-Warns : goal.returns-in_ok-line_in-in-Warns
returns-in_ok-line_in-in-Warns c =
    let s = c.args.self.now.verifier in
    rw c.in-Warns.is
    (remark-goes s c.args.self.now.raw c.args.self.now.remarks c.args.bytes.now
    (λ n. calls s n (Warns c.in-Warns.seat.0 c.in-Warns.lock c.in-Warns.flags))
    c.remark-in-Warns.new.remarks c.in_ok-remark-in-Warns.field-0 c.remark-in-Warns.result
    c.warning-said.result c.in_ok-line_in-in-Warns.field-0.items c.warning-said.ensures
    c.remark-in-Warns.ensures.same c.in_ok-remark-in-Warns.was
    c.remark-in-Warns.ensures.counted c.in_ok-line_in-in-Warns.ensures)
