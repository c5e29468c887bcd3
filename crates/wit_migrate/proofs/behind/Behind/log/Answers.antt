use Rattle.std.proofs.Common.{None, Some, Ok, refl, sym, ◌∙◌, arith}
use Rattle.wit_migrate.proofs.BesideLemmas.{lock-made, log-made}
use Rattle.wit_migrate.proofs.NumberedLemmas.{log-refused}
use Rattle.wit_migrate.proofs.Weights.{length-le}
use Rattle.wit_migrate.proofs.behind.Behind.log.Goals.{then-makes, else-makes}
use Rattle.wit_migrate.proofs.behind.Behind.log.Goals as goal

pub returns-in_err-_reply : goal.returns-in_err-_reply
returns-in_err-_reply c =
    log-refused c.args.self.now.verifier c.call.new.self c.args.self.now.raw
    c.args.self.now.remarks c.args.bytes.now c.args.seat.0 c.args.call c.in_err-_reply.field-0.0
    c.from_residual.result c.in_err-_reply.ensures.answer c.from_residual.ensures.1

pub returns-in-Some : goal.returns-in-Some
returns-in-Some c =
    log-made c.args.self.now.verifier c.call.new.self c.args.self.now.raw
    c.do_beside.new.raw c.args.self.now.remarks c.args.bytes.now c.args.seat.0 c.args.call
    c.in_ok-_reply._reply c.in_ok-_reply.ensures.answer (Some c.in-Some.step) c.do_beside.result
    c.in-Some.ensures.goes c.in-Some.ensures.makes c.do_beside.ensures

pub made-requires : goal.made-requires
made-requires c =
    let within = length-le c.args.self.now.raw in
    let few = c.requires.few in
    omega (arith, within, few)

pub returns : goal.returns
returns c =
    let s = c.args.self.now.verifier in
    let raw = c.args.self.now.raw in
    elim c.if-makes.branch [
      | then-makes w ↦ rw (w.self-is, w.made.ensures)
          (lock-made s c.call.new.self raw c.args.self.now.remarks c.args.bytes.now
          c.args.seat.0 c.args.call c.in_ok-_reply._reply c.in_ok-line_in-in-None.field-0.items
          c.in_ok-_reply.ensures.answer (sym c.makes_lock-makes.ensures ∙ w.if-makes.true)
          c.in_ok-line_in-in-None.ensures)
      | else-makes w ↦ rw w.self-is
          (log-made s c.call.new.self raw raw c.args.self.now.remarks c.args.bytes.now
          c.args.seat.0 c.args.call c.in_ok-_reply._reply c.in_ok-_reply.ensures.answer None
          (Ok c.in_ok-line_in-in-None.field-0) c.in-None.ensures.goes
          (sym c.makes_lock-makes.ensures ∙ w.if-makes.false)
          (refl, c.in_ok-line_in-in-None.ensures))
    ]
