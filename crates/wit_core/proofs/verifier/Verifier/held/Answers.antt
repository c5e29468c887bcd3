use Rattle.std.proofs.Common.{ap, find, ◌∙◌}
use Rattle.wit_model.specs.Rules.Types.{is_spin}
use Rattle.wit_model.specs.Rules.Verdict.{is_of}
use Rattle.wit_core.proofs.Now.{seat-given, chain-now, once-now}
use Rattle.wit_core.proofs.Seen.{seen_as}
use Rattle.wit_core.proofs.verifier.Verifier.held.Goals as goal

pub find-requires-clause-once : goal.find-requires-clause-once
find-requires-clause-once c =
    once-now (seen_as c.self.invariant c.self.view_is) c.args.seat.0 c.args.lock.0
    c.is_spin-spin.result (c.is_spin-spin.ensures ∙ ap is_spin c.class_of_lock.ensures)
    c.requires

pub find-requires-clause-seat : goal.find-requires-clause-seat
find-requires-clause-seat c =
    seat-given (seen_as c.self.invariant c.self.view_is) c.args.seat.0 c.requires

pub returns : goal.returns
returns c =
    c.find.ensures
    ∙ ap (find (is_of c.args.lock.0))
    (chain-now (seen_as c.self.invariant c.self.view_is) c.args.seat.0 c.args.lock.0
    c.is_spin-spin.result (c.is_spin-spin.ensures ∙ ap is_spin c.class_of_lock.ensures))
