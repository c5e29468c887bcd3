use Rattle.std.proofs.Common.{find, ap, ap₂, ◌∙◌}
use Rattle.wit_model.specs.Rules.Assertions.{assertion}
use Rattle.wit_model.specs.Rules.State.{State}
use Rattle.wit_model.specs.Rules.Types.{is_spin}
use Rattle.wit_model.specs.Rules.Verdict.{is_of}
use Rattle.wit_core.proofs.Now.{now, seat-given, chain-now}
use Rattle.wit_core.proofs.Seen.{seen_as}
use Rattle.wit_core.proofs.verifier.Verifier.assertion.Goals as goal

pub assert_is-requires : goal.assert_is-requires
assert_is-requires c = seat-given (seen_as c.self.invariant c.self.view_is) c.args.seat.0 c.requires

pub returns : goal.returns
returns c =
    c.assert_is.ensures
    ∙ ap₂ (λ watch chain. assertion watch c.args.flags (find (is_of c.args.lock.0) chain))
    (ap (λ (s : State). s.watch) (now (seen_as c.self.invariant c.self.view_is)))
    (chain-now (seen_as c.self.invariant c.self.view_is) c.args.seat.0 c.args.lock.0
    c.is_spin-spin.result (c.is_spin-spin.ensures ∙ ap is_spin c.class_of_lock.ensures))
