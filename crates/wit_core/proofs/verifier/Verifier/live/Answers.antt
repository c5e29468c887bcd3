use Rattle.std.proofs.Common.{Some, ap, sym, ◌∙◌}
use Rattle.wit_model.specs.Rules.Numbers.{is_given}
use Rattle.wit_core.proofs.Now.{live-told}
use Rattle.wit_core.proofs.Seen.{seen_as}
use Rattle.wit_core.proofs.verifier.Verifier.live.Goals as goal

pub returns-then-is_type : goal.returns-then-is_type
returns-then-is_type c =
    ap Some c.live.ensures
    ∙ live-told (seen_as c.self.invariant c.self.view_is) c.args.number.0
    (sym (ap (λ ts. is_given ts c.args.number.0) c.names.ensures.types) ∙ sym c.is_type.ensures
    ∙ c.if-is_type.true)
