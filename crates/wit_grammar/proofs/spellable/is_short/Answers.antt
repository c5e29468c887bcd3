use Rattle.std.proofs.Common.{refl}
use Rattle.wit_model.proofs.Spelling.Lengths.{spelled-le}
use Rattle.wit_grammar.proofs.spellable.is_short.Goals as goal

pub returns-in_default : goal.returns-in_default
returns-in_default c =
    (λ _. spelled-le c.args.line.now c.requires c.in_default.not-Order, λ _. refl)
