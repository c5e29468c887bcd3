use Rattle.std.proofs.Common.{◌+◌, sym, ap, ◌∙◌}
use Rattle.wit_model.proofs.Orders.Types.{number-new}
use Rattle.wit_known.proofs.names.type_number.Goals as goal

pub returns-in-None : goal.returns-in-None
returns-in-None c =
    ap (λ n. n + 1) c.len.ensures.types
    ∙ sym (number-new c.args.name.now c.args.names.now.types (sym c.in-None.ensures.found))
