use Rattle.std.proofs.Common.{◌-◌, List, length, slice_get, ap, sym, ◌∙◌}
use Rattle.wit_model.specs.declared.locks.Instance.{Instance}
use Rattle.wit_model.proofs.Walking.{last-met}
use Rattle.wit_model.proofs.chunks.Lists.last.Goals as goal

pub returns-then-is_some : goal.returns-then-is_some
returns-then-is_some g c =
    last-met (g.Self.Lists.chunks c.args.self.now) c.args.list c.loop-spot.spot c.in-Some.at
    c.in-Some.is c.loop-spot.invariant.0
    c.loop-spot.invariant.1 c.copied-last.result (sym c.if-is_some.true ∙ c.is_some.ensures)
    (c.copied-last.ensures ∙ c.last.ensures.value
    ∙ ap (λ (xs : List Instance). slice_get xs (length xs - 1)) c.group.ensures)
