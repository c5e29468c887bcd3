use Rattle.std.proofs.Common.{◌-◌, ◌<◌, take, ap, ◌∙◌, arith}
use Rattle.std.proofs.lemmas.List.{length-take}
use Rattle.wit_pool.proofs.Shifting.{moved-down}
use Rattle.wit_pool.proofs.group.Group.remove.Goals as goal

pub returns : goal.returns
returns c =
    let g = c.args.self.now in
    let lt : c.args.index < g.held = omega (arith, c.requires, length-take g.held g.items) in
    ap (take (g.held - 1)) c.copy_within.ensures.after
    ∙ moved-down g.items g.held c.args.index lt (omega (arith, g.short, g.whole))
