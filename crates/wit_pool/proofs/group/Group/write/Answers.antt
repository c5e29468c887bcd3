use Rattle.std.proofs.Common.{arith}
use Rattle.std.proofs.Math.Seq.{take-set-lt}
use Rattle.std.proofs.lemmas.List.{length-take}
use Rattle.wit_pool.proofs.group.Group.write.Goals as goal

pub returns : goal.returns
returns c =
    let g = c.args.self.now in
    take-set-lt g.held g.items c.args.index c.args.instance
    (omega (arith, c.requires, length-take g.held g.items))
