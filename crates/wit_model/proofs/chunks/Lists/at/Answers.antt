use Rattle.wit_model.proofs.Walking.{reads}
use Rattle.wit_model.proofs.chunks.Lists.at.Goals as goal

pub returns : goal.returns
returns g c =
    reads (g.Self.Lists.chunks c.args.self.now) c.args.list c.args.place c.locate-index.result.0
    c.locate-index.result.1 c.locate-index.ensures.spot
    c.locate-index.ensures.index c.locate-index.ensures.before c.group.result.now c.group.ensures _
