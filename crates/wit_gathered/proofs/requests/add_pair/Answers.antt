use Rattle.std.proofs.Common.{◌∙◌}
use Rattle.wit_gathered.proofs.Same.{insert-pair}
use Rattle.wit_gathered.proofs.requests.add_pair.Goals as goal

pub returns : goal.returns
returns c =
    c.in_ok-insert.ensures.keys ∙ insert-pair c.args.pairs.now.keys c.args.held c.args.asked
