use Rattle.std.proofs.Common.{arith}
use Rattle.std.proofs.lemmas.Grind.{common_steps}
use Rattle.std.proofs.lemmas.List.Edits.{map_over_more}
use Rattle.wit_gathered.specs.Types.{one_renamed}
use Rattle.wit_gathered.proofs.types.rename.Goals as goal

pub loop-at-preserved : goal.loop-at-preserved
loop-at-preserved c =
    grind (arith, common_steps, map_over_more (one_renamed c.args.from c.args.to))
