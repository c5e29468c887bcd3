use Rattle.std.proofs.Common.{◌∙◌}
use Rattle.wit_merge.proofs.Entries.{placed}
use Rattle.wit_merge.proofs.rows.place_of.Goals as goal

pub returns-clause-place : goal.returns-clause-place
returns-clause-place c =
    c.get_index_of.ensures.index ∙ placed c.args.key.now c.args.rows.now.entries
