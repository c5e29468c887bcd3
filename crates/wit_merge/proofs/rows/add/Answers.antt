use Rattle.std.proofs.Common.{refl, ap, ◌∙◌}
use Rattle.wit_merge.specs.Rows.{rows_of}
use Rattle.wit_merge.proofs.Entries.{added}
use Rattle.wit_merge.proofs.rows.add.Goals as goal

pub returns : goal.returns
returns c =
    ap rows_of c.in_ok-insert.ensures.entries
    ∙ added c.args.rows.now.entries c.in_ok-key.key
    (record { origin = c.in_ok-origin.origin; tally = c.args.tally })
    c.args.key.now c.args.origin.now c.args.tally c.in_ok-key.ensures.items
    c.in_ok-origin.ensures.items refl c.requires
