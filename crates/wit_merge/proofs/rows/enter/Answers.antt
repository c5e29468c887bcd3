use Rattle.std.proofs.Common.{refl, ap, ◌∙◌}
use Rattle.wit_merge.specs.Rows.{entered_at, rows_of}
use Rattle.wit_merge.specs.Standing.{again}
use Rattle.wit_merge.proofs.Entries.{changed-at}
use Rattle.wit_merge.proofs.rows.enter.Goals as goal

pub returns-in-Some : goal.returns-in-Some
returns-in-Some c =
    let rows = rows_of c.args.rows.now.entries in
    changed-at c.args.rows.now.entries c.in-Some.place c.index_mut-note.result.now
    (record { origin = c.index_mut-note.result.now.origin; tally = c.again-note.result })
    (again c.args.standing) c.index_mut-note.ensures.value refl c.again-note.ensures
    ∙ ap (λ p. entered_at p c.args.standing rows c.args.key.now c.args.origin.now)
    c.in-Some.ensures.place
