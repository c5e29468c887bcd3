use Rattle.std.proofs.Common.{refl, sym, ap, ◌∙◌, nat_eq}
use Rattle.wit_merge.specs.Rows.{counted_at, is_met_at, rows_of}
use Rattle.wit_merge.specs.Standing.{counted}
use Rattle.wit_merge.proofs.Entries.{changed-at, file-there}
use Rattle.wit_merge.proofs.rows.count.Goals as goal

pub returns-in-Some-clause-rows : goal.returns-in-Some-clause-rows
returns-in-Some-clause-rows c =
    let rows = rows_of c.args.rows.now.entries in
    changed-at c.args.rows.now.entries c.in-Some.place c.index_mut-note.result.now
    (record { origin = c.index_mut-note.result.now.origin; tally = c.counted-note.result })
    (λ t. counted c.args.standing t c.args.count) c.index_mut-note.ensures.value refl
    c.counted-note.ensures
    ∙ ap (λ p. counted_at p c.args.standing rows c.args.count) c.in-Some.ensures.place

pub returns-in-Some-clause-met : goal.returns-in-Some-clause-met
returns-in-Some-clause-met c =
    let rows = rows_of c.args.rows.now.entries in
    ap (λ f. nat_eq f c.args.standing.files)
    (sym (file-there c.args.rows.now.entries c.in-Some.place c.index_mut-note.result.now
    c.index_mut-note.ensures.value))
    ∙ ap (λ p. is_met_at p c.args.standing rows) c.in-Some.ensures.place
