use Rattle.std.proofs.Common.{ap, ◌∙◌, sym, set, ◌++◌, ◌∷◌, [], List, ℕ}
use Rattle.std.proofs.lemmas.List.{map-set}
use Rattle.std.specs.Global.{Vec}
use Rattle.wit_circles.specs.Searching.{rows_of}
use Rattle.wit_circles.proofs.Rows.{row-items}
use Rattle.wit_circles.proofs.kept.link.Goals as goal

pub returns : goal.returns
returns c =
    let rows = c.args.rows.now.items in
    let from = c.args.order.from in
    map-set (λ (r : Vec ℕ). r.items) rows from c.push.new.self
    ∙ ap (set (rows_of rows) from)
    (c.in_ok-push.ensures.items
    ∙ sym (ap (λ (r : List ℕ). r ++ c.args.order.to ∷ [])
    (row-items rows from c.index_mut.result.now c.requires c.index_mut.ensures.value)))
