use Rattle.std.proofs.Common.{ap, ap₂, sym, subst, ◌∙◌}
use Rattle.std.proofs.lemmas.List.Sorted.{IsPermutation-map}
use Rattle.wit_merge.specs.Merging.{merged}
use Rattle.wit_merge.specs.Outputs.{Tells}
use Rattle.wit_merge.specs.Rows.{row_of, rows_of}
use Rattle.wit_merge.specs.Texts.{count_if, is_unseen, merged_text, people_rows, unseen_text}
use Rattle.wit_merge.specs.Outputs.{ended}
use Rattle.std.proofs.Common.{None, []}
use Rattle.wit_merge.proofs.machine.Showing.tell.Goals as goal

pub returns-in_ok-merged_text-in-Merged : goal.returns-in_ok-merged_text-in-Merged
returns-in_ok-merged_text-in-Merged c =
    let old = c.args.self.now.merging.rows.entries in
    let new = c.sort_keys.new.self.entries in
    let text = c.in_ok-merged_text-in-Merged.field-0.items in
    subst (λ by. Tells by (merged c.args.self.now.merging) text c.summary.result)
    (sym c.in-Merged.is)
    (record {
      listed = rows_of new;
      same = IsPermutation-map row_of old new c.in_ok-sort_keys.ensures.reordered.0;
      told = (
        c.in_ok-merged_text-in-Merged.ensures
            ∙ ap₂ merged_text c.total-total.ensures (ap rows_of c.as_slice-rows.ensures.entries),
        c.summary.ensures,
      );
    })

pub returns-in_ok-people_text-in-Text : goal.returns-in_ok-people_text-in-Text
returns-in_ok-people_text-in-Text c =
    let old = c.args.self.now.merging.rows.entries in
    let new = c.sort_keys.new.self.entries in
    let text = c.in_ok-people_text-in-Text.field-0.items in
    subst (λ by. Tells by (merged c.args.self.now.merging) text c.summary-in-Text.result)
    (sym c.in-Text.is)
    (record {
      listed = rows_of new;
      same = IsPermutation-map row_of old new c.in_ok-sort_keys.ensures.reordered.0;
      told = (
        c.in_ok-people_text-in-Text.ensures
            ∙ ap (people_rows []) (ap rows_of c.as_slice-rows.ensures.entries),
        c.summary-in-Text.ensures,
      );
    })

pub returns-in_ok-text-in-Unseen : goal.returns-in_ok-text-in-Unseen
returns-in_ok-text-in-Unseen c =
    let old = c.args.self.now.merging.rows.entries in
    let new = c.sort_keys.new.self.entries in
    let text = c.in_ok-text-in-Unseen.text.items in
    let same = ap rows_of c.as_slice-rows.ensures.entries in
    subst (λ by. Tells by (merged c.args.self.now.merging) text c.summary-in-Unseen.result)
    (sym c.in-Unseen.is)
    (record {
      listed = rows_of new;
      same = IsPermutation-map row_of old new c.in_ok-sort_keys.ensures.reordered.0;
      told = (
        c.in_ok-text-in-Unseen.ensures.text
            ∙ ap₂ (unseen_text c.in-Unseen.within) c.total-total.ensures same,
        c.summary-in-Unseen.ensures
            ∙ ap (λ n. ended n None) (c.in_ok-text-in-Unseen.ensures.count
            ∙ ap₂ (λ total rows. count_if (is_unseen c.in-Unseen.within total) rows)
            c.total-total.ensures same),
      );
    })
