use Rattle.wit_stream.proofs.Runs.{run-end, run-lines}
use Rattle.wit_merge.specs.declared.machine.Showing.{Showing}
use Rattle.wit_merge.specs.Lines.{Merged, nothing_merged}
use Rattle.wit_merge.specs.Merging.{merged}
use Rattle.wit_merge.specs.Outputs.{ShowsFrom}
use Rattle.wit_merge.proofs.machine.merge_orders.Goals as goal

abbrev seen : Showing → Merged
seen m = merged m.merging

pub returns-clause-taken : goal.returns-clause-taken
returns-clause-taken g c =
    run-end seen (ShowsFrom c.args.shown) _ nothing_merged c.new.ensures _ _ _ _ _
    c.run.ensures.taken

pub returns-clause-told : goal.returns-clause-told
returns-clause-told g c = λ failed.
    run-lines seen (ShowsFrom c.args.shown) _ nothing_merged c.new.ensures _ _ _ _
    (c.run.ensures.told failed)
