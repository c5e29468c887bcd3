use Rattle.std.proofs.Common.{◌+◌, ◌-◌, sym, ◌∙◌, arith}
use Rattle.wit_known.proofs.Listing.{twin-step, twin-here, twin-end}
use Rattle.wit_known.proofs.list_faults.has_twin.Goals as goal

pub returns-then-are_twins : goal.returns-then-are_twins
returns-then-are_twins c =
    twin-here c.args.list.now (c.loop-place.place - 1) c.loop-place.place c.index-list-place.result
    c.index-list-place-in-loop-place.result _
    (omega arith) (omega arith) c.index-list-place.is c.index-list-place-in-loop-place.is
    (sym c.are_twins.ensures ∙ c.if-are_twins.true) c.loop-place.invariant

pub loop-place-preserved : goal.loop-place-preserved
loop-place-preserved c =
    twin-step c.args.list.now (c.loop-place.place - 1) c.loop-place.place
    (c.loop-place.place + 1 - 1) c.index-list-place.result
    c.index-list-place-in-loop-place.result _
    (omega arith) (omega arith) (omega arith) c.index-list-place.is
    c.index-list-place-in-loop-place.is (sym c.are_twins.ensures ∙ c.if-are_twins.false)
    c.loop-place.invariant

pub returns : goal.returns
returns c = twin-end c.args.list.now (c.loop-place.place - 1) _ (omega arith) c.loop-place.invariant
