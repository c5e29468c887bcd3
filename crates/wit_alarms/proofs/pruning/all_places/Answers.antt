use Rattle.std.proofs.Common.{[], ◌∷◌, ◌++◌, ap, sym, ◌∙◌}
use Rattle.wit_alarms.proofs.Fewer.{range_more}
use Rattle.wit_alarms.proofs.pruning.all_places.Goals as goal

pub loop-place-preserved : goal.loop-place-preserved
loop-place-preserved c =
    c.in_ok-push.ensures.items
    ∙ (ap (λ r. r ++ c.loop-place.place ∷ []) c.loop-place.invariant
    ∙ sym (range_more c.loop-place.place))
