use Rattle.std.proofs.Common.{◌∷◌, [], ◌++◌, length, ap, ◌∙◌, arith}
use Rattle.std.proofs.lemmas.List.{length_push}
use Rattle.wit_model.specs.World.Scenes.{nobodys}
use Rattle.wit_world.proofs.Padded.{reached_more}
use Rattle.wit_world.proofs.raw.reach.Goals as goal

pub loop-alloc-preserved : goal.loop-alloc-preserved
loop-alloc-preserved c =
    let old = c.loop-alloc.locks.items in
    let more = c.in_ok-push.ensures.items ∙ ap (λ k. old ++ k ∷ []) c.none.ensures in
    let count = ap length more in
    let pushed = length_push old nobodys in
    let longer = c.loop-alloc.invariant.longer in
    let within = c.loop-alloc.invariant.within in
    let below = c.loop-alloc-test.true in
    let len = c.len.ensures in
    let items = c.loop-alloc.locks.ok.0 in
    record {
      same =
          reached_more c.args.locks.now.items old c.push.new.self.items
          c.loop-alloc.invariant.same longer more;
      longer = omega (arith, count, pushed, longer);
      within = omega (arith, count, pushed, within, below, len, items);
    }
