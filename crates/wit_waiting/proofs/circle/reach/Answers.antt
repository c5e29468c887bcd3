use Rattle.std.proofs.Common.{◌≡◌, ◌∙◌, ◌+◌, ap, sym, arith, refl}
use Rattle.wit_waiting.specs.Searching.{table_of, says, seat_reached}
use Rattle.wit_waiting.proofs.Reaching.{reaches_more, reaches_same, marked-seen, not_said, seat-read}
use Rattle.wit_waiting.proofs.WaitTables.{rows-many}
use Rattle.wit_waiting.proofs.circle.reach.Goals as goal
use Rattle.wit_waiting.proofs.circle.reach.Goals.{then-not-seen-index+then-says+in_ok-push}
use Rattle.wit_waiting.proofs.circle.reach.Goals.{else-not-seen-index}
use Rattle.wit_waiting.proofs.circle.reach.Goals.{else-not-seen-index-via-then-not-seen-index+else-says}
use Rattle.wit_waiting.proofs.circle.reach.Goals.{else-not-seen-index-via-else-not-seen-index}

pub loop-index-preserved : goal.loop-index-preserved
loop-index-preserved c =
    let rows = table_of c.args.rows.now in
    let first = c.args.first.0 in
    let place = c.args.place in
    let n = c.loop-index.index in
    let old = c.args.reached.now.items in
    let is : c.index.result.now.seat.0 ≡ seat_reached old place =
    seat-read old place c.index.result.now c.requires.place c.index.ensures in
    elim c.if-not-seen-index.branch [
      | then-not-seen-index+then-says+in_ok-push w ↦
          rw (w.reached-is, w.seen-is)
          (rw w.in_ok-push.ensures.items
          (reaches_more rows first place n old c.loop-index.reached.items c.args.seen.now
          c.loop-index.seen c.loop-index.invariant _ c.requires.place refl refl
          (omega arith) (omega (arith, rows-many c.args.rows.now)) w.if-not-seen-index.true
          (ap (says rows (n + 1)) (sym is) ∙ sym w.says.ensures ∙ w.if-says.true)))
      | else-not-seen-index w ↦ elim w.else-not-seen-index.branch [
        | else-not-seen-index-via-then-not-seen-index+else-says w' ↦
            rw (w.reached-is, w.seen-is)
            (reaches_same rows first place n old c.loop-index.reached.items c.args.seen.now
            c.loop-index.seen c.loop-index.invariant
            (not_said rows (n + 1) c.index.result.now.seat.0 (seat_reached old place) _ is
            (sym w'.says.ensures ∙ w'.if-says.false)))
        | else-not-seen-index-via-else-not-seen-index w' ↦
            rw (w.reached-is, w.seen-is)
            (reaches_same rows first place n old c.loop-index.reached.items c.args.seen.now
            c.loop-index.seen c.loop-index.invariant
            (λ waits. marked-seen rows first place n old c.loop-index.reached.items c.args.seen.now
            c.loop-index.seen c.loop-index.invariant w'.if-not-seen-index.false))
      ]
    ]
