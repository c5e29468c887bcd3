use Rattle.std.proofs.Common.{◌≡◌, ◌<◌, length, get_or, sym, ap, arith, refl}
use Rattle.wit_circles.specs.Searching.{rows_of, row, type_met}
use Rattle.wit_circles.proofs.Meeting.{reaches_more, reaches_same}
use Rattle.wit_circles.proofs.search.reach.Goals as goal
use Rattle.wit_circles.proofs.search.reach.Goals.{then-not-marks-of+in_ok-push, else-not-marks-of}

pub loop-of-preserved : goal.loop-of-preserved
loop-of-preserved c =
    let rows = rows_of c.args.rows.now in
    let n = c.loop-of.of-index in
    let next = c.args.next.now in
    let old = c.args.met.now.items in
    let here = type_met old c.args.place in
    let lt : n < length next = c.loop-of-test.true in
    let read : get_or (row rows here) n 0 ≡ get_or next n 0 =
    sym (ap (λ r. get_or r n 0) c.requires.row) in
    let long : n < length (row rows here) = omega (arith, lt, ap length c.requires.row) in
    elim c.if-not-marks-of.branch [
      | then-not-marks-of+in_ok-push w ↦
          rw (w.met-is, w.marks-is)
          (rw w.in_ok-push.ensures.items
          (reaches_more rows c.args.first c.args.last c.args.place n next old c.loop-of.met.items
          c.args.marks.now c.loop-of.marks c.loop-of.invariant _ c.requires.place refl refl
          (omega (arith, c.requires.table here n long, read))
          (c.requires.without n lt) w.if-not-marks-of.true
          (n, long, read)))
      | else-not-marks-of w ↦
          rw (w.met-is, w.marks-is)
          (reaches_same rows c.args.first c.args.last c.args.place n next old c.loop-of.met.items
          c.args.marks.now c.loop-of.marks c.loop-of.invariant w.if-not-marks-of.false)
    ]
