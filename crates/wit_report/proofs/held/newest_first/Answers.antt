use Rattle.std.proofs.Common.{◌++◌, ◌∙◌, ap, ap₂, sym, List, reverse, arith}
use Rattle.wit_model.specs.declared.locks.Instance.{Instance}
use Rattle.wit_model.specs.Rules.Chunks.{groups_of, upto}
use Rattle.wit_model.specs.Rules.Groups.{flat}
use Rattle.wit_model.proofs.Walking.{flat-newest, flat-oldest}
use Rattle.wit_report.proofs.HeldLines.{reversed-more, chain-lies, none-zero, none-beyond}
use Rattle.wit_report.proofs.held.newest_first.Goals as goal
use Rattle.wit_report.proofs.held.newest_first.Goals.{then-seat-eq0-via-then-seat-eq0}
use Rattle.wit_report.proofs.held.newest_first.Goals.{then-seat-eq0-via-else-seat-eq0+then-seats-seat}

pub returns-then-seat-eq0 : goal.returns-then-seat-eq0
returns-then-seat-eq0 c =
    let v = c.args.verifier.now in
    elim c.then-seat-eq0.branch [
      | then-seat-eq0-via-then-seat-eq0 w ↦ c.new-held.ensures.items
          ∙ none-zero v c.args.seat.0 c.args.spin w.if-seat-eq0.true
      | then-seat-eq0-via-else-seat-eq0+then-seats-seat w ↦
          c.new-held.ensures.items ∙ none-beyond v c.args.seat.0 c.args.spin
          (omega (arith, w.seats.ensures.value, w.if-seats-seat.true))
    ]

pub loop-spot-init : goal.loop-spot-init
loop-spot-init c = (
  c.newest-spot.ensures.spot,
  c.new-held.ensures.items
      ∙ sym (ap (λ (e : List Instance). reverse e)
      (flat-newest (groups_of c.chunks-lists.result.now c.list_of-list.result)
      (upto c.newest-spot.result) c.newest-spot.ensures.all)),
)

pub loop-spot-preserved : goal.loop-spot-preserved
loop-spot-preserved c = (
  c.older-spot.ensures.spot,
  c.in_ok-add_group.ensures
      ∙ ap₂ (λ (e f : List Instance). e ++ reverse f) c.loop-spot.invariant.1 c.group.ensures
      ∙ sym (reversed-more c.chunks-lists.result.now c.list_of-list.result c.loop-spot.spot
      c.in-Some.at c.in-Some.is c.loop-spot.invariant.0
      (upto c.older-spot.result) c.older-spot.ensures.before),
)

pub returns : goal.returns
returns c =
    let v = c.args.verifier.now in
    let lists = c.chunks-lists.result.now in
    c.loop-spot.invariant.1
    ∙ ap (λ (e : List Instance). reverse e)
    (flat-oldest (groups_of lists c.list_of-list.result) (upto c.loop-spot.spot)
    (ap upto c.in_default.is))
    ∙ ap (λ list. reverse (flat (groups_of lists list))) c.list_of-list.ensures
    ∙ ap (λ (chain : List Instance). reverse chain)
    (chain-lies v lists c.args.seat.0 c.args.spin c.history-log.ensures.legal
    c.chunks-lists.ensures (omega arith, omega arith))
