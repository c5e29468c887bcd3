use Rattle.std.proofs.Common.{ap, ◌∙◌, arith}
use Rattle.wit_model.specs.Rules.Destroying.{uses}
use Rattle.wit_waiting.specs.Seats.{seat_view}
use Rattle.wit_waiting.specs.Seats.{Holdings}
use Rattle.wit_waiting.proofs.SeatRows.{count-now}
use Rattle.wit_waiting.proofs.SeatTests.{seat-at, any-step, any-here, any-end}
use Rattle.wit_waiting.proofs.seats.Seats.is_used.Goals as goal

pub uses-requires : goal.uses-requires
uses-requires c =
    let count = count-now c.self.inside c.args.self.now c.self.view_is in
    (omega arith, omega (arith, count, c.len-place-end.ensures, c.self.inside.requests.ok.0))

pub returns-then-uses : goal.returns-then-uses
returns-then-uses c =
    let count = count-now c.self.inside c.args.self.now c.self.view_is in
    any-here (λ (s : Holdings). uses c.args.lock.0 (seat_view s)) c.args.self.now.seats
    c.loop-place.place c.uses.result _
    (omega (arith, count, c.len-place-end.ensures, c.self.inside.requests.ok.0))
    (c.uses.ensures ∙ ap (λ (s : Holdings). uses c.args.lock.0 (seat_view s))
    (seat-at c.args.self.now c.loop-place.place)) c.if-uses.true c.loop-place.invariant

pub loop-place-preserved : goal.loop-place-preserved
loop-place-preserved c =
    let count = count-now c.self.inside c.args.self.now c.self.view_is in
    any-step (λ (s : Holdings). uses c.args.lock.0 (seat_view s)) c.args.self.now.seats
    c.loop-place.place c.uses.result _
    (omega (arith, count, c.len-place-end.ensures, c.self.inside.requests.ok.0))
    (c.uses.ensures ∙ ap (λ (s : Holdings). uses c.args.lock.0 (seat_view s))
    (seat-at c.args.self.now c.loop-place.place)) c.if-uses.false c.loop-place.invariant

pub returns : goal.returns
returns c =
    let count = count-now c.self.inside c.args.self.now c.self.view_is in
    any-end (λ (s : Holdings). uses c.args.lock.0 (seat_view s)) c.args.self.now.seats
    c.loop-place.place _
    (omega (arith, count, c.len-place-end.ensures, c.self.inside.requests.ok.0))
    c.loop-place.invariant
