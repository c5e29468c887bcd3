use Rattle.std.proofs.Common.{◌≡◌, None, Some, ap, sym, ◌∙◌, subst}
use Rattle.wit_seats.specs.declared.views.Journal.{Journal}
use Rattle.wit_seats.specs.declared.views.SeatKnowledge.{SeatKnowledge}
use Rattle.wit_seats.specs.Seats.{IsKnowledge, Grows, caught_up}
use Rattle.wit_seats.specs.Rule.{shows, journal, alone}
use Rattle.wit_seats.specs.Shown.{log_in, knowledge_in}
use Rattle.wit_seats.proofs.Entering.{together, of_seat, known_after, enters}
use Rattle.wit_seats.proofs.keeper.LogKeeper.enter_as.Goals as goal

pub invariant_of-seat : goal.invariant_of-seat
invariant_of-seat g c =
    let j = c.args.self.now in
    let k = c.args.seat.now in
    let after = g.E.VerifierStep.after in
    let given = g.E.VerifierStep.given in
    let both =
    together after given j k c.self.inside.card.me.0 c.seat.inside.card.me.0
    c.take_off-card.result.me.0 c.put_to.new.card.me.0 c.follow.new.card.me.0
    (c.self.invariant.3 ∙ ap (λ (x : Journal). shows (Some x) None) c.self.view_is)
    (c.seat.invariant.1 ∙ ap (λ (x : SeatKnowledge). shows None (Some x)) c.seat.view_is)
    (ap (λ m. m.0) c.take_off-card.ensures.taken.1) c.put_to.ensures.1 c.follow.ensures.step in
    let e =
    of_seat c.take_off.result.me.0 (caught_up after given k)
    (ap (λ m. m.0) c.take_off.ensures.taken.1 ∙ ap alone both.0) in (
      c.take_off.ensures.taken.0 ∙ c.follow.ensures.table ∙ c.put_to.ensures.0 ∙ c.self.invariant.1,
      e.0,
      ap (λ (x : SeatKnowledge). x.seat) e.1 ∙ sym (ap (λ (x : SeatKnowledge). x.seat) c.seat.view_is)
          ∙ c.seat.invariant.2,
      subst (λ (x : SeatKnowledge). IsKnowledge g.J.Room.start x) (sym e.1)
          (known_after g.J.Room.start after given j k c.requires.grows c.requires.named
          c.requires.legal both.1),
    )

pub returns-clause-entered : goal.returns-clause-entered
returns-clause-entered g c =
    let j = c.args.self.now in
    let k = c.args.seat.now in
    let after = g.E.VerifierStep.after in
    let given = g.E.VerifierStep.given in
    let both =
    together after given j k c.self.inside.card.me.0 c.seat.inside.card.me.0
    c.take_off-card.result.me.0 c.put_to.new.card.me.0 c.follow.new.card.me.0
    (c.self.invariant.3 ∙ ap (λ (x : Journal). shows (Some x) None) c.self.view_is)
    (c.seat.invariant.1 ∙ ap (λ (x : SeatKnowledge). shows None (Some x)) c.seat.view_is)
    (ap (λ m. m.0) c.take_off-card.ensures.taken.1) c.put_to.ensures.1 c.follow.ensures.step in
    let e =
    of_seat c.take_off.result.me.0 (caught_up after given k)
    (ap (λ m. m.0) c.take_off.ensures.taken.1 ∙ ap alone both.0) in
    enters g.J.Room.start given j after k _
    (subst (λ (x : SeatKnowledge). IsKnowledge g.J.Room.start x) c.seat.view_is c.seat.invariant.3) both.1
    c.requires.legal e.1
