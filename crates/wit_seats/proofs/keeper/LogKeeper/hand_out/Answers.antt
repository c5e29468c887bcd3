use Rattle.std.proofs.Common.{◌≡◌, None, Some, ap, sym, ◌∙◌, subst}
use Rattle.wit_model.specs.Rules.History.{own_entries}
use Rattle.wit_seats.specs.declared.views.Journal.{Journal}
use Rattle.wit_seats.specs.declared.views.SeatKnowledge.{SeatKnowledge}
use Rattle.wit_seats.specs.Seats.{IsKnowledge}
use Rattle.wit_seats.specs.Rule.{shows, handed_out, newcomer}
use Rattle.wit_seats.specs.Shown.{log_in, knowledge_in}
use Rattle.wit_seats.proofs.Entering.{of_seat, known_newcomer}
use Rattle.wit_seats.proofs.keeper.LogKeeper.hand_out.Goals as goal

pub invariant_of-result : goal.invariant_of-result
invariant_of-result g c =
    let j = c.args.self.now in
    let is : log_in c.self.inside.card.me.0 ≡ j = c.self.view_is in
    let shown : c.hand_off-card.result.me.0 ≡ shows None (Some (newcomer j)) =
    ap (λ m. m.0) c.hand_off-card.ensures.seat.1 ∙ ap handed_out c.self.invariant.3
    ∙ ap (λ (x : Journal). shows None (Some (newcomer x))) is in
    let e = of_seat c.hand_off-card.result.me.0 (newcomer j) shown in (
      c.hand_off-card.ensures.seat.0 ∙ c.self.invariant.1,
      e.0,
      ap (λ (x : SeatKnowledge). x.seat) e.1 ∙ sym c.requires.number,
      subst (λ (x : SeatKnowledge). IsKnowledge g.J.Room.start x) (sym e.1)
          (known_newcomer g.J.Room.start j c.requires.legal
          (ap (λ n. own_entries n j.entries) (sym c.requires.number) ∙ c.requires.new)),
    )
