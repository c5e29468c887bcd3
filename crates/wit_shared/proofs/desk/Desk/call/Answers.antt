use Rattle.std.proofs.Common.{ap, ◌∙◌, subst}
use Rattle.wit_seats.specs.declared.views.Journal.{Journal}
use Rattle.wit_seats.specs.Rule.{journal}
use Rattle.wit_shared.specs.Publishing.{Makes}
use Rattle.wit_shared.proofs.Steps.{makes, may_follow, tells_made}
use Rattle.wit_shared.proofs.desk.Desk.call.Goals as goal

pub follow-requires : goal.follow-requires
follow-requires g c =
    let made =
    subst (λ t. Makes c.self.inside.verifier t c.args.call c.make-answer.result
    c.make-answer.new.verifier) c.number.ensures c.make-answer.ensures.made in
    let goes =
    makes c.self.inside.verifier c.args.seat.now.seat c.args.call c.make-answer.result
    c.make-answer.new.verifier made in
    record {
      start = goes.start ∙ c.self.invariant.0;
      grows =
          may_follow c.self.inside.keeper c.self.inside.verifier c.make-answer.new.verifier
          c.self.inside.handed c.args.seat.now.seat c.self.invariant.1 goes;
    }

pub invariant_of-self : goal.invariant_of-self
invariant_of-self g c =
    let made =
    subst (λ t. Makes c.self.inside.verifier t c.args.call c.make-answer.result
    c.make-answer.new.verifier) c.number.ensures c.make-answer.ensures.made in (
      (makes c.self.inside.verifier c.args.seat.now.seat c.args.call c.make-answer.result
          c.make-answer.new.verifier made).start ∙ c.self.invariant.0,
      c.follow.ensures.kept ∙ ap (λ (j : Journal). journal c.make-answer.new.verifier.history
          c.make-answer.new.verifier.files j.handed) c.self.invariant.1,
      c.make-answer.ensures.published,
    )

pub returns : goal.returns
returns g c =
    tells_made g.J.Room.start c.self.inside.keeper c.self.inside.verifier c.make-answer.new.verifier
    c.self.inside.handed c.args.call c.make-answer.result
    c.args.seat.now c.follow.new.seat c.self.invariant.0 c.self.invariant.1 c.follow.ensures.entered
    (subst (λ t. Makes c.self.inside.verifier t c.args.call c.make-answer.result
    c.make-answer.new.verifier) c.number.ensures c.make-answer.ensures.made)
