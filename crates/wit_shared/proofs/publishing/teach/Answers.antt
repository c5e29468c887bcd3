use Rattle.std.proofs.Common.{◌++◌, ◌∙◌, ap, reverse}
use Rattle.wit_model.specs.Rules.Orders.{adopted}
use Rattle.wit_observers.specs.Shown.{Published}
use Rattle.wit_shared.proofs.Teaching.{all_published, wants}
use Rattle.wit_shared.proofs.publishing.teach.Goals as goal

pub returns-in_err-announce-clause-made : goal.returns-in_err-announce-clause-made
returns-in_err-announce-clause-made g c =
    wants c.args.verifier.now c.args.seat.0 c.args.call c.args.reply.now c.requires.teaches
    c.requires.answer c.from_residual.result c.from_residual.ensures.1

pub returns-clause-published : goal.returns-clause-published
returns-clause-published g c =
    let more = reverse (adopted c.args.call c.args.reply.now) in
    all_published c.args.verifier.now c.args.seat.0 c.args.call c.args.reply.now
    c.requires.teaches c.requires.answer c.call.new.self c.call.result c.announce.new.publisher
    c.call.ensures.answer (c.call.ensures.prepared c.requires.may c.requires.prepared)
    (c.in_ok-announce.ensures.more
    ∙ ap (λ (p : Published). record p { orders = p.orders ++ more }) c.requires.published)
