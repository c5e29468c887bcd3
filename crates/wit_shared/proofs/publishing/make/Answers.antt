use Rattle.std.proofs.Common.{subst}
use Rattle.wit_model.specs.Rules.Step.{AnswersOrFails}
use Rattle.wit_shared.proofs.Teaching.{made_ready, ready_answer}
use Rattle.wit_shared.proofs.publishing.make.Goals as goal

pub teach-requires-clause-answer : goal.teach-requires-clause-answer
teach-requires-clause-answer g c =
    let did = rw c.in-Ok-Teaches.field-0-is at c.in-Ok-Teaches.ensures.did in
    ready_answer c.args.verifier.now c.attempt.new.self c.args.seat.0 c.args.call
    c.in-Ok-Teaches.call c.in-Ok-Teaches.reply did.1 did.3

pub returns-in-Ok-Teaches-clause-made : goal.returns-in-Ok-Teaches-clause-made
returns-in-Ok-Teaches-clause-made g c =
    let did = rw c.in-Ok-Teaches.field-0-is at c.in-Ok-Teaches.ensures.did in
    made_ready c.args.verifier.now c.attempt.new.self c.teach.new.verifier c.args.seat.0
    c.args.call c.in-Ok-Teaches.reply c.teach.result did.3
    (subst (λ call. AnswersOrFails c.attempt.new.self c.args.seat.0 call c.teach.result
    c.teach.new.verifier) did.1 c.teach.ensures.made)
