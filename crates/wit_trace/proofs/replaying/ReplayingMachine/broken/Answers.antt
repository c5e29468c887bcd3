use Rattle.wit_trace.proofs.ReplayLemmas.{broken_answer}
use Rattle.wit_trace.proofs.replaying.ReplayingMachine.broken.Goals as goal

pub returns : goal.returns
returns c =
    broken_answer c.args.self.now.view c.args.self.now.progress c.reach.new.self c.args.number
    c.args.cause c.args.beginning.now c.in_ok-reach.field-0 c.unwrap_or-number.result
    c.ended.result c.in_ok-reach.ensures.stands c.unwrap_or-number.ensures
    c.ended.ensures.text c.ended.ensures.total c.ended.ensures.circle
