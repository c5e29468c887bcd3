use Rattle.std.proofs.Common.{sym, ◌∙◌}
use Rattle.wit_alarms.proofs.Paths.{follows_last}
use Rattle.wit_alarms.proofs.search.Search.leads_to.Goals as goal

pub returns-in-Some : goal.returns-in-Some
returns-in-Some c =
    c.waits.ensures
    ∙ sym (follows_last c.args.self.now.why c.args.self.now.lives.now c.args.self.now.facts.now
    c.args.path.now c.in-Some.field-0.now c.args.next c.in-Some.ensures.value)
