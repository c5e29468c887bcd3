use Rattle.wit_alarms.proofs.Cutting.{none_closes, if_none_found}
use Rattle.wit_alarms.proofs.search.Search.find.Goals as goal

pub returns-clause-none : goal.returns-clause-none
returns-clause-none c =
    if_none_found
    (none_closes c.args.self.now.why c.args.self.now.lives.now c.args.self.now.facts.now)
    c.find_within-2.result c.find_within-2.ensures.none
