use Rattle.std.proofs.Common.{subst}
use Rattle.wit_alarms.specs.Searching.{NoneGoesOn}
use Rattle.wit_alarms.proofs.search.Search.find_within.Goals as goal

pub returns-clause-none : goal.returns-clause-none
returns-clause-none c =
    subst (λ p. NoneGoesOn c.args.self.now.why c.args.self.now.lives.now c.args.self.now.facts.now
    p c.args.most) c.new-path.ensures.items (c.in_ok-extend.ensures.none c.if-branch.false)
