use Rattle.wit_alarms.proofs.Tried.{Tried}
use Rattle.wit_alarms.proofs.search.Search.+extend.Given as goal

abbrev pub decreases-extend : goal.decreases-extend
decreases-extend l = l.most

-- the path is as it was, and none of the facts so far goes on
abbrev pub invariant-loop-next : goal.invariant-loop-next
invariant-loop-next l =
    Tried l.self.why l.self.lives.now l.self.facts.now l.next-items l.fn.path.items l.path.items
    l.next-index l.most
