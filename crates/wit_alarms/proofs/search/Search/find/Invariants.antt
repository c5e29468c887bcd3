use Rattle.wit_alarms.proofs.search.Search.find.Given as goal

-- nothing has to last: what wasn't found short is looked for once more
abbrev pub invariant-loop-most : goal.invariant-loop-most
invariant-loop-most l = Unit {0}
