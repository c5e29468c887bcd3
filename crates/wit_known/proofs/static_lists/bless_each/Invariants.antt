use Rattle.std.proofs.Common.{◌≡◌, ◌++◌, drop}
use Rattle.wit_model.specs.Rules.Start.{has_bad_pair}
use Rattle.wit_known.specs.Listed.{pairs_of}
use Rattle.wit_known.proofs.static_lists.bless_each.Given as goal

abbrev pub invariant-loop-pair : goal.invariant-loop-pair
invariant-loop-pair l = record {
  blessed : l.names.blessed ++ pairs_of (drop l.pair-index l.pairs)
      ≡ l.initial.names.blessed ++ pairs_of l.pairs;
  good : has_bad_pair (pairs_of (drop l.pair-index l.pairs)) ≡ has_bad_pair (pairs_of l.pairs);
  rest : l.names ≡ record l.initial.names { blessed = l.names.blessed };
}
