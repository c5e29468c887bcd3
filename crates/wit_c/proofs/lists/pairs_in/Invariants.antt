use Rattle.std.proofs.Common.{◌≡◌, map, take}
use Rattle.wit_known.specs.Listed.{pairs_of}
use Rattle.wit_c.specs.Starts.{pair_in}
use Rattle.wit_c.proofs.lists.pairs_in.Given as goal

abbrev pub invariant-loop-pair : goal.invariant-loop-pair
invariant-loop-pair l = pairs_of l.all.items ≡ map pair_in (take l.pair-index l.pairs)
