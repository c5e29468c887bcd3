use Rattle.std.proofs.Common.{◌≡◌, ◌++◌, drop, map, take}
use Rattle.wit_gathered.specs.Types.{one_renamed}
use Rattle.wit_gathered.proofs.types.rename.Given as goal

-- those before the place are renamed
abbrev pub invariant-loop-at : goal.invariant-loop-at
invariant-loop-at l =
    l.firsts ≡ map (one_renamed l.from l.to) (take l.at l.fn.firsts) ++ drop l.at l.fn.firsts
