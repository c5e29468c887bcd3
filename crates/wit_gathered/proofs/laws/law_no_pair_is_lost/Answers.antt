use Rattle.wit_gathered.proofs.Example.{pair-met}
use Rattle.wit_gathered.proofs.Lines.{pairs-kept, pairs-known, pairs-stay}
use Rattle.wit_gathered.proofs.laws.law_no_pair_is_lost.Goals as goal

pub returns-clause-known : goal.returns-clause-known
returns-clause-known c = pairs-known

pub returns-clause-stays : goal.returns-clause-stays
returns-clause-stays c = pairs-stay

pub returns-clause-kept : goal.returns-clause-kept
returns-clause-kept c = pairs-kept

pub returns-clause-met : goal.returns-clause-met
returns-clause-met c = pair-met
