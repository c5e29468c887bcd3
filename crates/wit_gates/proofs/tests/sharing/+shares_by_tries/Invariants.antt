use Rattle.wit_gates.proofs.tests.sharing.+shares_by_tries.Given as goal

abbrev pub decreases-shares_by_tries : goal.decreases-shares_by_tries
decreases-shares_by_tries g l = l.count
