use Rattle.try_soak.proofs.rounds.+nest.Given as goal

-- how many more locks are taken behind it
abbrev pub decreases-nest : goal.decreases-nest
decreases-nest g l = l.deeper
