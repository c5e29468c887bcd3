use Rattle.std.proofs.Common.{length}
use Rattle.wit_forecast.proofs.answers.+put_all.Given as goal

-- the answers that are left
abbrev pub decreases-put_all : goal.decreases-put_all
decreases-put_all l = length l.answers.now
