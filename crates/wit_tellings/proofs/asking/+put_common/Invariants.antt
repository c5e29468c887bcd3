use Rattle.std.proofs.Common.{length}
use Rattle.wit_tellings.proofs.asking.+put_common.Given as goal

abbrev pub decreases-put_common : goal.decreases-put_common
decreases-put_common l = length l.besides.now
