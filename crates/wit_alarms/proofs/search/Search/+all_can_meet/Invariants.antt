use Rattle.std.proofs.Common.{length}
use Rattle.wit_alarms.proofs.search.Search.+all_can_meet.Given as goal

abbrev pub decreases-all_can_meet : goal.decreases-all_can_meet
decreases-all_can_meet l = length l.circle.now
