use Rattle.std.proofs.Common.{length}
use Rattle.wit_alarms.proofs.search.Search.+leads_by.Given as goal

abbrev pub decreases-leads_by : goal.decreases-leads_by
decreases-leads_by l = length l.others.now
