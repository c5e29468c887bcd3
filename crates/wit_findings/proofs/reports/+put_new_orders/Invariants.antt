use Rattle.std.proofs.Common.{length}
use Rattle.wit_findings.proofs.reports.+put_new_orders.Given as goal

abbrev pub decreases-put_new_orders : goal.decreases-put_new_orders
decreases-put_new_orders l = length l.orders.now
