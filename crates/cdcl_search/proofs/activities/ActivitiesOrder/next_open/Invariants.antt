use Rattle.std.proofs.Common.{length}
use Rattle.cdcl_search.proofs.activities.ActivitiesOrder.next_open.Given as goal

abbrev pub decreases-loop-variable : goal.decreases-loop-variable
decreases-loop-variable l = length l.self.heap.items
