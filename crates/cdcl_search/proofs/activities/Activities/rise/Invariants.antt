use Rattle.std.proofs.Common.{◌<◌, length}
use Rattle.cdcl_search.proofs.activities.Activities.rise.Given as goal

abbrev pub invariant-loop-place : goal.invariant-loop-place
invariant-loop-place l = l.place < length l.self.heap.items

abbrev pub decreases-loop-place : goal.decreases-loop-place
decreases-loop-place l = l.place
