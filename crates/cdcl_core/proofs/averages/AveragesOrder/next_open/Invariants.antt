use Rattle.std.specs.BinaryHeap.{heap_len}
use Rattle.cdcl_core.proofs.averages.AveragesOrder.next_open.Given as goal

abbrev pub decreases-loop-score : goal.decreases-loop-score
decreases-loop-score l = heap_len l.self.heap
