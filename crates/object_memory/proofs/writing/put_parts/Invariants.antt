use Rattle.std.proofs.Common.{◌-◌, length}
use Rattle.object_memory.proofs.Puts.{Putting}
use Rattle.object_memory.proofs.writing.put_parts.Given as goal

abbrev pub invariant-writing : goal.invariant-writing
invariant-writing l = Putting l.fn.dag l.dag l.fn.block.items l.bytes l.offset.offset l.block.items l.at

abbrev pub decreases-writing : goal.decreases-writing
decreases-writing l = length l.bytes - l.at
