use Rattle.mem_seq.specs.Memories.{written_in}
use Rattle.mem_seq.proofs.Held.{Finding}
use Rattle.mem_seq.proofs.memory.Memory.bytes.Given as goal

abbrev pub invariant-loop-i : goal.invariant-loop-i
invariant-loop-i l = Finding l.fn.dag l.dag (written_in l.self) l.p l.bytes l.ids.items l.i
