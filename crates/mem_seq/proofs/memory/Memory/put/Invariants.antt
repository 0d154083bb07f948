use Rattle.std.proofs.Common.{◌≡◌, ◌+◌, ℕ, drop}
use Rattle.mem_seq.specs.Memories.{put_from, written_in}
use Rattle.mem_seq.proofs.memory.Memory.put.Given as goal

abbrev pub invariant-loop-i : goal.invariant-loop-i
invariant-loop-i l = record {
  store : l.self.store.now ≡ l.fn.self.store.now;
  put : (q : ℕ) → put_from (l.p + l.i) (drop l.i l.bytes) (written_in l.self) q ≡ put_from l.p l.bytes (written_in l.fn.self) q;
}
