use Rattle.mem_seq.specs.Memories.{written_in}
use Rattle.mem_seq.proofs.Held.{putting_more, inserted}
use Rattle.mem_seq.proofs.memory.Memory.put.Goals as goal

pub loop-i-preserved : goal.loop-i-preserved
loop-i-preserved c = record {
  store = c.loop-i.invariant.store;
  put = putting_more c.args.p c.loop-i.i c.args.bytes.now _ (written_in c.loop-i.self) _ (written_in c.args.self.now) c.loop-i-test.true (inserted _ _ _ _ c.in_ok-insert.ensures.updates.0) c.loop-i.invariant.put;
}
