use Rattle.std.proofs.Common.{◌≡◌}
use Rattle.mem_seq.proofs.Following.{Following}
use Rattle.mem_seq.proofs.memory.notes.Given as goal

abbrev pub invariant-loop-at : goal.invariant-loop-at
invariant-loop-at l = record {
  same : l.memory.store.now ≡ l.store;
  following : Following l.fn.dag l.dag l.store l.events l.memory l.known l.others.items l.notes.items l.at;
}
