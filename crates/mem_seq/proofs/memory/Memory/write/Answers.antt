use Rattle.mem_seq.specs.Memories.{written_in}
use Rattle.mem_seq.proofs.Held.{written_within, written_stands}
use Rattle.mem_seq.proofs.memory.Memory.write.Goals as goal

pub returns-clause-within : goal.returns-clause-within
returns-clause-within c =
    written_within c.args.dag.now c.bytes.new.dag c.chosen_bytes.new.dag (written_in c.args.self.now) (written_in c.put.new.self) c.args.p c.in_ok-bytes.bytes.items c.deref-2.result.now c.bytes.ensures.extends c.chosen_bytes.ensures.extends c.requires.within c.deref-2.ensures.value c.in_ok-put.ensures.put
    c.in_ok-bytes.ensures.bytes

pub returns-clause-stands : goal.returns-clause-stands
returns-clause-stands c = λ v objects stands.
    written_stands c.args.dag.now c.bytes.new.dag c.chosen_bytes.new.dag (written_in c.args.self.now) (written_in c.put.new.self) c.args.p c.in_ok-bytes.bytes.items c.deref-2.result.now c.bytes.ensures.extends c.chosen_bytes.ensures.extends c.requires.within c.deref-2.ensures.value c.in_ok-put.ensures.put
    v c.args.self.now.store.now c.put.new.self.store.now objects c.args.guard c.count_of-count.result c.args.new.now c.in_ok-old.old.items c.deref.result.now c.put.ensures.store c.requires.guard c.requires.new c.count_of-count.ensures.inside c.count_of-count.ensures.same c.in_ok-bytes.ensures.size
    c.in_ok-old.ensures.held stands c.deref.ensures.value (c.in_ok-old.ensures.values v objects stands) (c.in_ok-bytes.ensures.values v)
