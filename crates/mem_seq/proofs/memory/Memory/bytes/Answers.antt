use Rattle.std.proofs.Common.{arith, ap, sym, ◌∙◌, length}
use Rattle.mem_seq.specs.Memories.{written_in}
use Rattle.mem_seq.proofs.Held.{finding_more, finding_values, read_gives}
use Rattle.mem_seq.proofs.memory.Memory.bytes.Goals as goal

pub loop-i-preserved : goal.loop-i-preserved
loop-i-preserved c =
    finding_more c.args.dag.now c.loop-i.dag c.byte.new.dag (written_in c.args.self.now) c.args.p c.as_slice-bytes.result.now c.loop-i.ids.items _ _ c.loop-i.i _ c.requires.within (omega (arith, c.requires.inside, ap length c.as_slice-bytes.ensures, c.in-Ok.ensures.len)) c.loop-i.invariant c.loop-i-test.true
    c.byte.ensures.extends c.in_ok-id.ensures.made c.in_ok-push.ensures.items

pub returns-clause-values : goal.returns-clause-values
returns-clause-values c = λ v objects stands.
    finding_values v c.args.dag.now c.loop-i.dag (written_in c.args.self.now) c.args.p c.args.count c.as_slice-bytes.result.now c.loop-i.ids.items c.loop-i.i c.args.self.now.store.now objects (omega (arith, c.loop-i-test.false)) c.loop-i.invariant stands
    (read_gives _ _ _ c.requires.there c.in-Ok.ensures.ok ∙ sym c.as_slice-bytes.ensures)
