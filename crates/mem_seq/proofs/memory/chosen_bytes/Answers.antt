use Rattle.mem_seq.proofs.Held.{choosing_more}
use Rattle.mem_seq.proofs.memory.chosen_bytes.Goals as goal

pub loop-i-preserved : goal.loop-i-preserved
loop-i-preserved c =
    choosing_more c.args.dag.now c.loop-i.dag c.chosen.new.dag c.args.test c.args.first.now c.args.second.now c.loop-i.ids.items _ _ c.loop-i.i _ _ c.requires.test c.requires.first c.requires.second c.requires.size c.loop-i.invariant c.loop-i-test.true c.chosen.ensures.extends
    c.in_ok-id.ensures.made c.in_ok-push.ensures.items
