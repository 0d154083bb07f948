use Rattle.mem_seq.proofs.Learning.{imaging_more}
use Rattle.mem_seq.proofs.replacing.images.Goals as goal

pub loop-i-preserved : goal.loop-i-preserved
loop-i-preserved c =
    imaging_more c.args.dag.now c.loop-i.dag c.image.new.dag c.args.known.now c.loop-i.known c.image.new.self c.args.ids.now c.loop-i.images.items c.push.new.self.items c.in_ok-image.image _ c.loop-i.i c.requires.ids c.loop-i.invariant c.loop-i-test.true
    c.image.ensures.extends c.in_ok-image.ensures.within c.in_ok-image.ensures.there c.in_ok-image.ensures.width c.in_ok-image.ensures.value c.in_ok-image.ensures.agrees c.in_ok-push.ensures.items
