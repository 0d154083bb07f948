use Rattle.object_memory.proofs.Starts.{lesser_made}
use Rattle.object_memory.proofs.making.lesser.Goals as goal

pub returns-clause-made : goal.returns-clause-made
returns-clause-made c =
    lesser_made c.args.dag.now c.is_below.new.dag c.offset_of.new.dag c.make.new.self c.chosen.new.dag c.args.size c.in_ok-less.less c.in_ok-low.low c.in_ok-high.high c.in_ok-id.id c.args.count c.is_below.ensures.extends c.offset_of.ensures.extends c.make.ensures.extends c.requires.size c.requires.count c.in_ok-less.ensures.made
    c.in_ok-low.ensures.made c.in_ok-high.ensures.made c.in_ok-id.ensures.made
