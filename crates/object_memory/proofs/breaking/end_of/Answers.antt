use Rattle.object_memory.proofs.Starts.{sum_made}
use Rattle.object_memory.proofs.breaking.end_of.Goals as goal

pub returns-clause-made : goal.returns-clause-made
returns-clause-made c =
    sum_made c.args.dag.now c.make.new.self c.make-2.new.self c.make-3.new.self c.args.offset c.in_ok-start.start c.in_ok-distance.distance c.in_ok-id.id c.args.count c.nodes.ensures.ordered c.requires.offset c.requires.count c.make-2.ensures.extends c.in_ok-start.ensures.made c.in_ok-distance.ensures.made c.in_ok-id.ensures.made
