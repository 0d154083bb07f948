use Rattle.object_memory.proofs.Starts.{less_made}
use Rattle.object_memory.proofs.breaking.beyond.Goals as goal

pub returns-clause-made : goal.returns-clause-made
returns-clause-made c =
    less_made c.args.dag.now c.end_of.new.dag c.make.new.self c.make-2.new.self c.args.size c.in_ok-end.end c.in_ok-wide.wide c.in_ok-id.id _ c.end_of.ensures.extends c.make.ensures.extends c.requires.size c.in_ok-end.ensures.made c.in_ok-wide.ensures.made c.in_ok-id.ensures.made
