use Rattle.std.proofs.Common.{arith}
use Rattle.object_memory.proofs.Starts.{outside_always, constant_below}
use Rattle.object_memory.proofs.breaking.outside.Goals as goal

pub returns-then-count-clause-made : goal.returns-then-count-clause-made
returns-then-count-clause-made c = outside_always c.args.dag.now c.constant_test.new.dag c.args.offset c.args.size c.in_ok-id.id c.args.count c.nodes.ensures.ordered c.requires.size (omega (arith, c.if-count.true)) c.in_ok-id.ensures.made

pub beyond_size-requires-clause-size : goal.beyond_size-requires-clause-size
beyond_size-requires-clause-size c = constant_below c.args.dag.now c.args.size c.in-Some.bits c.nodes.ensures.ordered c.requires.size c.in-Some.ensures
