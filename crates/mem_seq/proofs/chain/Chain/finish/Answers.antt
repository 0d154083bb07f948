use Rattle.mem_seq.proofs.Chaining.{finished}
use Rattle.mem_seq.proofs.chain.Chain.finish.Goals as goal

pub returns-clause-made : goal.returns-clause-made
returns-clause-made c =
    finished c.args.dag.now c.settle.new.dag c.args.self c.settle.new.self c.nodes.ensures.ordered c.in_ok-settle.ensures.within c.in_ok-settle.ensures.settled c.in_ok-settle.ensures.truth
