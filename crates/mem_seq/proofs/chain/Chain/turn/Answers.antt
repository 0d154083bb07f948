use Rattle.std.proofs.Common.{◌∙◌}
use Rattle.mem_seq.proofs.Chaining.{turned}
use Rattle.mem_seq.proofs.chain.Chain.turn.Goals as goal

pub returns-clause-truth : goal.returns-clause-truth
returns-clause-truth c = λ v.
    turned c.settle.new.dag c.settle.new.self c.args.quantifier c.in_ok-settle.ensures.settled v ∙ c.in_ok-settle.ensures.truth v
