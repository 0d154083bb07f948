use Rattle.mem_seq.proofs.Chaining.{truth_stays, pushed_after}
use Rattle.mem_seq.proofs.chain.Chain.push.Goals as goal

pub append-requires-clause-id : goal.append-requires-clause-id
append-requires-clause-id c = truth_stays c.args.dag.now c.turn.new.dag c.args.id c.turn.ensures.extends c.requires.id

pub returns-clause-truth : goal.returns-clause-truth
returns-clause-truth c =
    pushed_after c.args.dag.now c.turn.new.dag c.args.self.now c.turn.new.self c.append.new.self c.args.quantifier c.args.id c.turn.ensures.extends c.requires.id c.in_ok-turn.ensures.kind c.in_ok-turn.ensures.truth c.in_ok-append.ensures.truth
