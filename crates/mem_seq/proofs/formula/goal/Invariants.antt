use Rattle.mem_seq.proofs.Building.{Looking}
use Rattle.mem_seq.proofs.formula.goal.Given as goal

abbrev pub invariant-looking : goal.invariant-looking
invariant-looking l = Looking l.fn.dag l.dag l.store l.events l.chain l.at

abbrev pub decreases-looking : goal.decreases-looking
decreases-looking l = l.at
