use Rattle.std.proofs.Common.{arith}
use Rattle.word_dag.specs.Meaning.{valuation_of}
use Rattle.sat_form.specs.Satisfaction.{assignment_of}
use Rattle.bit_blast.proofs.Promises.{LiftedTo-all, lifted_true, lifted_range}
use Rattle.bit_blast.proofs.lifting.lift.Goals as goal

pub returns-clause-true_there : goal.returns-clause-true_there
returns-clause-true_there c =
    lifted_true c.args.blasted.now.map (assignment_of c.args.assignment.now) c.args.blasted.now.cnf (valuation_of c.from_values.result)
    (LiftedTo-all c.args.blasted.now.map (assignment_of c.args.assignment.now) c.loop-index.index c.loop-index.values.items _ c.loop-index.invariant (omega arith) (omega arith) c.from_values.ensures)

pub returns-clause-in_range : goal.returns-clause-in_range
returns-clause-in_range c =
    lifted_range c.args.blasted.now.map (assignment_of c.args.assignment.now) c.args.blasted.now.cnf (valuation_of c.from_values.result)
    (LiftedTo-all c.args.blasted.now.map (assignment_of c.args.assignment.now) c.loop-index.index c.loop-index.values.items _ c.loop-index.invariant (omega arith) (omega arith) c.from_values.ensures)
