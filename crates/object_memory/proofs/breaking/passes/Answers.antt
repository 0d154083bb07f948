use Rattle.std.proofs.Common.{arith, refl}
use Rattle.object_memory.proofs.Broken.{passing_none, passing_more, passing_all}
use Rattle.object_memory.proofs.breaking.passes.Goals as goal

pub passing-init : goal.passing-init
passing-init c = passing_none c.args.dag.now c.args.guard c.args.breaks.now _ c.nodes.ensures.ordered c.requires.guard (omega arith) (omega arith)

pub passing-preserved : goal.passing-preserved
passing-preserved c =
    passing_more c.args.dag.now c.passing.dag c.inverse.new.dag c.both.new.dag c.args.guard c.args.breaks.now _ _ c.passing.id c.in_ok-fine.fine c.in_ok-id.id c.passing.left _ c.requires.breaks c.passing.invariant c.passing-test.true refl refl c.inverse.ensures.extends c.both.ensures.extends
    c.in_ok-fine.ensures.made c.in_ok-id.ensures.made

pub returns-clause-made : goal.returns-clause-made
returns-clause-made c = passing_all c.args.dag.now c.passing.dag c.args.guard c.args.breaks.now c.passing.id c.passing.left (omega arith) c.passing.invariant
