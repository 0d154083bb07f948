use Rattle.guarded_ssa.proofs.Passing.{passes_decided}
use Rattle.guarded_ssa.proofs.pass.Pass.jump.Goals as goal

pub returns-in_ok-arrive-in-Some-clause-passes : goal.returns-in_ok-arrive-in-Some-clause-passes
returns-in_ok-arrive-in-Some-clause-passes c =
    passes_decided c.args.plan.now.until.items c.args.plan.now.code.now c.args.here.place c.args.here.variable c.args.here.line c.args.here.function c.args.operand c.args.count c.way-n.result c.in-Some.zero c.args.dag.now c.arrive.new.dag c.args.here.slot c.args.self.now _ c.requires.reached.within c.arrive.ensures.extends
    c.in-Some.ensures c.way-n.ensures c.in_ok-arrive-in-Some.ensures.arrives
