use Rattle.word_dag.proofs.Grown.{extends_more}
use Rattle.std.proofs.Common.{arith}
use Rattle.guarded_ssa.proofs.Stays.{slot_stays, pass_stays}
use Rattle.guarded_ssa.proofs.Passing.{passes_branch}
use Rattle.guarded_ssa.proofs.pass.Pass.branch.Goals as goal

pub arrive-requires : goal.arrive-requires
arrive-requires c = record {
  plan = c.requires.reached.plan;
  room = c.requires.reached.room;
  within = pass_stays _ _ c.split.ensures.extends _ _ c.requires.reached.within;
  slot = c.in_ok-zero.ensures.second_within;
}

pub arrive-requires-2 : goal.arrive-requires-2
arrive-requires-2 c = record {
  plan = c.requires.reached.plan;
  room = omega (arith, c.requires.reached.room, c.in_ok-arrive.ensures.arrives.size);
  within = c.in_ok-arrive.ensures.arrives.within;
  slot = slot_stays _ _ c.arrive.ensures.extends c.args.self.now.trees c.arrive.new.self.trees c.in_ok-arrive.ensures.arrives.keeps _ _ c.in_ok-zero.ensures.first_within;
}

pub returns-clause-passes : goal.returns-clause-passes
returns-clause-passes c =
    passes_branch _ _ _ _ _ _ c.args.operand c.args.count c.args.dag.now c.split.new.dag c.arrive.new.dag c.arrive-2.new.dag c.args.here.slot _ _ c.args.self.now c.arrive.new.self _ c.split.ensures.extends c.arrive.ensures.extends c.arrive-2.ensures.extends c.requires.reached.within
    c.in_ok-zero.ensures.first_within c.in_ok-zero.ensures.first c.in_ok-zero.ensures.second c.in_ok-arrive.ensures.arrives c.in_ok-arrive-2.ensures.arrives

pub returns-in_err-arrive-2-clause-extends : goal.returns-in_err-arrive-2-clause-extends
returns-in_err-arrive-2-clause-extends c = extends_more _ _ _ (extends_more _ _ _ c.split.ensures.extends c.arrive.ensures.extends) c.arrive-2.ensures.extends

pub returns-clause-extends : goal.returns-clause-extends
returns-clause-extends c = extends_more _ _ _ (extends_more _ _ _ c.split.ensures.extends c.arrive.ensures.extends) c.arrive-2.ensures.extends
