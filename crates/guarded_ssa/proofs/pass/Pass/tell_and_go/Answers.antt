use Rattle.std.proofs.Common.{length, ap, subst, sym, arith}
use Rattle.guarded_ssa.specs.inner.Held.{SlotIn}
use Rattle.guarded_ssa.proofs.Passing.{tells_one, told_in}
use Rattle.guarded_ssa.proofs.pass.Pass.tell_and_go.Goals as goal

pub returns-clause-tells : goal.returns-clause-tells
returns-clause-tells c =
    tells_one _ _ _ _ c.args.here.slot _ _ c.args.self.now c.tell.new.self _ c.arrive.ensures.extends (told_in _ _ c.args.self.now c.tell.new.self _ c.requires.reached.within c.requires.event c.in_ok-tell.ensures.events c.tell.ensures.pending c.tell.ensures.trees)
    c.in_ok-tell.ensures.events c.tell.ensures.pending c.tell.ensures.trees c.in_ok-arrive.ensures.arrives

pub arrive-requires : goal.arrive-requires
arrive-requires c = record {
  plan = c.requires.reached.plan;
  room = omega (arith, c.requires.reached.room, ap length c.tell.ensures.pending);
  within = told_in _ _ c.args.self.now c.tell.new.self _ c.requires.reached.within c.requires.event c.in_ok-tell.ensures.events c.tell.ensures.pending c.tell.ensures.trees;
  slot = subst (λ trees. SlotIn c.args.dag.now trees c.args.plan.now.code.now c.args.here.slot) (sym c.tell.ensures.trees) c.requires.reached.slot;
}
