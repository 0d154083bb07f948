use Rattle.std.proofs.Common.{map, ap, ◌∙◌}
use Rattle.word_dag.specs.Meaning.{value}
use Rattle.guarded_ssa.specs.inner.Held.{held}
use Rattle.guarded_ssa.proofs.Writing.{load_same}
use Rattle.guarded_ssa.proofs.slots.Slot.loaded.Goals as goal

pub returns-clause-made : goal.returns-clause-made
returns-clause-made c = record {
  there = c.in_ok-id.ensures.made.there;
  width_is = c.in_ok-id.ensures.made.width_is;
  value_is = λ v. c.in_ok-id.ensures.made.value_is v
      ∙ load_same c.args.type_ (held v c.args.dag.now c.args.trees.now c.args.plan.now.code.now c.args.self.now).blocks c.args.b c.args.offset c.size.result _ c.size.ensures.is (ap (map (value v c.args.dag.now)) c.deref.ensures.value ∙ c.in_ok-bytes.ensures.made.values_are v);
}
