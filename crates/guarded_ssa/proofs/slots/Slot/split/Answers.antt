use Rattle.std.proofs.Common.{◌==◌}
use Rattle.std.specs.Prelude.{not}
use Rattle.word_dag.proofs.Grown.{extends_itself, extends_more}
use Rattle.goto_prog.specs.Meaning.{register}
use Rattle.guarded_ssa.proofs.Stays.{slot_grows}
use Rattle.guarded_ssa.proofs.Merging.{side_guarded, zero_holds, other_holds}
use Rattle.guarded_ssa.proofs.slots.Slot.split.Goals as goal

pub narrowed-requires-clause-within : goal.narrowed-requires-clause-within
narrowed-requires-clause-within c = slot_grows _ _ (extends_more _ _ _ c.zero_test.ensures.extends c.inverse.ensures.extends) _ _ _ c.requires.within

pub narrowed-requires-2-clause-within : goal.narrowed-requires-2-clause-within
narrowed-requires-2-clause-within c = slot_grows _ _ (extends_more _ _ _ (extends_more _ _ _ c.zero_test.ensures.extends c.inverse.ensures.extends) c.narrowed.ensures.extends) _ _ _ c.requires.within

pub returns-clause-extends : goal.returns-clause-extends
returns-clause-extends c = extends_more _ _ _ (extends_more _ _ _ (extends_more _ _ _ c.zero_test.ensures.extends c.inverse.ensures.extends) c.narrowed.ensures.extends) c.narrowed-2.ensures.extends

pub returns-clause-first_within : goal.returns-clause-first_within
returns-clause-first_within c = slot_grows _ _ c.narrowed-2.ensures.extends _ _ _ c.in_ok-first.ensures.within

pub returns-clause-first : goal.returns-clause-first
returns-clause-first c = λ v.
    side_guarded v c.args.dag.now c.inverse.new.dag c.narrowed.new.dag c.narrowed-2.new.dag c.args.trees.now c.args.plan.now.code.now c.args.self c.in_ok-first.first c.in_ok-zero.zero (λ m. register m c.args.operand == 0)
    (extends_more _ _ _ c.zero_test.ensures.extends c.inverse.ensures.extends) c.narrowed-2.ensures.extends c.requires.within c.in_ok-first.ensures.within
    (zero_holds v c.args.dag.now c.zero_test.new.dag c.inverse.new.dag c.args.trees.now c.args.plan.now.code.now c.args.self c.args.operand c.register-node.result c.in_ok-zero.zero c.inverse.ensures.extends c.in_ok-zero.ensures.made (c.register-node.ensures.value v)) (c.in_ok-first.ensures.guarded v)

pub returns-clause-second : goal.returns-clause-second
returns-clause-second c = λ v.
    let zero_is = zero_holds v c.args.dag.now c.zero_test.new.dag c.zero_test.new.dag c.args.trees.now c.args.plan.now.code.now c.args.self c.args.operand c.register-node.result c.in_ok-zero.zero (extends_itself c.zero_test.new.dag) c.in_ok-zero.ensures.made (c.register-node.ensures.value v) in
    side_guarded v c.args.dag.now c.narrowed.new.dag c.narrowed-2.new.dag c.narrowed-2.new.dag c.args.trees.now c.args.plan.now.code.now c.args.self c.in_ok-second.second c.in_ok-other.other (λ m. not (register m c.args.operand == 0))
    (extends_more _ _ _ (extends_more _ _ _ c.zero_test.ensures.extends c.inverse.ensures.extends) c.narrowed.ensures.extends) (extends_itself c.narrowed-2.new.dag) c.requires.within c.in_ok-second.ensures.within
    (other_holds v c.zero_test.new.dag c.inverse.new.dag c.narrowed.new.dag c.in_ok-zero.zero c.in_ok-other.other _ c.narrowed.ensures.extends zero_is c.in_ok-other.ensures.made) (c.in_ok-second.ensures.guarded v)

pub returns-in_err-second-clause-extends : goal.returns-in_err-second-clause-extends
returns-in_err-second-clause-extends c = extends_more _ _ _ (extends_more _ _ _ (extends_more _ _ _ c.zero_test.ensures.extends c.inverse.ensures.extends) c.narrowed.ensures.extends) c.narrowed-2.ensures.extends
