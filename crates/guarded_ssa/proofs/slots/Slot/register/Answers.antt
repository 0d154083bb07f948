use Rattle.std.proofs.Common.{sym, ◌∙◌}
use Rattle.guarded_ssa.proofs.Merging.{register_set, register_unset}
use Rattle.guarded_ssa.proofs.slots.Slot.register.Goals as goal

pub returns-in-Some-clause-word : goal.returns-in-Some-clause-word
returns-in-Some-clause-word c =
    let word = register_set c.args.dag.now c.args.trees.now c.args.plan.now.code.now c.args.self.now c.args.r c.requires.within c.requires.there c.in-Some.id (sym (c.look.ensures) ∙ c.in-Some.is) in
    record { there = word.there; width_is = word.width_is }

pub returns-in-Some-clause-value : goal.returns-in-Some-clause-value
returns-in-Some-clause-value c =
    let word = register_set c.args.dag.now c.args.trees.now c.args.plan.now.code.now c.args.self.now c.args.r c.requires.within c.requires.there c.in-Some.id (sym (c.look.ensures) ∙ c.in-Some.is) in
    word.value_is

pub returns-in-None-clause-word : goal.returns-in-None-clause-word
returns-in-None-clause-word c =
    let word = register_unset c.args.dag.now c.args.trees.now c.args.plan.now.code.now c.args.self.now c.args.r c.requires.within c.requires.there _ c.of.result c.registers.ensures c.of.ensures (sym (c.look.ensures) ∙ c.in-None.is) in
    record { there = word.there; width_is = word.width_is }

pub returns-in-None-clause-value : goal.returns-in-None-clause-value
returns-in-None-clause-value c =
    let word = register_unset c.args.dag.now c.args.trees.now c.args.plan.now.code.now c.args.self.now c.args.r c.requires.within c.requires.there _ c.of.result c.registers.ensures c.of.ensures (sym (c.look.ensures) ∙ c.in-None.is) in
    word.value_is
