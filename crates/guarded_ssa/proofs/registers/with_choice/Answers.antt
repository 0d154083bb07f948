use Rattle.std.proofs.Common.{List, length, sym, ap, ◌∙◌, arith}
use Rattle.std.specs.Prelude.{slice_index_or}
use Rattle.c_types.specs.declared.integers.IntegerType.{IntegerType}
use Rattle.c_types.specs.declared.integers.IntegerType.TheVariants as types
use Rattle.c_types.specs.Integers.{width as type_width}
use Rattle.guarded_ssa.proofs.Planned.{needed_there}
use Rattle.guarded_ssa.proofs.Meeting.{set_tree}
use Rattle.guarded_ssa.proofs.registers.with_choice.Goals as goal

pub node_of-one-requires-clause-there : goal.node_of-one-requires-clause-there
node_of-one-requires-clause-there c = omega (arith, needed_there c.args.plan.now c.requires.meeting.plan c.args.meeting.place c.args.cell (sym c.if-not-is_needed.ensures), ap length c.deref.ensures.value)

pub node_of-other-requires-clause-there : goal.node_of-other-requires-clause-there
node_of-other-requires-clause-there c = omega (arith, needed_there c.args.plan.now c.requires.meeting.plan c.args.meeting.place c.args.cell (sym c.if-not-is_needed.ensures), ap length c.deref-2.ensures.value)

pub put-requires-clause-within : goal.put-requires-clause-within
put-requires-clause-within c = omega (arith, needed_there c.args.plan.now c.requires.meeting.plan c.args.meeting.place c.args.cell (sym c.if-not-is_needed.ensures), c.requires.root.room)

pub returns-clause-tree : goal.returns-clause-tree
returns-clause-tree c =
    let wide = ap (λ (ts : List IntegerType). type_width (slice_index_or ts c.args.cell types.Int)) c.deref.ensures.value in
    set_tree c.args.dag.now c.chosen.new.dag c.args.trees.now c.put.new.self c.args.plan.now.types.items c.args.root c.in_ok-next.next c.args.cell c.in_ok-id.id c.chosen.ensures.extends c.put.ensures.keeps c.in_ok-next.ensures.cells c.requires.root c.in_ok-next.ensures.root
    (record { there = c.in_ok-id.ensures.made.there; width_is = c.in_ok-id.ensures.made.width_is ∙ c.node_of-one.ensures.width_is ∙ wide })
