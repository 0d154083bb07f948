use Rattle.std.proofs.Common.{arith}
use Rattle.event_forms.proofs.Stays.{word_stays}
use Rattle.guarded_ssa.proofs.Stays.{zeros_stay, tree_stays}
use Rattle.guarded_ssa.proofs.Meeting.{joining_either, joining_next, joined_all}
use Rattle.guarded_ssa.proofs.registers.merged.Goals as goal

pub loop-k-init : goal.loop-k-init
loop-k-init c =
    joining_either c.args.dag.now c.args.trees.now c.args.plan.now.types.items c.args.plan.now.until.items c.args.plan.now.owner.items c.args.meeting.place c.args.meeting.test c.args.meeting.first c.args.meeting.second c.args.meeting.straight c.begun-root.result c.in_ok-cells.cells.items c.begun-root.ensures
    c.requires.first c.requires.second c.in_ok-cells.ensures

pub with_choice-requires-clause-meeting : goal.with_choice-requires-clause-meeting
with_choice-requires-clause-meeting c = record {
  plan = c.requires.plan;
  zeros = zeros_stay _ _ c.loop-k.invariant.extends _ c.requires.zeros;
  test = word_stays _ _ c.loop-k.invariant.extends _ _ c.requires.test;
  first = tree_stays _ _ c.loop-k.invariant.extends _ _ c.loop-k.invariant.keeps _ _ c.requires.first;
  second = tree_stays _ _ c.loop-k.invariant.extends _ _ c.loop-k.invariant.keeps _ _ c.requires.second;
}

pub with_choice-requires-clause-root : goal.with_choice-requires-clause-root
with_choice-requires-clause-root c = c.loop-k.invariant.tree

pub loop-k-preserved : goal.loop-k-preserved
loop-k-preserved c =
    joining_next c.args.dag.now c.args.trees.now c.args.plan.now.types.items c.args.plan.now.until.items c.args.plan.now.owner.items c.args.meeting.place c.args.meeting.test c.args.meeting.first c.args.meeting.second c.requires.first c.requires.second c.requires.test.there
    c.loop-k.dag c.with_choice.new.dag c.loop-k.trees c.with_choice.new.trees c.loop-k.root c.in_ok-root.root _ _ c.loop-k.k c.in_ok-cells.cells.items (omega (arith, c.loop-k-test.true, c.len-k-end.ensures, c.in_ok-cells.cells.ok)) c.index.ensures c.loop-k.invariant c.with_choice.ensures.extends c.with_choice.ensures.keeps c.in_ok-root.ensures.tree
    c.in_ok-root.ensures.chosen c.in_ok-root.ensures.others

pub returns-clause-merged : goal.returns-clause-merged
returns-clause-merged c =
    joined_all c.args.dag.now c.args.trees.now c.args.plan.now.types.items c.args.plan.now.until.items c.args.plan.now.owner.items c.args.meeting.place c.args.meeting.test c.args.meeting.first c.args.meeting.second c.loop-k.dag c.loop-k.trees c.loop-k.root c.loop-k.k c.in_ok-cells.cells.items (omega arith) c.loop-k.invariant
