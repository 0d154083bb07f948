use Rattle.std.proofs.Common.{ap, sym, ◌∙◌, ◌-◌, false, arith}
use Rattle.std.proofs.lemmas.List.{get_or_read}
use Rattle.word_dag.specs.Fitting.{is_ordered}
use Rattle.bit_blast.proofs.Marked.{marks_inside, MarkedTo-more, MarkedTo-all}
use Rattle.bit_blast.proofs.marks.marks_of.Goals as goal

pub mark_operands-requires : goal.mark_operands-requires
mark_operands-requires c = marks_inside _ c.args.goal.index (c.loop-place.place - 1) c.loop-place.place _ (ap is_ordered c.nodes-nodes.ensures.is ∙ c.nodes-nodes.ensures.ordered) (omega arith) c.loop-place.invariant

pub loop-place-preserved-then-index : goal.loop-place-preserved-then-index
loop-place-preserved-then-index c =
    MarkedTo-more _ _ (c.loop-place.place - 1) c.loop-place.place c.loop-place.marks.items _ (ap is_ordered c.nodes-nodes.ensures.is ∙ c.nodes-nodes.ensures.ordered) (omega arith) (omega arith) c.loop-place.invariant
    (sym (get_or_read c.loop-place.marks.items (c.loop-place.place - 1) _ (omega (arith, c.loop-place.invariant.count)) c.index.ensures false) ∙ c.if-index.true) c.mark_operands.ensures

pub returns : goal.returns
returns c = MarkedTo-all _ _ _ _ _ c.nodes-nodes.ensures.is c.loop-place-test.false c.loop-place.invariant
