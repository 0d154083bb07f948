use Rattle.std.proofs.Common.{List, length, subst, ◌∙◌}
use Rattle.c_types.specs.declared.integers.IntegerType.{IntegerType}
use Rattle.guarded_ssa.specs.inner.Reads.{IsBlockRead}
use Rattle.guarded_ssa.proofs.Noting.{covers_more}
use Rattle.guarded_ssa.proofs.liveness.reading.Goals as goal

pub loop-place-preserved : goal.loop-place-preserved
loop-place-preserved c = record {
  size = c.mark_block.ensures.later.size ∙ c.mark-in-loop-place-2.ensures.later.size ∙ c.mark-in-loop-place.ensures.later.size ∙ c.mark.ensures.later.size ∙ c.loop-place.invariant.size;
  covers = covers_more _ _ _ _ _ _ _ _ _ _ _ _ _ c.loop-place-test.true c.mark.ensures.later c.mark-in-loop-place.ensures.later c.mark-in-loop-place-2.ensures.later c.mark_block.ensures.later c.reads-first.ensures.first c.reads-first.ensures.second c.reads-first.ensures.third c.block_read.ensures
      c.mark.ensures.read c.mark-in-loop-place.ensures.read c.mark-in-loop-place-2.ensures.read
      (subst (λ (ts : List IntegerType). IsBlockRead (length ts) c.mark_block.new.until.items c.loop-place.place c.block_read.result) c.registers-registers.ensures c.mark_block.ensures.read) c.loop-place.invariant.covers;
}
