use Rattle.bit_blast.proofs.Widths.{widened, not_widened}
use Rattle.bit_blast.proofs.variables.widen.Goals as goal

pub returns-then-index-width : goal.returns-then-index-width
returns-then-index-width c = λ k. widened _ _ _ _ _ k (c.in_ok-reach.ensures.stays k) c.in_ok-reach.ensures.there c.index.ensures c.if-index-width.true

pub returns-else-index-width : goal.returns-else-index-width
returns-else-index-width c = λ k. not_widened _ _ _ _ _ k (c.in_ok-reach.ensures.stays k) c.in_ok-reach.ensures.there c.index.ensures c.if-index-width.false
