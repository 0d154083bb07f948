use Rattle.std.proofs.Common.{◌∙◌, arith}
use Rattle.cbmc_top.proofs.Pieces.{writing_more}
use Rattle.cbmc_top.proofs.call.write_all.Goals as goal

pub writing-preserved : goal.writing-preserved
writing-preserved g c =
    let sooner = c.writing.invariant.later in
    let later = c.in_ok-count.ensures.cause.later in
    record {
      same = c.in_ok-count.ensures.uncounted (λ nothing. c.if-count-eq0.false nothing.0) ∙ c.writing.invariant.same;
      later = omega arith;
      writing = writing_more _ _ _ _ _ _ c.in_ok-count.count c.writing.invariant.writing c.in_ok-count.ensures.bytes c.split_at.ensures.back;
    }
