use Rattle.std.proofs.Common.{arith}
use Rattle.c_scope.proofs.Words.{count_next}
use Rattle.c_scope.proofs.type_words.count.Goals as goal

pub loop-other-preserved : goal.loop-other-preserved
loop-other-preserved c =
    count_next c.args.word c.args.words.now c.loop-other.other-index _ c.match_count-found.result c.loop-other.found (omega arith) c.match_count-found.ensures c.loop-other.invariant
