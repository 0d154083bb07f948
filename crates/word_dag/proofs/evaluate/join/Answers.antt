use Rattle.std.proofs.Common.{◌+◌, ◌≡◌, arith}
use Rattle.word_dag.proofs.Operations.{joined_word}
use Rattle.word_dag.proofs.evaluate.join.Goals as goal

pub returns : goal.returns
returns c =
    let m : c.width.result + c.width-2.result ≡ c.args.high.width + c.args.low.width = omega (arith, c.width.ensures.value, c.width-2.ensures.value) in
    joined_word _ _ _ _ _ _ _ _ _ _ c.zext.ensures.value c.zext-2.ensures.value c.shl-shifted.ensures.value c.add.ensures.value m c.width-3.ensures.value c.width.ensures.is_word.within c.width-2.ensures.is_word.within
