use Rattle.std.proofs.Common.{refl, arith}
use Rattle.byte_ops.proofs.Numbers.{number_plain, number_wide}
use Rattle.byte_ops.proofs.selecting.number_at.Goals as goal

pub returns-then-count-n-clause-made : goal.returns-then-count-n-clause-made
returns-then-count-n-clause-made c =
    number_plain c.args.dag.now c.args.block.now _ c.args.at _ c.min-count.result refl (omega arith) (omega (arith, c.min-count.ensures, c.requires.there)) c.word_of_bytes.new.dag c.in_ok-word.word c.args.n c.if-count-n.true c.in_ok-word.ensures.made

pub returns-clause-made : goal.returns-clause-made
returns-clause-made c =
    number_wide c.args.dag.now c.args.block.now _ c.args.at _ c.min-count.result refl (omega arith) (omega (arith, c.min-count.ensures, c.requires.there)) c.word_of_bytes.new.dag c.make.new.self c.in_ok-word.word c.in_ok-wide.wide c.args.n _ refl (omega (arith, c.min-count.ensures))
    (omega (arith, c.min-count.ensures, c.if-count-n.false)) c.in_ok-word.ensures.made c.in_ok-wide.ensures.made
