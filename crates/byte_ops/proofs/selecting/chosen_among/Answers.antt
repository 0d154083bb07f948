use Rattle.std.proofs.lemmas.List.{get_or_default}
use Rattle.byte_ops.proofs.Numbers.{choosing_more}
use Rattle.byte_ops.proofs.selecting.chosen_among.Goals as goal

pub loop-k-preserved : goal.loop-k-preserved
loop-k-preserved c =
    choosing_more c.args.dag.now c.loop-k.dag c.chosen_at.new.dag c.args.block.now c.args.offset c.args.tests.now c.loop-k.k c.args.limit c.args.n c.args.other c.loop-k.word c.in_ok-word.word _ c.requires.block c.requires.offset c.requires.other c.loop-k-test.true
    (get_or_default c.args.tests.now c.loop-k.k _ _ c.loop-k-test.true) c.loop-k.invariant c.chosen_at.ensures.extends c.in_ok-word.ensures.made
