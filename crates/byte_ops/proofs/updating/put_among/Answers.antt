use Rattle.std.proofs.lemmas.List.{get_or_default}
use Rattle.byte_ops.proofs.Writing.{putting_more}
use Rattle.byte_ops.proofs.updating.put_among.Goals as goal

pub loop-k-preserved : goal.loop-k-preserved
loop-k-preserved c =
    putting_more c.args.dag.now c.loop-k.dag c.put_at.new.dag c.args.block.now.items c.args.bytes.now c.loop-k.block.items c.put_at.new.block.items c.args.offset c.args.tests.now c.loop-k.k c.args.limit _ c.requires.offset c.requires.bytes c.loop-k-test.true
    (get_or_default c.args.tests.now c.loop-k.k _ _ c.loop-k-test.true) c.loop-k.invariant c.put_at.ensures.extends c.in_ok-put_at.ensures.block c.in_ok-put_at.ensures.length c.in_ok-put_at.ensures.values
