use Rattle.std.proofs.Common.{refl}
use Rattle.byte_ops.proofs.Writing.{update_within_made}
use Rattle.byte_ops.proofs.updating.update_within.Goals as goal

pub returns-clause-values : goal.returns-clause-values
returns-clause-values c =
    update_within_made c.args.dag.now c.put_among.new.dag c.args.block.now c.args.bytes.now c.in_ok-new.new.items c.put_among.new.block.items c.args.offsets.now c.deref.result.now _ c.requires.offsets c.deref.ensures.value refl c.requires.size (c.in_ok-new.ensures.items_if_clones_equal (λ y h e. e))
    c.in_ok-put_among.ensures.values
