use Rattle.std.proofs.Common.{refl}
use Rattle.byte_ops.proofs.Writing.{update_made}
use Rattle.byte_ops.proofs.updating.update.Goals as goal

pub returns-clause-values : goal.returns-clause-values
returns-clause-values c =
    update_made c.args.dag.now c.tested_offset.new.dag c.put_among.new.dag c.args.block.now c.args.bytes.now c.in_ok-new.new.items c.put_among.new.block.items c.args.offset c.in_ok-offsets.offsets c.deref.result.now _ c.tested_offset.ensures.extends c.requires.block c.requires.bytes c.requires.offset
    c.in_ok-offsets.ensures.made c.in_ok-offsets.ensures.offset c.in_ok-offsets.ensures.size c.deref.ensures.value refl (c.in_ok-new.ensures.items_if_clones_equal (λ y h e. e)) c.in_ok-put_among.ensures.values
