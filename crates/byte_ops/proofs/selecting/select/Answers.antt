use Rattle.std.proofs.Common.{refl}
use Rattle.byte_ops.proofs.Numbers.{select_made}
use Rattle.byte_ops.proofs.selecting.select.Goals as goal

pub returns-clause-made : goal.returns-clause-made
returns-clause-made c =
    select_made c.args.dag.now c.tested_offset.new.dag c.make.new.self c.chosen_among.new.dag c.args.block.now c.args.offset c.in_ok-offsets.offsets c.deref.result.now c.in_ok-none.none c.in_ok-id.id _ c.args.n c.tested_offset.ensures.extends c.make.ensures.extends c.requires.block c.requires.offset
    c.in_ok-offsets.ensures.made c.in_ok-offsets.ensures.offset c.in_ok-offsets.ensures.size c.deref.ensures.value refl (λ v. c.in_ok-none.ensures.made.value_is v) c.in_ok-id.ensures.made
