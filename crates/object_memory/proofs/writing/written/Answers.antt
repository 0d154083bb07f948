use Rattle.object_memory.proofs.Puts.{written_values}
use Rattle.object_memory.proofs.writing.written.Goals as goal

pub returns-clause-values : goal.returns-clause-values
returns-clause-values c =
    written_values c.args.dag.now c.tested_offset.new.dag c.put_parts.new.dag c.args.block.now c.args.bytes.now c.in_ok-new.new.items c.put_parts.new.block.items c.args.offset c.in_ok-tested.tested c.requires.block c.requires.bytes c.requires.offset c.tested_offset.ensures.extends (c.in_ok-new.ensures.items_if_clones_equal (λ y h e. e))
    c.in_ok-tested.ensures.offset c.in_ok-put_parts.ensures.values
