use Rattle.c_types.proofs.CellLists.{nothing_repeated, block_fits, at_next, list_next}
use Rattle.c_types.proofs.listing.append_repeated.Goals as goal

pub returns-then-is_empty : goal.returns-then-is_empty
returns-then-is_empty c = nothing_repeated c.args.list.now.items c.args.base c.args.count c.args.size c.args.block.now c.if-is_empty.ensures

pub append_block-requires : goal.append_block-requires
append_block-requires c = block_fits c.args.base c.loop-element._element c.args.count c.args.size c.loop-element.at c.args.block.now c.loop-element.invariant.1 c.loop-element-test.true c.requires.room c.requires.within

pub loop-element-preserved : goal.loop-element-preserved
loop-element-preserved c = (
  list_next c.args.list.now.items c.loop-element.list.items c.append_block.new.list.items c.args.base c.loop-element._element c.args.size c.loop-element.at c.args.block.now
      c.loop-element.invariant.0 c.loop-element.invariant.1 c.in_ok-append_block.ensures,
  at_next c.args.base c.loop-element._element c.args.size c.loop-element.at c.loop-element.invariant.1,
)
