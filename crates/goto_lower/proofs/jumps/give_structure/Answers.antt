use Rattle.std.specs.Prelude.{reverse}
use Rattle.core_tree.specs.Trees.{view_structure}
use Rattle.goto_prog.specs.Nodes.{nodes_of}
use Rattle.goto_lower.proofs.DraftingControl.{ok_two}
use Rattle.goto_lower.proofs.DraftingJumps.{drafted_given}
use Rattle.goto_lower.proofs.jumps.give_structure.Goals as goal

pub returns : goal.returns
returns c =
    ok_two c.flush.result _ _ _ (λ last put.
    drafted_given c.args.draft.now c.args.exits c.requires c.structure.new.self c.leave.new.draft c.flush.new.self (view_structure c.args.value.now) c.args.line c.result_block-block.result
    (nodes_of (reverse c.args.made.now.items)) (nodes_of (reverse c.put.new.made.items)) (nodes_of (reverse c.flush.new.made.items))
    c.result_block-block.ensures c.in_ok-put.ensures c.in_ok-structure.ensures c.in_ok-leave.ensures put last)
    c.flush.ensures.draft c.flush.ensures.code
