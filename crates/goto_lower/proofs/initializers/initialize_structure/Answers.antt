use Rattle.core_tree.specs.Trees.{view_structure}
use Rattle.code_draft.proofs.Drafting.{ok_maps}
use Rattle.goto_lower.proofs.DraftingJumps.{structure_put}
use Rattle.goto_lower.proofs.initializers.initialize_structure.Goals as goal

pub returns : goal.returns
returns c =
    ok_maps c.put_first.result _ _ (λ same.
    structure_put c.args.draft.now c.temporary.new.self c.put_first.new.draft (view_structure c.args.value.now) c.args.line c.args.variable c.structure_size.result c.in_ok-_block.ensures.code c.structure_size.ensures same)
    c.put_first.ensures
