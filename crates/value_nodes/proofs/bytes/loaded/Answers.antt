use Rattle.std.proofs.Common.{refl, sym, ◌∙◌, arith}
use Rattle.value_nodes.proofs.Blocks.{loaded_plain, loaded_truth}
use Rattle.value_nodes.proofs.bytes.loaded.Goals as goal

pub returns-then-is_bool-clause-made : goal.returns-then-is_bool-clause-made
returns-then-is_bool-clause-made c =
    loaded_truth c.args.dag.now c.word_of_bytes.new.dag c.args.type_ c.args.block.now _ c.in_ok-word.word c.args.offset _ c.in_ok-word.ensures.made refl (omega (arith, c.size-size.ensures.is)) c.requires.within c.truth_of.new.dag c.in_ok-id.id
    (sym c.is_bool.ensures ∙ c.if-is_bool.true) c.in_ok-id.ensures.made

pub returns-clause-made : goal.returns-clause-made
returns-clause-made c =
    loaded_plain c.args.dag.now c.word_of_bytes.new.dag c.args.type_ c.args.block.now _ c.in_ok-word.word c.args.offset _ c.in_ok-word.ensures.made refl (omega (arith, c.size-size.ensures.is)) c.requires.within
    (sym c.is_bool.ensures ∙ c.if-is_bool.false)
