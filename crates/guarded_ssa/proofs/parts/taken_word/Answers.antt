use Rattle.guarded_ssa.proofs.PartNodes.{word_taken}
use Rattle.guarded_ssa.proofs.parts.taken_word.Goals as goal

pub returns-clause-made : goal.returns-clause-made
returns-clause-made c =
    word_taken c.args.dag.now c.select.new.dag c.bytes_of_word.new.dag c.args.block.now c.in_ok-bytes.bytes.items c.args.offset c.in_ok-word.word c.args.count c.nodes.ensures.ordered c.requires.block c.requires.few c.in_ok-word.ensures.made c.in_ok-bytes.ensures.made
