use Rattle.std.proofs.Common.{w64}
use Rattle.std.proofs.lemmas.Int.{to_z-of_z}
use Rattle.value_nodes.proofs.Halves.{made_moved}
use Rattle.value_nodes.proofs.pointers.moved.Goals as goal

pub returns-clause-made : goal.returns-clause-made
returns-clause-made c =
    made_moved c.args.dag.now _ _ c.args.type_ c.args.p c.args.index _ _ c.args.step _ (to_z-of_z w64 c.args.step c.ranges.step) c.nodes.ensures.ordered c.ranges.step c.in_ok-distance.ensures.extends c.requires.pointer c.requires.index c.in_ok-distance.ensures.made c.in_ok-id.ensures.made
