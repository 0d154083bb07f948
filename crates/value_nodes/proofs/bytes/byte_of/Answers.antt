use Rattle.value_nodes.proofs.Blocks.{made_byte}
use Rattle.std.proofs.Common.{refl}
use Rattle.value_nodes.proofs.bytes.byte_of.Goals as goal

pub returns-clause-made : goal.returns-clause-made
returns-clause-made c = made_byte c.args.dag.now _ c.args.a _ _ c.args.place refl c.in_ok-id.ensures.made
