use Rattle.value_nodes.proofs.Blocks.{cuts_made}
use Rattle.value_nodes.proofs.bytes.word_of_bytes.Goals as goal

pub returns-in_ok-id-in-Some-clause-made : goal.returns-in_ok-id-in-Some-clause-made
returns-in_ok-id-in-Some-clause-made c = cuts_made c.args.dag.now c.bits_of.new.dag c.in-Some.word c.in_ok-id-in-Some.id c.in-Some.low c.args.bytes.now c.in-Some.ensures c.in_ok-id-in-Some.ensures.made
