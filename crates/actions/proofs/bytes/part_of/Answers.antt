use Rattle.std.proofs.Common.{arith}
use Rattle.std.proofs.lemmas.Grind.{common_steps}
use Rattle.actions.proofs.ByteLists.{are_bytes-fits, are_bytes-part}
use Rattle.actions.proofs.bytes.part_of.Goals as goal

pub returns-clause-bytes : goal.returns-clause-bytes
returns-clause-bytes c = let h = are_bytes-part c.args.at c.args.n c.args.items.now (are_bytes-fits c.args.items.now c.type_inv.items) in grind (arith, common_steps, h)
