use Rattle.actions.proofs.ByteLists.{are_bytes-fits}
use Rattle.c_values.proofs.MadeObjects.{held_same}
use Rattle.c_values.proofs.objects.prove_held.Goals as goal

pub returns : goal.returns
returns c = held_same c.args._bytes.now c.requires (are_bytes-fits c.args._bytes.now c.type_inv._bytes)
