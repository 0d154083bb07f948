use Rattle.c_elab_flow.proofs.Statics.{all_fit}
use Rattle.c_elab_flow.proofs.files.prove_bytes.Goals as goal

pub returns : goal.returns
returns c = all_fit c.args.bytes.now c.type_inv.bytes
