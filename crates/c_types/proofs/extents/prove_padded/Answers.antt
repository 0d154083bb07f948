use Rattle.c_types.proofs.MemberLoops.{least_multiple}
use Rattle.c_types.proofs.extents.prove_padded.Goals as goal

pub returns : goal.returns
returns c = least_multiple
