use Rattle.counted_code.proofs.FileObjects.{counts_objects}
use Rattle.counted_code.proofs.laws.lowered_code_counts_objects.Goals as goal

pub returns : goal.returns
returns c = counts_objects
