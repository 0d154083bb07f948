use Rattle.std.proofs.Common.{arith}
use Rattle.std.proofs.lemmas.Map.Text.{text_keys}
use Rattle.outside.proofs.fault_counts.FaultCounts.add.Goals as goal

-- A change at one name leaves what the map has at every other name.
pub returns-clause-others : goal.returns-clause-others
returns-clause-others c = grind (arith, text_keys)

pub returns-in-Some-clause-others : goal.returns-in-Some-clause-others
returns-in-Some-clause-others c = grind (arith, text_keys)
