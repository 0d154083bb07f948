use Rattle.weave.proofs.Scripting.{scripts_are_families, shared_is_whole}
use Rattle.weave.proofs.laws.scripts_are_families.Goals as goal

pub returns-clause-scripts : goal.returns-clause-scripts
returns-clause-scripts c = scripts_are_families

pub returns-clause-store : goal.returns-clause-store
returns-clause-store c = shared_is_whole
