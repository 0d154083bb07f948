use Rattle.std.proofs.Common.{◌≡◌, ◌-◌, ◌++◌, take, drop}
use Rattle.c_values.specs.Variables.{first_variables}
use Rattle.c_meaning.specs.Meaning.{sizes_of}
use Rattle.c_tasks.proofs.variables.add_variables.Given as goal

abbrev pub invariant-loop-place : goal.invariant-loop-place
invariant-loop-place l = l.blocks.items ≡ l.initial.blocks.items ++ first_variables (take (l.place - l.from) (drop l.from (sizes_of l.variables)))
