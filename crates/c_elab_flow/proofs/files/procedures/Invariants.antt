use Rattle.std.proofs.Common.{◌≡◌, ◌++◌, ◌-◌, length, map, drop}
use Rattle.core_tree.specs.Trees.{view_functions}
use Rattle.c_elab_flow.specs.Files.{procedure_of}
use Rattle.c_elab_flow.proofs.files.procedures.Given as goal

abbrev pub invariant-functions : goal.invariant-functions
invariant-functions l =
    view_functions l.procedures.items ++ map (procedure_of l.scope.records.done) (drop l.number l.scope.functions.all) ≡ map (procedure_of l.scope.records.done) l.scope.functions.all

abbrev pub decreases-functions : goal.decreases-functions
decreases-functions l = length l.scope.functions.all - l.number
