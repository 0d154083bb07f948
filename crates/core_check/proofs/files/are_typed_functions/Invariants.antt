use Rattle.std.proofs.Common.{◌≡◌, drop}
use Rattle.std.specs.List.{list_all}
use Rattle.core_tree.specs.Trees.{view_functions}
use Rattle.core_tree.specs.Typed.{is_typed_function}
use Rattle.core_check.specs.Around.{file_around}
use Rattle.core_check.proofs.files.are_typed_functions.Given as goal

abbrev pub invariant-loop-place : goal.invariant-loop-place
invariant-loop-place l = l.all ≡ list_all (is_typed_function (file_around l.file)) (view_functions (drop l.place l.file.functions.now))
