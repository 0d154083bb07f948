use Rattle.std.proofs.Common.{◌≡◌, drop}
use Rattle.core_tree.specs.Trees.{parts_of, arguments_of}
use Rattle.core_tree.specs.Typed.{are_parts, are_arguments}
use Rattle.core_check.specs.Around.{sizes_around}
use Rattle.core_check.proofs.expressions.+expression.Given as goal

abbrev pub invariant-are_parts-loop-place : goal.invariant-are_parts-loop-place
invariant-are_parts-loop-place l = l.all ≡ are_parts (sizes_around l.around) l.size (parts_of (drop l.place l.parts))

abbrev pub invariant-are_arguments-loop-place : goal.invariant-are_arguments-loop-place
invariant-are_arguments-loop-place l = l.all ≡ are_arguments (sizes_around l.around) (drop l.place l.parameters) (arguments_of (drop l.place l.arguments))
