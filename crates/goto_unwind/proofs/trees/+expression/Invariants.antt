use Rattle.std.proofs.Common.{◌≡◌, drop}
use Rattle.core_tree.specs.Trees.{parts_of, arguments_of}
use Rattle.goto_unwind.specs.Linear.{parts_linear, arguments_linear}
use Rattle.goto_unwind.proofs.trees.+expression.Given as goal

abbrev pub invariant-parts_of_list-loop-part : goal.invariant-parts_of_list-loop-part
invariant-parts_of_list-loop-part l = parts_linear l.times (parts_of (drop l.part-index l.parts)) l.linear_count ≡ parts_linear l.times (parts_of l.parts) l.initial.linear_count

abbrev pub invariant-arguments_of_call-loop-argument : goal.invariant-arguments_of_call-loop-argument
invariant-arguments_of_call-loop-argument l = arguments_linear l.times (arguments_of (drop l.argument-index l.arguments)) l.linear_count ≡ arguments_linear l.times (arguments_of l.arguments) l.initial.linear_count
