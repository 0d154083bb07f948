use Rattle.std.proofs.Common.{◌≡◌, ◌++◌, drop}
use Rattle.core_tree.specs.Trees.{arguments_of}
use Rattle.c_temporaries.specs.Temporaries.{argument_sizes}
use Rattle.c_temporaries.proofs.temporaries.argument_sizes.Given as goal

abbrev pub invariant-loop-argument : goal.invariant-loop-argument
invariant-loop-argument l = l.sizes.items ++ argument_sizes (arguments_of (drop l.argument-index l.arguments)) ≡ argument_sizes (arguments_of l.arguments)
