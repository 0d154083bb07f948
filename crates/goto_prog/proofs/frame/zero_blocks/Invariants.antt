use Rattle.std.proofs.Common.{◌≡◌, take}
use Rattle.c_values.specs.Variables.{first_variables}
use Rattle.goto_prog.proofs.frame.zero_blocks.Given as goal

abbrev pub invariant-loop-size : goal.invariant-loop-size
invariant-loop-size l = l.blocks.items ≡ first_variables (take l.size-index l.sizes)
