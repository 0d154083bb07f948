use Rattle.std.proofs.Common.{◌≡◌, drop}
use Rattle.core_tree.specs.Ranges.{loop_limits}
use Rattle.goto_prog.specs.Structured.{tests_in}
use Rattle.goto_prog.proofs.program.tests_in.Given as goal

abbrev pub invariant-loop-bound : goal.invariant-loop-bound
invariant-loop-bound l = tests_in (loop_limits (drop l.bound-index l.set)) l.others l.function l.number ≡ tests_in (loop_limits l.set) l.others l.function l.number
