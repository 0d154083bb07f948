use Rattle.std.proofs.Common.{◌≡◌, drop}
use Rattle.core_tree.specs.Ranges.{loop_limits}
use Rattle.c_meaning.specs.Source.{tests_in}
use Rattle.c_plan_flow.proofs.plan_statements.tests_in.Given as goal

-- the bounds that are left decide
abbrev pub invariant-loop-bound : goal.invariant-loop-bound
invariant-loop-bound l =
    tests_in (loop_limits (drop l.bound-index l.bound-items)) l.bounds.unwind l.name l.number ≡ tests_in l.bounds.set l.bounds.unwind l.name l.number
