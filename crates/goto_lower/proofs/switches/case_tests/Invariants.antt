use Rattle.std.proofs.Common.{◌≡◌, ℕ, ◌+◌, drop}
use Rattle.core_tree.specs.Trees.{items_of}
use Rattle.goto_lower.specs.Statements.{after_tests}
use Rattle.goto_lower.proofs.switches.case_tests.Given as goal

abbrev pub invariant-loop-item : goal.invariant-loop-item
invariant-loop-item l = (line : ℕ) → after_tests l.draft line l.value l.at.before (items_of (drop l.item-index l.items)) l.at.into ≡ after_tests l.initial.draft line l.value l.before (items_of l.items) (l.value + 1)
