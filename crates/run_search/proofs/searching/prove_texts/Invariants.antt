use Rattle.std.proofs.Common.{◌≡◌, true, drop}
use Rattle.std.specs.List.{list_all}
use Rattle.core_tree.specs.Trees.{view_literals}
use Rattle.actions.specs.ByteList.{are_bytes}
use Rattle.run_search.proofs.searching.prove_texts.Given as goal

abbrev pub invariant-loop-place : goal.invariant-loop-place
invariant-loop-place l = list_all are_bytes (view_literals (drop l.place l.literals)) ≡ true
