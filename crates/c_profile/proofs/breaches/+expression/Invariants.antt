use Rattle.std.proofs.Common.{◌≡◌, drop}
use Rattle.core_tree.specs.Trees.{parts_of, arguments_of, view_functions}
use Rattle.c_profile.specs.Rules.{parts_breach, arguments_breach}
use Rattle.c_profile.proofs.breaches.+expression.Given as goal

abbrev pub invariant-arguments_breach-loop-place : goal.invariant-arguments_breach-loop-place
invariant-arguments_breach-loop-place l = l.first ≡ arguments_breach (view_functions l.functions) (arguments_of (drop l.place l.arguments))

abbrev pub invariant-parts_breach-loop-place : goal.invariant-parts_breach-loop-place
invariant-parts_breach-loop-place l = l.first ≡ parts_breach (view_functions l.functions) (parts_of (drop l.place l.parts))
