use Rattle.std.proofs.Common.{◌≡◌, drop, map}
use Rattle.c_tree.specs.Tree.{view_type_part}
use Rattle.c_scope.specs.Types.{nothing_specified, view_specified, with_parts}
use Rattle.c_scope.proofs.specifiers.specified_parts.Given as goal

abbrev pub invariant-loop-part : goal.invariant-loop-part
invariant-loop-part l = with_parts l.scope (view_specified l.said) (map view_type_part (drop l.part-index l.parts)) ≡ with_parts l.scope nothing_specified (map view_type_part l.parts)
