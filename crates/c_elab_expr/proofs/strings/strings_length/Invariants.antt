use Rattle.std.proofs.Common.{◌≡◌, ◌≤◌, map, take}
use Rattle.c_tree.specs.Tree.{view_name}
use Rattle.c_elab_expr.specs.Strings.{strings_length}
use Rattle.c_elab_expr.proofs.strings.strings_length.Given as goal

abbrev pub invariant-loop-part : goal.invariant-loop-part
invariant-loop-part l = (l.total ≡ strings_length (map view_name (take l.part-index l.parts))) × (l.total ≤ 9223372036854775806)
