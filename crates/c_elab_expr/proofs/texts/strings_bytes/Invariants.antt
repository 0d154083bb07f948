use Rattle.std.proofs.Common.{◌≡◌, take, map}
use Rattle.c_tree.specs.Tree.{view_name}
use Rattle.c_elab_expr.specs.Texts.{bytes_of}
use Rattle.c_elab_expr.proofs.texts.strings_bytes.Given as goal

abbrev pub invariant-parts : goal.invariant-parts
invariant-parts l = l.bytes.items ≡ bytes_of (map view_name (take l.part-index l.parts))
