use Rattle.std.proofs.Common.{◌≡◌, take, map}
use Rattle.c_tree.specs.Declarations.{view_enumerator, with_enumerators}
use Rattle.c_parse_parts.proofs.declared.declare_enumerators.Given as goal

abbrev pub invariant-loop-enumerator : goal.invariant-loop-enumerator
invariant-loop-enumerator l = l.names ≡ with_enumerators l.fn.names (map view_enumerator (take l.enumerator-index l.enumerators))
