use Rattle.std.proofs.Common.{◌≡◌, map, take}
use Rattle.c_types.specs.Types.{view}
use Rattle.c_elab_base.proofs.derivations.copied_types.Given as goal

abbrev pub invariant-loop-type_ : goal.invariant-loop-type_
invariant-loop-type_ l = map view l.copies.items ≡ map view (take l.type_-index l.types)
