use Rattle.std.proofs.Common.{◌≡◌, map, take}
use Rattle.c_types.specs.Types.{views}
use Rattle.c_scope.specs.Scopes.{passed_as}
use Rattle.c_elab_flow.proofs.files.all_passed.Given as goal

abbrev pub invariant-loop-type_ : goal.invariant-loop-type_
invariant-loop-type_ l = l.passed.items ≡ map (passed_as l.layouts.done) (views (take l.type_-index l.types))
