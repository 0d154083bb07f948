use Rattle.std.proofs.Common.{◌≡◌, ◌≤◌, length, Bool, true, false, Result, Ok, Err}
use Rattle.std.specs.Prelude.{IfOk}
use Rattle.c_types.specs.Layouts.{IsBuilt}
use Rattle.c_tree.specs.Tree.{Tree}
use Rattle.c_tree.specs.Tree.{view as tree}
use Rattle.c_operands.specs.declared.operands.CoreOperand.{CoreOperand}
use Rattle.c_scope.specs.declared.fault.TypingError.{TypingError}
use Rattle.c_operands.specs.Operands.{view_operand, is_typed_operand}
use Rattle.c_scope.specs.Scopes.{Scoped, are_known}
use Rattle.c_scope.specs.Faults.{Gives}
use Rattle.c_elab_expr.specs.Typing.{typed}
use Rattle.c_elab_expr.proofs.WellTyped.{well_typed}
use Rattle.c_elab_expr.proofs.typing.typed_by.Goals as goal

by_result : (scope : Scoped) (w : Bool) (t : Tree) (r : Result CoreOperand TypingError) → are_known scope ≡ true → 9 ≤ length scope.types → IsBuilt scope.records.done → Gives view_operand r (typed scope false w t)
    → IfOk r (λ c. is_typed_operand scope (view_operand c) ≡ true)
by_result scope w t (Ok c) h g built e = well_typed scope built false w t (view_operand c) e
by_result scope w t (Err f) h g built e = tt

pub returns-clause-typed : goal.returns-clause-typed
returns-clause-typed c =
    by_result c.args.scope.now c.args.wanted (tree c.args.expr.now) c.typed_expr.result c.prove_there.ensures.there c.prove_there.ensures.built_in c.prove_there.ensures.built c.typed_expr.ensures
