use Rattle.std.proofs.Common.{Result, Ok, sym, ap, ◌∙◌}
use Rattle.c_tree.specs.Tree.{view as tree}
use Rattle.c_scope.specs.Faults.{◌>>=◌, Fault}
use Rattle.c_operands.specs.Operands.{Operand}
use Rattle.c_elab_type.specs.Initializers.{single, single_as}
use Rattle.c_elab_type.proofs.initializers.typed_single.Goals as goal

pub returns-in_ok-operand-in-None : goal.returns-in_ok-operand-in-None
returns-in_ok-operand-in-None c =
    ap (single_as c.args.scope.now (tree c.args.expr.now)) (sym c.in-None.ensures)
    ∙ ap (λ (r : Result Operand Fault). r >>= λ x. Ok (single x)) c.in_ok-operand-in-None.ensures.gives
