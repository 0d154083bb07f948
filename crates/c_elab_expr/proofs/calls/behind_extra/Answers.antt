use Rattle.std.proofs.Common.{◌≡◌, List, [], ◌∷◌, ◌++◌, map, ap, sym, ◌∙◌}
use Rattle.std.proofs.lemmas.List.{map-append}
use Rattle.std.specs.Prelude.{Box}
use Rattle.std.specs.Global.{Global}
use Rattle.core_tree.specs.declared.expression.CoreExpr.{CoreExpr}
use Rattle.core_tree.specs.Trees.{Expression, boxed}
use Rattle.c_operands.specs.Operands.{view_operand, behind_extra}
use Rattle.c_elab_expr.proofs.Passing.{behind_last}
use Rattle.c_elab_expr.proofs.calls.behind_extra.Goals as goal

pub extra-preserved : goal.extra-preserved
extra-preserved c =
    let done = c.args.layouts.now.done in
    let line = c.args.line in
    let rest = c.pop.new.self.items in
    let e = c.in-Some.value in
    let x = view_operand c.extra.whole in
    let more : map boxed c.extra.extra.items ≡ map boxed rest ++ boxed e ∷ [] =
    ap (λ (es : List (Box CoreExpr Global)). map boxed es) c.in-Some.ensures.items ∙ map-append boxed rest (e ∷ []) in
    ap (behind_extra done line (map boxed rest)) c.in_ok-whole.ensures
    ∙ sym (behind_last done line (map boxed rest) (boxed e) x)
    ∙ sym (ap (λ (es : List Expression). behind_extra done line es x) more)
    ∙ c.extra.invariant
