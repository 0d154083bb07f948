use Rattle.std.proofs.Common.{Result, Ok, sym, ap, ◌∙◌}
use Rattle.core_tree.specs.declared.statement.CoreStatement.{CoreStatement}
use Rattle.core_tree.specs.Trees.{view_statement, items_of}
use Rattle.core_tree.specs.Trees as cores
use Rattle.c_scope.specs.Faults.{◌>>=◌, Fault}
use Rattle.c_elab_flow.proofs.Switches.{view_switch}
use Rattle.c_elab_flow.proofs.nodes.switch_of.Goals as goal

pub returns : goal.returns
returns c = λ s.
    ap (λ (r : Result cores.Expression Fault). r >>= λ v. Ok (cores.switch c.args.line v (items_of c.args.items.items), s)) c.in_ok-value.ensures
    ∙ ap (λ (k : cores.Statement). Ok (k, s)) (sym (view_switch c.args.line c.in_ok-value.value c.args.items))
    ∙ ap (λ (b : CoreStatement). Ok (view_statement b, s)) (sym c.in_ok-new.ensures.ok)
