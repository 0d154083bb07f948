use Rattle.std.proofs.Common.{ap, sym, ◌∙◌}
use Rattle.core_tree.specs.declared.statement.CoreStatement.{CoreStatement}
use Rattle.core_tree.specs.Trees.{view, view_statement, items_of}
use Rattle.core_tree.proofs.Views.{view_block}
use Rattle.c_profile.proofs.Switches.{view_switch}
use Rattle.c_temporaries.specs.Temporaries.{both, temporaries, statement_temporaries, items_temporaries}
use Rattle.c_temporaries.proofs.Greater.{same_temporaries}
use Rattle.c_temporaries.proofs.temporaries.+statement.Goals as goal

pub statement_temporaries-returns-in-Block : goal.statement_temporaries-returns-in-Block
statement_temporaries-returns-in-Block t c =
    same_temporaries c.items_temporaries.result _ _
    (ap (λ xs. items_temporaries c.args.variables.now (items_of xs)) c.deref.ensures.value ∙ sym (ap (λ (s : CoreStatement). statement_temporaries c.args.variables.now (view_statement s)) c.in-Block.is ∙ ap (statement_temporaries c.args.variables.now) (view_block c.in-Block.items)))
    c.items_temporaries.ensures

pub statement_temporaries-returns-in_ok-items_temporaries-in-Switch : goal.statement_temporaries-returns-in_ok-items_temporaries-in-Switch
statement_temporaries-returns-in_ok-items_temporaries-in-Switch t c =
    let l = c.in-Switch in
    let first = c.in_ok-expression_temporaries-in-Switch.ensures ∙ ap (λ e. temporaries c.args.variables.now (view e)) c.deref-in-Switch.ensures in
    let second = c.in_ok-items_temporaries-in-Switch.ensures ∙ ap (λ xs. items_temporaries c.args.variables.now (items_of xs)) c.deref-in-Switch-2.ensures.value in
    c.and-in-Switch.ensures ∙ (λ i. both (first i) (second i)) ∙ sym (ap (λ (s : CoreStatement). statement_temporaries c.args.variables.now (view_statement s)) l.is ∙ ap (statement_temporaries c.args.variables.now) (view_switch l.line l.value l.items))
