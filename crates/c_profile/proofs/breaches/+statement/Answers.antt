use Rattle.std.proofs.Common.{ap, sym, drop, take, ◌∙◌}
use Rattle.core_tree.specs.declared.statement.CoreStatement.{CoreStatement}
use Rattle.core_tree.specs.Trees.{view, view_statement, view_functions, items_of}
use Rattle.core_tree.proofs.Views.{view_block}
use Rattle.c_profile.specs.Rules.{expression_breach, statement_breach, items_breach}
use Rattle.c_profile.proofs.Mains.{both}
use Rattle.c_profile.proofs.Switches.{view_switch}
use Rattle.c_profile.proofs.Scopes.{outer_labels, same_ok}
use Rattle.c_profile.proofs.breaches.+statement.Goals as goal

pub items_breach-returns-clause-labels : goal.items_breach-returns-clause-labels
items_breach-returns-clause-labels t c =
    let kept = c.loop-place.invariant in
    c.truncate.ensures.items ∙ (λ i. take (kept.2 i) (kept.1 i)) ∙ outer_labels (items_of (drop c.loop-place.place c.args.items.now)) c.args.labels.now.items

pub statement_breach-returns-in-Block-clause-breach : goal.statement_breach-returns-in-Block-clause-breach
statement_breach-returns-in-Block-clause-breach t c =
    let fs = view_functions c.args.functions.now in
    let labels = c.args.labels.now.items in
    same_ok c.items_breach.result _ _
    (ap (λ xs. items_breach fs labels (items_of xs)) c.deref.ensures.value
    ∙ sym (ap (λ (s : CoreStatement). statement_breach fs labels (view_statement s)) c.in-Block.is ∙ ap (statement_breach fs labels) (view_block c.in-Block.items)))
    c.items_breach.ensures.breach

pub statement_breach-returns-in_ok-inner-in-Switch-clause-breach : goal.statement_breach-returns-in_ok-inner-in-Switch-clause-breach
statement_breach-returns-in_ok-inner-in-Switch-clause-breach t c =
    let fs = view_functions c.args.functions.now in
    let labels = c.args.labels.now.items in
    c.earlier-in-Switch.ensures
    ∙ both (c.expression_breach-in-Switch.ensures ∙ ap (λ e. expression_breach fs (view e)) c.deref-in-Switch-2.ensures) (c.in_ok-inner-in-Switch.ensures.breach ∙ ap (λ xs. items_breach fs labels (items_of xs)) c.deref-in-Switch.ensures.value)
    ∙ sym (ap (λ (s : CoreStatement). statement_breach fs labels (view_statement s)) c.in-Switch.is ∙ ap (statement_breach fs labels) (view_switch c.in-Switch.line c.in-Switch.value c.in-Switch.items))
