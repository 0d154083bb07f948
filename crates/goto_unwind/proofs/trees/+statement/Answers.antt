use Rattle.std.proofs.Common.{ap, sym, ◌∙◌}
use Rattle.core_tree.specs.declared.statement.CoreStatement.{CoreStatement}
use Rattle.core_tree.specs.Trees.{Statement, view, view_statement, items_of}
use Rattle.core_tree.proofs.Views.{view_block}
use Rattle.c_profile.proofs.Switches.{view_switch}
use Rattle.goto_prog.specs.Structured.{tests_in}
use Rattle.goto_unwind.specs.Linear.{expression_linear, statement_linear, items_linear}
use Rattle.goto_unwind.proofs.Adding.{ok_same}
use Rattle.goto_unwind.proofs.trees.+statement.Goals as goal

pub statement-returns-in-Block : goal.statement-returns-in-Block
statement-returns-in-Block t c =
    let n = c.args.times in
    let variables = c.args.variables.now in
    let i = c.in-Block in
    let linear_count = c.args.linear_count.now in
    let tests = tests_in c.args.bounds.now.set c.args.bounds.now.unwind c.args.name.now in
    ok_same c.items_of_block.result _ _ _
    (ap (λ is. items_linear tests variables n (items_of is) c.add.new.self) c.deref.ensures.value
    ∙ ap (items_linear tests variables n (items_of i.items.items)) c.add.ensures
    ∙ sym (ap (λ (a : CoreStatement). statement_linear tests variables n (view_statement a) linear_count) i.is ∙ ap (λ (a : Statement). statement_linear tests variables n a linear_count) (view_block i.items)))
    c.items_of_block.ensures

pub statement-returns-in_ok-expression-in-Switch : goal.statement-returns-in_ok-expression-in-Switch
statement-returns-in_ok-expression-in-Switch t c =
    let n = c.args.times in
    let variables = c.args.variables.now in
    let i = c.in-Switch in
    let linear_count = c.args.linear_count.now in
    let tests = tests_in c.args.bounds.now.set c.args.bounds.now.unwind c.args.name.now in
    ok_same c.items_of_block-in-Switch.result _ _ _
    (ap (λ is. items_linear tests variables n (items_of is) c.expression-in-Switch.new.linear_count) c.deref-in-Switch-2.ensures.value
    ∙ ap (items_linear tests variables n (items_of i.items.items)) (c.in_ok-expression-in-Switch.ensures ∙ ap (λ e. expression_linear n (view e) c.add-in-Switch.new.self) c.deref-in-Switch.ensures ∙ ap (expression_linear n (view i.value.value)) c.add-in-Switch.ensures)
    ∙ sym (ap (λ (a : CoreStatement). statement_linear tests variables n (view_statement a) linear_count) i.is ∙ ap (λ (a : Statement). statement_linear tests variables n a linear_count) (view_switch i.line i.value i.items)))
    c.items_of_block-in-Switch.ensures
