use Rattle.std.proofs.Common.{ap, sym, ◌∙◌}
use Rattle.std.specs.Prelude.{◌&&◌}
use Rattle.core_tree.specs.declared.statement.CoreStatement.{CoreStatement}
use Rattle.core_tree.specs.Trees.{view, view_statement, items_of}
use Rattle.core_tree.proofs.Views.{view_block}
use Rattle.core_tree.specs.Typed.{is_typed_statement, are_typed_items}
use Rattle.core_check.specs.Around.{sizes_around, is_switch}
use Rattle.core_check.proofs.Switches.{view_switch}
use Rattle.core_check.proofs.statements.+statement.Goals as goal

pub is_typed_statement-returns-in-Block : goal.is_typed_statement-returns-in-Block
is_typed_statement-returns-in-Block t c =
    let s = sizes_around c.args.around.now in
    c.are_typed_items.ensures
    ∙ ap (λ is. are_typed_items s (items_of is)) c.deref.ensures.value
    ∙ sym (ap (λ (x : CoreStatement). is_typed_statement s (view_statement x)) c.in-Block.is ∙ ap (is_typed_statement s) (view_block c.in-Block.items))

pub is_typed_statement-returns-in-Switch : goal.is_typed_statement-returns-in-Switch
is_typed_statement-returns-in-Switch t c =
    let s = sizes_around c.args.around.now in
    let node = c.in-Switch in
    c.are_items_where.ensures
    ∙ ap (λ b. b && are_typed_items s (items_of c.deref-in-Switch-3.result.now))
    (c.is_switch.ensures
    ∙ ap (λ e. is_switch s (view e) (items_of c.deref-in-Switch-2.result.now)) c.deref-in-Switch.ensures
    ∙ ap (λ is. is_switch s (view node.value.value) (items_of is)) c.deref-in-Switch-2.ensures.value)
    ∙ ap (λ is. is_switch s (view node.value.value) (items_of node.items.items) && are_typed_items s (items_of is)) c.deref-in-Switch-3.ensures.value
    ∙ sym (ap (λ (x : CoreStatement). is_typed_statement s (view_statement x)) node.is ∙ ap (is_typed_statement s) (view_switch node.line node.value node.items))
