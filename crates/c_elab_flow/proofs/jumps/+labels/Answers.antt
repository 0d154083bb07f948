use Rattle.std.proofs.Common.{◌≡◌, ◌++◌, List, ap, sym, ◌∙◌}
use Rattle.c_tree.specs.declared.statement.Item.{Item}
use Rattle.c_tree.specs.Statements.{Statement, view_statement, items_of}
use Rattle.c_tree.proofs.StatementViews.{view_block}
use Rattle.c_elab_flow.specs.Jumps.{labels_in, labels_of}
use Rattle.c_elab_base.proofs.Steps.{on_ok_more}
use Rattle.c_elab_flow.proofs.jumps.+labels.Goals as goal

pub add_labels-returns-in-Block : goal.add_labels-returns-in-Block
add_labels-returns-in-Block t c =
    let old = c.args.labels.now in
    let new = c.add_labels_of.new.labels in
    on_ok_more c.add_labels_of.result (new ≡ old ++ labels_of (items_of c.deref.result.now)) (new ≡ old ++ labels_in (view_statement c.args.statement.now))
    (λ h. h ∙ ap (λ (is : List Item). old ++ labels_of (items_of is)) c.deref.ensures.value
    ∙ sym (ap (λ (x : Statement). old ++ labels_in x) (ap view_statement c.in-Block.is ∙ view_block c.in-Block.line c.in-Block.items))) c.add_labels_of.ensures
