use Rattle.std.proofs.Common.{◌≡◌, refl, ap, sym, subst, ◌∙◌}
use Rattle.c_tree.specs.declared.statement.Stmt.{Stmt}
use Rattle.c_tree.specs.Statements.{Statement, labelled, view_statement}
use Rattle.c_elab_flow.specs.declared.jumps.Ahead.{Ahead}
use Rattle.c_elab_flow.specs.Lookahead.{Notes}
use Rattle.c_elab_base.proofs.Steps.{on_ok_more}
use Rattle.c_elab_flow.proofs.Jumping.{notes_label}
use Rattle.c_elab_flow.proofs.jumps.+note_item.Goals as goal

pub returns-in_ok-insert-in-Label : goal.returns-in_ok-insert-in-Label
returns-in_ok-insert-in-Label t c =
    let old = c.args.ahead.now in
    let mid : Ahead = record old { labels = c.insert.new.self } in
    let new = c.note_item.new.ahead in
    let k = c.in_ok-to_vec-in-Label.field-0 in
    let name = c.in-Label.name.bytes.items in
    let own = c.in_ok-to_vec-in-Label.ensures.items_if_clones_equal (λ y h e. e) ∙ c.deref.ensures.value in
    let s = view_statement c.deref-in-Label.result.now in
    let is : view_statement c.args.statement.now ≡ labelled c.in-Label.line name s =
    ap view_statement c.in-Label.is ∙ ap (λ (x : Stmt). labelled c.in-Label.line name (view_statement x)) (sym c.deref-in-Label.ensures) in
    on_ok_more c.note_item.result (Notes mid c.args.switched s c.args.number new) (Notes old c.args.switched (view_statement c.args.statement.now) c.args.number new)
    (λ h. subst (λ (x : Statement). Notes old c.args.switched x c.args.number new) (sym is)
    (notes_label old mid new c.args.switched c.in-Label.line c.args.number name s k own c.in_ok-insert-in-Label.ensures.entries refl refl h)) c.note_item.ensures
