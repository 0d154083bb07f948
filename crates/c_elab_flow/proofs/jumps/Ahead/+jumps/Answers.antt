use Rattle.std.proofs.Common.{◌+◌, ◌++◌, List, drop, ap, sym, ◌∙◌, arith}
use Rattle.c_tree.specs.declared.statement.Stmt.{Stmt}
use Rattle.c_tree.specs.declared.statement.Item.{Item}
use Rattle.c_tree.specs.Statements.{Statement, done, view_statement, view_item, items_of}
use Rattle.c_tree.proofs.StatementViews.{view_block}
use Rattle.c_elab_flow.specs.declared.jumps.Ahead.{Ahead}
use Rattle.c_elab_flow.specs.Jumps.{jumps_in, jumps_of}
use Rattle.c_elab_flow.specs.Lookahead.{with_jumps, first_jumps}
use Rattle.c_elab_flow.proofs.Jumping.{jumps_twice, item_jumps}
use Rattle.c_elab_flow.proofs.jumps.Ahead.+jumps.Goals as goal
use Rattle.c_elab_flow.proofs.jumps.Ahead.+jumps.Goals.{note_jumps_of-in-Declares, note_jumps_of-in-Does}

pub note_jumps-returns-in-Block : goal.note_jumps-returns-in-Block
note_jumps-returns-in-Block t c =
    c.note_jumps_of.ensures ∙ ap (λ (is : List Item). with_jumps c.args.self.now (jumps_of (items_of is))) c.deref.ensures.value
    ∙ sym (ap (λ (x : Statement). with_jumps c.args.self.now (jumps_in x)) (ap view_statement c.in-Block.is ∙ view_block c.in-Block.line c.in-Block.items))

pub note_jumps-returns-in-IfElse : goal.note_jumps-returns-in-IfElse
note_jumps-returns-in-IfElse t c =
    let a = c.args.self.now in
    let x = jumps_in (view_statement c.deref-in-IfElse.result.now) in
    let y = jumps_in (view_statement c.deref-in-IfElse-2.result.now) in
    c.note_jumps-in-IfElse-2.ensures ∙ ap (λ (b : Ahead). with_jumps b y) c.note_jumps-in-IfElse.ensures ∙ jumps_twice a x y
    ∙ ap (λ (s : Stmt). with_jumps a (jumps_in (view_statement s) ++ y)) c.deref-in-IfElse.ensures
    ∙ ap (λ (s : Stmt). with_jumps a (jumps_in (view_statement c.in-IfElse.yes.value) ++ jumps_in (view_statement s))) c.deref-in-IfElse-2.ensures
    ∙ sym (ap (λ (s : Stmt). with_jumps a (jumps_in (view_statement s))) c.in-IfElse.is)

pub note_jumps_of-loop-item-preserved : goal.note_jumps_of-loop-item-preserved
note_jumps_of-loop-item-preserved t c =
    let is = c.args.items.now in
    let i = c.loop-item.item-index in
    let a = c.loop-item.self in
    let x = c.item-item.result in
    let rest = jumps_of (items_of (drop (i + 1) is)) in
    let here = item_jumps a is i x (omega arith) c.item-item.is in
    elim c.match-item.branch [
      | note_jumps_of-in-Declares w ↦ ap (λ (b : Ahead). with_jumps b rest) w.self-is ∙ ap (λ (y : Item). with_jumps (with_jumps a (first_jumps (view_item y done))) rest) (sym w.in-Declares.is) ∙ sym here ∙ c.loop-item.invariant
      | note_jumps_of-in-Does w ↦ ap (λ (b : Ahead). with_jumps b rest) (w.self-is ∙ w.note_jumps.ensures ∙ ap (λ (y : Stmt). with_jumps a (jumps_in (view_statement y))) w.deref.ensures) ∙ ap (λ (y : Item). with_jumps (with_jumps a (first_jumps (view_item y done))) rest) (sym w.in-Does.is) ∙ sym here ∙ c.loop-item.invariant
    ]
