use Rattle.std.proofs.Common.{List, ap, ◌∙◌, arith}
use Rattle.c_tree.specs.declared.statement.Stmt.{Stmt}
use Rattle.c_tree.specs.declared.statement.Item.{Item}
use Rattle.c_tree.specs.Statements.{statement_depth, view_statement, items_depth, items_of, view_item, done}
use Rattle.c_tree.proofs.StatementViews.{view_block, item_within}
use Rattle.properties.proofs.Behind.{by_item, items_in_turn, one_more, at_end}
use Rattle.properties.proofs.Arms.{block_arm}
use Rattle.properties.proofs.statements.+statements.Goals as goal

pub push_statement-push_items-requires : goal.push_statement-push_items-requires
push_statement-push_items-requires t c =
    let e = ap (λ (s : Stmt). statement_depth (view_statement s)) c.in-Block.is ∙ ap statement_depth (view_block c.in-Block.line c.in-Block.items) in
    let same = ap (λ (is : List Item). items_depth (items_of is)) c.deref.ensures.value in
    omega (arith, e, same)

pub push_items-push_item-requires : goal.push_items-push_item-requires
push_items-push_item-requires t c =
    let below = item_within c.args.items.now c.loop-item.item-index c.item-item.result (omega arith) in
    let e = ap (λ (i : Item). items_depth (view_item i done)) c.item-item.is in
    omega (arith, below, e)

pub push_items-loop-item-preserved : goal.push_items-loop-item-preserved
push_items-loop-item-preserved t c =
    one_more by_item _ _ _ c.args.items.now c.loop-item.item-index c.item-item.result (omega arith) c.loop-item.invariant c.item-item.is c.in_ok-push_item.ensures

pub push_items-returns : goal.push_items-returns
push_items-returns t c = at_end by_item _ _ _ c.args.items.now c.loop-item.item-index c.loop-item-test.false c.loop-item.invariant (items_in_turn _ c.args.items.now)

pub push_statement-returns-in_ok-push_items-in-Block : goal.push_statement-returns-in_ok-push_items-in-Block
push_statement-returns-in_ok-push_items-in-Block t c =
    block_arm _ _ c.in-Block.line c.in-Block.items c.args.statement.now _ c.in-Block.is c.in_ok-push_items-in-Block.ensures c.deref.ensures.value
