use Rattle.std.proofs.Common.{◌<◌, List, ap, ◌∙◌, arith}
use Rattle.std.proofs.lemmas.List.{take_all}
use Rattle.c_tree.specs.declared.statement.Stmt.{Stmt}
use Rattle.c_tree.specs.declared.statement.Item.{Item}
use Rattle.c_tree.specs.Statements.{statement_depth, view_statement, items_depth, items_of, view_item, done}
use Rattle.c_tree.proofs.StatementViews.{view_block, item_within, item_more}
use Rattle.c_tree.proofs.file_levels.+statements.Goals as goal

pub statement_depth-items_depth-requires : goal.statement_depth-items_depth-requires
statement_depth-items_depth-requires t c =
    let e = ap (λ (s : Stmt). statement_depth (view_statement s)) c.in-Block.is ∙ ap statement_depth (view_block c.in-Block.line c.in-Block.items) in
    let same = ap (λ (is : List Item). items_depth (items_of is)) c.deref.ensures.value in
    let small : statement_depth (view_statement c.args.statement.now) < 4294967296 = c.requires in
    (omega (arith, e, same), omega (arith, e, same))

pub statement_depth-overflow_add-result : goal.statement_depth-overflow_add-result
statement_depth-overflow_add-result t c =
    let e = ap (λ (s : Stmt). statement_depth (view_statement s)) c.in-Block.is ∙ ap statement_depth (view_block c.in-Block.line c.in-Block.items) in
    let same = ap (λ (is : List Item). items_depth (items_of is)) c.deref.ensures.value in
    omega (arith, e, same)

pub statement_depth-returns-in-Block : goal.statement_depth-returns-in-Block
statement_depth-returns-in-Block t c =
    let e = ap (λ (s : Stmt). statement_depth (view_statement s)) c.in-Block.is ∙ ap statement_depth (view_block c.in-Block.line c.in-Block.items) in
    let same = ap (λ (is : List Item). items_depth (items_of is)) c.deref.ensures.value in
    omega (arith, e, same)

pub items_depth-item_depth-requires : goal.items_depth-item_depth-requires
items_depth-item_depth-requires t c =
    let below = item_within c.args.items.now c.loop-item.item-index c.item-item.result (omega arith) in
    let e = ap (λ (i : Item). items_depth (view_item i done)) c.item-item.is in
    (omega (arith, below, e), omega (arith, below, e))

pub items_depth-loop-item-preserved : goal.items_depth-loop-item-preserved
items_depth-loop-item-preserved t c =
    let one = item_more c.args.items.now c.loop-item.item-index c.item-item.result (omega arith) in
    let e = ap (λ (i : Item). items_depth (view_item i done)) c.item-item.is in
    omega (arith, one, e)

pub items_depth-returns : goal.items_depth-returns
items_depth-returns t c =
    let all = ap (λ (is : List Item). items_depth (items_of is)) (take_all c.loop-item.item-index c.args.items.now c.loop-item-test.false) in
    omega (arith, all)
