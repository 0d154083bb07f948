use Rattle.std.proofs.Common.{◌≡◌, ◌+◌, ◌*◌, take}
use Rattle.c_tree.specs.Statements.{statement_depth, view_statement, items_depth, items_of, view_item, done}
use Rattle.c_tree.proofs.file_levels.+statements.Given as goal

abbrev pub invariant-items_depth-loop-item : goal.invariant-items_depth-loop-item
invariant-items_depth-loop-item l = l.levels ≡ items_depth (items_of (take l.item-index l.items))

abbrev pub decreases-items_depth : goal.decreases-items_depth
decreases-items_depth l = 3 * items_depth (items_of l.items.now) + 2

abbrev pub decreases-item_depth : goal.decreases-item_depth
decreases-item_depth l = 3 * items_depth (view_item l.item.now done) + 1

abbrev pub decreases-statement_depth : goal.decreases-statement_depth
decreases-statement_depth l = 3 * statement_depth (view_statement l.statement.now)
