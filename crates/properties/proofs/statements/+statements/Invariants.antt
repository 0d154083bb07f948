use Rattle.std.proofs.Common.{◌≡◌, ◌+◌, ◌*◌, take, fold}
use Rattle.c_tree.specs.Statements.{statement_depth, view_statement, items_depth, items_of, view_item, done}
use Rattle.properties.proofs.Behind.{by_item}
use Rattle.properties.proofs.statements.+statements.Given as goal

abbrev pub invariant-push_items-loop-item : goal.invariant-push_items-loop-item
invariant-push_items-loop-item l = l.spots.items ≡ fold by_item l.fn.spots.items (take l.item-index l.items)

abbrev pub decreases-push_items : goal.decreases-push_items
decreases-push_items l = 4 * items_depth (items_of l.items.now) + 3

abbrev pub decreases-push_item : goal.decreases-push_item
decreases-push_item l = 4 * items_depth (view_item l.item.now done) + 2

abbrev pub decreases-push_tested : goal.decreases-push_tested
decreases-push_tested l = 4 * statement_depth (view_statement l.body.now) + 1

abbrev pub decreases-push_rest : goal.decreases-push_rest
decreases-push_rest l = 4 * statement_depth (view_statement l.body.now) + 1

abbrev pub decreases-push_statement : goal.decreases-push_statement
decreases-push_statement l = 4 * statement_depth (view_statement l.statement.now)
