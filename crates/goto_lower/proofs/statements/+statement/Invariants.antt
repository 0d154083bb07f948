use Rattle.std.proofs.Common.{◌+◌, ◌*◌, max, drop}
use Rattle.std.specs.Prelude.{reverse}
use Rattle.core_tree.proofs.statement.CoreStatement.TheLaws.{the_size}
use Rattle.core_tree.proofs.statement.CoreItem.TheLaws as item
use denote.Param.Weighed.{most}
use Rattle.core_tree.specs.Trees.{items_of}
use Rattle.goto_prog.specs.Nodes.{nodes_of}
use Rattle.goto_lower.specs.Statements.{Within}
use Rattle.goto_lower.proofs.statements.+statement.Given as goal

abbrev pub decreases-lower_statement : goal.decreases-lower_statement
decreases-lower_statement l = 4 * the_size l.statement.now

abbrev pub decreases-branches : goal.decreases-branches
decreases-branches l = 4 * max (the_size l.yes.now) (the_size l.no.now) + 1

abbrev pub decreases-for_loop : goal.decreases-for_loop
decreases-for_loop l = 4 * the_size l.body.now + 1

abbrev pub decreases-do_loop : goal.decreases-do_loop
decreases-do_loop l = 4 * the_size l.body.now + 1

abbrev pub decreases-lower_item : goal.decreases-lower_item
decreases-lower_item l = 4 * goal.size-lower_item l

abbrev pub decreases-lower_items : goal.decreases-lower_items
decreases-lower_items l = 4 * goal.size-lower_items l + 1

abbrev pub decreases-block : goal.decreases-block
decreases-block l = 4 * goal.size-block l + 3

abbrev pub decreases-lower_inside : goal.decreases-lower_inside
decreases-lower_inside l = 4 * goal.size-lower_inside l + 2

abbrev pub decreases-switch : goal.decreases-switch
decreases-switch l = 4 * most item.the_size l.items.now + 3

abbrev pub invariant-lower_items-loop-place : goal.invariant-lower_items-loop-place
invariant-lower_items-loop-place l = Within l.initial.draft (nodes_of (reverse l.initial.made.items)) l.exits (items_of (drop l.place l.items)) l.draft (nodes_of (reverse l.made.items)) l.cases
