use Rattle.std.proofs.Common.{ap, sym, ◌∙◌}
use Rattle.core_tree.specs.declared.statement.CoreStatement.{CoreStatement}
use Rattle.core_tree.specs.Trees.{view_statement, items_of}
use Rattle.core_tree.proofs.Views.{view_block}
use Rattle.core_tree.specs.Standing.{in_switch, stands, are_standing}
use Rattle.core_check.specs.Outer.{standing_in}
use Rattle.core_check.proofs.Switches.{view_switch}
use Rattle.core_check.proofs.standing.+standing.Goals as goal

pub stands-returns-in-Block : goal.stands-returns-in-Block
stands-returns-in-Block t c =
    let p = standing_in c.args.outer in
    c.are_standing.ensures
    ∙ ap (λ is. are_standing p (items_of is)) c.deref.ensures.value
    ∙ sym (ap (λ (x : CoreStatement). stands p (view_statement x)) c.in-Block.is ∙ ap (stands p) (view_block c.in-Block.items))

pub stands-returns-in-Switch : goal.stands-returns-in-Switch
stands-returns-in-Switch t c =
    let p = standing_in c.args.outer in
    let node = c.in-Switch in
    c.are_standing-in-Switch.ensures
    ∙ ap (λ around. are_standing around (items_of c.deref-in-Switch.result.now)) c.in_switch.ensures
    ∙ ap (λ is. are_standing (in_switch p) (items_of is)) c.deref-in-Switch.ensures.value
    ∙ sym (ap (λ (x : CoreStatement). stands p (view_statement x)) node.is ∙ ap (stands p) (view_switch node.line node.value node.items))
