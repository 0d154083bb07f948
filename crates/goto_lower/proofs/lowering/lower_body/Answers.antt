use Rattle.std.proofs.Common.{◌≡◌, None, ap, subst, ◌∙◌}
use Rattle.std.specs.Prelude.{reverse}
use Rattle.core_tree.specs.Trees.{view_statement}
use Rattle.goto_prog.specs.Nodes.{plain, nodes_of}
use Rattle.goto_prog.specs.declared.code.Operation.TheVariants as operations
use Rattle.lowered_code.specs.Lowering.{at_line, ends}
use Rattle.goto_lower.specs.Statements.{Drafted}
use Rattle.goto_lower.proofs.DraftingJumps.{body_made}
use Rattle.goto_lower.proofs.lowering.lower_body.Goals as goal

pub returns-clause-nodes : goal.returns-clause-nodes
returns-clause-nodes c =
    let d = c.args.draft.now in
    let line = c.args.line in
    let body = view_statement c.args.body.now in
    let n2 = nodes_of (reverse c.leave_before.new.made.items) in
    let n3 = nodes_of (reverse c.lower_statement.new.made.items) in
    let gives = at_line d.frame line (operations.Return None) in
    let breaks = at_line d.frame line (operations.Assert 0) in
    let ended : nodes_of (reverse c.put-2.new.made.items) ≡ plain gives (plain breaks ends) =
    c.in_ok-put-2.ensures ∙ (λ i. plain gives (c.in_ok-put.ensures i)) ∙ (λ i. plain gives (plain breaks (nodes_of (reverse (c.new-nodes.ensures.items i))))) in
    ap nodes_of c.reverse.ensures.items
    ∙ (body_made d line c.args.count body c.requires c.register.new.self c.live_parameters.new.draft c.leave_before.new.draft c.lower_statement.new.draft c.make_parameters.new.draft c.flush.new.self c.in_ok-living.living
    (nodes_of (reverse c.put-2.new.made.items)) n2 n3 (nodes_of (reverse c.flush.new.made.items)) ended c.in_ok-_zero.ensures.code
    c.in_ok-living.ensures.draft c.in_ok-living.ensures.count c.in_ok-leave_before.ensures.draft c.in_ok-leave_before.ensures.code
    (subst (λ x. Drafted c.leave_before.new.draft c.lower_statement.new.draft n2 n3 x body) c.of_function.ensures c.in_ok-lower_statement.ensures)
    c.in_ok-make_parameters.ensures c.in_ok-flush.ensures.code c.in_ok-flush.ensures.draft).1
