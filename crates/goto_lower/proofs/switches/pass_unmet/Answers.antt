use Rattle.std.proofs.Common.{◌≡◌, ◌-◌, arith}
use Rattle.std.specs.Prelude.{reverse}
use Rattle.core_tree.specs.Trees.{items_of}
use Rattle.goto_prog.specs.Nodes.{node_count, nodes_of}
use Rattle.code_draft.proofs.Drafting.{ok_maps}
use Rattle.goto_lower.proofs.DraftingSwitches.{unmet_draft, unmet_nodes}
use Rattle.code_draft.proofs.Making.{reversed_count}
use Rattle.goto_lower.proofs.switches.pass_unmet.Goals as goal

pub returns-clause-draft : goal.returns-clause-draft
returns-clause-draft c =
    ok_maps _ _ _ (λ last. unmet_draft c.args.draft.now c.push.new.self c.case_tests.new.draft (items_of c.args.items.now) c.args.line c.args.registers.before c.args.registers.value c.requires c.in_ok-push.ensures (c.in_ok-case_tests.ensures c.args.line) c.flush.new.self last)
    c.flush.ensures.draft

pub returns-clause-code : goal.returns-clause-code
returns-clause-code c =
    let entered = nodes_of (reverse c.args.made.now.items) in
    let count : c.saturating_sub-count.result ≡ node_count entered - c.args.count = omega (arith, c.saturating_sub-count.ensures, c.len.ensures, reversed_count c.args.made.now.items) in
    λ is_last. ok_maps c.flush.result _ _ (λ filled.
    unmet_nodes c.args.draft.now c.push.new.self c.case_tests.new.draft (items_of c.args.items.now) c.args.line c.args.registers.before c.args.registers.value c.requires c.in_ok-push.ensures (c.in_ok-case_tests.ensures c.args.line)
    c.args.registers.last c.args.count c.saturating_sub-count.result entered (nodes_of (reverse c.put.new.made.items)) (nodes_of (reverse c.flush.new.made.items)) count c.in_ok-put.ensures filled is_last)
    c.flush.ensures.code
