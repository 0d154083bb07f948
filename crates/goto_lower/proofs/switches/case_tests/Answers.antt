use Rattle.std.proofs.Common.{◌+◌, drop, ap, sym, ◌∙◌, arith}
use Rattle.core_tree.specs.Trees.{items_of}
use Rattle.goto_lower.specs.Statements.{after_tests}
use Rattle.goto_lower.proofs.DraftingSwitches.{items_at, tests_whole}
use Rattle.goto_lower.proofs.switches.case_tests.Goals as goal

pub loop-item-preserved : goal.loop-item-preserved
loop-item-preserved c =
    let xs = c.args.items.now in
    let l = c.loop-item in
    λ line.
    c.in_ok-at.ensures line (items_of (drop (l.item-index + 1) xs))
    ∙ ap (λ is. after_tests l.draft line c.args.value l.at.before is l.at.into) (sym (items_at xs l.item-index c.item-item.result (omega arith) c.item-item.is))
    ∙ l.invariant line

pub returns : goal.returns
returns c =
    let l = c.loop-item in
    λ line. tests_whole l.draft _ line c.args.value l.at.before c.args.items.now l.item-index l.at.into (omega arith) (l.invariant line)
