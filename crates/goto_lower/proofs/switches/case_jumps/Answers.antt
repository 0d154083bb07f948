use Rattle.goto_lower.specs.Statements.{jumps_to}
use Rattle.std.proofs.Common.{◌≡◌, take, ap, ◌∙◌, arith}
use Rattle.std.specs.Prelude.{reverse}
use Rattle.goto_prog.specs.Nodes.{nodes_of}
use Rattle.goto_lower.proofs.DraftingSwitches.{either_default, jumps_more, jumps_all}
use Rattle.goto_lower.proofs.switches.case_jumps.Goals as goal

pub loop-case-preserved : goal.loop-case-preserved
loop-case-preserved c =
    let k = c.loop-case.case-index in
    let n = c.saturating_sub-into.result in
    let f = c.args.draft.now in
    λ first is.
    (let so_far = c.loop-case.invariant first is in (
      omega (arith, so_far.0, c.saturating_sub-into.ensures),
      jumps_more f.frame c.args.base c.args.value n c.loop-case.into c.args.places.now k _ _ _ (nodes_of (reverse c.args.made.now.items)) (omega arith) (either_default c.args.places.now k _ _ (omega arith)) (omega (arith, so_far.0, c.saturating_sub-into.ensures)) so_far.1 c.in_ok-case_jump.ensures,
    ))

pub returns : goal.returns
returns c =
    let l = c.loop-case in
    let f = c.args.draft.now in
    λ first is.
    (let so_far = l.invariant first is in
    let at : l.into ≡ first = omega (arith, so_far.0, c.loop-case-test.false) in
    jumps_all f.frame c.args.base c.args.value first c.args.places.now l.case-index (nodes_of (reverse l.made.items)) (nodes_of (reverse c.args.made.now.items)) (omega arith)
    (so_far.1 ∙ ap (λ m. jumps_to f.frame c.args.base c.args.value m (reverse (take l.case-index c.args.places.now)) (nodes_of (reverse c.args.made.now.items))) at))
