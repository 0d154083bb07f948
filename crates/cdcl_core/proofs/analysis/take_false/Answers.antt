use Rattle.std.proofs.Common.{◌≡◌, ◌<◌, true, false, length, set, get_or, sym, subst, ◌∙◌, arith}
use Rattle.std.proofs.lemmas.List.{get_or_default}
use Rattle.cdcl_core.specs.Cuts.{TakesMarks}
use Rattle.cdcl_core.proofs.Taking.{TakesMarks-taken}
use Rattle.cdcl_core.proofs.analysis.take_false.Goals as goal

pub returns-in_ok-push-clause-takes : goal.returns-in_ok-push-clause-takes
returns-in_ok-push-clause-takes c = λ start before.
    let within : c.args.variable < length c.args.marked.now.items = omega (arith, c.if-variable-len.true, c.len.ensures, c.args.marked.now.ok.0) in
    let on : true ≡ get_or c.args.marked.now.items c.args.variable false =
    subst (λ b. b ≡ get_or c.args.marked.now.items c.args.variable b) c.if-index.true c.index.ensures ∙ get_or_default c.args.marked.now.items c.args.variable true false within in
    subst (TakesMarks c.args.trail.now.steps start (set c.args.marked.now.items c.args.variable false)) (sym c.in_ok-push.ensures.ok)
    (TakesMarks-taken c.args.trail.now.steps start c.args.marked.now.items c.args.clause.now c.args.variable c.in-Some.literal (sym on) c.in-Some.ensures before)
