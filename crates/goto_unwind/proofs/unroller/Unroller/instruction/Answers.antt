use Rattle.std.proofs.Common.{[], ◌∷◌, ap, ◌∙◌}
use Rattle.goto_prog.specs.declared.code.Operation.{Operation}
use Rattle.goto_prog.specs.Nodes.{nodes_of}
use Rattle.goto_unwind.specs.Unrolled.{at, renumbered}
use Rattle.goto_unwind.specs.Unroller.{level_of, making, placed, with_level, taken}
use Rattle.goto_unwind.proofs.Adding.{ok_same}
use Rattle.goto_unwind.proofs.Others.{does_other}
use Rattle.goto_unwind.proofs.unroller.Unroller.instruction.Goals as goal

pub returns-in_ok-operation-in_default : goal.returns-in_ok-operation-in_default
returns-in_ok-operation-in_default c =
    let i = c.args.i in
    let l = level_of c.args.level.now in
    let rest = nodes_of c.args.rest.now in
    let m = making c.args.self.now in
    let is = c.in_ok-operation-in_default.ensures ∙ ap (renumbered l.site.register l.site.block) c.resolved-operation.ensures in
    ok_same c.put-in_default.result _ _ _
    (ap (λ (o : Operation). placed (at i.line i.function o ∷ []) (with_level (taken l rest) m)) is
    ∙ does_other l rest i.line i.function i.operation m c.in_default.not-Skip c.in_default.not-SkipIfZero c.in_default.not-Call c.in_default.not-Return)
    c.put-in_default.ensures
