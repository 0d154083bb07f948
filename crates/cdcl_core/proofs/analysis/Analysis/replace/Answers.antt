use Rattle.std.proofs.Common.{◌≡◌, Bool, false, List, ◌∷◌, [], set, reverse, refl, sym, ap, ◌∙◌, subst}
use Rattle.std.specs.Vec.{with_item}
use Rattle.std.proofs.lemmas.List.{reverse-append}
use Rattle.sat_form.specs.Satisfaction.{Literal}
use Rattle.cdcl_core.specs.declared.trail.Step.{Step}
use Rattle.cdcl_core.specs.declared.analysis.Analysis.{Analysis}
use Rattle.cdcl_core.specs.Steps.{known_place}
use Rattle.cdcl_core.specs.Cuts.{MarksClause, IsCut}
use Rattle.cdcl_core.proofs.Places.{slice_get-one}
use Rattle.cdcl_core.proofs.Known.{place_of-step}
use Rattle.cdcl_core.proofs.Marking.{IsReached-cleared}
use Rattle.cdcl_core.proofs.Cutting.{IsCut-replaced, off-replaced}
use Rattle.cdcl_core.proofs.analysis.Analysis.replace.Goals as goal

pub mark_clause-requires-clause-reached : goal.mark_clause-requires-clause-reached
mark_clause-requires-clause-reached c =
    let a : Analysis = c.args.self.now in
    let steps : List Step = c.args.trail.now.steps in
    IsReached-cleared steps a (with_item a.marked c.variable.result false) c.variable.result c.args.place refl
    (ap (known_place steps) c.variable.ensures.is ∙ place_of-step c.args.trail.now.variables c.args.place steps c.args.step c.requires.fresh c.requires.step)
    c.requires.apart c.requires.reached

pub returns-clause-cut : goal.returns-clause-cut
returns-clause-cut c =
    let steps : List Step = c.args.trail.now.steps in
    let old : List Bool = c.args.self.now.marked.items in
    let new : List Bool = c.mark_clause.new.self.marked.items in
    let clause : c.at.result.now ≡ c.requires.reason.clause =
    slice_get-one c.args.clauses.now c.args.reason c.at.result.now c.requires.reason.clause c.at.ensures c.requires.reason.found in
    let marks : MarksClause steps c.requires.reason.clause c.args.place (set old c.args.step.literal.variable false) new =
    subst (λ (x : List Literal). MarksClause steps x c.args.place (set old c.args.step.literal.variable false) new) clause
    (subst (λ v. MarksClause steps c.at.result.now c.args.place (set old v false) new) c.variable.ensures.is c.in_ok-mark_clause.ensures.marks) in
    let numbers : reverse c.push.new.self.items ≡ c.args.reason ∷ reverse c.args.numbers.now.items =
    ap reverse c.in_ok-push.ensures.items ∙ reverse-append c.args.numbers.now.items (c.args.reason ∷ []) in
    subst (IsCut c.args.clauses.now steps c.args.place new) (sym numbers)
    (IsCut-replaced c.args.trail.now.variables c.args.clauses.now steps c.args.place c.args.step c.args.reason c.requires.reason old new (reverse c.args.numbers.now.items)
    c.requires.fresh c.requires.step c.requires.marked marks c.requires.cut)

pub returns-clause-off : goal.returns-clause-off
returns-clause-off c =
    let steps : List Step = c.args.trail.now.steps in
    let old : List Bool = c.args.self.now.marked.items in
    let new : List Bool = c.mark_clause.new.self.marked.items in
    off-replaced c.args.trail.now.variables steps c.args.place c.args.step c.at.result.now old new c.requires.fresh c.requires.step
    (subst (λ v. MarksClause steps c.at.result.now c.args.place (set old v false) new) c.variable.ensures.is c.in_ok-mark_clause.ensures.marks)
