use Rattle.std.proofs.Common.{◌≡◌, ℕ, Bool, true, List, [], ◌∷◌, Vec, Global, set, sym, ap, ◌∙◌, subst, arith}
use Rattle.sat_form.specs.Satisfaction.{Literal}
use Rattle.cdcl_core.specs.declared.analysis.Analysis.{Analysis}
use Rattle.cdcl_core.specs.Steps.{known_place}
use Rattle.cdcl_core.specs.Cuts.{MarksClause}
use Rattle.cdcl_core.proofs.Marking.{widened, IsReached-widened, MarksClause-set}
use Rattle.cdcl_core.proofs.analysis.Analysis.mark_literal.Goals as goal

pub returns-in_ok-push-clause-reached : goal.returns-in_ok-push-clause-reached
returns-in_ok-push-clause-reached c =
    let a : Analysis = c.args.self.now in
    let b : Analysis = c.reach.new.self in
    let v : ℕ = c.variable-variable.result in
    let place : ℕ = c.in-Some.place in
    let w = widened place a b _ _ c.reach.ensures.late c.reach.ensures.early c.reach.ensures.between in
    IsReached-widened c.args.trail.now.steps a b v place c.requires.reached w.0 (ap (λ (x : Vec Bool Global). x.items) w.1)
    (omega (arith, c.requires.clear.size, c.requires.within, c.variable-variable.ensures.is)) (sym c.in-Some.ensures) (omega (arith, c.requires.count))

pub returns-in_ok-push-clause-marks : goal.returns-in_ok-push-clause-marks
returns-in_ok-push-clause-marks c =
    let a : Analysis = c.args.self.now in
    let b : Analysis = c.reach.new.self in
    let place : ℕ = c.in-Some.place in
    let l : Literal = c.args.literal in
    let w = widened place a b _ _ c.reach.ensures.late c.reach.ensures.early c.reach.ensures.between in
    let marks : b.marked.items ≡ set a.marked.items l.variable true = ap (λ (x : Vec Bool Global). x.items) w.1 ∙ ap (λ v. set a.marked.items v true) c.variable-variable.ensures.is in
    subst (λ (m : List Bool). MarksClause c.args.trail.now.steps (l ∷ []) c.args.count a.marked.items m) (sym marks)
    (MarksClause-set c.args.trail.now.steps l c.args.count place a.marked.items (omega (arith, c.requires.clear.size, c.requires.within))
    (ap (known_place c.args.trail.now.steps) (sym c.variable-variable.ensures.is) ∙ sym c.in-Some.ensures) c.if-place-count.true)
