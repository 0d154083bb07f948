use Rattle.std.proofs.Common.{◌≡◌, ◌≢◌, ℕ, suc, ◌<◌, ◌≤◌, Bool, true, false, not, List, Option, refl, sym, subst, arith}
use Rattle.std.specs.Prelude.{IsSomeAnd}
use Rattle.cdcl_core.specs.declared.trail.Step.{Step}
use Rattle.cdcl_core.specs.declared.analysis.Analysis.{Analysis}
use Rattle.cdcl_core.specs.Steps.{oldest}
use Rattle.cdcl_core.specs.Settled.{IsReason}
use Rattle.cdcl_core.proofs.Levels.{reason_at}
use Rattle.cdcl_core.proofs.Cutting.{IsCut-fewer}
use Rattle.cdcl_core.proofs.analysis.Analysis.leave_out.Goals as goal

apart : (place newest low : ℕ) → place < newest → newest ≤ low → place ≢ low
apart place newest low early below same = omega (arith, early, below, same)

no_decision : (b : Bool) → not b ≡ true → b ≡ false
no_decision true h = sym h
no_decision false h = refl

pub replace-requires-clause-apart : goal.replace-requires-clause-apart
replace-requires-clause-apart c =
    let a : Analysis = c.args.self.now in apart c.args.place a.newest a.low c.requires.place c.requires.reached.newest

pub replace-requires-clause-high : goal.replace-requires-clause-high
replace-requires-clause-high c = omega (arith, c.requires.place, c.requires.reached.newest, c.requires.reached.low)

pub replace-requires-clause-reason : goal.replace-requires-clause-reason
replace-requires-clause-reason c =
    let steps : List Step = c.args.trail.now.steps in
    let s : Step = c.in-Some.step in
    subst (λ (o : Option ℕ). IsSomeAnd o (IsReason c.args.clauses.now (oldest c.args.place steps) s.literal)) c.in-Some-reason.is
    (reason_at c.args.clauses.now steps c.args.place s c.requires.justified c.in-Some.ensures.step (no_decision s.decision c.if-not-step.true))

pub returns-else-is_implied-clause-cut : goal.returns-else-is_implied-clause-cut
returns-else-is_implied-clause-cut c = IsCut-fewer c.args.clauses.now c.args.trail.now.steps (suc c.args.place) c.args.place c.args.self.now.marked.items _ (omega arith) c.requires.cut

pub returns-in_default-reason-clause-cut : goal.returns-in_default-reason-clause-cut
returns-in_default-reason-clause-cut c = IsCut-fewer c.args.clauses.now c.args.trail.now.steps (suc c.args.place) c.args.place c.args.self.now.marked.items _ (omega arith) c.requires.cut

pub returns-else-not-step-clause-cut : goal.returns-else-not-step-clause-cut
returns-else-not-step-clause-cut c = IsCut-fewer c.args.clauses.now c.args.trail.now.steps (suc c.args.place) c.args.place c.args.self.now.marked.items _ (omega arith) c.requires.cut
