use Rattle.std.proofs.Common.{◌≡◌, ◌≢◌, ℕ, suc, ◌<◌, ◌≤◌, ◌⊎◌, inl, inr, false, List, Option, Some, None, get_or, refl, sym, ◌∙◌, subst, arith}
use Rattle.std.specs.Prelude.{IsSomeAnd}
use Rattle.std.proofs.lemmas.Bool.{cases_Bool, true≢false}
use Rattle.cdcl_core.specs.declared.trail.Step.{Step}
use Rattle.cdcl_core.specs.declared.analysis.Analysis.{Analysis}
use Rattle.cdcl_core.specs.Steps.{oldest}
use Rattle.cdcl_core.specs.Settled.{IsReason}
use Rattle.cdcl_core.specs.Cuts.{IsReached, IsOn}
use Rattle.cdcl_core.proofs.Known.{IsStepAt, variable_at}
use Rattle.cdcl_core.proofs.Levels.{reason_at}
use Rattle.cdcl_core.proofs.Cutting.{IsCut-fewer}
use Rattle.cdcl_core.proofs.analysis.Analysis.resolve.Goals as goal

-- a step that is outside the levels of the decisions, or after the lowest marked one of the newest, is no decision
no_decision : (steps : List Step) (a : Analysis) (place : ℕ) (s : Step) → IsReached steps a → (place < a.first) ⊎ (a.low < place) → IsStepAt place steps s → s.decision ≡ false
no_decision steps a place s r where_ at =
    elim (cases_Bool s.decision) [
      | inr follows ↦ follows
      | inl decides ↦
          let between : (a.first ≤ place) × (place ≤ a.newest) = r.decisions place s at decides in
          absurd (elim where_ [ inl early ↦ omega (arith, early, between.0) | inr late ↦ omega (arith, late, between.1, r.newest) ])
    ]

not_low : (place first newest low : ℕ) → (place < first) ⊎ (low < place) → first ≤ newest → newest ≤ low → place ≢ low
not_low place first newest low (inl early) x y same = omega (arith, early, x, y, same)
not_low place first newest low (inr late) x y same = omega (arith, late, same)

pub replace-requires-clause-apart : goal.replace-requires-clause-apart
replace-requires-clause-apart c =
    let a : Analysis = c.args.self.now in not_low c.args.place a.first a.newest a.low c.requires.place c.requires.reached.first c.requires.reached.newest

pub replace-requires-clause-reason : goal.replace-requires-clause-reason
replace-requires-clause-reason c =
    let steps : List Step = c.args.trail.now.steps in
    let s : Step = c.in-Some.step in
    let follows : s.decision ≡ false = no_decision steps c.args.self.now c.args.place s c.requires.reached c.requires.place c.in-Some.ensures.step in
    subst (λ (o : Option ℕ). IsSomeAnd o (IsReason c.args.clauses.now (oldest c.args.place steps) s.literal)) c.in-Some-reason.is
    (reason_at c.args.clauses.now steps c.args.place s c.requires.justified c.in-Some.ensures.step follows)

no_reason : (o : Option ℕ) (P : ℕ → Type 0) → IsSomeAnd o P → ((n : ℕ) → o ≡ Some n → ⊥) → ⊥
no_reason None P found never = found
no_reason (Some n) P found never = never n refl

pub returns-in_default-reason-clause-cut : goal.returns-in_default-reason-clause-cut
returns-in_default-reason-clause-cut c =
    IsCut-fewer c.args.clauses.now c.args.trail.now.steps (suc c.args.place) c.args.place c.args.self.now.marked.items _ (omega arith) c.requires.cut

pub returns-in_default-reason-clause-off : goal.returns-in_default-reason-clause-off
returns-in_default-reason-clause-off c =
    let steps : List Step = c.args.trail.now.steps in
    let s : Step = c.in-Some.step in
    let follows : s.decision ≡ false = no_decision steps c.args.self.now c.args.place s c.requires.reached c.requires.place c.in-Some.ensures.step in
    absurd (no_reason s.reason (IsReason c.args.clauses.now (oldest c.args.place steps) s.literal)
    (reason_at c.args.clauses.now steps c.args.place s c.requires.justified c.in-Some.ensures.step follows) c.in_default-reason.not-Some)

pub returns-else-index-clause-cut : goal.returns-else-index-clause-cut
returns-else-index-clause-cut c =
    IsCut-fewer c.args.clauses.now c.args.trail.now.steps (suc c.args.place) c.args.place c.args.self.now.marked.items _ (omega arith) c.requires.cut

pub returns-else-index-clause-off : goal.returns-else-index-clause-off
returns-else-index-clause-off c = λ v on.
    let variable : v ≡ c.variable.result =
    variable_at c.args.trail.now.variables c.args.place c.args.trail.now.steps c.in-Some.step v c.requires.fresh c.in-Some.ensures.step on.1 ∙ sym c.variable.ensures.is in
    let is_off : false ≡ get_or c.args.self.now.marked.items c.variable.result false =
    subst (λ b. b ≡ get_or c.args.self.now.marked.items c.variable.result b) c.if-index.false c.index.ensures in
    true≢false (sym (subst (IsOn c.args.self.now.marked.items) variable on.0) ∙ sym is_off)

pub returns-in_default-clause-cut : goal.returns-in_default-clause-cut
returns-in_default-clause-cut c =
    IsCut-fewer c.args.clauses.now c.args.trail.now.steps (suc c.args.place) c.args.place c.args.self.now.marked.items _ (omega arith) c.requires.cut
