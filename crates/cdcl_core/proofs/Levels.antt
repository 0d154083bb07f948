-- The places of the decisions, and what holds of the steps before one.
use Rattle.std.proofs.Common.{◌≡◌, ℕ, suc, ◌<◌, ◌≤◌, ◌⊎◌, inl, inr, true, false, List, [], ◌∷◌, ◌++◌, length, refl, sym, ap, ◌∙◌, subst, arith}
use Rattle.std.specs.Prelude.{Contains, IsSomeAnd, if◌then◌else◌}
use Rattle.std.proofs.lemmas.Bool.{cases_Bool, true≢false}
use Rattle.std.proofs.lemmas.List.{same_from_push}
use Rattle.std.proofs.lemmas.List.Elements.{Contains-append_left, Contains-push, Contains-push_cases}
use Rattle.sat_form.specs.Satisfaction.{Literal}
use Rattle.sat_form.proofs.Databases.{Contains-head}
use Rattle.cdcl_core.specs.declared.trail.Step.{Step}
use Rattle.cdcl_core.specs.Steps.{oldest, decision_places}
use Rattle.cdcl_core.specs.Settled.{IsSettled, AreSettled, IsReason, AreJustified}
use Rattle.cdcl_core.specs.Learning.{IsLast}
use Rattle.cdcl_core.specs.Cuts.{AreBetween}
use Rattle.cdcl_core.proofs.Courses.{oldest-all, oldest-more}
use Rattle.cdcl_core.proofs.Known.{IsStepAt, StepAt-cases, StepAt-below}

places_with : (t : Step) (older : List Step) → t.decision ≡ true → decision_places (t ∷ older) ≡ decision_places older ++ length older ∷ []
places_with t older decides = ap (λ b. if b then decision_places older ++ length older ∷ [] else decision_places older) decides

places_without : (t : Step) (older : List Step) → t.decision ≡ false → decision_places (t ∷ older) ≡ decision_places older
places_without t older follows = ap (λ b. if b then decision_places older ++ length older ∷ [] else decision_places older) follows

-- the place of a decision is among them
pub decision_found : (steps : List Step) (place : ℕ) (s : Step) → IsStepAt place steps s → s.decision ≡ true → Contains (decision_places steps) place
decision_found [] place s at decides = absurd (cc)
decision_found (t ∷ older) place s at decides =
    elim (cases_Bool t.decision) [
      | inl with ↦
          subst (λ xs. Contains xs place) (sym (places_with t older with)) (
          elim (StepAt-cases place t older s at) [
            | inl last ↦ subst (λ k. Contains (decision_places older ++ length older ∷ []) k) (sym last.0) (Contains-push (decision_places older) (length older))
            | inr before ↦ Contains-append_left (decision_places older) (length older ∷ []) place (decision_found older place s before decides)
          ]
          )
      | inr without ↦
          subst (λ xs. Contains xs place) (sym (places_without t older without)) (
          elim (StepAt-cases place t older s at) [
            | inl last ↦ absurd (true≢false (sym decides ∙ ap (λ (x : Step). x.decision) (sym last.1) ∙ without))
            | inr before ↦ decision_found older place s before decides
          ]
          )
    ]

-- a decision at a place
pub record IsDecisionAt (steps : List Step) (place : ℕ) : Type 0 where
  pub step : Step
  pub at : IsStepAt place steps step
  pub decides : step.decision ≡ true

older_step : (place : ℕ) (t : Step) (older : List Step) (s : Step) → IsStepAt place older s → IsStepAt place (t ∷ older) s
older_step place t older s at =
    let below : place < length older = StepAt-below place older s at in
    oldest-more (suc place) t older (omega arith) ∙ at ∙ (λ k. s ∷ (sym (oldest-more place t older (omega arith))) k)

newest_step : (t : Step) (older : List Step) → IsStepAt (length older) (t ∷ older) t
newest_step t older =
    oldest-all (suc (length older)) (t ∷ older) (omega arith)
    ∙ (λ k. t ∷ (sym (oldest-more (length older) t older (omega arith) ∙ oldest-all (length older) older (omega arith))) k)

-- each of them is that of a decision
pub decision_at : (steps : List Step) (place : ℕ) → Contains (decision_places steps) place → IsDecisionAt steps place
decision_at [] place found = absurd (omega (arith, found.1))
decision_at (t ∷ older) place found =
    elim (cases_Bool t.decision) [
      | inl with ↦
          elim (Contains-push_cases (decision_places older) (length older) place (subst (λ xs. Contains xs place) (places_with t older with) found)) [
            | inl before ↦
                let d : IsDecisionAt older place = decision_at older place before in
                record { step = d.step; at = older_step place t older d.step d.at; decides = d.decides }
            | inr last ↦ record { step = t; at = subst (λ k. IsStepAt k (t ∷ older) t) last (newest_step t older); decides = with }
          ]
      | inr without ↦
          let d : IsDecisionAt older place = decision_at older place (subst (λ xs. Contains xs place) (places_without t older without) found) in
          record { step = d.step; at = older_step place t older d.step d.at; decides = d.decides }
    ]

pub decision_below : (steps : List Step) (place : ℕ) → Contains (decision_places steps) place → place < length steps
decision_below steps place found = let d : IsDecisionAt steps place = decision_at steps place found in StepAt-below place steps d.step d.at

-- the last one is the newest
pub newest_last : (steps : List Step) (front : List ℕ) (newest place : ℕ) → decision_places steps ≡ front ++ newest ∷ [] → Contains (decision_places steps) place → place ≤ newest
newest_last [] front newest place is found = absurd (omega (arith, found.1))
newest_last (t ∷ older) front newest place is found =
    elim (cases_Bool t.decision) [
      | inl with ↦
          let same : (decision_places older ≡ front) × (length older ≡ newest) = same_from_push (decision_places older) front (length older) newest (sym (places_with t older with) ∙ is) in
          let below : place < length (t ∷ older) = decision_below (t ∷ older) place found in
          omega (arith, same.1, below)
      | inr without ↦ newest_last older front newest place (sym (places_without t older without) ∙ is) (subst (λ xs. Contains xs place) (places_without t older without) found)
    ]

-- the first one is the oldest
pub first_least : (steps : List Step) (back : List ℕ) (first place : ℕ) → decision_places steps ≡ first ∷ back → Contains (decision_places steps) place → first ≤ place
first_least [] back first place is found = absurd (omega (arith, found.1))
first_least (t ∷ older) back first place is found =
    elim (cases_Bool t.decision) [
      | inl with ↦
          let cases : Contains (decision_places older) place ⊎ (length older ≡ place) =
          Contains-push_cases (decision_places older) (length older) place (subst (λ xs. Contains xs place) (places_with t older with) found) in
          elim (decision_places older) as (λ xs. decision_places older ≡ xs → xs ++ length older ∷ [] ≡ first ∷ back → first ≤ place) [
            | [] ↦ λ none split.
                let same : length older ≡ first = cc in
                elim cases [
                  | inl before ↦ absurd (let empty : Contains [] place = subst (λ xs. Contains xs place) none before in omega (arith, empty.1))
                  | inr last ↦ omega (arith, same, last)
                ]
            | x ∷ xs ↦ λ some split.
                let same : x ≡ first = cc in
                let places : decision_places older ≡ first ∷ xs = some ∙ ap (λ y. y ∷ xs) same in
                elim cases [
                  | inl before ↦ first_least older xs first place places before
                  | inr last ↦
                      let below : first < length older = decision_below older first (subst (λ ys. Contains ys first) (sym places) (Contains-head first xs)) in
                      omega (arith, below, last)
                ]
          ] refl (sym (places_with t older with) ∙ is)
      | inr without ↦ first_least older back first place (sym (places_without t older without) ∙ is) (subst (λ xs. Contains xs place) (places_without t older without) found)
    ]

-- the decisions lie between the first and the last of the places
pub AreBetween-ends : (steps : List Step) (first newest : ℕ) (back : List ℕ) → decision_places steps ≡ first ∷ back → IsLast (decision_places steps) newest → AreBetween steps first newest
AreBetween-ends steps first newest back begins ends = λ place s at decides.
    let found : Contains (decision_places steps) place = decision_found steps place s at decides in
    (first_least steps back first place begins found, newest_last steps ends.0 newest place ends.1 found)

pub AreBetween-none : (steps : List Step) (first newest : ℕ) → decision_places steps ≡ [] → AreBetween steps first newest
AreBetween-none steps first newest none = λ place s at decides.
    let found : Contains [] place = subst (λ xs. Contains xs place) none (decision_found steps place s at decides) in
    absurd (omega (arith, found.1))

-- the steps before a decision are settled
pub settled_before : (clauses : List (List Literal)) (steps : List Step) (place : ℕ) (s : Step) → AreSettled clauses steps → IsStepAt place steps s → s.decision ≡ true → IsSettled clauses (oldest place steps)
settled_before clauses [] place s settled at decides = absurd (cc)
settled_before clauses (t ∷ older) place s settled at decides =
    elim (StepAt-cases place t older s at) [
      | inl last ↦
          subst (IsSettled clauses) (sym (oldest-more place t older (omega (arith, last.0)) ∙ oldest-all place older (omega (arith, last.0))))
          (settled.0 (ap (λ (x : Step). x.decision) last.1 ∙ decides))
      | inr before ↦
          let below : place < length older = StepAt-below place older s before in
          subst (IsSettled clauses) (sym (oldest-more place t older (omega (arith, below)))) (settled_before clauses older place s settled.1 before decides)
    ]

-- a step that is no decision has a reason
pub reason_at :
    (clauses : List (List Literal)) (steps : List Step) (place : ℕ) (s : Step) →
    AreJustified clauses steps → IsStepAt place steps s → s.decision ≡ false → IsSomeAnd s.reason (IsReason clauses (oldest place steps) s.literal)
reason_at clauses [] place s justified at follows = absurd (cc)
reason_at clauses (t ∷ older) place s justified at follows =
    elim (StepAt-cases place t older s at) [
      | inl last ↦
          subst (λ (x : List Step). IsSomeAnd s.reason (IsReason clauses x s.literal)) (sym (oldest-more place t older (omega (arith, last.0)) ∙ oldest-all place older (omega (arith, last.0))))
          (subst (λ (x : Step). IsSomeAnd x.reason (IsReason clauses older x.literal)) last.1 (justified.0 (ap (λ (x : Step). x.decision) last.1 ∙ follows)))
      | inr before ↦
          let below : place < length older = StepAt-below place older s before in
          subst (λ (x : List Step). IsSomeAnd s.reason (IsReason clauses x s.literal)) (sym (oldest-more place t older (omega (arith, below)))) (reason_at clauses older place s justified.1 before follows)
    ]
