-- Which clauses a search may delete where no decision stands.
use Rattle.std.proofs.Common.{◌≡◌, ℕ, zero, suc, ◌<◌, ◌≤◌, ◌⊎◌, inl, inr, Bool, true, false, not, List, [], ◌∷◌, ◌++◌, Some, length, get_or, refl, sym, ap, ◌∙◌, subst, arith}
use Rattle.std.specs.Prelude.{slice_get, nat_eq, if◌then◌else◌, option_map, IsTrue}
use Rattle.std.proofs.lemmas.Bool.{cases_lt, true≢false, true_from_ne_false}
use Rattle.std.proofs.lemmas.List.{length-append}
use Rattle.sat_form.specs.Satisfaction.{Literal, inverse_of}
use Rattle.sat_form.specs.Propagation.{PropagatesTo}
use Rattle.sat_form.proofs.Units.{IsSomeIs, some_and}
use Rattle.cdcl_core.specs.declared.trail.Step.{Step}
use Rattle.cdcl_core.specs.Steps.{known_value, known_truth, decision_places}
use Rattle.cdcl_core.specs.Settled.{IsReason, AreJustified}
use Rattle.cdcl_core.specs.Watched.{HasTrue}
use Rattle.cdcl_core.specs.Spare.{HaveUnmarked, AreSpare, AreSatisfied, AreOffBelow, AreReasonsOff}
use Rattle.cdcl_core.proofs.Truths.{truth-inverse_of, same_from_truth}
use Rattle.cdcl_core.proofs.Watching.{known_truth-newest}

-- where no decision stands, no step is one
no_decision : (s : Step) (older : List Step) → decision_places (s ∷ older) ≡ [] → s.decision ≡ false
no_decision s older none =
    elim s.decision as (λ b. s.decision ≡ b → (if b then decision_places older ++ length older ∷ [] else decision_places older) ≡ [] → s.decision ≡ false) [
      | true ↦ λ _ is. absurd (omega (arith, ap length is, length-append (decision_places older) (length older ∷ [])))
      | false ↦ λ follows _. follows
    ] refl none

none_older : (s : Step) (older : List Step) → decision_places (s ∷ older) ≡ [] → decision_places older ≡ []
none_older s older none =
    elim s.decision as (λ b. (if b then decision_places older ++ length older ∷ [] else decision_places older) ≡ [] → decision_places older ≡ []) [
      | true ↦ λ is. absurd (omega (arith, ap length is, length-append (decision_places older) (length older ∷ [])))
      | false ↦ λ is. is
    ] none

-- what a step on another variable leaves
truth_other : (s : Step) (older : List Step) (l : Literal) → nat_eq s.literal.variable l.variable ≡ false → known_truth (s ∷ older) l ≡ known_truth older l
truth_other s older l apart =
    ap (λ b. option_map (λ c. if l.negated then not c else c) (if b then Some (not s.literal.negated) else known_value older l.variable)) apart

variable_equal : (n m : ℕ) → nat_eq n m ≡ true → n ≡ m
variable_equal n m h = grind (arith, h)

module _ (clauses : List (List Literal)) (marks : List Bool) (cs : List (List Literal)) (have : HaveUnmarked clauses marks cs) where
  -- each true literal is given by the clauses that aren't marked
  pub given_by : (steps : List Step) → AreJustified clauses steps → decision_places steps ≡ [] → AreReasonsOff marks steps → (l : Literal) → known_truth steps l ≡ Some true → PropagatesTo cs l
  given_by [] justified none off l is = cc
  given_by (s ∷ older) justified none off l is =
      elim (nat_eq s.literal.variable l.variable) as (λ b. nat_eq s.literal.variable l.variable ≡ b → PropagatesTo cs l) [
        | false ↦ λ apart. given_by older justified.1 (none_older s older none) off.1 l (sym (truth_other s older l apart) ∙ is)
        | true ↦ λ same.
            let here : l ≡ s.literal =
            same_from_truth (s ∷ older) l s.literal true (sym (variable_equal s.literal.variable l.variable same)) is (known_truth-newest s older s.literal refl) in
            let found : IsSomeIs s.reason (IsReason clauses older s.literal) = some_and s.reason (IsReason clauses older s.literal) (justified.0 (no_decision s older none)) in
            let r : IsReason clauses older s.literal found.x = found.holds in
            λ set closed.
            subst (λ (x : Literal). IsTrue (set x)) (sym here)
            (closed r.clause (have found.x r.clause r.found (off.0 found.x found.is)) s.literal
            (record {
              stands = r.stands;
              others = λ m at other. given_by older justified.1 (none_older s older none) off.1 (inverse_of m) (truth-inverse_of older m false (r.others m at other)) set closed;
            }))
      ] refl

-- the clauses that are satisfied and no reasons are spare
pub spare_from :
    (steps : List Step) (clauses : List (List Literal)) (marks : List Bool) → AreJustified clauses steps → decision_places steps ≡ [] → AreReasonsOff marks steps →
    AreSatisfied steps clauses marks → AreSpare clauses marks
spare_from steps clauses marks justified none off satisfied = λ k c found marked.
    let t : HasTrue steps c = satisfied k c found marked in
    record { literal = t.literal; stands = t.stands; given = λ cs have. given_by clauses marks cs have steps justified none off t.literal t.is }

-- ---- marks, one after the other

some_equal : {X : Type 0} → (x y : X) → Some x ≡ Some y → x ≡ y
some_equal x y e = cc

mark_before : (marks : List Bool) (b : Bool) (k : ℕ) → k < length marks → get_or (marks ++ b ∷ []) k false ≡ get_or marks k false
mark_before [] b k within = absurd (omega arith)
mark_before (m ∷ ms) b zero within = refl
mark_before (m ∷ ms) b (suc k) within = mark_before ms b k (omega arith)

mark_last : (marks : List Bool) (b : Bool) → get_or (marks ++ b ∷ []) (length marks) false ≡ b
mark_last [] b = refl
mark_last (m ∷ ms) b = mark_last ms b

mark_past : (marks : List Bool) (k : ℕ) → length marks ≤ k → get_or marks k false ≡ false
mark_past [] k past = refl
mark_past (m ∷ ms) zero past = absurd (omega arith)
mark_past (m ∷ ms) (suc k) past = mark_past ms k (omega arith)

place_cases : (k n : ℕ) → (k < n) ⊎ ((k ≡ n) ⊎ (suc n ≤ k))
place_cases k n = elim (cases_lt k n) [ inl less ↦ inl less | inr past ↦ inr (elim (cases_lt n k) [ inl more ↦ inr (omega (arith, more)) | inr least ↦ inl (omega (arith, past, least)) ]) ]

pub satisfied_more :
    (steps : List Step) (clauses : List (List Literal)) (marks : List Bool) (b : Bool) (c : List Literal) → AreSatisfied steps clauses marks → slice_get clauses (length marks) ≡ Some c →
    (b ≡ true → HasTrue steps c) → AreSatisfied steps clauses (marks ++ b ∷ [])
satisfied_more steps clauses marks b c satisfied here new = λ k d found marked.
    elim (place_cases k (length marks)) [
      | inl before ↦ satisfied k d found (sym (mark_before marks b k before) ∙ marked)
      | inr (inl at) ↦
          let same : c ≡ d = some_equal c d (sym here ∙ ap (slice_get clauses) (sym at) ∙ found) in
          subst (HasTrue steps) same (new (sym (mark_last marks b) ∙ ap (λ i. get_or (marks ++ b ∷ []) i false) (sym at) ∙ marked))
      | inr (inr past) ↦
          let off : get_or (marks ++ b ∷ []) k false ≡ false = mark_past (marks ++ b ∷ []) k (omega (arith, past, length-append marks (b ∷ []))) in
          absurd (true≢false (sym marked ∙ off))
    ]

pub off_more : (first : ℕ) (marks : List Bool) (b : Bool) → AreOffBelow first marks → (length marks < first → b ≡ false) → AreOffBelow first (marks ++ b ∷ [])
off_more first marks b off new = λ k early.
    elim (place_cases k (length marks)) [
      | inl before ↦ mark_before marks b k before ∙ off k early
      | inr (inl at) ↦ ap (λ i. get_or (marks ++ b ∷ []) i false) at ∙ mark_last marks b ∙ new (omega (arith, at, early))
      | inr (inr past) ↦ mark_past (marks ++ b ∷ []) k (omega (arith, past, length-append marks (b ∷ [])))
    ]

-- ---- reasons

pub reasons_more : (old new : List Bool) (steps : List Step) → ((k : ℕ) → get_or old k false ≡ false → get_or new k false ≡ false) → AreReasonsOff old steps → AreReasonsOff new steps
reasons_more old new [] off all = tt
reasons_more old new (s ∷ older) off all = ((λ r is. off r (all.0 r is)), reasons_more old new older off all.1)

pub off_kept : (first : ℕ) (old new : List Bool) → ((k : ℕ) → get_or old k false ≡ false → get_or new k false ≡ false) → AreOffBelow first old → AreOffBelow first new
off_kept first old new off all = λ k early. off k (all k early)

pub satisfied_fewer :
    (steps : List Step) (clauses : List (List Literal)) (old new : List Bool) → ((k : ℕ) → get_or old k false ≡ false → get_or new k false ≡ false) → AreSatisfied steps clauses old →
    AreSatisfied steps clauses new
satisfied_fewer steps clauses old new off all = λ k c found marked. all k c found (true_from_ne_false (get_or old k false) (λ is. true≢false (sym marked ∙ off k is)))
