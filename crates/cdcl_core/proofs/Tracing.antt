-- A conflict from its beginning to what it teaches.
use Rattle.std.proofs.Common.{◌≡◌, ℕ, suc, ◌<◌, ◌≤◌, ◌⊎◌, inl, inr, Bool, true, false, List, [], ◌∷◌, length, Some, None, sym, ap, ◌∙◌, subst, arith}
use Rattle.std.specs.Prelude.{Contains, slice_get, IsSomeAnd}
use Rattle.std.proofs.lemmas.Bool.{cases_lt, true≢false}
use Rattle.std.proofs.lemmas.List.Elements.{Contains-push}
use Rattle.std.proofs.lemmas.Option.{slice_get_within, get_or_from_slice_get}
use Rattle.sat_form.specs.Satisfaction.{Literal, inverse_of}
use Rattle.sat_form.specs.Propagation.{Follows}
use Rattle.sat_form.specs.Budget.{IsConflictBy}
use Rattle.sat_form.proofs.Databases.{Contains-head}
use Rattle.sat_form.proofs.Units.{IsSomeIs, some_and}
use Rattle.cdcl_core.specs.declared.trail.Step.{Step}
use Rattle.cdcl_core.specs.declared.analysis.Analysis.{Analysis}
use Rattle.cdcl_core.specs.Steps.{known_place, known_truth, oldest, AreFresh, decision_places}
use Rattle.cdcl_core.specs.Settled.{AreFalse, IsAtRest, AreSettled}
use Rattle.cdcl_core.specs.Learning.{clauses_at, IsLast, IsLearned}
use Rattle.cdcl_core.specs.Cuts.{IsOn, IsOnAt, MarksClause, StandsFalse, IsCut, IsClauseOf, AreBetween, AreEnds, IsReached}
use Rattle.cdcl_core.proofs.Known.{IsStepAt, known_place-below, StepAt-below, variable_at}
use Rattle.cdcl_core.proofs.Levels.{IsDecisionAt, decision_at, decision_below, first_least, AreBetween-ends, AreBetween-none, settled_before}
use Rattle.cdcl_core.proofs.Truths.{place_from_truth, same_from_truth, truth-inverse_of, truth_before-place, truth-from_before}
use Rattle.cdcl_core.proofs.Marking.{IsReached-none}
use Rattle.cdcl_core.proofs.Cutting.{IsCut-start, IsCut-fewer, step_true}
use Rattle.cdcl_core.proofs.Closing.{open_literal}
use Rattle.cdcl_core.proofs.Lessons.{IsTraced, learned_of, Follows-conflict}

-- the levels' places
record AreLevels (steps : List Step) (count first newest : ℕ) : Type 0 where
  decisions : AreBetween steps first newest
  order : first ≤ newest
  within : newest ≤ count

last_in : (places : List ℕ) (newest : ℕ) → IsLast places newest → Contains places newest
last_in places newest last = subst (λ xs. Contains xs newest) (sym last.1) (Contains-push last.0 newest)

levels_of : (steps : List Step) (places : List ℕ) (count first newest : ℕ) → places ≡ decision_places steps → count ≡ length steps → AreEnds places count first newest → AreLevels steps count first newest
levels_of steps [] count first newest are all ends =
    record { decisions = AreBetween-none steps first newest (sym are); order = omega (arith, ends.0, ends.1); within = omega (arith, ends.1) }
levels_of steps (p ∷ ps) count first newest are all ends =
    let begins : decision_places steps ≡ first ∷ ps = sym are ∙ ap (λ x. x ∷ ps) (sym ends.0) in
    let last : IsLast (decision_places steps) newest = subst (λ xs. IsLast xs newest) are ends.1 in
    let found : Contains (decision_places steps) newest = last_in (decision_places steps) newest last in
    let below : newest < length steps = decision_below steps newest found in
    record {
      decisions = AreBetween-ends steps first newest ps begins last;
      order = first_least steps ps first newest begins found;
      within = omega (arith, below, all);
    }

pub IsReached-begun :
    (steps : List Step) (a : Analysis) (places : List ℕ) (count first newest : ℕ) → places ≡ decision_places steps → count ≡ length steps → AreEnds places count first newest →
    a.first ≡ first → a.newest ≡ newest → a.low ≡ count → a.high ≡ count → a.top ≡ 0 → ((v : ℕ) → IsOn a.marked.items v → ⊥) → IsReached steps a
IsReached-begun steps a places count first newest are all ends is_first is_newest low high top none =
    let l : AreLevels steps count first newest = levels_of steps places count first newest are all ends in
    IsReached-none steps a count (subst (λ x. AreBetween steps a.first x) (sym is_newest) (subst (λ x. AreBetween steps x newest) (sym is_first) l.decisions)) none
    (omega (arith, is_first, is_newest, l.order)) (omega (arith, is_newest, l.within)) all low high top

-- the cut at the clause that is false
pub IsCut-begun :
    (clauses : List (List Literal)) (steps : List Step) (number count high : ℕ) (c : List Literal) (off marked : List Bool) →
    IsSomeAnd (slice_get clauses number) (AreFalse steps) → ((d : List Literal) → slice_get clauses number ≡ Some d → c ≡ d) → count ≡ length steps → high ≡ count →
    ((v : ℕ) → IsOn off v → ⊥) → MarksClause steps c count off marked → IsCut clauses steps high marked (number ∷ [])
IsCut-begun clauses steps number count high c off marked conflict same all is_high none marks =
    let found : IsSomeIs (slice_get clauses number) (AreFalse steps) = some_and (slice_get clauses number) (AreFalse steps) conflict in
    let here : c ≡ found.x = same found.x found.is in
    let marked_by : MarksClause steps found.x (length steps) off marked =
    subst (λ (x : List Literal). MarksClause steps x (length steps) off marked) here (subst (λ k. MarksClause steps c k off marked) all marks) in
    subst (λ k. IsCut clauses steps k marked (number ∷ [])) (sym (is_high ∙ all)) (IsCut-start clauses steps number found.x off marked found.is found.holds none marked_by)

-- where the lowest mark of the newest level is that of a step, the step's variable is marked
pub marked_at_low : (n : ℕ) (steps : List Step) (a : Analysis) (s : Step) → AreFresh n steps → IsReached steps a → IsStepAt a.low steps s → IsOn a.marked.items s.literal.variable
marked_at_low n steps a s fresh r at =
    let v : (u : ℕ) × IsOnAt steps a.marked.items u a.low = r.stands (StepAt-below a.low steps s at) in
    subst (IsOn a.marked.items) (variable_at n a.low steps s v.0 fresh at v.1.1) v.1.0

-- what the marks are at the end
record IsEnd (n : ℕ) (clauses : List (List Literal)) (steps : List Step) (places : List ℕ) (count first newest : ℕ) (a : Analysis) (numbers : List ℕ) : Type 0 where
  fresh : AreFresh n steps
  settled : AreSettled clauses steps
  are : places ≡ decision_places steps
  all : count ≡ length steps
  ends : AreEnds places count first newest
  is_first : a.first ≡ first
  is_newest : a.newest ≡ newest
  reached : IsReached steps a
  single : a.high ≤ suc a.low
  none : a.top ≤ a.bottom
  cut : IsCut clauses steps a.top a.marked.items numbers

lies_at_end :
    (n : ℕ) (clauses : List (List Literal)) (steps : List Step) (places : List ℕ) (count first newest : ℕ) (a : Analysis) (numbers : List ℕ) → IsEnd n clauses steps places count first newest a numbers →
    (v place : ℕ) → IsOnAt steps a.marked.items v place → (place ≡ a.low) ⊎ ((first ≤ place) × (place < newest))
lies_at_end n clauses steps places count first newest a numbers e v place on =
    elim (cases_lt place a.first) [
      | inl early ↦
          let d : (a.bottom ≤ place) × (place < a.top) = e.reached.early v place on early in
          absurd (omega (arith, d.0, d.1, e.none))
      | inr later ↦ elim (cases_lt place a.newest) [
        | inl before ↦ inr (omega (arith, later, e.is_first), omega (arith, before, e.is_newest))
        | inr late ↦
            let d : (a.low ≤ place) × (place < a.high) = e.reached.late v place on late in
            inl (omega (arith, d.0, d.1, e.single))
      ]
    ]

learned_with :
    (n : ℕ) (clauses : List (List Literal)) (steps : List Step) (places : List ℕ) (count first newest : ℕ) (a : Analysis) (numbers : List ℕ) (s : Step) (clause : List Literal) →
    IsEnd n clauses steps places count first newest a numbers → IsStepAt a.low steps s → length a.marked.items ≡ n → IsClauseOf steps a.marked.items s.literal.variable clause →
    IsLearned n clauses steps clause (inverse_of s.literal) numbers
learned_with n clauses steps [] count first newest a numbers s clause e at size is_clause =
    let below : a.low < length steps = StepAt-below a.low steps s at in
    absurd (omega (arith, below, e.all, e.ends.1, e.is_newest, e.reached.newest))
learned_with n clauses steps (p ∷ ps) count first newest a numbers s clause e at size is_clause =
    let begins : decision_places steps ≡ first ∷ ps = sym e.are ∙ ap (λ x. x ∷ ps) (sym e.ends.0) in
    let last : IsLast (decision_places steps) newest = subst (λ xs. IsLast xs newest) e.are e.ends.1 in
    let l : AreLevels steps count first newest = levels_of steps (p ∷ ps) count first newest e.are e.all e.ends in
    let t : IsTraced n clauses steps a.marked.items numbers first newest a.low s clause = record {
      fresh = e.fresh;
      settled = e.settled;
      begins = decision_at steps first (subst (λ xs. Contains xs first) (sym begins) (Contains-head first ps));
      starts = decision_at steps newest (last_in (decision_places steps) newest last);
      order = (l.order, omega (arith, e.reached.newest, e.is_newest));
      at = at;
      cut = IsCut-fewer clauses steps a.top 0 a.marked.items numbers (omega arith) e.cut;
      lies = lies_at_end n clauses steps (p ∷ ps) count first newest a numbers e;
      size = size;
      is_clause = is_clause;
    } in
    let learned : IsLearned n clauses steps clause is_clause.asserted numbers =
    learned_of n clauses steps a.marked.items numbers first newest a.low s clause t last in
    let same : is_clause.asserted ≡ inverse_of s.literal =
    same_from_truth steps is_clause.asserted (inverse_of s.literal) false is_clause.same (learned.false_ is_clause.asserted learned.stands)
    (truth-inverse_of steps s.literal true (step_true n a.low steps s e.fresh at)) in
    subst (λ (x : Literal). IsLearned n clauses steps clause x numbers) same learned

pub IsLearned-at_end :
    (n : ℕ) (clauses : List (List Literal)) (steps : List Step) (places : List ℕ) (count first newest : ℕ) (a : Analysis) (numbers : List ℕ) (s : Step) (clause : List Literal) →
    AreFresh n steps → AreSettled clauses steps → places ≡ decision_places steps → count ≡ length steps → AreEnds places count first newest → a.first ≡ first → a.newest ≡ newest →
    IsReached steps a → a.high ≤ suc a.low → a.top ≤ a.bottom → IsCut clauses steps a.top a.marked.items numbers →
    IsStepAt a.low steps s → length a.marked.items ≡ n → IsClauseOf steps a.marked.items s.literal.variable clause →
    IsLearned n clauses steps clause (inverse_of s.literal) numbers
IsLearned-at_end n clauses steps places count first newest a numbers s clause fresh settled are all ends is_first is_newest reached single none cut at size is_clause =
    learned_with n clauses steps places count first newest a numbers s clause
    (record { fresh = fresh; settled = settled; are = are; all = all; ends = ends; is_first = is_first; is_newest = is_newest; reached = reached; single = single; none = none; cut = cut }) at size is_clause

-- a false clause has a literal of the newest level, which is marked
low_marked :
    (n : ℕ) (clauses : List (List Literal)) (steps : List Step) (newest : ℕ) (a : Analysis) (c : List Literal) (off : List Bool) →
    AreFresh n steps → AreSettled clauses steps → Contains (decision_places steps) newest → a.newest ≡ newest → IsReached steps a →
    Contains clauses c → AreFalse steps c → MarksClause steps c (length steps) off a.marked.items → a.low < length steps
low_marked n clauses steps newest a c off fresh settled found is_newest r in_ all_false marks =
    let d : IsDecisionAt steps newest = decision_at steps newest found in
    let rest : IsAtRest (oldest newest steps) c = settled_before clauses steps newest d.step settled d.at d.decides c in_ in
    let l : (x : Literal) × Contains c x × (known_truth (oldest newest steps) x ≡ None) = open_literal (oldest newest steps) c rest (λ m at is_true.
    let told : Some true ≡ Some false = sym (truth-from_before n newest steps m true fresh is_true) ∙ all_false m at in
    true≢false (cc)) in
    let p : (place : ℕ) × (known_place steps l.0.variable ≡ Some place) = place_from_truth steps l.0 false (all_false l.0 l.1) in
    elim (cases_lt p.0 newest) [
      | inl before ↦
          absurd (
          let told : Some false ≡ None = sym (truth_before-place n newest steps l.0 p.0 fresh p.1 before ∙ all_false l.0 l.1) ∙ l.2 in
          cc
          )
      | inr late ↦
          let below : p.0 < length steps = known_place-below steps l.0.variable p.0 p.1 in
          let on : IsOnAt steps a.marked.items l.0.variable p.0 = (marks.added l.0 p.0 l.1 p.1 below, p.1) in
          let lies : (a.low ≤ p.0) × (p.0 < a.high) = r.late l.0.variable p.0 on (omega (arith, late, is_newest)) in
          omega (arith, lies.0, below)
    ]

no_marks :
    (n : ℕ) (clauses : List (List Literal)) (steps : List Step) (count first newest : ℕ) (a : Analysis) (numbers : List ℕ) → IsEnd n clauses steps [] count first newest a numbers →
    (v : ℕ) → IsOn a.marked.items v → ⊥
no_marks n clauses steps count first newest a numbers e = λ v on.
    let s : StandsFalse steps (clauses_at clauses numbers) v = e.cut.stands v on in
    let p : (place : ℕ) × (known_place steps s.literal.variable ≡ Some place) = place_from_truth steps s.literal false s.is_false in
    let found : known_place steps v ≡ Some p.0 = ap (known_place steps) (sym s.same) ∙ p.1 in
    let below : p.0 < length steps = known_place-below steps v p.0 found in
    elim (lies_at_end n clauses steps [] count first newest a numbers e v p.0 (on, found)) [
      | inl low ↦ omega (arith, low, below, e.reached.newest, e.is_newest, e.ends.1, e.all)
      | inr between ↦ omega (arith, between.0, below, e.ends.0, e.all)
    ]

-- no step is a decision, and the clauses of these numbers come to a conflict
abbrev pub IsRefuted : List (List Literal) → List Step → List ℕ → Type 0
IsRefuted clauses steps numbers = (decision_places steps ≡ []) × Follows clauses [] × ((given : List Literal) × IsConflictBy [] (clauses_at clauses numbers) given)

refuted_with :
    (n : ℕ) (clauses : List (List Literal)) (steps : List Step) (places : List ℕ) (count first newest : ℕ) (a : Analysis) (numbers : List ℕ) →
    IsEnd n clauses steps places count first newest a numbers → length steps ≤ a.low → (Contains (decision_places steps) newest → a.low < length steps) → IsRefuted clauses steps numbers
refuted_with n clauses steps [] count first newest a numbers e past low =
    let none : (v : ℕ) → IsOn a.marked.items v → ⊥ = no_marks n clauses steps count first newest a numbers e in
    let conflict : IsConflictBy [] (clauses_at clauses numbers) e.cut.given =
    e.cut.conflict [] (λ l on is_true. absurd (none l.variable on)) (λ h g in_held in_given. absurd (omega (arith, in_held.1))) in
    (sym e.are, Follows-conflict clauses numbers e.cut.given conflict, (e.cut.given, conflict))
refuted_with n clauses steps (p ∷ ps) count first newest a numbers e past low =
    let last : IsLast (decision_places steps) newest = subst (λ xs. IsLast xs newest) e.are e.ends.1 in
    let below : a.low < length steps = low (last_in (decision_places steps) newest last) in
    absurd (omega (arith, past, below))

pub IsRefuted-at_end :
    (n : ℕ) (clauses : List (List Literal)) (steps : List Step) (places : List ℕ) (count first newest : ℕ) (a b : Analysis) (numbers : List ℕ) (number : ℕ) (c : List Literal) (off : List Bool) →
    AreFresh n steps → AreSettled clauses steps → places ≡ decision_places steps → count ≡ length steps → AreEnds places count first newest → a.first ≡ first → a.newest ≡ newest →
    IsReached steps a → a.high ≤ suc a.low → a.top ≤ a.bottom → IsCut clauses steps a.top a.marked.items numbers →
    IsSomeAnd (slice_get clauses number) (AreFalse steps) → ((d : List Literal) → slice_get clauses number ≡ Some d → c ≡ d) →
    MarksClause steps c count off b.marked.items → IsReached steps b → b.newest ≡ newest → a.low ≤ b.low → length steps ≤ a.low →
    IsRefuted clauses steps numbers
IsRefuted-at_end n clauses steps places count first newest a b numbers number c off fresh settled are all ends is_first is_newest reached single none cut conflict same marks b_reached b_newest lower past =
    let found : IsSomeIs (slice_get clauses number) (AreFalse steps) = some_and (slice_get clauses number) (AreFalse steps) conflict in
    let here : c ≡ found.x = same found.x found.is in
    let in_ : Contains clauses found.x = (number, slice_get_within clauses number found.x found.is, get_or_from_slice_get clauses number found.x found.x found.is) in
    let marked_by : MarksClause steps found.x (length steps) off b.marked.items =
    subst (λ (x : List Literal). MarksClause steps x (length steps) off b.marked.items) here (subst (λ k. MarksClause steps c k off b.marked.items) all marks) in
    refuted_with n clauses steps places count first newest a numbers
    (record { fresh = fresh; settled = settled; are = are; all = all; ends = ends; is_first = is_first; is_newest = is_newest; reached = reached; single = single; none = none; cut = cut }) past
    (λ in_places.
    let below : b.low < length steps = low_marked n clauses steps newest b found.x off fresh settled in_places b_newest b_reached in_ found.holds marked_by in
    omega (arith, below, lower))
