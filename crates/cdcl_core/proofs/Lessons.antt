-- What a conflict that is traced back teaches: a clause that is a unit of the budget.
use Rattle.std.proofs.Common.{◌≡◌, ◌≢◌, ℕ, suc, eqb, ◌<◌, ◌≤◌, ◌⊎◌, inl, inr, Bool, true, false, List, [], ◌∷◌, length, map, Option, Some, None, refl, sym, ap, ◌∙◌, subst, arith, append-nil}
use Rattle.std.specs.Prelude.{Contains, slice_get, if◌then◌else◌}
use Rattle.std.specs.List.{filter_map, IsDistinct}
use Rattle.sat_form.specs.Satisfaction.{Literal, inverse_of}
use Rattle.sat_form.specs.Propagation.{PropagatesTo, Follows}
use Rattle.sat_form.specs.Databases.{deleted_numbers, numbered_clauses, clauses_without, is_among, database, live_clause}
use Rattle.sat_form.specs.Budget.{HasDistinctVariables, IsConflictBy, AreUsed, StandsIn, named_clauses, IsNews, IsUnit}
use Rattle.sat_form.specs.declared.logs.Entry.{Entry}
use Rattle.sat_form.proofs.Truth.{inverse_of-inverse_of}
use Rattle.sat_form.proofs.Databases.{Contains-head, Contains-tail, Contains-cons_cases}
use Rattle.sat_form.proofs.Chains.{Follows-named}
use Rattle.cdcl_core.specs.declared.trail.Step.{Step}
use Rattle.cdcl_core.specs.Steps.{known_place, known_truth, oldest, AreFresh, decision_places}
use Rattle.cdcl_core.specs.Settled.{AreFalse, IsSettled, AreSettled}
use Rattle.cdcl_core.specs.Learning.{clauses_at, IsLast, IsLearned}
use Rattle.cdcl_core.specs.Cuts.{IsOn, IsOnAt, Covers, AreApart, IsResolved, StandsFalse, IsCut, IsClauseOf}
use Rattle.cdcl_core.proofs.Known.{IsStepAt, variable_at, place_of-step}
use Rattle.cdcl_core.proofs.Levels.{IsDecisionAt, settled_before}
use Rattle.cdcl_core.proofs.Truths.{truth-inverse_of, place_from_truth, same_from_truth, truth_before-place, no_truth_before-place}
use Rattle.cdcl_core.proofs.Marking.{IsOn-within}
use Rattle.cdcl_core.proofs.Closing.{not_propagated, not_propagated-with, no_conflict-with}
use Rattle.cdcl_core.proofs.Distinct.{HasDistinctVariables-from, length-distinct, IsWithin-each, not_among_others, variables_of}

-- the database and the named clauses of a log without deletions
clauses_without-none : (n : ℕ) (cs : List (List Literal)) → clauses_without [] n cs ≡ cs
clauses_without-none n [] = refl
clauses_without-none n (c ∷ cs) = ap (λ (rest : List (List Literal)). c ∷ rest) (clauses_without-none (suc n) cs)

database-is : (form : List (List Literal)) (log : List Entry) (clauses : List (List Literal)) → numbered_clauses form log ≡ clauses → deleted_numbers log ≡ [] → database form log ≡ clauses
database-is form log clauses is none =
    ap (λ ns. clauses_without ns 0 (numbered_clauses form log)) none ∙ clauses_without-none 0 (numbered_clauses form log) ∙ is

live_clause-is : (form : List (List Literal)) (log : List Entry) (clauses : List (List Literal)) → numbered_clauses form log ≡ clauses → deleted_numbers log ≡ [] → (n : ℕ) → live_clause form log n ≡ slice_get clauses n
live_clause-is form log clauses is none n =
    ap (λ ns. if is_among ns n then None else slice_get (numbered_clauses form log) n) none ∙ ap (λ (cs : List (List Literal)). slice_get cs n) is

named-is : (form : List (List Literal)) (log : List Entry) (clauses : List (List Literal)) (numbers : List ℕ) → numbered_clauses form log ≡ clauses → deleted_numbers log ≡ [] → named_clauses form log numbers ≡ clauses_at clauses numbers
named-is form log clauses numbers is none =
    ap (λ (f : ℕ → Option (List Literal)). filter_map f numbers) (λ k n. live_clause-is form log clauses is none n k)

-- a unit behind a log with this database whose hints name these clauses
record IsUnitOf (clauses named : List (List Literal)) (clause : List Literal) : Type 0 where
  given : List Literal
  conflict : IsConflictBy (map inverse_of clause) named given
  stands : (l : Literal) → Contains clause l → StandsIn named l
  used : AreUsed named given
  news : IsNews clauses clause
  not_true : (l : Literal) → Contains clause l → PropagatesTo clauses l → ⊥
  not_false : (l : Literal) → Contains clause l → PropagatesTo clauses (inverse_of l) → ⊥

unit_behind :
    (form : List (List Literal)) (log : List Entry) (clauses : List (List Literal)) (numbers : List ℕ) (clause : List Literal) → clause ≢ [] → HasDistinctVariables clause →
    numbered_clauses form log ≡ clauses → deleted_numbers log ≡ [] → IsUnitOf clauses (clauses_at clauses numbers) clause → IsUnit form log clause numbers
unit_behind form log clauses numbers clause some distinct is none u =
    let moved : IsUnitOf (database form log) (named_clauses form log numbers) clause =
    subst (λ (db : List (List Literal)). IsUnitOf db (named_clauses form log numbers) clause) (sym (database-is form log clauses is none))
    (subst (λ (named : List (List Literal)). IsUnitOf clauses named clause) (sym (named-is form log clauses numbers is none)) u) in
    record {
      some = some;
      distinct = distinct;
      given = moved.given;
      conflict = moved.conflict;
      stands = moved.stands;
      used = moved.used;
      news = moved.news;
      not_true = moved.not_true;
      not_false = moved.not_false;
    }

-- a clause whose named clauses come to a conflict follows, behind any log
pub Follows-conflict : (clauses : List (List Literal)) (numbers : List ℕ) (given : List Literal) → IsConflictBy [] (clauses_at clauses numbers) given → Follows clauses []
Follows-conflict clauses numbers given conflict =
    let same : numbered_clauses clauses [] ≡ clauses = append-nil clauses in
    subst (λ (db : List (List Literal)). Follows db []) (database-is clauses [] clauses same refl)
    (Follows-named clauses [] [] numbers given (subst (λ (named : List (List Literal)). IsConflictBy [] named given) (sym (named-is clauses [] clauses numbers same refl)) conflict))

-- a conflict that is traced back: the marked steps are that at `low`, in the newest level, and steps between the levels
pub record IsTraced (n : ℕ) (clauses : List (List Literal)) (steps : List Step) (marked : List Bool) (numbers : List ℕ) (first newest low : ℕ) (s : Step) (clause : List Literal) : Type 0 where
  pub fresh : AreFresh n steps
  pub settled : AreSettled clauses steps
  pub begins : IsDecisionAt steps first
  pub starts : IsDecisionAt steps newest
  pub order : (first ≤ newest) × (newest ≤ low)
  pub at : IsStepAt low steps s
  pub cut : IsCut clauses steps 0 marked numbers
  pub lies : (v place : ℕ) → IsOnAt steps marked v place → (place ≡ low) ⊎ ((first ≤ place) × (place < newest))
  pub size : length marked ≡ n
  pub is_clause : IsClauseOf steps marked s.literal.variable clause

inverse_in : (clause : List Literal) (l : Literal) → Contains clause l → Contains (map inverse_of clause) (inverse_of l)
inverse_in [] l at = absurd (omega (arith, at.1))
inverse_in (m ∷ ms) l at =
    elim (Contains-cons_cases m l ms at) [
      | inl here ↦ subst (λ (x : Literal). Contains (map inverse_of (m ∷ ms)) (inverse_of x)) here (Contains-head (inverse_of m) (map inverse_of ms))
      | inr there ↦ Contains-tail (inverse_of m) (inverse_of l) (map inverse_of ms) (inverse_in ms l there)
    ]

-- the literal of which one is the inverse
inverse_from : (clause : List Literal) (h : Literal) → Contains (map inverse_of clause) h → (l : Literal) × Contains clause l × (inverse_of l ≡ h)
inverse_from [] h at = absurd (omega (arith, at.1))
inverse_from (m ∷ ms) h at =
    elim (Contains-cons_cases (inverse_of m) h (map inverse_of ms) at) [
      | inl here ↦ (m, Contains-head m ms, here)
      | inr there ↦
          let l : (x : Literal) × Contains ms x × (inverse_of x ≡ h) = inverse_from ms h there in
          (l.0, Contains-tail m l.0 ms l.1, l.2)
    ]

module _ (n : ℕ) (clauses : List (List Literal)) (steps : List Step) (marked : List Bool) (numbers : List ℕ) (first newest low : ℕ) (s : Step) (clause : List Literal) (t : IsTraced n clauses steps marked numbers first newest low s clause) where
  place_in : (l : Literal) → Contains clause l → (place : ℕ) × (known_place steps l.variable ≡ Some place)
  place_in l at = place_from_truth steps l false (t.is_clause.taken l at).1

  late_enough : (l : Literal) → Contains clause l → (place : ℕ) × (known_place steps l.variable ≡ Some place) × (first ≤ place)
  late_enough l at =
      let p : (place : ℕ) × (known_place steps l.variable ≡ Some place) = place_in l at in
      elim (t.lies l.variable p.0 ((t.is_clause.taken l at).0, p.1)) [
        | inl last ↦ (p.0, p.1, omega (arith, last, t.order.0, t.order.1))
        | inr between ↦ (p.0, p.1, between.0)
      ]

  settled_first : IsSettled clauses (oldest first steps)
  settled_first = settled_before clauses steps first t.begins.step t.settled t.begins.at t.begins.decides

  settled_newest : IsSettled clauses (oldest newest steps)
  settled_newest = settled_before clauses steps newest t.starts.step t.settled t.starts.at t.starts.decides

  asserted_in : Contains clause t.is_clause.asserted
  asserted_in = subst (λ (c : List Literal). Contains c t.is_clause.asserted) (sym t.is_clause.split) (Contains-head t.is_clause.asserted t.is_clause.others)

  asserted_at : known_place steps t.is_clause.asserted.variable ≡ Some low
  asserted_at = ap (known_place steps) t.is_clause.same ∙ place_of-step n low steps s t.fresh t.at

  -- a literal other than the asserted one is false before the newest decision
  other_before : (m : Literal) → Contains clause m → m ≢ t.is_clause.asserted → known_truth (oldest newest steps) m ≡ Some false
  other_before m at other =
      let is_false : known_truth steps m ≡ Some false = (t.is_clause.taken m at).1 in
      let p : (place : ℕ) × (known_place steps m.variable ≡ Some place) = place_in m at in
      elim (t.lies m.variable p.0 ((t.is_clause.taken m at).0, p.1)) [
        | inl last ↦
            let variable : m.variable ≡ s.literal.variable = variable_at n low steps s m.variable t.fresh t.at (p.1 ∙ ap Some last) in
            absurd (other (same_from_truth steps m t.is_clause.asserted false (variable ∙ sym t.is_clause.same) is_false (t.is_clause.taken t.is_clause.asserted asserted_in).1))
        | inr between ↦ truth_before-place n newest steps m p.0 t.fresh p.1 between.1 ∙ is_false
      ]

  asserted_open : known_truth (oldest newest steps) t.is_clause.asserted ≡ None
  asserted_open = no_truth_before-place n newest steps t.is_clause.asserted low t.fresh asserted_at t.order.1

  others_before : AreFalse (oldest newest steps) t.is_clause.others
  others_before = λ m at.
      let within : Contains clause m = subst (λ (c : List Literal). Contains c m) (sym t.is_clause.split) (Contains-tail t.is_clause.asserted m t.is_clause.others at) in
      other_before m within
      (not_among_others t.is_clause.asserted t.is_clause.others m (subst (λ (c : List Literal). IsDistinct eqb (variables_of c)) t.is_clause.split t.is_clause.distinct) at)

  covers_clause : Covers steps marked (map inverse_of clause)
  covers_clause = λ l on is_true.
      subst (λ (x : Literal). Contains (map inverse_of clause) x) (inverse_of-inverse_of l)
      (inverse_in clause (inverse_of l) (t.is_clause.found (inverse_of l) on (truth-inverse_of steps l true is_true)))

  apart_clause : AreApart (map inverse_of clause) t.cut.given
  apart_clause = λ h g in_held in_given same.
      let l : (x : Literal) × Contains clause x × (inverse_of x ≡ h) = inverse_from clause h in_held in
      let r : IsResolved steps 0 marked g.variable = t.cut.resolved g in_given in
      let variable : l.0.variable ≡ g.variable = ap (λ (x : Literal). x.variable) l.2 ∙ same in
      r.off (subst (IsOn marked) variable (t.is_clause.taken l.0 l.1).0)

  stands_clause : (l : Literal) → Contains clause l → StandsIn (clauses_at clauses numbers) l
  stands_clause l at =
      let f : StandsFalse steps (clauses_at clauses numbers) l.variable = t.cut.stands l.variable (t.is_clause.taken l at).0 in
      subst (StandsIn (clauses_at clauses numbers)) (same_from_truth steps f.literal l false f.same f.is_false (t.is_clause.taken l at).1) f.stands

  open_first : (l : Literal) (m : Literal) → Contains clause l → m.variable ≡ l.variable → known_truth (oldest first steps) m ≡ None
  open_first l m at same =
      let p : (place : ℕ) × (known_place steps l.variable ≡ Some place) × (first ≤ place) = late_enough l at in
      no_truth_before-place n first steps m p.0 t.fresh (ap (known_place steps) same ∙ p.1) p.2

  unit_of : IsUnitOf clauses (clauses_at clauses numbers) clause
  unit_of =
      record {
        given = t.cut.given;
        conflict = t.cut.conflict (map inverse_of clause) covers_clause apart_clause;
        stands = stands_clause;
        used = t.cut.used;
        news = (
          [],
          t.is_clause.asserted,
          t.is_clause.others,
          t.is_clause.split,
          not_propagated-with clauses (oldest newest steps) t.is_clause.others t.is_clause.asserted settled_newest others_before asserted_open,
          no_conflict-with clauses (oldest newest steps) t.is_clause.others settled_newest others_before,
        );
        not_true = λ l at. not_propagated clauses (oldest first steps) l settled_first (open_first l l at refl);
        not_false = λ l at. not_propagated clauses (oldest first steps) (inverse_of l) settled_first (open_first l (inverse_of l) at refl);
      }

  some_literal : clause ≢ []
  some_literal none = let e : t.is_clause.asserted ∷ t.is_clause.others ≡ [] = sym t.is_clause.split ∙ none in cc

  within_each : (l : Literal) → Contains clause l → l.variable < n
  within_each l at = subst (λ k. l.variable < k) t.size (IsOn-within marked l.variable (t.is_clause.taken l at).0)

  pub learned_of : IsLast (decision_places steps) newest → IsLearned n clauses steps clause t.is_clause.asserted numbers
  learned_of last =
      record {
        within = IsWithin-each n clause within_each;
        short = length-distinct n clause t.is_clause.distinct within_each;
        unit = λ form log is none. unit_behind form log clauses numbers clause some_literal (HasDistinctVariables-from clause t.is_clause.distinct) is none unit_of;
        newest = newest;
        last = last;
        stands = asserted_in;
        open_ = asserted_open;
        others = other_before;
        false_ = λ m at. (t.is_clause.taken m at).1;
      }
