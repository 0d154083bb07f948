-- A cut through what led to a conflict, from the clause that is false to older and older steps.
use Rattle.std.proofs.Common.{◌≡◌, ◌≢◌, ℕ, suc, ◌<◌, ◌≤◌, inl, inr, Bool, true, false, not, List, [], ◌∷◌, length, set, Some, refl, sym, ap, ◌∙◌, subst, arith}
use Rattle.std.specs.Prelude.{Contains, slice_get}
use Rattle.std.specs.List.{cons_option}
use Rattle.std.proofs.lemmas.Bool.{cases_eq}
use Rattle.sat_form.specs.Satisfaction.{Literal, inverse_of}
use Rattle.sat_form.specs.Budget.{Leaves, IsConflictBy, AreUsed, StandsIn}
use Rattle.sat_form.proofs.Databases.{Contains-head, Contains-tail, Contains-cons_cases}
use Rattle.cdcl_core.specs.declared.trail.Step.{Step}
use Rattle.cdcl_core.specs.Steps.{known_place, known_truth, oldest, AreFresh}
use Rattle.cdcl_core.specs.Settled.{AreFalse, IsReason}
use Rattle.cdcl_core.specs.Learning.{clauses_at}
use Rattle.cdcl_core.specs.Cuts.{IsOn, IsOnAt, MarksClause, Covers, AreApart, IsResolved, StandsFalse, IsCut}
use Rattle.cdcl_core.proofs.Known.{IsStepAt, IsKnownBefore, variable_at, place_of-step, value_of-step, known_place-below}
use Rattle.cdcl_core.proofs.Truths.{truth-inverse_of, truth-own, place_from_truth, same_from_truth, truth-from_before, place_before-truth}
use Rattle.cdcl_core.proofs.Marking.{IsOn-left, IsOn-other, IsOn-cleared}

clauses_at-cons : (clauses : List (List Literal)) (number : ℕ) (numbers : List ℕ) (c : List Literal) → slice_get clauses number ≡ Some c → clauses_at clauses (number ∷ numbers) ≡ c ∷ clauses_at clauses numbers
clauses_at-cons clauses number numbers c found = ap (λ o. cons_option o (clauses_at clauses numbers)) found

-- a cut whose clauses are these
record IsCutBy (steps : List Step) (count : ℕ) (marked : List Bool) (named : List (List Literal)) : Type 0 where
  given : List Literal
  conflict : (held : List Literal) → Covers steps marked held → AreApart held given → IsConflictBy held named given
  used : AreUsed named given
  resolved : (g : Literal) → Contains given g → IsResolved steps count marked g.variable
  stands : (v : ℕ) → IsOn marked v → StandsFalse steps named v

cut_by : (clauses : List (List Literal)) (steps : List Step) (count : ℕ) (marked : List Bool) (numbers : List ℕ) → IsCut clauses steps count marked numbers → IsCutBy steps count marked (clauses_at clauses numbers)
cut_by clauses steps count marked numbers x = record { given = x.given; conflict = x.conflict; used = x.used; resolved = x.resolved; stands = x.stands }

by_cut : (clauses : List (List Literal)) (steps : List Step) (count : ℕ) (marked : List Bool) (numbers : List ℕ) → IsCutBy steps count marked (clauses_at clauses numbers) → IsCut clauses steps count marked numbers
by_cut clauses steps count marked numbers x = record { given = x.given; conflict = x.conflict; used = x.used; resolved = x.resolved; stands = x.stands }

-- fewer of the steps count
pub IsCut-fewer : (clauses : List (List Literal)) (steps : List Step) (count fewer : ℕ) (marked : List Bool) (numbers : List ℕ) → fewer ≤ count → IsCut clauses steps count marked numbers → IsCut clauses steps fewer marked numbers
IsCut-fewer clauses steps count fewer marked numbers less x =
    record {
      given = x.given;
      conflict = x.conflict;
      used = x.used;
      resolved = λ g at. let r : IsResolved steps count marked g.variable = x.resolved g at in
          record { place = r.place; found = r.found; later = omega (arith, r.later, less); off = r.off };
      stands = x.stands;
    }

-- the cut at the clause that is false
start_by :
    (steps : List Step) (c : List Literal) (off marked : List Bool) → AreFalse steps c → ((v : ℕ) → IsOn off v → ⊥) → MarksClause steps c (length steps) off marked →
    IsCutBy steps (length steps) marked (c ∷ [])
start_by steps c off marked all_false none marks =
    record {
      given = [];
      conflict = λ held covers apart. (
        refl,
        λ m at.
            let is_false : known_truth steps m ≡ Some false = all_false m at in
            let place : (p : ℕ) × (known_place steps m.variable ≡ Some p) = place_from_truth steps m false is_false in
            covers (inverse_of m) (marks.added m place.0 at place.1 (known_place-below steps m.variable place.0 place.1)) (truth-inverse_of steps m false is_false),
      );
      used = tt;
      resolved = λ g at. absurd (omega (arith, at.1));
      stands = λ v on. elim (marks.only v on) [
        | inl was ↦ absurd (none v was)
        | inr from ↦ record { literal = from.literal; same = from.same; is_false = all_false from.literal from.stands; stands = (c, Contains-head c [], from.stands) }
      ];
    }

pub IsCut-start :
    (clauses : List (List Literal)) (steps : List Step) (number : ℕ) (c : List Literal) (off marked : List Bool) →
    slice_get clauses number ≡ Some c → AreFalse steps c → ((v : ℕ) → IsOn off v → ⊥) → MarksClause steps c (length steps) off marked →
    IsCut clauses steps (length steps) marked (number ∷ [])
IsCut-start clauses steps number c off marked found all_false none marks =
    by_cut clauses steps (length steps) marked (number ∷ [])
    (subst (λ (named : List (List Literal)). IsCutBy steps (length steps) marked named) (sym (clauses_at-cons clauses number [] c found)) (start_by steps c off marked all_false none marks))

StandsFalse-more : (steps : List Step) (r : List Literal) (named : List (List Literal)) (v : ℕ) → StandsFalse steps named v → StandsFalse steps (r ∷ named) v
StandsFalse-more steps r named v s =
    record { literal = s.literal; same = s.same; is_false = s.is_false; stands = (s.stands.0, Contains-tail r s.stands.0 named s.stands.1, s.stands.2) }

-- what is known where a step is replaced by the other literals of its reason
record IsReplaced (n place : ℕ) (steps : List Step) (s : Step) (r : List Literal) (old new : List Bool) : Type 0 where
  fresh : AreFresh n steps
  at : IsStepAt place steps s
  on : IsOn old s.literal.variable
  stands : Contains r s.literal
  others : (m : Literal) → Contains r m → m ≢ s.literal → known_truth (oldest place steps) m ≡ Some false
  marks : MarksClause steps r place (set old s.literal.variable false) new

pub step_true : (n place : ℕ) (steps : List Step) (s : Step) → AreFresh n steps → IsStepAt place steps s → known_truth steps s.literal ≡ Some true
step_true n place steps s fresh at =
    let known : IsKnownBefore (suc place) steps s.literal.variable (not s.literal.negated) = value_of-step n place steps s fresh at in
    truth-own steps s.literal known.value

-- the variable of the step isn't marked any more
step_off : (n place : ℕ) (steps : List Step) (s : Step) (r : List Literal) (old new : List Bool) → IsReplaced n place steps s r old new → IsOn new s.literal.variable → ⊥
step_off n place steps s r old new x on =
    elim (x.marks.only s.literal.variable on) [
      | inl was ↦ IsOn-cleared old s.literal.variable was
      | inr from ↦
          let same : Some from.place ≡ Some place = sym from.found ∙ place_of-step n place steps s x.fresh x.at in
          let at : from.place ≡ place = cc in
          omega (arith, at, from.before)
    ]

-- a literal of the reason, other than the step's, is false
other_false : (n place : ℕ) (steps : List Step) (s : Step) (r : List Literal) (old new : List Bool) → IsReplaced n place steps s r old new → (m : Literal) → Contains r m → m ≢ s.literal → known_truth steps m ≡ Some false
other_false n place steps s r old new x m at other = truth-from_before n place steps m false x.fresh (x.others m at other)

covers_step :
    (n place : ℕ) (steps : List Step) (s : Step) (r : List Literal) (old new : List Bool) (held : List Literal) →
    IsReplaced n place steps s r old new → Covers steps new held → Covers steps old (s.literal ∷ held)
covers_step n place steps s r old new held x covers = λ l on is_true.
    elim (cases_eq l.variable s.literal.variable) [
      | inl same ↦
          let here : s.literal ≡ l = sym (same_from_truth steps l s.literal true same is_true (step_true n place steps s x.fresh x.at)) in
          subst (λ (y : Literal). Contains (s.literal ∷ held) y) here (Contains-head s.literal held)
      | inr other ↦
          let still : IsOn new l.variable = x.marks.kept l.variable (IsOn-other old s.literal.variable l.variable false other on) in
          Contains-tail s.literal l held (covers l still is_true)
    ]

apart_step :
    (n place : ℕ) (steps : List Step) (s : Step) (r : List Literal) (old new : List Bool) (held given : List Literal) →
    IsReplaced n place steps s r old new → ((g : Literal) → Contains given g → IsResolved steps (suc place) old g.variable) → AreApart held (s.literal ∷ given) → AreApart (s.literal ∷ held) given
apart_step n place steps s r old new held given x resolved apart = λ h g in_held in_given same.
    elim (Contains-cons_cases s.literal h held in_held) [
      | inl here ↦
          let g_at : IsResolved steps (suc place) old g.variable = resolved g in_given in
          let variable : g.variable ≡ s.literal.variable = sym same ∙ ap (λ (y : Literal). y.variable) (sym here) in
          let places : Some g_at.place ≡ Some place = sym g_at.found ∙ ap (known_place steps) variable ∙ place_of-step n place steps s x.fresh x.at in
          let one : g_at.place ≡ place = cc in
          omega (arith, one, g_at.later)
      | inr there ↦ apart h g there (Contains-tail s.literal g given in_given) same
    ]

leaves_step :
    (n place : ℕ) (steps : List Step) (s : Step) (r : List Literal) (old new : List Bool) (held given : List Literal) →
    IsReplaced n place steps s r old new → Covers steps new held → AreApart held (s.literal ∷ given) → Leaves held r s.literal
leaves_step n place steps s r old new held given x covers apart =
    record {
      stands = x.stands;
      not_true = λ at. apart s.literal s.literal at (Contains-head s.literal given) refl;
      not_false = λ at. apart (inverse_of s.literal) s.literal at (Contains-head s.literal given) refl;
      others = λ m at other.
          let where_ : (p : ℕ) × (known_place steps m.variable ≡ Some p) × (p < place) = place_before-truth n place steps m false x.fresh (x.others m at other) in
          covers (inverse_of m) (x.marks.added m where_.0 at where_.1 where_.2) (truth-inverse_of steps m false (other_false n place steps s r old new x m at other));
    }

stands_step :
    (n place : ℕ) (steps : List Step) (s : Step) (r : List Literal) (old new : List Bool) (named : List (List Literal)) →
    IsReplaced n place steps s r old new → ((v : ℕ) → IsOn old v → StandsFalse steps named v) → (v : ℕ) → IsOn new v → StandsFalse steps (r ∷ named) v
stands_step n place steps s r old new named x stands = λ v on.
    elim (x.marks.only v on) [
      | inl was ↦ StandsFalse-more steps r named v (stands v (IsOn-left old s.literal.variable v was).0)
      | inr from ↦
          let differs : from.literal ≢ s.literal = λ same.
          let places : Some from.place ≡ Some place =
          sym from.found ∙ ap (known_place steps) (sym from.same ∙ ap (λ (y : Literal). y.variable) same) ∙ place_of-step n place steps s x.fresh x.at in
          let one : from.place ≡ place = cc in
          omega (arith, one, from.before) in
          record {
            literal = from.literal;
            same = from.same;
            is_false = other_false n place steps s r old new x from.literal from.stands differs;
            stands = (r, Contains-head r named, from.stands);
          }
    ]

resolved_step :
    (n place : ℕ) (steps : List Step) (s : Step) (r : List Literal) (old new : List Bool) (given : List Literal) →
    IsReplaced n place steps s r old new → ((g : Literal) → Contains given g → IsResolved steps (suc place) old g.variable) →
    (g : Literal) → Contains (s.literal ∷ given) g → IsResolved steps place new g.variable
resolved_step n place steps s r old new given x resolved = λ g at.
    elim (Contains-cons_cases s.literal g given at) [
      | inl here ↦
          subst (λ (y : Literal). IsResolved steps place new y.variable) here (record {
            place = place;
            found = place_of-step n place steps s x.fresh x.at;
            later = omega arith;
            off = step_off n place steps s r old new x;
          })
      | inr there ↦
          let before : IsResolved steps (suc place) old g.variable = resolved g there in
          record {
            place = before.place;
            found = before.found;
            later = omega (arith, before.later);
            off = λ on. elim (x.marks.only g.variable on) [
              | inl was ↦ before.off (IsOn-left old s.literal.variable g.variable was).0
              | inr from ↦
                  let places : Some from.place ≡ Some before.place = sym from.found ∙ before.found in
                  let one : from.place ≡ before.place = cc in
                  omega (arith, one, from.before, before.later)
            ];
          }
    ]

used_step :
    (n place : ℕ) (steps : List Step) (s : Step) (r : List Literal) (old new : List Bool) (named : List (List Literal)) →
    IsReplaced n place steps s r old new → ((v : ℕ) → IsOn old v → StandsFalse steps named v) → StandsIn named (inverse_of s.literal)
used_step n place steps s r old new named x stands =
    let f : StandsFalse steps named s.literal.variable = stands s.literal.variable x.on in
    let same : f.literal ≡ inverse_of s.literal =
    same_from_truth steps f.literal (inverse_of s.literal) false f.same f.is_false (truth-inverse_of steps s.literal true (step_true n place steps s x.fresh x.at)) in
    subst (StandsIn named) same f.stands

replaced_by :
    (n place : ℕ) (steps : List Step) (s : Step) (r : List Literal) (old new : List Bool) (named : List (List Literal)) →
    IsReplaced n place steps s r old new → IsCutBy steps (suc place) old named → IsCutBy steps place new (r ∷ named)
replaced_by n place steps s r old new named x before =
    record {
      given = s.literal ∷ before.given;
      conflict = λ held covers apart. (
        leaves_step n place steps s r old new held before.given x covers apart,
        before.conflict (s.literal ∷ held) (covers_step n place steps s r old new held x covers) (apart_step n place steps s r old new held before.given x before.resolved apart),
      );
      used = (used_step n place steps s r old new named x before.stands, before.used);
      resolved = resolved_step n place steps s r old new before.given x before.resolved;
      stands = stands_step n place steps s r old new named x before.stands;
    }

-- the cut with the step at a place replaced by the other literals of its reason
pub IsCut-replaced :
    (n : ℕ) (clauses : List (List Literal)) (steps : List Step) (place : ℕ) (s : Step) (number : ℕ) (reason : IsReason clauses (oldest place steps) s.literal number) (old new : List Bool) (numbers : List ℕ) →
    AreFresh n steps → IsStepAt place steps s → IsOn old s.literal.variable → MarksClause steps reason.clause place (set old s.literal.variable false) new →
    IsCut clauses steps (suc place) old numbers → IsCut clauses steps place new (number ∷ numbers)
IsCut-replaced n clauses steps place s number reason old new numbers fresh at on marks cut =
    let x : IsReplaced n place steps s reason.clause old new = record { fresh = fresh; at = at; on = on; stands = reason.stands; others = reason.others; marks = marks } in
    by_cut clauses steps place new (number ∷ numbers)
    (subst (λ (named : List (List Literal)). IsCutBy steps place new named) (sym (clauses_at-cons clauses number numbers reason.clause reason.found))
    (replaced_by n place steps s reason.clause old new (clauses_at clauses numbers) x (cut_by clauses steps (suc place) old numbers cut)))

-- after that nothing is marked at the step's place
pub off-replaced :
    (n : ℕ) (steps : List Step) (place : ℕ) (s : Step) (clause : List Literal) (old new : List Bool) → AreFresh n steps → IsStepAt place steps s → MarksClause steps clause place (set old s.literal.variable false) new →
    (v : ℕ) → IsOnAt steps new v place → ⊥
off-replaced n steps place s clause old new fresh at marks = λ v on.
    elim (marks.only v on.0) [
      | inl was ↦ (IsOn-left old s.literal.variable v was).1 (variable_at n place steps s v fresh at on.1)
      | inr from ↦
          let places : Some from.place ≡ Some place = sym from.found ∙ on.1 in
          let one : from.place ≡ place = cc in
          omega (arith, one, from.before)
    ]
