-- One call: what the gates make in a part stands behind the form's clauses.
use Rattle.std.proofs.Common.{◌≡◌, ℕ, ◌≤◌, Bool, true, false, ◌&&◌, ◌||◌, List, [], ◌∷◌, ◌++◌, refl, sym, ap, ◌∙◌, subst, arith}
use Rattle.sat_form.specs.Satisfaction.{Literal, Form, Satisfies, IsWithin, AreWithin, AgreeBelow}
use Rattle.sat_form.proofs.Truth.{Satisfies-append, Satisfies-back, Satisfies-agree}
use Rattle.sat_form.proofs.Within.{AreWithin-weaker, AreWithin-append}
use Rattle.gate_bits.specs.Growth.{GrowsFreely, known_clauses, known_part}
use Rattle.gate_arith.specs.Growth.{Grows, IsPart, added_to}
use Rattle.gate_bits.specs.Truth.{IsTruth, IsNumber}
use Rattle.gate_arith.proofs.Knowing.{known-holds, known-within}
use Rattle.gate_arith.proofs.Steps.{Grows-refl, Grows-same, added_to-is}

-- a part of which the form's first clause is known
pub Grows-part : {f p q g : Form} → IsPart f p → GrowsFreely p q → g ≡ record { variables = q.variables; clauses = f.clauses ++ q.clauses } → Grows f g
Grows-part {f} {p} {q} {g} part grows is =
    let clauses : g.clauses ≡ f.clauses ++ q.clauses = ap (λ (e : Form). e.clauses) is in
    let variables : g.variables ≡ q.variables = ap (λ (e : Form). e.variables) is in
    let same_variables : p.variables ≡ f.variables = part.variables in
    let more : p.variables ≤ q.variables = grows.variables in
    let within : AreWithin q.variables q.clauses = subst (AreWithin q.variables) (sym grows.clauses) (AreWithin-append q.variables p.clauses grows.added (AreWithin-weaker p.variables q.variables p.clauses more part.within) grows.within) in
    let agree : (x : ℕ → Bool) → AgreeBelow f.variables x (grows.extends x).0 = λ x. subst (λ (n : ℕ). AgreeBelow n x (grows.extends x).0) same_variables (grows.extends x).1 in
    let whole : (x : ℕ → Bool) → Satisfies x (known_clauses f.clauses) → Satisfies (grows.extends x).0 q.clauses =
    λ x all.
    let one = grows.extends x in
    let begun : Satisfies one.0 p.clauses = Satisfies-agree p.variables x one.0 p.clauses one.1 part.within (part.is x all) in
    subst (Satisfies one.0) (sym grows.clauses) (Satisfies-append one.0 p.clauses grows.added begun one.2) in
    record {
      added = q.clauses;
      clauses = clauses;
      variables = omega arith;
      within = subst (λ (n : ℕ). AreWithin n q.clauses) (sym variables) within;
      extends = λ x all.
          let one = grows.extends x in
          let old : Satisfies one.0 f.clauses = Satisfies-agree f.variables x one.0 f.clauses (agree x) part.form_within all in
          (one.0, agree x, subst (Satisfies one.0) (sym clauses) (Satisfies-append one.0 f.clauses q.clauses old (whole x (known-holds x f.clauses all))));
      freely = λ x all.
          let one = grows.extends x in
          let old : Satisfies one.0 (known_clauses f.clauses) = Satisfies-agree f.variables x one.0 (known_clauses f.clauses) (agree x) (known-within f.variables f.clauses part.form_within) all in
          (one.0, agree x, Satisfies-append one.0 (known_clauses f.clauses) q.clauses old (whole x all));
      determined = λ x y same one two.
          let behind : (z : ℕ → Bool) → Satisfies z q.clauses → Satisfies z grows.added = λ z all. Satisfies-back z p.clauses grows.added (subst (Satisfies z) grows.clauses all) in
          subst (λ (n : ℕ). AgreeBelow n x y) (sym variables) (grows.determined x y (subst (λ (n : ℕ). AgreeBelow n x y) (sym same_variables) same) (behind x one) (behind y two));
    }

pub Part_none : (f p : Form) → AreWithin f.variables f.clauses → p ≡ record { variables = f.variables; clauses = [] } → IsPart f p
Part_none f p within is = record {
  variables = ap (λ (e : Form). e.variables) is;
  form_within = within;
  within = subst (λ (e : Form). AreWithin e.variables e.clauses) (sym is) tt;
  is = λ x all. subst (λ (e : Form). Satisfies x e.clauses) (sym is) refl;
}

pub Part_one : (f e p : Form) (l : Literal) → AreWithin f.variables f.clauses → IsTruth (known_part f) l (λ x. true) → e ≡ record { variables = f.variables; clauses = [] } → p ≡ record e { clauses = e.clauses ++ (l ∷ []) ∷ [] } → IsPart f p
Part_one f e p l within one none is =
    let whole : p ≡ record { variables = f.variables; clauses = (l ∷ []) ∷ [] } = is ∙ ap (λ (d : Form). record d { clauses = d.clauses ++ (l ∷ []) ∷ [] }) none in
    record {
      variables = ap (λ (d : Form). d.variables) whole;
      form_within = within;
      within = subst (λ (d : Form). AreWithin d.variables d.clauses) (sym whole) ((one.within, tt), tt);
      is = λ x all. subst (λ (d : Form). Satisfies x d.clauses) (sym whole) (λ k. (one.is x all k || false) && true);
    }

added_part : (f q g : Form) → g ≡ record { variables = q.variables; clauses = f.clauses ++ q.clauses } → added_to f g ≡ q
added_part f q g is = λ k. record {
  variables = ap (λ (e : Form). e.variables) is k;
  clauses = added_to-is f g q.clauses (ap (λ (e : Form). e.clauses) is) k;
}

pub IsTruth-part : (f : Form) {q g : Form} {l : Literal} {truth : (ℕ → Bool) → Bool} → IsTruth q l truth → g ≡ record { variables = q.variables; clauses = f.clauses ++ q.clauses } → IsTruth (added_to f g) l truth
IsTruth-part f {q} {g} {l} {truth} has is = subst (λ (e : Form). IsTruth e l truth) (sym (added_part f q g is)) has

pub IsNumber-part : (f : Form) {q g : Form} {w : ℕ} {ls : List Literal} {number : (ℕ → Bool) → ℕ} → IsNumber q w ls number → g ≡ record { variables = q.variables; clauses = f.clauses ++ q.clauses } → IsNumber (added_to f g) w ls number
IsNumber-part f {q} {g} {w} {ls} {number} has is = subst (λ (e : Form). IsNumber e w ls number) (sym (added_part f q g is)) has

pub IsWithin-part : {f p : Form} (ls : List Literal) → IsPart f p → IsWithin f.variables ls → IsWithin p.variables ls
IsWithin-part {f} {p} ls part within = subst (λ (n : ℕ). IsWithin n ls) (sym part.variables) within

-- the steps of one call
pub ruleset parts = (Grows-refl, Grows-same, Grows-part, IsTruth-part, IsNumber-part, IsWithin-part)
