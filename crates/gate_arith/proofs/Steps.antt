-- Steps of a form that grows by calls: what was added by one step is among what was added by more.
use Rattle.std.proofs.Common.{◌≡◌, ℕ, Bool, List, [], ◌++◌, drop, length, refl, sym, ap, ◌∙◌, subst, arith, append_assoc}
use Rattle.std.proofs.Math.Seq.{drop-append_seam}
use Rattle.std.proofs.lemmas.List.{append-nil}
use Rattle.sat_form.specs.Satisfaction.{Literal, Form, Satisfies}
use Rattle.sat_form.proofs.Truth.{Satisfies-append, Satisfies-front, Satisfies-back, Satisfies-agree, AgreeBelow-refl, AgreeBelow-trans}
use Rattle.sat_form.proofs.Within.{IsWithin-weaker, AreWithin-weaker, AreWithin-append}
use Rattle.gate_bits.specs.Growth.{known_clauses}
use Rattle.gate_arith.specs.Growth.{Grows, added_to}
use Rattle.gate_bits.specs.Truth.{IsTruth, IsNumber}
use Rattle.gate_arith.proofs.Knowing.{known-front, known-whole}

-- ---- growth

pub Grows-refl : (f : Form) → Grows f f
Grows-refl f = record {
  added = [];
  clauses = sym (append-nil f.clauses);
  variables = omega arith;
  within = tt;
  extends = λ x all. (x, AgreeBelow-refl f.variables x, all);
  freely = λ x all. (x, AgreeBelow-refl f.variables x, Satisfies-append x (known_clauses f.clauses) [] all refl);
  determined = λ x y agree one two. agree;
}

pub Grows-same : (f g : Form) → g ≡ f → Grows f g
Grows-same f g same = subst (Grows f) (sym same) (Grows-refl f)

pub Grows-then : {f g h : Form} → Grows f g → Grows g h → Grows f h
Grows-then {f} {g} {h} first second = record {
  added = first.added ++ second.added;
  clauses = second.clauses ∙ ap (λ cs. cs ++ second.added) first.clauses ∙ append_assoc f.clauses first.added second.added;
  variables = omega arith;
  within = AreWithin-append h.variables first.added second.added (AreWithin-weaker g.variables h.variables first.added second.variables first.within) second.within;
  extends = λ x all.
      let one = first.extends x all in
      let two = second.extends one.0 one.2 in
      (two.0, AgreeBelow-trans f.variables g.variables x one.0 two.0 first.variables one.1 two.1, two.2);
  freely = λ x all.
      let one = first.freely x all in
      let two = second.freely one.0 (subst (λ (cs : List (List Literal)). Satisfies one.0 (known_clauses cs)) (sym first.clauses) (known-whole one.0 f.clauses first.added one.2)) in
      let old : Satisfies two.0 (known_clauses f.clauses) = known-front two.0 f.clauses first.added (subst (λ (cs : List (List Literal)). Satisfies two.0 (known_clauses cs)) first.clauses (Satisfies-front two.0 (known_clauses g.clauses) second.added two.2)) in
      let middle : Satisfies two.0 first.added = Satisfies-agree g.variables one.0 two.0 first.added two.1 first.within (Satisfies-back one.0 (known_clauses f.clauses) first.added one.2) in
      let last : Satisfies two.0 second.added = Satisfies-back two.0 (known_clauses g.clauses) second.added two.2 in (
        two.0,
        AgreeBelow-trans f.variables g.variables x one.0 two.0 first.variables one.1 two.1,
        Satisfies-append two.0 (known_clauses f.clauses) (first.added ++ second.added) old (Satisfies-append two.0 first.added second.added middle last),
      );
  determined = λ x y agree one two.
      second.determined x y
      (first.determined x y agree (Satisfies-front x first.added second.added one) (Satisfies-front y first.added second.added two))
      (Satisfies-back x first.added second.added one) (Satisfies-back y first.added second.added two);
}

-- ---- what was added

pub added_to-is : (f g : Form) (cs : List (List Literal)) → g.clauses ≡ f.clauses ++ cs → (added_to f g).clauses ≡ cs
added_to-is f g cs is = ap (λ (ds : List (List Literal)). drop (length f.clauses) ds) is ∙ drop-append_seam f.clauses cs

-- what was added by two steps was added by each
pub added_to-both : {f g h : Form} → Grows f g → Grows g h → (x : ℕ → Bool) → Satisfies x (added_to f h).clauses → Satisfies x (added_to f g).clauses × Satisfies x (added_to g h).clauses
added_to-both {f} {g} {h} first second x all =
    let both : Satisfies x (first.added ++ second.added) = subst (Satisfies x) (added_to-is f h (first.added ++ second.added) (second.clauses ∙ ap (λ cs. cs ++ second.added) first.clauses ∙ append_assoc f.clauses first.added second.added)) all in (
      subst (Satisfies x) (sym (added_to-is f g first.added first.clauses)) (Satisfies-front x first.added second.added both),
      subst (Satisfies x) (sym (added_to-is g h second.added second.clauses)) (Satisfies-back x first.added second.added both),
    )

-- an assignment that satisfies the new form satisfies what was added
pub added_to-new : {f g : Form} → Grows f g → (x : ℕ → Bool) → Satisfies x g.clauses → Satisfies x (added_to f g).clauses
added_to-new {f} {g} grows x all = subst (Satisfies x) (sym (added_to-is f g grows.added grows.clauses)) (Satisfies-back x f.clauses grows.added (subst (Satisfies x) grows.clauses all))

-- .. and the old form
pub old-new : {f g : Form} → Grows f g → (x : ℕ → Bool) → Satisfies x g.clauses → Satisfies x f.clauses
old-new {f} {g} grows x all = Satisfies-front x f.clauses grows.added (subst (Satisfies x) grows.clauses all)

-- ---- truths and numbers

-- .. of the clauses of one step, with the clauses of a later step
pub IsTruth-then : {f g h : Form} {l : Literal} {truth : (ℕ → Bool) → Bool} → IsTruth (added_to f g) l truth → Grows f g → Grows g h → IsTruth (added_to f h) l truth
IsTruth-then {f} {g} {h} {l} {truth} has first second = record {
  within = omega (arith, has.within, second.variables);
  is = λ x all. has.is x (added_to-both first second x all).0;
}

pub IsNumber-then : {f g h : Form} {w : ℕ} {ls : List Literal} {number : (ℕ → Bool) → ℕ} → IsNumber (added_to f g) w ls number → Grows f g → Grows g h → IsNumber (added_to f h) w ls number
IsNumber-then {f} {g} {h} {w} {ls} {number} has first second = record {
  count = has.count;
  within = IsWithin-weaker g.variables h.variables ls second.variables has.within;
  is = λ x all. has.is x (added_to-both first second x all).0;
}

-- .. with the clauses of an earlier step
pub IsTruth-after : {f g h : Form} {l : Literal} {truth : (ℕ → Bool) → Bool} → Grows f g → IsTruth (added_to g h) l truth → Grows g h → IsTruth (added_to f h) l truth
IsTruth-after {f} {g} {h} {l} {truth} first has second = record {
  within = has.within;
  is = λ x all. has.is x (added_to-both first second x all).1;
}

pub IsNumber-after : {f g h : Form} {w : ℕ} {ls : List Literal} {number : (ℕ → Bool) → ℕ} → Grows f g → IsNumber (added_to g h) w ls number → Grows g h → IsNumber (added_to f h) w ls number
IsNumber-after {f} {g} {h} {w} {ls} {number} first has second = record {
  count = has.count;
  within = has.within;
  is = λ x all. has.is x (added_to-both first second x all).1;
}

-- .. in the whole form
pub IsTruth-whole : {f g : Form} {l : Literal} {truth : (ℕ → Bool) → Bool} → IsTruth (added_to f g) l truth → Grows f g → IsTruth g l truth
IsTruth-whole {f} {g} {l} {truth} has grows = record {
  within = has.within;
  is = λ x all. has.is x (added_to-new grows x all);
}

pub IsNumber-whole : {f g : Form} {w : ℕ} {ls : List Literal} {number : (ℕ → Bool) → ℕ} → IsNumber (added_to f g) w ls number → Grows f g → IsNumber g w ls number
IsNumber-whole {f} {g} {w} {ls} {number} has grows = record {
  count = has.count;
  within = has.within;
  is = λ x all. has.is x (added_to-new grows x all);
}

-- the steps of a form that grows call by call
pub ruleset steps = (Grows-refl, Grows-same, Grows-then, IsTruth-then, IsNumber-then, IsTruth-after, IsNumber-after)
