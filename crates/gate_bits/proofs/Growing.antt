-- Forms that grow: one growth after another, and what literals mean in the grown form.
use Rattle.std.proofs.Common.{◌≡◌, ℕ, ◌+◌, ◌<◌, Bool, List, [], ◌++◌, inl, inr, refl, sym, ap, ◌∙◌, subst, arith, append_assoc}
use Rattle.std.proofs.lemmas.Bool.{cases_lt}
use Rattle.std.proofs.lemmas.List.{append-nil}
use Rattle.sat_form.specs.Satisfaction.{Literal, Form, Satisfies, IsWithin, AreWithin, AgreeBelow, with_value}
use Rattle.sat_form.proofs.Truth.{Satisfies-append, Satisfies-front, Satisfies-back, Satisfies-agree, AgreeBelow-refl, AgreeBelow-trans, AgreeBelow-with_value}
use Rattle.sat_form.proofs.Within.{IsWithin-weaker, AreWithin-weaker, AreWithin-append}
use Rattle.gate_bits.specs.Growth.{GrowsFreely}
use Rattle.gate_bits.specs.Truth.{IsTruth, IsNumber}

pub GrowsFreely-refl : (f : Form) → GrowsFreely f f
GrowsFreely-refl f = record {
  added = [];
  clauses = sym (append-nil f.clauses);
  variables = omega arith;
  within = tt;
  extends = λ x. (x, AgreeBelow-refl f.variables x, refl);
  determined = λ x y agree first second. agree;
}

pub GrowsFreely-same : (f g : Form) → g ≡ f → GrowsFreely f g
GrowsFreely-same f g same = subst (GrowsFreely f) (sym same) (GrowsFreely-refl f)

-- an assignment that satisfies the grown form satisfies the form
pub front : {f g : Form} → GrowsFreely f g → (x : ℕ → Bool) → Satisfies x g.clauses → Satisfies x f.clauses
front {f} {g} grows x all = Satisfies-front x f.clauses grows.added (subst (Satisfies x) grows.clauses all)

-- one growth after another is one
pub GrowsFreely-then : {f g h : Form} → GrowsFreely f g → GrowsFreely g h → GrowsFreely f h
GrowsFreely-then {f} {g} {h} first second = record {
  added = first.added ++ second.added;
  clauses = second.clauses ∙ ap (λ cs. cs ++ second.added) first.clauses ∙ append_assoc f.clauses first.added second.added;
  variables = omega arith;
  within = AreWithin-append h.variables first.added second.added (AreWithin-weaker g.variables h.variables first.added second.variables first.within) second.within;
  extends = λ x.
      let one = first.extends x in
      let two = second.extends one.0 in (
        two.0,
        AgreeBelow-trans f.variables g.variables x one.0 two.0 first.variables one.1 two.1,
        Satisfies-append two.0 first.added second.added (Satisfies-agree g.variables one.0 two.0 first.added two.1 first.within one.2) two.2,
      );
  determined = λ x y agree one two.
      second.determined x y
      (first.determined x y agree (Satisfies-front x first.added second.added one) (Satisfies-front y first.added second.added two))
      (Satisfies-back x first.added second.added one) (Satisfies-back y first.added second.added two);
}

pub IsTruth-kept : {f g : Form} {l : Literal} {truth : (ℕ → Bool) → Bool} → IsTruth f l truth → GrowsFreely f g → IsTruth g l truth
IsTruth-kept {f} {g} {l} {truth} has grows = record {
  within = omega (arith, has.within, grows.variables);
  is = λ x all. has.is x (front grows x all);
}

pub IsNumber-kept : {f g : Form} {w : ℕ} {ls : List Literal} {number : (ℕ → Bool) → ℕ} → IsNumber f w ls number → GrowsFreely f g → IsNumber g w ls number
IsNumber-kept {f} {g} {w} {ls} {number} has grows = record {
  count = has.count;
  within = IsWithin-weaker f.variables g.variables ls grows.variables has.within;
  is = λ x all. has.is x (front grows x all);
}

pub IsWithin-kept : {f g : Form} (ls : List Literal) → IsWithin f.variables ls → GrowsFreely f g → IsWithin g.variables ls
IsWithin-kept {f} {g} ls within grows = IsWithin-weaker f.variables g.variables ls grows.variables within

-- ---- a new variable, and clauses that hold where it has a certain truth

pub GrowsFreely-new : (f g : Form) (rows : List (List Literal)) (truth : (ℕ → Bool) → Bool) → AreWithin (f.variables + 1) rows → ((x : ℕ → Bool) → Satisfies (with_value x f.variables (truth x)) rows)
    → ((x : ℕ → Bool) → Satisfies x rows → x f.variables ≡ truth x) → ((x y : ℕ → Bool) → AgreeBelow f.variables x y → truth x ≡ truth y)
    → g ≡ record { variables = f.variables + 1; clauses = f.clauses ++ rows } → GrowsFreely f g
GrowsFreely-new f g rows truth within satisfied forces same is =
    let more : g.variables ≡ f.variables + 1 = ap (λ (e : Form). e.variables) is in
    let all : (x y : ℕ → Bool) → AgreeBelow f.variables x y → Satisfies x rows → Satisfies y rows → (v : ℕ) → v < g.variables → x v ≡ y v =
    λ x y agree one two v below. elim (cases_lt v f.variables) [
      | inl early ↦ agree v early
      | inr late ↦
          let last : v ≡ f.variables = omega (arith, more, below, late) in
          (λ k. x (last k)) ∙ forces x one ∙ same x y agree ∙ sym (forces y two) ∙ (λ k. y (sym last k))
    ] in
    record {
      added = rows;
      clauses = ap (λ (e : Form). e.clauses) is;
      variables = omega (arith, more);
      within = subst (λ (n : ℕ). AreWithin n rows) (sym more) within;
      extends = λ x. (with_value x f.variables (truth x), AgreeBelow-with_value x f.variables (truth x), satisfied x);
      determined = all;
    }

-- the steps of a form that grows gate by gate
pub ruleset growth = (GrowsFreely-refl, GrowsFreely-same, GrowsFreely-then, IsTruth-kept, IsNumber-kept)
