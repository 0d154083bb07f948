-- The clause by which the gates know a literal, in a form that grows.
use Rattle.std.proofs.Common.{ℕ, Bool, List, [], ◌∷◌, ◌++◌, refl, subst, arith}
use Rattle.sat_form.specs.Satisfaction.{Literal, Form, Satisfies, AreWithin}
use Rattle.sat_form.proofs.Truth.{Satisfies-front}
use Rattle.gate_bits.specs.Growth.{known_clauses, known_part}
use Rattle.gate_arith.specs.Growth.{Grows}
use Rattle.gate_bits.specs.Truth.{IsTruth}

-- it is one of the clauses
pub known-holds : (x : ℕ → Bool) (cs : List (List Literal)) → Satisfies x cs → Satisfies x (known_clauses cs)
known-holds x [] all = refl
known-holds x ([] ∷ cs) all = refl
known-holds x ((l ∷ []) ∷ cs) all = Satisfies-front x ((l ∷ []) ∷ []) cs all
known-holds x ((l ∷ m ∷ ms) ∷ cs) all = refl

pub known-within : (n : ℕ) (cs : List (List Literal)) → AreWithin n cs → AreWithin n (known_clauses cs)
known-within n [] within = tt
known-within n ([] ∷ cs) within = tt
known-within n ((l ∷ []) ∷ cs) within = (within.0, tt)
known-within n ((l ∷ m ∷ ms) ∷ cs) within = tt

-- clauses behind it leave it as it is, and give one only where they begin with it
pub known-front : (x : ℕ → Bool) (cs ds : List (List Literal)) → Satisfies x (known_clauses (cs ++ ds)) → Satisfies x (known_clauses cs)
known-front x [] ds all = refl
known-front x ([] ∷ cs) ds all = refl
known-front x ((l ∷ []) ∷ cs) ds all = all
known-front x ((l ∷ m ∷ ms) ∷ cs) ds all = refl

pub known-whole : (x : ℕ → Bool) (cs ds : List (List Literal)) → Satisfies x (known_clauses cs ++ ds) → Satisfies x (known_clauses (cs ++ ds))
known-whole x [] ds all = known-holds x ds all
known-whole x ([] ∷ cs) ds all = refl
known-whole x ((l ∷ []) ∷ cs) ds all = Satisfies-front x ((l ∷ []) ∷ []) ds all
known-whole x ((l ∷ m ∷ ms) ∷ cs) ds all = refl

-- what a literal is by it, it is in the form, and in each form that grew from it
pub IsTruth-known : {f : Form} {l : Literal} {truth : (ℕ → Bool) → Bool} → IsTruth (known_part f) l truth → IsTruth f l truth
IsTruth-known {f} {l} {truth} has = record {
  within = has.within;
  is = λ x all. has.is x (known-holds x f.clauses all);
}

pub IsTruth-known_later : {f g : Form} {l : Literal} {truth : (ℕ → Bool) → Bool} → IsTruth (known_part f) l truth → Grows f g → IsTruth (known_part g) l truth
IsTruth-known_later {f} {g} {l} {truth} has grows = record {
  within = omega (arith, has.within, grows.variables);
  is = λ x all. has.is x (known-front x f.clauses grows.added (subst (λ (cs : List (List Literal)). Satisfies x (known_clauses cs)) grows.clauses all));
}
