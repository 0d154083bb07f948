-- The inverses of literals: where they stand, the number that they give, and whether each of them is true.
use Rattle.std.proofs.Common.{◌≡◌, ℕ, ◌+◌, ◌^◌, ◌<◌, Bool, true, false, not, ◌&&◌, ◌||◌, suc, List, [], ◌∷◌, map, length, refl, sym, ap, ◌∙◌, subst, arith}
use Rattle.std.specs.List.{list_all, list_any}
use Rattle.sat_form.specs.Satisfaction.{Literal, Form, literal_value, inverse_of, clause_value, IsWithin}
use Rattle.sat_form.specs.Numbers.{bit_value, value_of}
use Rattle.sat_form.proofs.Truth.{literal_value-inverse_of}
use Rattle.gate_bits.specs.Truth.{IsTruth}
use Rattle.gate_bits.proofs.Adding.{power_more}

suc_is : (n : ℕ) → n + 1 ≡ suc n
suc_is n = omega arith

both_bits : (b : Bool) → bit_value (not b) + bit_value b ≡ 1
both_bits true = refl
both_bits false = refl

pub value_of-inverses : (x : ℕ → Bool) (ls : List Literal) → value_of (map inverse_of ls) x + value_of ls x + 1 ≡ 2 ^ length ls
value_of-inverses x [] = refl
value_of-inverses x (l ∷ ls) =
    let one : bit_value (literal_value x (inverse_of l)) + bit_value (literal_value x l) ≡ 1 = ap (λ (b : Bool). bit_value b + bit_value (literal_value x l)) (literal_value-inverse_of x l) ∙ both_bits (literal_value x l) in
    omega (arith, one, value_of-inverses x ls, power_more (length ls), ap (λ (n : ℕ). 2 ^ n) (suc_is (length ls)))

pub IsWithin-inverses : (n : ℕ) (ls : List Literal) → IsWithin n ls → IsWithin n (map inverse_of ls)
IsWithin-inverses n [] within = tt
IsWithin-inverses n (l ∷ ls) within = (within.0, IsWithin-inverses n ls within.1)

one_less : (a b : Bool) → (not a || not b) ≡ not (a && b)
one_less true b = refl
one_less false b = refl

-- one of them is true where not each of the literals is
pub any-inverses : (x : ℕ → Bool) (ls : List Literal) → clause_value x (map inverse_of ls) ≡ not (list_all (literal_value x) ls)
any-inverses x [] = refl
any-inverses x (l ∷ ls) = (λ k. literal_value-inverse_of x l k || any-inverses x ls k) ∙ one_less (literal_value x l) (list_all (literal_value x) ls)

none_less : (a b : Bool) → not (not a && b) ≡ (a || not b)
none_less true b = refl
none_less false b = refl

-- not each of them is true where one of the literals is
pub all-inverses : (x : ℕ → Bool) (ls : List Literal) → not (list_all (literal_value x) (map inverse_of ls)) ≡ list_any (literal_value x) ls
all-inverses x [] = refl
all-inverses x (l ∷ ls) =
    (λ k. not (literal_value-inverse_of x l k && list_all (literal_value x) (map inverse_of ls)))
    ∙ none_less (literal_value x l) (list_all (literal_value x) (map inverse_of ls))
    ∙ ap (λ b. literal_value x l || b) (all-inverses x ls)

-- the inverse of the literal that all inverses are true
pub any_is : (f : Form) (ls ms ns : List Literal) (none some : Literal) → ms ≡ map inverse_of ls → ns ≡ ms → IsTruth f none (λ x. list_all (literal_value x) ns) → some ≡ inverse_of none → IsTruth f some (λ x. list_any (literal_value x) ls)
any_is f ls ms ns none some inverse read has is = record {
  within = subst (λ (l : Literal). l.variable < f.variables) (sym is) has.within;
  is = λ x all.
      ap (literal_value x) is ∙ literal_value-inverse_of x none
      ∙ ap not (has.is x all ∙ ap (λ (ks : List Literal). list_all (literal_value x) ks) (read ∙ inverse))
      ∙ all-inverses x ls;
}

pub any_within : (n : ℕ) (ls ms ns : List Literal) → ms ≡ map inverse_of ls → ns ≡ ms → IsWithin n ls → IsWithin n ns
any_within n ls ms ns inverse read within = subst (IsWithin n) (sym (read ∙ inverse)) (IsWithin-inverses n ls within)
