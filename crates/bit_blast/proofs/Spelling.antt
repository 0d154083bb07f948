-- Each valuation is spelled by an assignment.
use Rattle.std.proofs.Common.{◌≡◌, ℕ, zero, suc, ◌+◌, ◌*◌, ◌/◌, ◌%◌, ◌^◌, Bool, List, [], ◌∷◌, length, nat_eq, sym, ap, ◌∙◌, subst, arith}
use Rattle.std.proofs.lemmas.Bool.Decides.{nat_tests}
use Rattle.std.proofs.lemmas.Nat.{mod-pow-add}
use Rattle.sat_form.proofs.Numbering.{value_of-agree}
use Rattle.sat_form.specs.Satisfaction.{Literal, IsWithin, AgreeBelow, with_value}
use Rattle.sat_form.specs.Numbers.{bit_value, value_of}
use Rattle.sat_form.proofs.Truth.{AgreeBelow-refl, AgreeBelow-trans, AgreeBelow-with_value, with_value-same}
use Rattle.bit_blast.specs.Numbers.{literals_at}
use Rattle.bit_blast.specs.Variables.{plain_literals, AreConsecutive}
use Rattle.bit_blast.proofs.Consecutive.{IsWithin-plain_literals}

lowest : (m : ℕ) → bit_value (nat_eq (m % 2) 1) ≡ m % 2
lowest m = grind (arith, nat_tests)

bit_split : (m n : ℕ) → bit_value (nat_eq (m % 2) 1) + 2 * (m / 2 % 2 ^ n) ≡ m % 2 ^ (suc n)
bit_split m n =
    let e : m % 2 ^ (n + 1) ≡ (m / 2 ^ 1 % 2 ^ n) * 2 ^ 1 + m % 2 ^ 1 = mod-pow-add m n 1 in
    let q : n + 1 ≡ suc n = omega arith in
    let f : m % 2 ^ (suc n) ≡ (m / 2 % 2 ^ n) * 2 + m % 2 = sym (λ k. m % 2 ^ (q k)) ∙ e in
    omega (arith, lowest m, f)

-- the literals of new variables can be any number
pub spell_one : (a n m : ℕ) (x : ℕ → Bool) → (y : ℕ → Bool) × AgreeBelow a x y × (value_of (plain_literals a n) y ≡ m % 2 ^ n)
spell_one a zero m x = (x, AgreeBelow-refl a x, omega arith)
spell_one a (suc n) m x =
    let b : Bool = nat_eq (m % 2) 1 in
    let z : ℕ → Bool = with_value x a b in
    let rest = spell_one (a + 1) n (m / 2) z in
    let first : rest.0 a ≡ b = sym (rest.1 a (omega arith)) ∙ with_value-same x a b in (
      rest.0,
      AgreeBelow-trans a (a + 1) x z rest.0 (omega arith) (AgreeBelow-with_value x a b) rest.1,
      (λ k. bit_value (first k) + 2 * rest.2 k) ∙ bit_split m n,
    )

spell_each : (ls : List Literal) (lists : List (List Literal)) (v : ℕ → ℕ) (y : ℕ → Bool) → value_of ls y ≡ v 0 % 2 ^ length ls → ((k : ℕ) → value_of (literals_at lists k) y ≡ v (suc k) % 2 ^ length (literals_at lists k)) → (k : ℕ) → value_of (literals_at (ls ∷ lists) k) y ≡ v k % 2 ^ length (literals_at (ls ∷ lists) k)
spell_each ls lists v y first rest zero = first
spell_each ls lists v y first rest (suc k) = rest k

-- .. and so can those of consecutive lists
pub spell : (a : ℕ) (lists : List (List Literal)) (b : ℕ) (v : ℕ → ℕ) (x : ℕ → Bool) → AreConsecutive a lists b → (y : ℕ → Bool) × AgreeBelow a x y × ((k : ℕ) → value_of (literals_at lists k) y ≡ v k % 2 ^ length (literals_at lists k))
spell a [] b v x h = (x, AgreeBelow-refl a x, λ k. omega arith)
spell a (ls ∷ lists) b v x h =
    let one = spell_one a (length ls) (v 0) x in
    let rest = spell (a + length ls) lists b (λ k. v (suc k)) one.0 h.1 in
    let within : IsWithin (a + length ls) ls = subst (IsWithin (a + length ls)) (sym h.0) (IsWithin-plain_literals a (length ls) (a + length ls) (omega arith)) in
    let first : value_of ls rest.0 ≡ v 0 % 2 ^ length ls =
    sym (value_of-agree (a + length ls) one.0 rest.0 ls rest.1 within) ∙ ap (λ (ts : List Literal). value_of ts one.0) h.0 ∙ one.2 in
    let each : (k : ℕ) → value_of (literals_at (ls ∷ lists) k) rest.0 ≡ v k % 2 ^ length (literals_at (ls ∷ lists) k) = spell_each ls lists v rest.0 first rest.2 in
    (rest.0, AgreeBelow-trans a (a + length ls) x one.0 rest.0 (omega arith) one.1 rest.1, each)
