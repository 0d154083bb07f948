-- The steps of a long division, and the signs of its results.
use Rattle.std.proofs.Common.{◌≡◌, ℕ, zero, suc, get_or, ◌+◌, ◌-◌, ◌*◌, ◌%◌, ◌^◌, ◌<◌, ◌≤◌, Bool, true, false, not, nat_eq, List, [], ◌∷◌, ◌++◌, map, take, set, replicate, length, refl, sym, ap, ◌∙◌, subst, arith, inl, inr}
use Rattle.std.specs.Prelude.{if◌then◌else◌}
use Rattle.std.proofs.Math.Nat.{mod-eq_of_lt, mod_self}
use Rattle.std.proofs.lemmas.Bool.{cases_lt}
use Rattle.std.proofs.lemmas.Bool.Decides.{nat_tests}
use Rattle.std.proofs.lemmas.List.{length-replicate, length-map, length-take-le}
use Rattle.std.proofs.lemmas.List.Elements.{All-from_recursion, recursion_from_All, All-set}
use Rattle.sat_form.specs.Satisfaction.{Literal, Form, literal_value, inverse_of, Satisfies, IsWithin}
use Rattle.sat_form.specs.Numbers.{bit_value, number_of, value_of}
use Rattle.sat_form.proofs.Truth.{literal_value-inverse_of}
use Rattle.sat_form.proofs.Numbering.{value_of-below, value_of-append}
use Rattle.sat_form.proofs.Within.{IsWithin-append}
use Rattle.words.specs.Operators.{word_negation, unsigned_quotient, unsigned_remainder, signed_quotient, signed_remainder}
use Rattle.words.proofs.Division.{unsigned_quotient_zero, unsigned_remainder_zero, quotient_unique, signed_remainder_zero, signed_quotient_low_low, signed_quotient_low_high, signed_quotient_high_low, signed_quotient_high_high, signed_remainder_low_low, signed_remainder_low_high, signed_remainder_high_low, signed_remainder_high_high}
use Rattle.gate_bits.specs.Growth.{GrowsFreely}
use Rattle.gate_bits.specs.Truth.{IsTruth, IsNumber, AreTruths, differs}
use Rattle.gate_bits.specs.Sums.{IsSum}
use Rattle.gate_words.specs.Shifts.{turned_value}
use Rattle.gate_words.specs.Quotients.{IsDivided, IsStep, negated_if}
use Rattle.gate_bits.proofs.Growing.{front}
use Rattle.gate_bits.proofs.Parts.{IsWithin-take, IsWithin-replicate}
use Rattle.gate_bits.proofs.Inverting.{value_of-inverses}
use Rattle.gate_bits.proofs.Adding.{value_of-push, length-push, power_more, low_sum}
use Rattle.gate_words.proofs.Multiplying.{value_of-fill, value_of-take}
use Rattle.gate_words.proofs.Shifting.{turned_value-false, turned_value-true}

-- ---- the complement of a divisor

pub complement_value : (x : ℕ → Bool) (b complement : List Literal) (one : Literal) → complement ≡ map inverse_of b ++ one ∷ [] → literal_value x one ≡ true → value_of complement x + value_of b x + 1 ≡ 2 ^ (length b + 1)
complement_value x b complement one is on =
    let width : length (map inverse_of b) ≡ length b = length-map b inverse_of in
    let pushed : value_of complement x ≡ value_of (map inverse_of b) x + 2 ^ length b * bit_value (literal_value x one) =
    ap (λ (m : List Literal). value_of m x) is ∙ value_of-push x (map inverse_of b) one ∙ ap (λ (n : ℕ). value_of (map inverse_of b) x + 2 ^ n * bit_value (literal_value x one)) width in
    let top : 2 ^ length b * bit_value (literal_value x one) ≡ 2 ^ length b * 1 = ap (λ (t : Bool). 2 ^ length b * bit_value t) on in
    omega (arith, pushed, top, value_of-inverses x b, power_more (length b))

pub IsWithin-set : (n : ℕ) (ls : List Literal) (i : ℕ) (l : Literal) → IsWithin n ls → l.variable < n → IsWithin n (set ls i l)
IsWithin-set n ls i l within one = recursion_from_All (λ m. m.variable < n) (set ls i l) (All-set (λ m. m.variable < n) ls i l one (All-from_recursion (λ m. m.variable < n) ls within))

-- ---- one step

step_numbers : (c : Bool) (w dividend complement b sum next : ℕ) → sum + 2 ^ (w + 1) * bit_value c ≡ dividend + complement + 1 → complement + b + 1 ≡ 2 ^ (w + 1) → b < 2 ^ w → dividend < 2 * b → sum < 2 ^ (w + 1) → next ≡ (if c then sum else dividend) % 2 ^ w → (bit_value c * b + next ≡ dividend) × (next < b)
step_numbers true w dividend complement b sum next added is_complement small below low is =
    let same : next ≡ sum = is ∙ mod-eq_of_lt (omega arith) in
    (omega arith, omega arith)
step_numbers false w dividend complement b sum next added is_complement small below low is =
    let fits : dividend < b = omega arith in
    let same : next ≡ dividend = is ∙ mod-eq_of_lt (omega arith) in
    (omega arith, omega arith)

number_choice : (b : Bool) (p q : List Bool) → number_of (if b then p else q) ≡ (if b then number_of p else number_of q)
number_choice true p q = refl
number_choice false p q = refl

pub Step_is : (g h : Form) (bit one fits : Literal) (rest complement dividend difference choice next : List Literal) → dividend ≡ bit ∷ rest → length complement ≡ length rest + 1 → IsTruth g one (λ x. true) → IsSum g dividend complement one difference fits → GrowsFreely g h → AreTruths h (length difference) choice (λ x. if literal_value x fits then map (literal_value x) difference else map (literal_value x) dividend) → next ≡ take (length rest) choice → IsStep h bit rest complement fits next
Step_is g h bit one fits rest complement dividend difference choice next is_dividend more on is_sum grows are is_next =
    let width : length dividend ≡ length rest + 1 = ap (λ (m : List Literal). length m) is_dividend ∙ omega arith in
    let counted : length choice ≡ length rest + 1 = are.count ∙ is_sum.count ∙ width in
    record {
      fits_within = omega (arith, is_sum.carry_within, grows.variables);
      count = ap (λ (m : List Literal). length m) is_next ∙ length-take-exact (length rest) choice (omega arith);
      within = subst (λ (m : List Literal). IsWithin h.variables m) (sym is_next) (IsWithin-take h.variables (length rest) choice are.within);
      is = λ x all b is_complement small below.
          let middle = front grows x all in
          let number : value_of dividend x ≡ bit_value (literal_value x bit) + 2 * value_of rest x = ap (λ (m : List Literal). value_of m x) is_dividend in
          let bit_below : bit_value (literal_value x bit) < 2 = bit_small (literal_value x bit) in
          let started : bit_value (literal_value x one) ≡ 1 = ap bit_value (on.is x middle) in
          let place : 2 ^ length dividend ≡ 2 ^ (length rest + 1) = ap (λ (n : ℕ). 2 ^ n) width in
          let placed : 2 ^ length dividend * bit_value (literal_value x fits) ≡ 2 ^ (length rest + 1) * bit_value (literal_value x fits) = ap (λ (n : ℕ). n * bit_value (literal_value x fits)) place in
          let added : value_of difference x + 2 ^ (length rest + 1) * bit_value (literal_value x fits) ≡ value_of dividend x + value_of complement x + 1 = omega (arith, is_sum.is x middle, placed, started) in
          let sum_below : value_of difference x < 2 ^ (length rest + 1) = subst (λ (n : ℕ). value_of difference x < 2 ^ n) (is_sum.count ∙ width) (value_of-below x difference) in
          let chosen : value_of next x ≡ (if literal_value x fits then value_of difference x else value_of dividend x) % 2 ^ length rest =
          ap (λ (m : List Literal). value_of m x) is_next ∙ value_of-take x (length rest) choice (omega arith)
          ∙ ap (λ (n : ℕ). n % 2 ^ length rest) (ap number_of (are.is x all) ∙ number_choice (literal_value x fits) (map (literal_value x) difference) (map (literal_value x) dividend)) in
          let both = step_numbers (literal_value x fits) (length rest) (value_of dividend x) (value_of complement x) b (value_of difference x) (value_of next x) added is_complement small (omega arith) sum_below chosen in
          (both.0 ∙ number, both.1);
    }
  where
    bit_small : (b : Bool) → bit_value b < 2
    bit_small true = omega arith
    bit_small false = omega arith

    length-take-exact : (n : ℕ) (ls : List Literal) → n ≤ length ls → length (take n ls) ≡ n
    length-take-exact n ls enough = length-take-le n ls enough

-- ---- all steps

pub Divided_none : (f : Form) (b rest : List Literal) (off : Literal) (n : ℕ) → IsTruth f off (λ x. false) → rest ≡ replicate n off → n ≡ length b → IsDivided f [] b [] rest
Divided_none f b rest off n none is same = record {
  count = ap (λ (m : List Literal). length m) is ∙ length-replicate n off ∙ same;
  within = subst (λ (m : List Literal). IsWithin f.variables m) (sym is) (IsWithin-replicate f.variables n off none.within);
  is = λ x all some.
      let nothing : value_of rest x ≡ 0 = ap (λ (m : List Literal). value_of m x) is ∙ value_of-fill x n off (none.is x all) in
      (omega arith, omega arith);
}

one_more : (q s b r n a t : ℕ) → s * b + r ≡ a → q * b + n ≡ t + 2 * r → (q + 2 * s) * b + n ≡ t + 2 * a
one_more q s b r n a t so_far step = grind arith

pub Divided_more : (f g : Form) (above b quotient rest complement next : List Literal) (bit fits : Literal) → IsDivided f above b quotient rest → GrowsFreely f g → ((x : ℕ → Bool) → Satisfies x g.clauses → value_of complement x + value_of b x + 1 ≡ 2 ^ (length b + 1)) → IsStep g bit rest complement fits next → IsDivided g (bit ∷ above) b (fits ∷ quotient) next
Divided_more f g above b quotient rest complement next bit fits so_far grows complements step = record {
  count = step.count ∙ so_far.count;
  within = step.within;
  is = λ x all some.
      let before = so_far.is x (front grows x all) some in
      let turned : value_of complement x + value_of b x + 1 ≡ 2 ^ (length rest + 1) = complements x all ∙ ap (λ (n : ℕ). 2 ^ (n + 1)) (sym so_far.count) in
      let below : value_of b x < 2 ^ length rest = subst (λ (n : ℕ). value_of b x < 2 ^ n) (sym so_far.count) (value_of-below x b) in
      let after = step.is x all (value_of b x) turned below before.1 in
      (one_more (bit_value (literal_value x fits)) (value_of quotient x) (value_of b x) (value_of rest x) (value_of next x) (value_of above x) (bit_value (literal_value x bit)) before.0 after.0, after.1);
}

-- ---- unsigned

not_zero : (t : Bool) (b : ℕ) → t ≡ not (nat_eq b 0) → t ≡ true → 0 < b
not_zero t b is on = grind (arith, nat_tests)

quotient_or_none : (t : Bool) (a b q r : ℕ) → t ≡ not (nat_eq b 0) → (0 < b → (q * b + r ≡ a) × (r < b)) → (if t then q else 0) ≡ unsigned_quotient a b
quotient_or_none true a b q r is divided = let both = divided (not_zero true b is refl) in (quotient_unique a b q r both.0 both.1).0
quotient_or_none false a b q r is divided = let none : b ≡ 0 = grind (arith, nat_tests) in sym (ap (unsigned_quotient a) none ∙ unsigned_quotient_zero a)

remainder_or_none : (t : Bool) (a b q r : ℕ) → t ≡ not (nat_eq b 0) → (0 < b → (q * b + r ≡ a) × (r < b)) → (if t then r else 0) ≡ unsigned_remainder a b
remainder_or_none true a b q r is divided = let both = divided (not_zero true b is refl) in (quotient_unique a b q r both.0 both.1).1
remainder_or_none false a b q r is divided = let none : b ≡ 0 = grind (arith, nat_tests) in sym (ap (unsigned_remainder a) none ∙ unsigned_remainder_zero a)

-- whether the divisor is not 0
tested : (x : ℕ → Bool) (b zeros : List Literal) (off by_zero mask : Literal) (n : ℕ) → zeros ≡ replicate n off → literal_value x off ≡ false → literal_value x by_zero ≡ nat_eq (value_of b x) (value_of zeros x) → mask ≡ inverse_of by_zero → literal_value x mask ≡ not (nat_eq (value_of b x) 0)
tested x b zeros off by_zero mask n is_zeros none is_test is_mask =
    let nothing : value_of zeros x ≡ 0 = ap (λ (m : List Literal). value_of m x) is_zeros ∙ value_of-fill x n off none in
    ap (literal_value x) is_mask ∙ literal_value-inverse_of x by_zero ∙ ap not (is_test ∙ ap (nat_eq (value_of b x)) nothing)

pub Quotient_is : (f g h : Form) (a b quotient rest zeros masked : List Literal) (off by_zero mask : Literal) (n : ℕ) → length quotient ≡ length a → IsTruth f off (λ x. false) → IsDivided f a b quotient rest → GrowsFreely f g → zeros ≡ replicate n off → IsTruth g by_zero (λ x. nat_eq (value_of b x) (value_of zeros x)) → mask ≡ inverse_of by_zero → GrowsFreely g h → IsNumber h (length quotient) masked (λ x. if literal_value x mask then value_of quotient x else 0) → IsNumber h (length a) masked (λ x. unsigned_quotient (value_of a x) (value_of b x))
Quotient_is f g h a b quotient rest zeros masked off by_zero mask n width none divided first is_zeros is_test is_mask second is_masked = record {
  count = is_masked.count ∙ width;
  within = is_masked.within;
  is = λ x all.
      let middle = front second x all in
      let early = front first x middle in
      is_masked.is x all ∙ quotient_or_none (literal_value x mask) (value_of a x) (value_of b x) (value_of quotient x) (value_of rest x)
      (tested x b zeros off by_zero mask n is_zeros (none.is x early) (is_test.is x middle) is_mask) (divided.is x early);
}

pub Remainder_is : (f g h : Form) (a b quotient rest zeros masked : List Literal) (off by_zero mask : Literal) (n : ℕ) → length a ≡ length b → IsTruth f off (λ x. false) → IsDivided f a b quotient rest → GrowsFreely f g → zeros ≡ replicate n off → IsTruth g by_zero (λ x. nat_eq (value_of b x) (value_of zeros x)) → mask ≡ inverse_of by_zero → GrowsFreely g h → IsNumber h (length rest) masked (λ x. if literal_value x mask then value_of rest x else 0) → IsNumber h (length a) masked (λ x. unsigned_remainder (value_of a x) (value_of b x))
Remainder_is f g h a b quotient rest zeros masked off by_zero mask n same none divided first is_zeros is_test is_mask second is_masked = record {
  count = is_masked.count ∙ divided.count ∙ sym same;
  within = is_masked.within;
  is = λ x all.
      let middle = front second x all in
      let early = front first x middle in
      is_masked.is x all ∙ remainder_or_none (literal_value x mask) (value_of a x) (value_of b x) (value_of quotient x) (value_of rest x)
      (tested x b zeros off by_zero mask n is_zeros (none.is x early) (is_test.is x middle) is_mask) (divided.is x early);
}

-- ---- negations

negation_or_same : (b : Bool) (w v t s c : ℕ) → v < 2 ^ w → s < 2 ^ w → s + 2 ^ w * c ≡ t + bit_value b → (b ≡ true → t + v + 1 ≡ 2 ^ w) → (b ≡ false → t ≡ v) → s ≡ negated_if b w v
unfolding word_negation
negation_or_same true w v t s c below small added turned same =
    let complement = turned refl in
    low_sum s (2 ^ w) c (2 ^ w - v) small (omega arith)
negation_or_same false w v t s c below small added turned same =
    low_sum s (2 ^ w) c v small (omega (arith, same refl)) ∙ mod-eq_of_lt below

map-map : (x : ℕ → Bool) (b : Bool) (ls : List Literal) → map (λ l. differs b (literal_value x l)) ls ≡ map (differs b) (map (literal_value x) ls)
map-map x b [] = refl
map-map x b (l ∷ ls) = ap (λ (m : List Bool). differs b (literal_value x l) ∷ m) (map-map x b ls)

pub Negated_is : (f g h : Form) (bits flipped zeros negation : List Literal) (by off carry : Literal) (n : ℕ) → IsTruth f off (λ x. false) → GrowsFreely f g → AreTruths g (length bits) flipped (λ x. map (λ l. differs (literal_value x by) (literal_value x l)) bits) → zeros ≡ replicate n off → GrowsFreely g h → IsSum h flipped zeros by negation carry → IsNumber h (length bits) negation (λ x. negated_if (literal_value x by) (length bits) (value_of bits x))
Negated_is f g h bits flipped zeros negation by off carry n none first are is_zeros second is_sum = record {
  count = is_sum.count ∙ are.count;
  within = is_sum.within;
  is = λ x all.
      let middle = front second x all in
      let early = front first x middle in
      let width : length negation ≡ length bits = is_sum.count ∙ are.count in
      let nothing : value_of zeros x ≡ 0 = ap (λ (m : List Literal). value_of m x) is_zeros ∙ value_of-fill x n off (none.is x early) in
      let turned : value_of flipped x ≡ turned_value (literal_value x by) bits x = ap number_of (are.is x middle ∙ map-map x (literal_value x by) bits) in
      let small : value_of negation x < 2 ^ length bits = subst (λ (m : ℕ). value_of negation x < 2 ^ m) width (value_of-below x negation) in
      let placed : 2 ^ length flipped * bit_value (literal_value x carry) ≡ 2 ^ length bits * bit_value (literal_value x carry) = ap (λ (m : ℕ). 2 ^ m * bit_value (literal_value x carry)) are.count in
      let added : value_of negation x + 2 ^ length bits * bit_value (literal_value x carry) ≡ value_of flipped x + bit_value (literal_value x by) = omega (arith, is_sum.is x all, placed, nothing) in
      negation_or_same (literal_value x by) (length bits) (value_of bits x) (value_of flipped x) (value_of negation x) (bit_value (literal_value x carry)) (value_of-below x bits) small added
      (λ on. ap (λ (m : ℕ). m + value_of bits x + 1) turned ∙ turned_value-true (literal_value x by) bits x on)
      (λ off. turned ∙ turned_value-false (literal_value x by) bits x off);
}

-- ---- signed

-- the sign says in which half a number is
pub record IsSign (w a : ℕ) (s : Bool) : Type 0 where
  pub low : s ≡ false → a < 2 ^ (w - 1)
  pub high : s ≡ true → 2 ^ (w - 1) ≤ a

sign_of_push : (w p m : ℕ) (s : Bool) (a : ℕ) → p ≡ 2 ^ (w - 1) → m < p → a ≡ m + p * bit_value s → IsSign w a s
sign_of_push w p m true a place below is = record { low = λ e. absurd (cc); high = λ e. omega arith }
sign_of_push w p m false a place below is = record { low = λ e. omega arith; high = λ e. absurd (cc) }

pub sign_is : (x : ℕ → Bool) (low a : List Literal) (top : Literal) → low ++ top ∷ [] ≡ a → IsSign (length a) (value_of a x) (literal_value x top)
sign_is x low a top is =
    let width : length a ≡ length low + 1 = sym (ap (λ (m : List Literal). length m) is) ∙ length-push low top in
    let place : 2 ^ length low ≡ 2 ^ (length a - 1) = ap (λ (n : ℕ). 2 ^ n) (omega arith) in
    sign_of_push (length a) (2 ^ length low) (value_of low x) (literal_value x top) (value_of a x) place (value_of-below x low) (sym (ap (λ (m : List Literal). value_of m x) is) ∙ value_of-push x low top)

pub quotient_of_signs : (w a b : ℕ) (s t : Bool) → 1 ≤ w → a < 2 ^ w → b < 2 ^ w → IsSign w a s → IsSign w b t → negated_if (differs s t) w (unsigned_quotient (negated_if s w a) (negated_if t w b)) ≡ signed_quotient w a b
quotient_of_signs w a b true true h k l p q = sym (signed_quotient_high_high w a b h (p.high refl) k (q.high refl) l)
quotient_of_signs w a b true false h k l p q = sym (signed_quotient_high_low w a b h (p.high refl) k (q.low refl))
quotient_of_signs w a b false true h k l p q = sym (signed_quotient_low_high w a b h (p.low refl) (q.high refl) l)
quotient_of_signs w a b false false h k l p q = sym (signed_quotient_low_low w a b h (p.low refl) (q.low refl))

negation_of_none : (w : ℕ) → word_negation w 0 ≡ 0
unfolding word_negation
negation_of_none w =
    let whole : 2 ^ w - 0 ≡ 2 ^ w = omega arith in
    ap (λ (n : ℕ). n % 2 ^ w) whole ∙ mod_self (2 ^ w)

by_none : (w a b m : ℕ) → b ≡ 0 → unsigned_remainder m b ≡ signed_remainder w a b
by_none w a b m none = ap (unsigned_remainder m) none ∙ unsigned_remainder_zero m ∙ sym (ap (signed_remainder w a) none ∙ signed_remainder_zero w a)

by_none_negated : (w a b m : ℕ) → b ≡ 0 → word_negation w (unsigned_remainder m b) ≡ signed_remainder w a b
by_none_negated w a b m none = ap (λ (n : ℕ). word_negation w (unsigned_remainder m n)) none ∙ ap (word_negation w) (unsigned_remainder_zero m) ∙ negation_of_none w ∙ sym (ap (signed_remainder w a) none ∙ signed_remainder_zero w a)

pub remainder_of_signs : (w a b : ℕ) (s t : Bool) → 1 ≤ w → a < 2 ^ w → b < 2 ^ w → IsSign w a s → IsSign w b t → negated_if s w (unsigned_remainder (negated_if s w a) (negated_if t w b)) ≡ signed_remainder w a b
remainder_of_signs w a b true true h k l p q = sym (signed_remainder_high_high w a b h (p.high refl) k (q.high refl) l)
remainder_of_signs w a b true false h k l p q =
    elim (cases_lt 0 b) [
      | inl some ↦ sym (signed_remainder_high_low w a b h (p.high refl) k some (q.low refl))
      | inr none ↦ by_none_negated w a b (word_negation w a) (omega arith)
    ]
remainder_of_signs w a b false true h k l p q = sym (signed_remainder_low_high w a b h (p.low refl) (q.high refl) l)
remainder_of_signs w a b false false h k l p q =
    elim (cases_lt 0 b) [
      | inl some ↦ sym (signed_remainder_low_low w a b h (p.low refl) some (q.low refl))
      | inr none ↦ by_none w a b a (omega arith)
    ]

pub Signed_quotient_is : (f g h i j : Form) (a b dividend divisor quotient result low_a low_b : List Literal) (s t apart : Literal) → 1 ≤ length a → length a ≡ length b → low_a ++ s ∷ [] ≡ a → low_b ++ t ∷ [] ≡ b → IsNumber f (length a) dividend (λ x. negated_if (literal_value x s) (length a) (value_of a x)) → GrowsFreely f g → IsNumber g (length b) divisor (λ x. negated_if (literal_value x t) (length b) (value_of b x)) → GrowsFreely g h → IsNumber h (length dividend) quotient (λ x. unsigned_quotient (value_of dividend x) (value_of divisor x)) → GrowsFreely h i → IsTruth i apart (λ x. differs (literal_value x s) (literal_value x t)) → GrowsFreely i j → IsNumber j (length quotient) result (λ x. negated_if (literal_value x apart) (length quotient) (value_of quotient x)) → IsNumber j (length a) result (λ x. signed_quotient (length a) (value_of a x) (value_of b x))
Signed_quotient_is f g h i j a b dividend divisor quotient result low_a low_b s t apart positive same whole_a whole_b is_dividend to_g is_divisor to_h is_quotient to_i is_apart to_j is_result =
    let width : length quotient ≡ length a = is_quotient.count ∙ is_dividend.count in
    record {
      count = is_result.count ∙ width;
      within = is_result.within;
      is = λ x all.
          let at_i = front to_j x all in
          let at_h = front to_i x at_i in
          let at_g = front to_h x at_h in
          let at_f = front to_g x at_g in
          let w = length a in
          let below_b : value_of b x < 2 ^ w = subst (λ (n : ℕ). value_of b x < 2 ^ n) (sym same) (value_of-below x b) in
          let sign_b : IsSign w (value_of b x) (literal_value x t) = subst (λ (n : ℕ). IsSign n (value_of b x) (literal_value x t)) (sym same) (sign_is x low_b b t whole_b) in
          let numbers : value_of quotient x ≡ unsigned_quotient (negated_if (literal_value x s) w (value_of a x)) (negated_if (literal_value x t) w (value_of b x)) =
          is_quotient.is x at_h ∙ (λ k. unsigned_quotient (is_dividend.is x at_f k) ((is_divisor.is x at_g ∙ ap (λ (n : ℕ). negated_if (literal_value x t) n (value_of b x)) (sym same)) k)) in
          is_result.is x all
          ∙ (λ k. negated_if (is_apart.is x at_i k) (width k) (numbers k))
          ∙ quotient_of_signs w (value_of a x) (value_of b x) (literal_value x s) (literal_value x t) positive (value_of-below x a) below_b (sign_is x low_a a s whole_a) sign_b;
    }

pub Signed_remainder_is : (f g h j : Form) (a b dividend divisor rest result low_a low_b : List Literal) (s t : Literal) → 1 ≤ length a → length a ≡ length b → low_a ++ s ∷ [] ≡ a → low_b ++ t ∷ [] ≡ b → IsNumber f (length a) dividend (λ x. negated_if (literal_value x s) (length a) (value_of a x)) → GrowsFreely f g → IsNumber g (length b) divisor (λ x. negated_if (literal_value x t) (length b) (value_of b x)) → GrowsFreely g h → IsNumber h (length dividend) rest (λ x. unsigned_remainder (value_of dividend x) (value_of divisor x)) → GrowsFreely h j → IsNumber j (length rest) result (λ x. negated_if (literal_value x s) (length rest) (value_of rest x)) → IsNumber j (length a) result (λ x. signed_remainder (length a) (value_of a x) (value_of b x))
Signed_remainder_is f g h j a b dividend divisor rest result low_a low_b s t positive same whole_a whole_b is_dividend to_g is_divisor to_h is_rest to_j is_result =
    let width : length rest ≡ length a = is_rest.count ∙ is_dividend.count in
    record {
      count = is_result.count ∙ width;
      within = is_result.within;
      is = λ x all.
          let at_h = front to_j x all in
          let at_g = front to_h x at_h in
          let at_f = front to_g x at_g in
          let w = length a in
          let below_b : value_of b x < 2 ^ w = subst (λ (n : ℕ). value_of b x < 2 ^ n) (sym same) (value_of-below x b) in
          let sign_b : IsSign w (value_of b x) (literal_value x t) = subst (λ (n : ℕ). IsSign n (value_of b x) (literal_value x t)) (sym same) (sign_is x low_b b t whole_b) in
          let numbers : value_of rest x ≡ unsigned_remainder (negated_if (literal_value x s) w (value_of a x)) (negated_if (literal_value x t) w (value_of b x)) =
          is_rest.is x at_h ∙ (λ k. unsigned_remainder (is_dividend.is x at_f k) ((is_divisor.is x at_g ∙ ap (λ (n : ℕ). negated_if (literal_value x t) n (value_of b x)) (sym same)) k)) in
          is_result.is x all
          ∙ (λ k. negated_if (literal_value x s) (width k) (numbers k))
          ∙ remainder_of_signs w (value_of a x) (value_of b x) (literal_value x s) (literal_value x t) positive (value_of-below x a) below_b (sign_is x low_a a s whole_a) sign_b;
    }

-- ---- numbers with zeros above them

widened_value : (x : ℕ → Bool) (ls : List Literal) (k : ℕ) (off : Literal) → literal_value x off ≡ false → value_of (ls ++ replicate k off) x ≡ value_of ls x
widened_value x ls k off none =
    let filled : 2 ^ length ls * value_of (replicate k off) x ≡ 2 ^ length ls * 0 = ap (λ (n : ℕ). 2 ^ length ls * n) (value_of-fill x k off none) in
    let nothing : 2 ^ length ls * 0 ≡ 0 = omega arith in
    omega (arith, value_of-append x ls (replicate k off), filled, nothing)

-- what is calculated of the low bits alone
pub Trimmed_is : (f : Form) (n w m : ℕ) (a b low_a low_b result wide : List Literal) (off : Literal) (g : ℕ → ℕ → ℕ) → IsTruth f off (λ x. false) → m ≤ n → a ≡ low_a ++ replicate (n - w) off
    → b ≡ low_b ++ replicate (n - w) off → IsNumber f m result (λ x. g (value_of low_a x) (value_of low_b x)) → wide ≡ result ++ replicate (n - length result) off
    → IsNumber f n wide (λ x. g (value_of a x) (value_of b x))
Trimmed_is f n w m a b low_a low_b result wide off g none within a_is b_is is wide_is =
    record {
      count = ap (λ (ls : List Literal). length ls) wide_is ∙ joined result (replicate (n - length result) off) ∙ omega (arith, is.count, within, length-replicate (n - length result) off);
      within = subst (λ (ls : List Literal). IsWithin f.variables ls) (sym wide_is) (IsWithin-append f.variables result (replicate (n - length result) off) is.within (IsWithin-replicate f.variables (n - length result) off none.within));
      is = λ x all.
          let no = none.is x all in
          let first : value_of a x ≡ value_of low_a x = ap (λ (ls : List Literal). value_of ls x) a_is ∙ widened_value x low_a (n - w) off no in
          let second : value_of b x ≡ value_of low_b x = ap (λ (ls : List Literal). value_of ls x) b_is ∙ widened_value x low_b (n - w) off no in
          ap (λ (ls : List Literal). value_of ls x) wide_is ∙ widened_value x result (n - length result) off no ∙ is.is x all
          ∙ ap (λ (m : ℕ). g m (value_of low_b x)) (sym first) ∙ ap (g (value_of a x)) (sym second);
    }
  where
    joined : (xs ys : List Literal) → length (xs ++ ys) ≡ length xs + length ys
    joined [] ys = omega arith
    joined (z ∷ xs) ys = omega (arith, joined xs ys)

-- a zero more above the low bits
pub one_trimmed : (ls : List Literal) (w now n : ℕ) (off x : Literal) → now ≡ suc w → suc w ≤ n → n ≡ length ls → x ≡ get_or ls w x → x ≡ off → ls ≡ take now ls ++ replicate (n - now) off → ls ≡ take w ls ++ replicate (n - w) off
one_trimmed ls w now n off x next fits long found same before =
    let at : get_or ls w off ≡ off = sym (subst (λ (y : Literal). y ≡ get_or ls w y) same found) in
    let is : ls ≡ take (suc w) ls ++ replicate (n - suc w) off = before ∙ ap (λ (k : ℕ). take k ls ++ replicate (n - k) off) next in
    let more : n - w ≡ suc (n - suc w) = omega (arith, fits) in
    is ∙ ap (λ (ys : List Literal). ys ++ replicate (n - suc w) off) (take_more ls w (omega (arith, fits, long)) at)
    ∙ assoc (take w ls) (n - suc w) ∙ ap (λ (k : ℕ). take w ls ++ replicate k off) (sym more)
  where
    take_more : (xs : List Literal) (k : ℕ) → k < length xs → get_or xs k off ≡ off → take (suc k) xs ≡ take k xs ++ off ∷ []
    take_more [] k h e = absurd (omega (arith, h))
    take_more (x ∷ xs) zero h e = ap (λ (y : Literal). y ∷ []) e
    take_more (x ∷ xs) (suc k) h e = ap (λ (ys : List Literal). x ∷ ys) (take_more xs k (omega (arith, h)) e)

    assoc : (xs : List Literal) (k : ℕ) → (xs ++ off ∷ []) ++ replicate k off ≡ xs ++ replicate (suc k) off
    assoc [] k = refl
    assoc (x ∷ xs) k = ap (λ (ys : List Literal). x ∷ ys) (assoc xs k)

-- literals with the same code
pub same_literal : (l m : Literal) → true ≡ nat_eq (2 * l.variable + (if l.negated then 1 else 0)) (2 * m.variable + (if m.negated then 1 else 0)) → l ≡ m
same_literal l m h = by l.negated m.negated l.variable m.variable (equal _ _ (sym h))
  where
    equal : (a b : ℕ) → nat_eq a b ≡ true → a ≡ b
    equal a b e = grind (arith, nat_tests)

    literal : ℕ → Bool → Literal
    literal v b = record { variable = v; negated = b }

    by : (b c : Bool) (v w : ℕ) → 2 * v + (if b then 1 else 0) ≡ 2 * w + (if c then 1 else 0) → literal v b ≡ literal w c
    by true true v w e = let same : v ≡ w = omega (arith, e) in ap (λ (n : ℕ). literal n true) same
    by false false v w e = let same : v ≡ w = omega (arith, e) in ap (λ (n : ℕ). literal n false) same
    by true false v w e = absurd (omega (arith, e))
    by false true v w e = absurd (omega (arith, e))
