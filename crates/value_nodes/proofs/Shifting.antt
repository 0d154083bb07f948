-- Shifts by a count of another width.
use Rattle.std.proofs.Common.{◌≡◌, ◌<◌, ◌^◌, ◌%◌, ℕ, zero, suc, Bool, true, false, nat_lt, List, sym, ◌∙◌, ap, subst, arith}
use Rattle.std.specs.Prelude.{if◌then◌else◌}
use Rattle.std.proofs.Math.Nat.{mod-eq_of_lt}
use Rattle.std.proofs.lemmas.Bool.Decides.{nat_tests}
use Rattle.words.specs.Operators.{low_bits, logical_shift}
use Rattle.std.proofs.Math.Pow.{pow-lt}
use Rattle.word_dag.specs.declared.nodes.Id.{Id}
use Rattle.word_dag.specs.declared.nodes.Node.{Node}
use Rattle.word_dag.specs.declared.nodes.Node.TheVariants.{Constant, Cut, Shift, Compare}
use Rattle.word_dag.specs.declared.nodes.ShiftKind.{ShiftKind}
use Rattle.word_dag.specs.declared.nodes.Comparison.TheVariants.{UnsignedLess}
use Rattle.word_dag.specs.Meaning.{value, width, shift_value, holds, bit_value}
use Rattle.word_dag.specs.Fitting.{is_ordered}
use Rattle.word_dag.specs.Growth.{Within, Extends, Makes}
use Rattle.word_dag.proofs.Operations.{shift_out}
use Rattle.word_dag.proofs.Truth.{holds_bit}
use Rattle.value_nodes.specs.Values.{IsWord, IsTest, IsValue}
use Rattle.value_nodes.proofs.Made.{word_below}
use Rattle.value_nodes.proofs.Conversions.{unshifted}

below_own_power : (w : ℕ) → w < 2 ^ w
below_own_power zero = omega arith
below_own_power (suc w) = let step : 2 ^ w < 2 ^ suc w = pow-lt (omega arith) in omega (arith, below_own_power w, step)

below_power : (w a : ℕ) → a < w → a < 2 ^ w
below_power w a h = omega (arith, below_own_power w)

-- a number below w fits w bits
pub fits_bits : (w a : ℕ) → a < w → low_bits w (logical_shift a 0) ≡ a
unfolding low_bits
fits_bits w a h = ap (λ (n : ℕ). n % 2 ^ w) (unshifted a) ∙ mod-eq_of_lt (below_power w a h)

-- the low bits of a small count
pub made_low : (d e : List Node) (count i : Id) (w : ℕ) (v : ℕ → ℕ) → Makes d e (Cut count 0 w) i → value v d count < w → value v e i ≡ value v d count
made_low d e count i w v m h = m.value_is v ∙ fits_bits w (value v d count) h

-- a test of a count against a width
pub made_below : (d e f : List Node) (count limit i : Id) (u w : ℕ) → Extends d e → IsWord d count u → ((v : ℕ → ℕ) → value v e limit ≡ w) → Makes e f (Compare UnsignedLess count limit) i
    → IsTest f i (λ v. nat_lt (value v d count) w)
made_below d e f count limit i u w x word is m =
    record { there = m.there; width_is = m.width_is; value_is = λ v. m.value_is v ∙ (λ k. bit_value (nat_lt (x.value_stays v count word.there k) (is v k))) }

pub shifted_by : (kind : ShiftKind) (b : Bool) (w a count low : ℕ) → a < 2 ^ w → b ≡ nat_lt count w → (count < w → low ≡ count) → (if b then shift_value kind w a low else 0) ≡ shift_value kind w a count
shifted_by kind true w a count low below is same = ap (shift_value kind w a) (same (grind (arith, nat_tests)))
shifted_by kind false w a count low below is same = sym (shift_out kind w a count below (grind (arith, nat_tests)))

pub made_shift : (d d1 d2 d3 d4 d5 : List Node) (kind : ShiftKind) (w wt : ℕ) (a count small low shifted none i : Id) → w ≡ wt → is_ordered d ≡ true → IsWord d a wt → Within d count
    → Extends d d1 → Extends d1 d2 → Extends d2 d3 → Extends d3 d4
    → IsTest d1 small (λ v. nat_lt (value v d count) w) → ((v : ℕ → ℕ) → value v d1 count < w → value v d2 low ≡ value v d1 count)
    → Makes d2 d3 (Shift kind a low) shifted → Makes d3 d4 (Constant 0 w) none
    → IsValue d5 i (width d4 shifted) (λ v. if holds (value v d4 small) then value v d4 shifted else value v d4 none)
    → IsValue d5 i wt (λ v. shift_value kind wt (value v d a) (value v d count))
made_shift d d1 d2 d3 d4 d5 kind w wt a count small low shifted none i same ordered word there x y z u test is m n made =
    let wide : width d2 a ≡ wt = y.width_stays a (omega (arith, x.longer, word.there)) ∙ x.width_stays a word.there ∙ word.width_is in
    record {
      there = made.there;
      width_is = made.width_is ∙ u.width_stays shifted m.there ∙ m.width_is ∙ wide;
      value_is = λ v.
          let same_a : value v d2 a ≡ value v d a = y.value_stays v a (omega (arith, x.longer, word.there)) ∙ x.value_stays v a word.there in
          let first : holds (value v d4 small) ≡ nat_lt (value v d count) w =
          ap holds (u.value_stays v small (omega (arith, y.longer, z.longer, test.there)) ∙ z.value_stays v small (omega (arith, y.longer, test.there)) ∙ y.value_stays v small test.there ∙ test.value_is v)
          ∙ holds_bit (nat_lt (value v d count) w) in
          let second : value v d4 shifted ≡ shift_value kind wt (value v d a) (value v d2 low) = u.value_stays v shifted m.there ∙ m.value_is v ∙ (λ k. shift_value kind (wide k) (same_a k) (value v d2 low)) in
          let count_same : value v d1 count ≡ value v d count = x.value_stays v count there in
          made.value_is v
          ∙ (λ k. if first k then second k else n.value_is v k)
          ∙ shifted_by kind (nat_lt (value v d count) w) wt (value v d a) (value v d count) (value v d2 low) (word_below v d a wt ordered word)
          (ap (nat_lt (value v d count)) same)
          (λ h. is v (subst (λ (n : ℕ). n < w) (sym count_same) (subst (λ (n : ℕ). value v d count < n) (sym same) h)) ∙ count_same);
    }
