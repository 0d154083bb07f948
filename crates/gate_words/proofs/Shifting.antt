-- The stages of a barrel shifter.
use Rattle.std.proofs.Common.{◌≡◌, ℕ, zero, suc, ◌+◌, ◌-◌, ◌*◌, ◌/◌, ◌%◌, ◌^◌, ◌<◌, ◌≤◌, Bool, true, false, not, nat_lt, nat_eq, List, [], ◌∷◌, ◌++◌, map, take, drop, replicate, length, refl, sym, ap, ◌∙◌, subst, arith}
use Rattle.std.specs.Prelude.{if◌then◌else◌}
use Rattle.std.proofs.Math.Nat.{mod-eq_of_lt}
use Rattle.std.proofs.lemmas.Nat.{div-mul-add}
use Rattle.std.proofs.lemmas.Bool.Decides.{nat_tests}
use Rattle.std.proofs.lemmas.List.{take-append-drop, length-take-le, length-map}
use Rattle.sat_form.specs.Satisfaction.{Literal, Form, literal_value, IsWithin}
use Rattle.sat_form.specs.Numbers.{bit_value, number_of, value_of}
use Rattle.sat_form.proofs.Numbering.{value_of-below, number_of-append, number_of-below}
use Rattle.words.specs.Operators.{left_shift, logical_shift, arithmetic_shift, word_complement}
use Rattle.words.proofs.Shifts.{left_shift_out, logical_shift_out, arithmetic_shift_out, left_shift-left_shift, logical_shift-logical_shift, arithmetic_shift_low, arithmetic_shift_high}
use Rattle.words.proofs.Powers.{pow_doubled, pow_grows}
use Rattle.gate_words.specs.declared.shifts.Shift.{Shift}
use Rattle.gate_words.specs.declared.shifts.Shift.TheVariants.{Left, Logical, Arithmetic}
use Rattle.gate_bits.specs.Growth.{GrowsFreely}
use Rattle.gate_bits.specs.Truth.{IsTruth, IsNumber, AreTruths, differs}
use Rattle.gate_words.specs.Shifts.{IsShiftedDown, IsShifted, IsConstant, shifted, turned_value}
use Rattle.gate_bits.proofs.Growing.{front}
use Rattle.gate_bits.proofs.Adding.{value_of-push, length-push, power_more}
use Rattle.gate_words.proofs.Multiplying.{value_of-moved_up, value_of-take}

number_choice : (b : Bool) (p q : List Bool) → number_of (if b then p else q) ≡ (if b then number_of p else number_of q)
number_choice true p q = refl
number_choice false p q = refl

-- ---- up

left_shift_none : (w a : ℕ) → a < 2 ^ w → left_shift w a 0 ≡ a
unfolding left_shift
left_shift_none w a below = let same : a * 1 ≡ a = omega arith in ap (λ (m : ℕ). m % 2 ^ w) same ∙ mod-eq_of_lt below

up_or_same : (b : Bool) (w a d m : ℕ) → a < 2 ^ w → m ≡ left_shift w a d → (if b then m else a) ≡ left_shift w a (d * bit_value b)
up_or_same true w a d m below is = is ∙ ap (left_shift w a) (omega arith)
up_or_same false w a d m below is = sym (left_shift_none w a below) ∙ ap (left_shift w a) (omega arith)

pub Stage_up : (f g : Form) (bits moved next : List Literal) (on off : Literal) (d : ℕ) → d ≤ length bits → moved ≡ replicate d off ++ take (length bits - d) bits → length moved ≡ length bits → IsTruth f off (λ x. false) → GrowsFreely f g → AreTruths g (length moved) next (λ x. if literal_value x on then map (literal_value x) moved else map (literal_value x) bits) → IsNumber g (length bits) next (λ x. left_shift (length bits) (value_of bits x) (d * bit_value (literal_value x on)))
Stage_up f g bits moved next on off d fits is_moved same none grows are = record {
  count = are.count ∙ same;
  within = are.within;
  is = λ x all.
      ap number_of (are.is x all)
      ∙ number_choice (literal_value x on) (map (literal_value x) moved) (map (literal_value x) bits)
      ∙ up_or_same (literal_value x on) (length bits) (value_of bits x) d (value_of moved x) (value_of-below x bits)
      (ap (λ (m : List Literal). value_of m x) is_moved ∙ value_of-moved_up x d off bits fits (none.is x (front grows x all)));
}

pub Up_more : (f g : Form) (a count bits next : List Literal) (on : Literal) (k d : ℕ) → length count ≡ k → d ≡ 2 ^ k → GrowsFreely f g → IsNumber f (length a) bits (λ x. left_shift (length a) (value_of a x) (value_of count x)) → IsNumber g (length bits) next (λ x. left_shift (length bits) (value_of bits x) (d * bit_value (literal_value x on))) → IsNumber g (length a) next (λ x. left_shift (length a) (value_of a x) (value_of (count ++ on ∷ []) x))
Up_more f g a count bits next on k d place distance grows so_far is_next = record {
  count = is_next.count ∙ so_far.count;
  within = is_next.within;
  is = λ x all.
      let more : value_of count x + d * bit_value (literal_value x on) ≡ value_of (count ++ on ∷ []) x =
      ap (λ (n : ℕ). value_of count x + n * bit_value (literal_value x on)) (distance ∙ sym (ap (λ (n : ℕ). 2 ^ n) place)) ∙ sym (value_of-push x count on) in
      is_next.is x all
      ∙ (λ j. left_shift (so_far.count j) (so_far.is x (front grows x all) j) (d * bit_value (literal_value x on)))
      ∙ left_shift-left_shift (length a) (value_of a x) (value_of count x) (d * bit_value (literal_value x on))
      ∙ ap (left_shift (length a) (value_of a x)) more;
}

-- ---- down

number_of-drop : (d : ℕ) (ys : List Bool) → d ≤ length ys → number_of (drop d ys) ≡ number_of ys / 2 ^ d
number_of-drop d ys fits =
    let width : length (take d ys) ≡ d = length-take-le d ys fits in
    let below : number_of (take d ys) < 2 ^ d = subst (λ (m : ℕ). number_of (take d ys) < 2 ^ m) width (number_of-below (take d ys)) in
    let parts : number_of ys ≡ number_of (take d ys) + 2 ^ d * number_of (drop d ys) =
    ap number_of (sym (take-append-drop d ys)) ∙ number_of-append (take d ys) (drop d ys) ∙ ap (λ (m : ℕ). number_of (take d ys) + 2 ^ m * number_of (drop d ys)) width in
    let form : number_of (drop d ys) * 2 ^ d + number_of (take d ys) ≡ number_of ys = omega (arith, parts) in
    sym (div-mul-add (number_of (drop d ys)) (2 ^ d) (number_of (take d ys)) below) ∙ ap (λ (m : ℕ). m / 2 ^ d) form

differs-same : (b : Bool) → differs b b ≡ false
differs-same true = refl
differs-same false = refl

filled_with_none : (x : ℕ → Bool) (n : ℕ) (fill : Literal) → number_of (map (differs (literal_value x fill)) (map (literal_value x) (replicate n fill))) ≡ 0
filled_with_none x zero fill = refl
filled_with_none x (suc n) fill = λ k. bit_value (differs-same (literal_value x fill) k) + 2 * filled_with_none x n fill k

map-drop : (s : Bool) (x : ℕ → Bool) (d : ℕ) (ls : List Literal) → map (differs s) (map (literal_value x) (drop d ls)) ≡ drop d (map (differs s) (map (literal_value x) ls))
map-drop s x zero ls = refl
map-drop s x (suc d) [] = refl
map-drop s x (suc d) (l ∷ ls) = map-drop s x d ls

map-map-append : (s : Bool) (x : ℕ → Bool) (p q : List Literal) → map (differs s) (map (literal_value x) (p ++ q)) ≡ map (differs s) (map (literal_value x) p) ++ map (differs s) (map (literal_value x) q)
map-map-append s x [] q = refl
map-map-append s x (l ∷ p) q = λ k. differs s (literal_value x l) ∷ map-map-append s x p q k

turned_length : (s : Bool) (x : ℕ → Bool) (ls : List Literal) → length (map (differs s) (map (literal_value x) ls)) ≡ length ls
turned_length s x ls = length-map (map (literal_value x) ls) (differs s) ∙ length-map ls (literal_value x)

turned_value-moved : (x : ℕ → Bool) (d : ℕ) (fill : Literal) (ls : List Literal) → d ≤ length ls → turned_value (literal_value x fill) (drop d ls ++ replicate d fill) x ≡ turned_value (literal_value x fill) ls x / 2 ^ d
turned_value-moved x d fill ls fits =
    let s = literal_value x fill in
    let ys : List Bool = map (differs s) (map (literal_value x) ls) in
    let filled : List Bool = map (differs s) (map (literal_value x) (replicate d fill)) in
    ap number_of (map-map-append s x (drop d ls) (replicate d fill))
    ∙ number_of-append (map (differs s) (map (literal_value x) (drop d ls))) filled
    ∙ ap (λ (n : ℕ). number_of (map (differs s) (map (literal_value x) (drop d ls))) + 2 ^ length (map (differs s) (map (literal_value x) (drop d ls))) * n) (filled_with_none x d fill)
    ∙ omega arith
    ∙ ap number_of (map-drop s x d ls)
    ∙ number_of-drop d ys (omega (arith, turned_length s x ls))

down_or_same : (b : Bool) (s : Bool) (p q : List Bool) (d : ℕ) → number_of (map (differs s) p) ≡ number_of (map (differs s) q) / 2 ^ d → number_of (map (differs s) (if b then p else q)) ≡ number_of (map (differs s) q) / 2 ^ (d * bit_value b)
down_or_same true s p q d is = is ∙ ap (λ (n : ℕ). number_of (map (differs s) q) / 2 ^ n) (omega arith)
down_or_same false s p q d is =
    let n = number_of (map (differs s) q) in
    let none : d * 0 ≡ 0 = omega arith in
    let whole : n / 1 ≡ n = omega arith in
    sym (ap (λ (m : ℕ). n / 2 ^ m) none ∙ whole)

pub Stage_down : (f g : Form) (bits moved next : List Literal) (on fill : Literal) (d : ℕ) → d ≤ length bits → moved ≡ drop d bits ++ replicate d fill → length moved ≡ length bits → GrowsFreely f g → AreTruths g (length moved) next (λ x. if literal_value x on then map (literal_value x) moved else map (literal_value x) bits) → IsShiftedDown g bits fill next (λ x. d * bit_value (literal_value x on))
Stage_down f g bits moved next on fill d fits is_moved same grows are = record {
  width = are.count ∙ same;
  within = are.within;
  is = λ x all.
      ap (λ (ys : List Bool). number_of (map (differs (literal_value x fill)) ys)) (are.is x all)
      ∙ down_or_same (literal_value x on) (literal_value x fill) (map (literal_value x) moved) (map (literal_value x) bits) d
      (ap (λ (m : List Literal). turned_value (literal_value x fill) m x) is_moved ∙ turned_value-moved x d fill bits fits);
}

quotients : (a j k : ℕ) → a / 2 ^ j / 2 ^ k ≡ a / 2 ^ (j + k)
unfolding logical_shift
quotients a j k = logical_shift-logical_shift a j k

pub Down_more : (f g : Form) (a count bits next : List Literal) (on fill : Literal) (k d : ℕ) → length count ≡ k → d ≡ 2 ^ k → GrowsFreely f g → IsShiftedDown f a fill bits (λ x. value_of count x) → IsShiftedDown g bits fill next (λ x. d * bit_value (literal_value x on)) → IsShiftedDown g a fill next (λ x. value_of (count ++ on ∷ []) x)
Down_more f g a count bits next on fill k d place distance grows so_far is_next = record {
  width = is_next.width ∙ so_far.width;
  within = is_next.within;
  is = λ x all.
      let more : value_of count x + d * bit_value (literal_value x on) ≡ value_of (count ++ on ∷ []) x =
      ap (λ (n : ℕ). value_of count x + n * bit_value (literal_value x on)) (distance ∙ sym (ap (λ (n : ℕ). 2 ^ n) place)) ∙ sym (value_of-push x count on) in
      is_next.is x all
      ∙ ap (λ (n : ℕ). n / 2 ^ (d * bit_value (literal_value x on))) (so_far.is x (front grows x all))
      ∙ quotients (turned_value (literal_value x fill) a x) (value_of count x) (d * bit_value (literal_value x on))
      ∙ ap (λ (n : ℕ). turned_value (literal_value x fill) a x / 2 ^ n) more;
}

-- ---- distances

pub distance_is : (k : ℕ) → k < 6 → 1 * 2 ^ k % 18446744073709551616 ≡ 2 ^ k
distance_is k small =
    let power : 2 ^ k ≤ 2 ^ 5 = pow_grows k 5 (omega arith) in
    let one : 1 * 2 ^ k ≡ 2 ^ k = omega arith in
    ap (λ (m : ℕ). m % 18446744073709551616) one ∙ mod-eq_of_lt (omega arith)

pub distance_fits : (k n w v : ℕ) → k < n → n ≤ 6 → 2 ^ (n - 1) ≤ w → v ≡ w → 1 * 2 ^ k % 18446744073709551616 ≤ v
distance_fits k n w v below few least same =
    let power : 2 ^ k ≤ 2 ^ (n - 1) = pow_grows k (n - 1) (omega arith) in
    omega (arith, distance_is k (omega arith))

pub Up_none : (f : Form) (a bits : List Literal) → bits ≡ a → IsWithin f.variables a → IsNumber f (length a) bits (λ x. left_shift (length a) (value_of a x) 0)
Up_none f a bits is within = record {
  count = ap (λ (m : List Literal). length m) is;
  within = subst (λ (m : List Literal). IsWithin f.variables m) (sym is) within;
  is = λ x all. ap (λ (m : List Literal). value_of m x) is ∙ sym (left_shift_none (length a) (value_of a x) (value_of-below x a));
}

-- ---- the three kinds

differs-false : (ys : List Bool) → map (differs false) ys ≡ ys
differs-false [] = refl
differs-false (true ∷ ys) = ap (λ (zs : List Bool). true ∷ zs) (differs-false ys)
differs-false (false ∷ ys) = ap (λ (zs : List Bool). false ∷ zs) (differs-false ys)

suc_is : (n : ℕ) → n + 1 ≡ suc n
suc_is n = omega arith

pub number_of-turned : (ys : List Bool) → number_of (map (differs true) ys) + number_of ys + 1 ≡ 2 ^ length ys
number_of-turned [] = refl
number_of-turned (true ∷ ys) = omega (arith, number_of-turned ys, power_more (length ys), ap (λ (n : ℕ). 2 ^ n) (suc_is (length ys)))
number_of-turned (false ∷ ys) = omega (arith, number_of-turned ys, power_more (length ys), ap (λ (n : ℕ). 2 ^ n) (suc_is (length ys)))

pub turned_value-false : (s : Bool) (ls : List Literal) (x : ℕ → Bool) → s ≡ false → turned_value s ls x ≡ value_of ls x
turned_value-false s ls x is = ap (λ (t : Bool). number_of (map (differs t) (map (literal_value x) ls))) is ∙ ap number_of (differs-false (map (literal_value x) ls))

pub turned_value-true : (s : Bool) (ls : List Literal) (x : ℕ → Bool) → s ≡ true → turned_value s ls x + value_of ls x + 1 ≡ 2 ^ length ls
turned_value-true s ls x is =
    ap (λ (t : Bool). number_of (map (differs t) (map (literal_value x) ls)) + value_of ls x + 1) is
    ∙ number_of-turned (map (literal_value x) ls) ∙ ap (λ (n : ℕ). 2 ^ n) (length-map ls (literal_value x))

pub Shifted_up : (f : Form) (a count moved : List Literal) → IsNumber f (length a) moved (λ x. left_shift (length a) (value_of a x) (value_of count x)) → IsShifted f Left a count moved
Shifted_up f a count moved number = record { width = number.count; within = number.within; is = λ x all small. number.is x all }

pub Shifted_logical : (f g : Form) (a count moved : List Literal) (off : Literal) → IsTruth f off (λ x. false) → GrowsFreely f g → IsShiftedDown g a off moved (value_of count) → IsShifted g Logical a count moved
unfolding logical_shift
Shifted_logical f g a count moved off none grows down = record {
  width = down.width;
  within = down.within;
  is = λ x all small.
      let is_false = none.is x (front grows x all) in
      sym (turned_value-false (literal_value x off) moved x is_false) ∙ down.is x all ∙ ap (λ (n : ℕ). n / 2 ^ value_of count x) (turned_value-false (literal_value x off) a x is_false);
}

top_low : (w p m k r : ℕ) (b : Bool) → b ≡ false → 1 ≤ w → p ≡ 2 ^ (w - 1) → m < p → k < w → r ≡ (m + p * bit_value b) / 2 ^ k → r ≡ arithmetic_shift w (m + p * bit_value b) k
unfolding logical_shift
top_low w p m k r b off positive place below small is =
    let small_a : m + p * bit_value b < 2 ^ (w - 1) = omega (arith, ap (λ (n : ℕ). p * n) (ap bit_value off)) in
    is ∙ sym (arithmetic_shift_low w (m + p * bit_value b) k small small_a)

top_high : (w p m k r t u : ℕ) (b : Bool) → b ≡ true → 1 ≤ w → p ≡ 2 ^ (w - 1) → m < p → k < w → t + r + 1 ≡ 2 ^ w → u + (m + p * bit_value b) + 1 ≡ 2 ^ w → t ≡ u / 2 ^ k → r ≡ arithmetic_shift w (m + p * bit_value b) k
unfolding logical_shift word_complement
top_high w p m k r t u b on positive place below small turned_r turned_a is =
    let a = m + p * bit_value b in
    let twice = pow_doubled w positive in
    let one : p * bit_value b ≡ p * 1 = ap (λ (n : ℕ). p * n) (ap bit_value on) in
    let complement : u ≡ 2 ^ w - 1 - a = omega arith in
    let shifted_complement : t ≡ (2 ^ w - 1 - a) / 2 ^ k = is ∙ ap (λ (n : ℕ). n / 2 ^ k) complement in
    omega (arith, shifted_complement) ∙ sym (arithmetic_shift_high w a k small (omega arith) (omega arith))

by_sign : (b : Bool) (w p m k r a t u : ℕ) → 1 ≤ w → p ≡ 2 ^ (w - 1) → m < p → k < w → a ≡ m + p * bit_value b → t ≡ u / 2 ^ k → (b ≡ true → t + r + 1 ≡ 2 ^ w) → (b ≡ true → u + a + 1 ≡ 2 ^ w) → (b ≡ false → t ≡ r) → (b ≡ false → u ≡ a) → r ≡ arithmetic_shift w a k
by_sign true w p m k r a t u positive place below small number is high_r high_a low_r low_a =
    top_high w p m k r t u true refl positive place below small (high_r refl) (ap (λ (n : ℕ). u + n + 1) (sym number) ∙ high_a refl) is
    ∙ ap (λ (n : ℕ). arithmetic_shift w n k) (sym number)
by_sign false w p m k r a t u positive place below small number is high_r high_a low_r low_a =
    top_low w p m k r false refl positive place below small (sym (low_r refl) ∙ is ∙ ap (λ (n : ℕ). n / 2 ^ k) (low_a refl ∙ number))
    ∙ ap (λ (n : ℕ). arithmetic_shift w n k) (sym number)

pub Shifted_arithmetic : (g : Form) (low count moved : List Literal) (top : Literal) → IsShiftedDown g (low ++ top ∷ []) top moved (value_of count) → IsShifted g Arithmetic (low ++ top ∷ []) count moved
Shifted_arithmetic g low count moved top down = record {
  width = down.width;
  within = down.within;
  is = λ x all small.
      let a : List Literal = low ++ top ∷ [] in
      let w = length a in
      let width : w ≡ length low + 1 = length-push low top in
      let place : 2 ^ length low ≡ 2 ^ (w - 1) = ap (λ (n : ℕ). 2 ^ n) (omega arith) in
      let number : value_of a x ≡ value_of low x + 2 ^ length low * bit_value (literal_value x top) = value_of-push x low top in
      by_sign (literal_value x top) w (2 ^ length low) (value_of low x) (value_of count x) (value_of moved x) (value_of a x) (turned_value (literal_value x top) moved x) (turned_value (literal_value x top) a x)
      (omega arith) place (value_of-below x low) small number (down.is x all)
      (λ on. turned_value-true (literal_value x top) moved x on ∙ ap (λ (n : ℕ). 2 ^ n) down.width)
      (λ on. turned_value-true (literal_value x top) a x on)
      (λ off. turned_value-false (literal_value x top) moved x off)
      (λ off. turned_value-false (literal_value x top) a x off);
}

-- ---- the bits of a number

odd_bit : (n : ℕ) → bit_value (nat_eq (n % 2) 1) ≡ n % 2
odd_bit n = grind (arith, nat_tests)

differs-of_false : (b c : Bool) → c ≡ false → differs b c ≡ b
differs-of_false true c is = ap not is
differs-of_false false c is = is

digits_more : (p q v b n whole : ℕ) → q ≡ 2 * p → b ≡ n % 2 → v + p * n ≡ whole → (v + p * b) + q * (n / 2) ≡ whole
digits_more p q v b n whole double odd is =
    let parts : n ≡ n % 2 + 2 * (n / 2) = omega arith in
    let scaled : p * n ≡ p * (n % 2) + 2 * p * (n / 2) = ap (λ (m : ℕ). p * m) parts ∙ grind arith in
    (λ k. (v + p * odd k) + double k * (n / 2)) ∙ omega (arith, scaled) ∙ is

pub Digit_more : (bits : List Literal) (off digit : Literal) (counter rest value : ℕ) (x : ℕ → Bool) → length bits ≡ counter → literal_value x off ≡ false → literal_value x digit ≡ differs (nat_eq (rest % 2) 1) (literal_value x off) → value_of bits x + 2 ^ counter * rest ≡ value → value_of (bits ++ digit ∷ []) x + 2 ^ (counter + 1) * (rest / 2) ≡ value
Digit_more bits off digit counter rest value x count none is_digit so_far =
    let bit : bit_value (literal_value x digit) ≡ rest % 2 = ap bit_value (is_digit ∙ differs-of_false (nat_eq (rest % 2) 1) (literal_value x off) none) ∙ odd_bit rest in
    let pushed : value_of (bits ++ digit ∷ []) x ≡ value_of bits x + 2 ^ counter * bit_value (literal_value x digit) =
    value_of-push x bits digit ∙ ap (λ (n : ℕ). value_of bits x + 2 ^ n * bit_value (literal_value x digit)) count in
    ap (λ (n : ℕ). n + 2 ^ (counter + 1) * (rest / 2)) pushed
    ∙ digits_more (2 ^ counter) (2 ^ (counter + 1)) (value_of bits x) (bit_value (literal_value x digit)) rest value (power_more counter) bit so_far

-- ---- any count

shifted_out : (kind : Shift) (w a k : ℕ) → a < 2 ^ w → w ≤ k → 0 ≡ shifted kind w a k
shifted_out Left w a k below out = sym (left_shift_out w a k out)
shifted_out Logical w a k below out = sym (logical_shift_out w a k below out)
shifted_out Arithmetic w a k below out = sym (arithmetic_shift_out w a k out)

pub small_power : (w : ℕ) → w < 2 ^ w
small_power zero = omega arith
small_power (suc w) = omega (arith, small_power w, power_more w, ap (λ (n : ℕ). 2 ^ n) (suc_is w))

in_or_out : (b : Bool) (w a k r s : ℕ) → b ≡ nat_lt k w → (k < w → r ≡ s) → (w ≤ k → 0 ≡ s) → (if b then r else 0) ≡ s
in_or_out true w a k r s is within out = within (grind (arith, nat_tests))
in_or_out false w a k r s is within out = out (grind (arith, nat_tests))

pub Shifted_any : (f g h : Form) (kind : Shift) (a count low width moved bits : List Literal) (off inside : Literal) (n : ℕ) → length a ≡ length count → n ≤ length count → length a ≤ 2 ^ n → low ≡ take n count → IsTruth f off (λ x. false) → IsShifted f kind a low moved → GrowsFreely f g → IsConstant off (length a) (length a) width → IsTruth g inside (λ x. nat_lt (value_of count x) (value_of width x)) → GrowsFreely g h → IsNumber h (length moved) bits (λ x. if literal_value x inside then value_of moved x else 0) → IsNumber h (length a) bits (λ x. shifted kind (length a) (value_of a x) (value_of count x))
Shifted_any f g h kind a count low width moved bits off inside n same fits enough is_low none is_moved first is_width is_inside second is_bits = record {
  count = is_bits.count ∙ is_moved.width;
  within = is_bits.within;
  is = λ x all.
      let middle = front second x all in
      let early = front first x middle in
      let w : value_of width x ≡ length a = is_width.is x (none.is x early) (small_power (length a)) in
      let test : literal_value x inside ≡ nat_lt (value_of count x) (length a) = is_inside.is x middle ∙ ap (nat_lt (value_of count x)) w in
      let low_count : value_of count x < length a → value_of low x ≡ value_of count x =
      λ small. ap (λ (m : List Literal). value_of m x) is_low ∙ value_of-take x n count fits ∙ mod-eq_of_lt (omega arith) in
      is_bits.is x all
      ∙ in_or_out (literal_value x inside) (length a) (value_of a x) (value_of count x) (value_of moved x) (shifted kind (length a) (value_of a x) (value_of count x)) test
      (λ small. is_moved.is x early (omega (arith, low_count small)) ∙ ap (shifted kind (length a) (value_of a x)) (low_count small))
      (λ out. shifted_out kind (length a) (value_of a x) (value_of count x) (value_of-below x a) out);
}
