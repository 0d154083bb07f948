-- Checks as nodes.
use Rattle.std.proofs.Common.{◌≡◌, ◌<◌, ◌≤◌, ◌-◌, ◌^◌, ℕ, Bool, true, false, not, ◌&&◌, ◌||◌, nat_lt, List, Some, None, refl, sym, ◌∙◌, ap, subst, arith, lit≤, inl, inr}
use Rattle.std.specs.Prelude.{◌==◌, pos, int_le, int_lt, is_some, if◌then◌else◌}
use Rattle.std.proofs.lemmas.Bool.{cases_lt}
use Rattle.std.proofs.lemmas.Bool.Decides.{nat_tests}
use Rattle.words.specs.declared.check.Class.{Class}
use Rattle.words.specs.declared.check.Class.TheVariants as classes
use Rattle.words.specs.BitVector.{signed_value}
use Rattle.words.specs.Operators.{left_shift_fits, word_negation, word_complement}
use Rattle.words.proofs.Signed.{signed_value_low, signed_value_high}
use Rattle.c_types.specs.declared.integers.IntegerType.{IntegerType}
use Rattle.c_types.specs.declared.integers.IntegerType.TheVariants as types
use Rattle.c_types.specs.Integers.{width as type_width, is_signed}
use Rattle.core_tree.specs.Operations.{number, unless, count_check, left_shift_check, division_check, overflows}
use Rattle.word_dag.specs.declared.nodes.Id.{Id}
use Rattle.word_dag.specs.declared.nodes.Node.{Node}
use Rattle.word_dag.specs.declared.nodes.Node.TheVariants.{Fits}
use Rattle.word_dag.specs.declared.nodes.FitsTest.TheVariants.{LeftShift}
use Rattle.word_dag.specs.Meaning.{width, value, holds, bit_value}
use Rattle.word_dag.specs.Fitting.{is_ordered}
use Rattle.word_dag.specs.Growth.{Extends, Makes}
use Rattle.word_dag.proofs.Truth.{holds_bit}
use Rattle.value_nodes.specs.Values.{IsWord, IsTest}
use Rattle.value_nodes.proofs.Made.{word_below, inverse_of_test}

pub same_test : (d : List Node) (i : Id) (f g : (ℕ → ℕ) → Bool) → IsTest d i f → ((v : ℕ → ℕ) → f v ≡ g v) → IsTest d i g
same_test d i f g test same = record { there = test.there; width_is = test.width_is; value_is = λ v. test.value_is v ∙ ap bit_value (same v) }

breaks_unless : (holds : Bool) (c : Class) → not holds ≡ is_some (unless holds c)
breaks_unless true c = refl
breaks_unless false c = refl

-- ---- counts

wide : (u : IntegerType) → 64 ≤ 2 ^ (type_width u - 1)
wide types.Bool = lit≤ tt
wide types.Char = lit≤ tt
wide types.SignedChar = lit≤ tt
wide types.UnsignedChar = lit≤ tt
wide types.Short = lit≤ tt
wide types.UnsignedShort = lit≤ tt
wide types.Int = lit≤ tt
wide types.UnsignedInt = lit≤ tt
wide types.Long = lit≤ tt
wide types.UnsignedLong = lit≤ tt
wide types.LongLong = lit≤ tt
wide types.UnsignedLongLong = lit≤ tt

plain_count : (b w : ℕ) → nat_lt b w ≡ (int_le (pos 0) (pos b) && int_lt (pos b) (pos w))
plain_count b w = grind (arith, nat_tests)

far_count : (b w m : ℕ) → w ≤ 64 → 64 ≤ m → m ≤ b → nat_lt b w ≡ false
far_count b w m small big above = grind (arith, nat_tests)

number_count : (s : Bool) (v b w : ℕ) → b < 2 ^ v → w ≤ 64 → 64 ≤ 2 ^ (v - 1) → nat_lt b w ≡ (int_le (pos 0) (if s then signed_value v b else pos b) && int_lt (if s then signed_value v b else pos b) (pos w))
number_count false v b w below small big = plain_count b w
number_count true v b w below small big =
    elim (cases_lt b (2 ^ (v - 1))) [
      | inl p ↦ rw (signed_value_low v b p) (plain_count b w)
      | inr q ↦ rw (signed_value_high v b q below) (far_count b w (2 ^ (v - 1)) small big q)
    ]

count_in_range : (u : IntegerType) (b w : ℕ) → b < 2 ^ type_width u → w ≤ 64 → nat_lt b w ≡ (int_le (pos 0) (number u b) && int_lt (number u b) (pos w))
count_in_range u b w below small = number_count (is_signed u) (type_width u) b w below small (wide u)

pub made_count : (d e f : List Node) (t u : IntegerType) (w : ℕ) (count small i : Id) → w ≡ type_width t → w ≤ 64 → is_ordered d ≡ true → IsWord d count (type_width u)
    → IsTest e small (λ v. nat_lt (value v d count) w) → IsTest f i (λ v. not (holds (value v e small))) → IsTest f i (λ v. is_some (count_check t u (value v d count)))
made_count d e f t u w count small i same few ordered word test made =
    same_test f i (λ v. not (nat_lt (value v d count) w)) (λ v. is_some (count_check t u (value v d count)))
    (inverse_of_test e f small i (λ v. nat_lt (value v d count) w) test made)
    (λ v. let c = value v d count in
    ap not (count_in_range u c w (word_below v d count (type_width u) ordered word) few)
    ∙ (λ k. not (int_le (pos 0) (number u c) && int_lt (number u c) (pos (same k))))
    ∙ breaks_unless (int_le (pos 0) (number u c) && int_lt (number u c) (pos (type_width t))) classes.Shift)

-- ---- left shifts

fits_low : (b : Bool) (w a c low : ℕ) → b ≡ nat_lt c w → (c < w → low ≡ c) → (b && left_shift_fits w a low) ≡ (b && left_shift_fits w a c)
fits_low true w a c low is same = ap (left_shift_fits w a) (same (grind (arith, nat_tests)))
fits_low false w a c low is same = refl

signed_fits : (s b fits : Bool) → s ≡ true → not (b && fits) ≡ is_some (unless (b && (not s || fits)) classes.Shift)
signed_fits true true true h = refl
signed_fits true true false h = refl
signed_fits true false fits h = refl
signed_fits false b fits h = cc

-- what the nodes of a left shift's check say of values
pub left_by_values : (t u : IntegerType) (w a c low : ℕ) → w ≡ type_width t → w ≤ 64 → is_signed t ≡ true → c < 2 ^ type_width u → (c < w → low ≡ c)
    → not (nat_lt c w && left_shift_fits (type_width t) a low) ≡ is_some (left_shift_check t u a c)
left_by_values t u w a c low same few signed below is =
    ap not (ap (λ (x : ℕ). nat_lt c w && left_shift_fits x a low) (sym same) ∙ fits_low (nat_lt c w) w a c low refl is)
    ∙ (λ k. not (count_in_range u c w below few k && left_shift_fits w a c))
    ∙ (λ k. not ((int_le (pos 0) (number u c) && int_lt (number u c) (pos (same k))) && left_shift_fits (same k) a c))
    ∙ signed_fits (is_signed t) (int_le (pos 0) (number u c) && int_lt (number u c) (pos (type_width t))) (left_shift_fits (type_width t) a c) signed

pub made_left : (d d1 d2 d3 d4 d5 : List Node) (t u : IntegerType) (w : ℕ) (a count small low within well i : Id)
    → w ≡ type_width t → w ≤ 64 → is_signed t ≡ true → is_ordered d ≡ true → IsWord d a (type_width t) → IsWord d count (type_width u)
    → Extends d d1 → Extends d1 d2 → Extends d2 d3
    → IsTest d1 small (λ v. nat_lt (value v d count) w) → ((v : ℕ → ℕ) → value v d1 count < w → value v d2 low ≡ value v d1 count)
    → Makes d2 d3 (Fits LeftShift a low) within → IsTest d4 well (λ v. holds (value v d3 small) && holds (value v d3 within)) → IsTest d5 i (λ v. not (holds (value v d4 well)))
    → IsTest d5 i (λ v. is_some (left_shift_check t u (value v d a) (value v d count)))
made_left d d1 d2 d3 d4 d5 t u w a count small low within well i same few signed ordered word other x y z test is m both made =
    same_test d5 i (λ v. not (holds (value v d3 small) && holds (value v d3 within))) (λ v. is_some (left_shift_check t u (value v d a) (value v d count)))
    (inverse_of_test d4 d5 well i (λ v. holds (value v d3 small) && holds (value v d3 within)) both made)
    (λ v.
    let first : holds (value v d3 small) ≡ nat_lt (value v d count) w =
    ap holds (z.value_stays v small (omega (arith, y.longer, test.there)) ∙ y.value_stays v small test.there ∙ test.value_is v) ∙ holds_bit (nat_lt (value v d count) w) in
    let wide_a : width d2 a ≡ type_width t = y.width_stays a (omega (arith, x.longer, word.there)) ∙ x.width_stays a word.there ∙ word.width_is in
    let same_a : value v d2 a ≡ value v d a = y.value_stays v a (omega (arith, x.longer, word.there)) ∙ x.value_stays v a word.there in
    let second : holds (value v d3 within) ≡ left_shift_fits (type_width t) (value v d a) (value v d2 low) =
    ap holds (m.value_is v ∙ (λ k. bit_value (left_shift_fits (wide_a k) (same_a k) (value v d2 low)))) ∙ holds_bit (left_shift_fits (type_width t) (value v d a) (value v d2 low)) in
    let count_same : value v d1 count ≡ value v d count = x.value_stays v count other.there in
    (λ k. not (first k && second k))
    ∙ left_by_values t u w (value v d a) (value v d count) (value v d2 low) same few signed (word_below v d count (type_width u) ordered other)
    (λ h. is v (subst (λ (n : ℕ). n < w) (sym count_same) h) ∙ count_same))

-- ---- quotients

least_by_minus_one : (z x y p s : Bool) → s ≡ true
    → ((x && y) && (p && not z)) ≡ is_some (if z then None else (if z then Some classes.Division else overflows s (not (x && y && p))))
least_by_minus_one true true true true s h = refl
least_by_minus_one true true true false s h = refl
least_by_minus_one true true false p s h = refl
least_by_minus_one true false y p s h = refl
least_by_minus_one false true true true true h = refl
least_by_minus_one false true true true false h = cc
least_by_minus_one false true true false true h = refl
least_by_minus_one false true true false false h = refl
least_by_minus_one false true false p true h = refl
least_by_minus_one false true false p false h = refl
least_by_minus_one false false y p true h = refl
least_by_minus_one false false y p false h = refl

pub made_quotient : (d d1 d2 d3 : List Node) (t : IntegerType) (w : ℕ) (a b least minus i : Id) → w ≡ type_width t → is_signed t ≡ true → IsWord d b (type_width t) → Extends d d1 → Extends d1 d2
    → IsTest d1 least (λ v. (value v d a == word_negation w (value v d a)) && not (value v d a == 0))
    → IsTest d2 minus (λ v. (value v d1 b == word_complement w 0) && not (value v d1 b == 0))
    → IsTest d3 i (λ v. holds (value v d2 least) && holds (value v d2 minus))
    → IsTest d3 i (λ v. is_some (if value v d b == 0 then None else division_check t (value v d a) (value v d b)))
made_quotient d d1 d2 d3 t w a b least minus i same signed word x y first second made =
    same_test d3 i (λ v. holds (value v d2 least) && holds (value v d2 minus)) (λ v. is_some (if value v d b == 0 then None else division_check t (value v d a) (value v d b))) made
    (λ v.
    let A = value v d a in
    let same_b : value v d1 b ≡ value v d b = x.value_stays v b word.there in
    let one : holds (value v d2 least) ≡ ((A == word_negation w A) && not (A == 0)) =
    ap holds (y.value_stays v least first.there ∙ first.value_is v) ∙ holds_bit ((A == word_negation w A) && not (A == 0)) in
    let other : holds (value v d2 minus) ≡ ((value v d b == word_complement w 0) && not (value v d b == 0)) =
    ap holds (second.value_is v ∙ (λ k. bit_value ((same_b k == word_complement w 0) && not (same_b k == 0)))) ∙ holds_bit ((value v d b == word_complement w 0) && not (value v d b == 0)) in
    (λ k. one k && other k)
    ∙ (λ k. ((A == word_negation (same k) A) && not (A == 0)) && ((value v d b == word_complement (same k) 0) && not (value v d b == 0)))
    ∙ least_by_minus_one (value v d b == 0) (A == word_negation (type_width t) A) (not (A == 0)) (value v d b == word_complement (type_width t) 0) (is_signed t) signed)
