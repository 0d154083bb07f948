-- Tests of places, as they are made and as the graph grows.
use Rattle.std.proofs.Common.{◌≡◌, ℕ, ◌+◌, ◌*◌, ◌/◌, ◌%◌, ◌^◌, ◌<◌, ◌≤◌, Bool, true, false, List, [], ◌∷◌, ◌++◌, length, get_or, inl, inr, refl, sym, ap, subst, ◌∙◌, arith, nat_lt}
use Rattle.std.specs.Prelude.{◌==◌, ◌&&◌, ◌||◌, All}
use Rattle.std.proofs.lemmas.Nat.{one_shl, div-add-mod', mul-le}
use Rattle.std.proofs.lemmas.Bool.{cases_lt}
use Rattle.std.proofs.lemmas.Bool.Decides.{nat_tests}
use Rattle.std.proofs.lemmas.List.{length_push}
use Rattle.std.proofs.lemmas.List.Elements.{All-push}
use Rattle.words.specs.Operators.{low_bits}
use Rattle.word_dag.specs.declared.nodes.Id.{Id}
use Rattle.word_dag.specs.declared.nodes.Node.{Node}
use Rattle.word_dag.specs.Meaning.{value, bit_value}
use Rattle.word_dag.specs.Growth.{Within, Extends}
use Rattle.word_dag.proofs.Grown.{extends_itself, extends_more, within_stays}
use Rattle.value_nodes.specs.Values.{IsWord, IsTest}
use Rattle.value_nodes.proofs.Made.{word_stays}
use Rattle.byte_ops.specs.declared.low_bits.LowBits.{LowBits}
use Rattle.byte_ops.specs.declared.places.PlaceTest.{PlaceTest}
use Rattle.byte_ops.specs.declared.places.TestedOffset.{TestedOffset}
use Rattle.byte_ops.specs.Known.{AreKnown}
use Rattle.byte_ops.specs.Tests.{IsPlaceTest, is_tested, IsTestedOffset}

pub same_numbers : (m n : ℕ) → (m == n) ≡ true → m ≡ n
same_numbers m n h = grind (arith, nat_tests)

pub equal_numbers : (m n : ℕ) → m ≡ n → (m == n) ≡ true
equal_numbers m n h = grind (arith, nat_tests)

pub below_is : (m n : ℕ) → m < n → nat_lt m n ≡ true
below_is m n h = grind (arith, nat_tests)

pub is_below : (m n : ℕ) → nat_lt m n ≡ true → m < n
is_below m n h = grind (arith, nat_tests)

pub not_below : (m n : ℕ) → n ≤ m → nat_lt m n ≡ false
not_below m n h = grind (arith, nat_tests)

pub both_true : (a b : Bool) → a ≡ true → b ≡ true → (a && b) ≡ true
both_true a b p q = λ i. p i && q i

pub second_true : (a b : Bool) → (a && b) ≡ true → b ≡ true
second_true true b h = h
second_true false b h = cc

pub first_true : (a b : Bool) → (a && b) ≡ true → a ≡ true
first_true true b h = refl
first_true false b h = cc

left_or : (a b : Bool) → a ≡ true → (a || b) ≡ true
left_or a b h = ap (λ c. c || b) h

right_or : (a b : Bool) → b ≡ true → (a || b) ≡ true
right_or true b h = refl
right_or false b h = h

or_assoc : (a b c : Bool) → (a || (b || c)) ≡ ((a || b) || c)
or_assoc true b c = refl
or_assoc false b c = refl

or_none : (a : Bool) → (a || false) ≡ a
or_none true = refl
or_none false = refl

-- one test more
pub tested_push : (limit : ℕ) (ts : List PlaceTest) (t : PlaceTest) (x : ℕ) → is_tested limit (ts ++ t ∷ []) x ≡ (is_tested limit ts x || (nat_lt t.at limit && (x == t.at)))
tested_push limit [] t x = or_none (nat_lt t.at limit && (x == t.at))
tested_push limit (s ∷ ts) t x =
    ap (λ b. (nat_lt s.at limit && (x == s.at)) || b) (tested_push limit ts t x) ∙ or_assoc (nat_lt s.at limit && (x == s.at)) (is_tested limit ts x) (nat_lt t.at limit && (x == t.at))

kept_below : (size limit : ℕ) (t : PlaceTest) (x : ℕ) (a b rest more : Bool) → nat_lt t.at size ≡ a → (x == t.at) ≡ b → x < limit → ((a && b) || rest) ≡ true → (rest ≡ true → more ≡ true) → ((nat_lt t.at limit && (x == t.at)) || more) ≡ true
kept_below size limit t x true true rest more p q lt h later =
    let same : x ≡ t.at = same_numbers x t.at q in
    left_or (nat_lt t.at limit && (x == t.at)) more (both_true (nat_lt t.at limit) (x == t.at) (below_is t.at limit (omega (arith, same, lt))) q)
kept_below size limit t x false true rest more p q lt h later = right_or (nat_lt t.at limit && (x == t.at)) more (later h)
kept_below size limit t x true false rest more p q lt h later = right_or (nat_lt t.at limit && (x == t.at)) more (later h)
kept_below size limit t x false false rest more p q lt h later = right_or (nat_lt t.at limit && (x == t.at)) more (later h)

-- a tested place that is below another limit
pub tested_below : (size limit : ℕ) (ts : List PlaceTest) (x : ℕ) → is_tested size ts x ≡ true → x < limit → is_tested limit ts x ≡ true
tested_below size limit [] x h lt = cc
tested_below size limit (t ∷ ts) x h lt =
    kept_below size limit t x (nat_lt t.at size) (x == t.at) (is_tested size ts x) (is_tested limit ts x) refl refl lt h (λ later. tested_below size limit ts x later lt)

-- ---- as the graph grows

pub test_stays : (d e : List Node) (offset : Id) (t : PlaceTest) → Extends d e → Within d offset → IsPlaceTest d offset t → IsPlaceTest e offset t
test_stays d e offset t x there test = record {
  there = within_stays d e t.test x test.there;
  width_is = x.width_stays t.test test.there ∙ test.width_is;
  value_is = λ v. x.value_stays v t.test test.there ∙ test.value_is v ∙ sym (ap (λ n. bit_value (n == t.at)) (x.value_stays v offset there));
}

pub tests_stay : (d e : List Node) (offset : Id) (ts : List PlaceTest) → Extends d e → Within d offset → All (IsPlaceTest d offset) ts → All (IsPlaceTest e offset) ts
tests_stay d e offset ts x there all = λ k t l. test_stays d e offset (get_or ts k t) x there (all k t l)

-- ---- a test of a place

pub test_made : (d e f : List Node) (offset place : Id) (t : PlaceTest) (at : ℕ) → Extends d e → Extends e f → IsWord d offset 32 → ((v : ℕ → ℕ) → value v e place ≡ at) → t.at ≡ at → IsTest f t.test (λ v. value v e offset == value v e place)
    → IsPlaceTest f offset t
test_made d e f offset place t at x y word is same test = record {
  there = test.there;
  width_is = test.width_is;
  value_is = λ v.
      let moved = y.value_stays v offset (within_stays d e offset x word.there) in
      test.value_is v ∙ (λ i. bit_value (sym moved i == is v i)) ∙ (λ i. bit_value (value v f offset == sym same i));
}

-- ---- all places below a size

pub record Testing (d e : List Node) (offset : Id) (size : ℕ) (known : LowBits) (tests : List PlaceTest) (at : ℕ) : Type 0 where
  pub extends : Extends d e
  pub each : All (IsPlaceTest e offset) tests
  pub at_is : at ≡ length tests * 2 ^ known.count + known.bits
  pub whole : (q : ℕ) → q < length tests → is_tested size tests (q * 2 ^ known.count + known.bits) ≡ true

pub testing_none : (d : List Node) (offset : Id) (size : ℕ) (known : LowBits) (tests : List PlaceTest) (at : ℕ) → tests ≡ [] → at ≡ known.bits → Testing d d offset size known tests at
testing_none d offset size known tests at none is = record {
  extends = extends_itself d;
  each = subst (All (IsPlaceTest d offset)) (sym none) (λ k t l. absurd (omega (arith, l)));
  at_is = is ∙ (let plain : known.bits ≡ 0 * 2 ^ known.count + known.bits = omega arith in plain) ∙ (λ i. length (sym none i) * 2 ^ known.count + known.bits);
  whole = λ q l. absurd (omega (arith, l, ap length none));
}

pub testing_more : (d e f : List Node) (offset : Id) (size : ℕ) (known : LowBits) (tests more : List PlaceTest) (t : PlaceTest) (at next step : ℕ) → Within d offset → Testing d e offset size known tests at → at < size → Extends e f → IsPlaceTest f offset t
    → t.at ≡ at → more ≡ tests ++ t ∷ [] → step ≡ (1 * 2 ^ known.count) % 2 ^ 64 → known.count ≤ 16 → next ≡ at + step → Testing d f offset size known more next
testing_more d e f offset size known tests more t at next step there old less x test same is step_is few next_is =
    let m = 2 ^ known.count in
    let b = known.bits in
    let long : length more ≡ length tests + 1 = ap length is ∙ length_push tests t in
    let stepped : step ≡ m = step_is ∙ one_shl known.count 64 (omega (arith, few)) in
    let split : (length tests + 1) * m ≡ length tests * m + m = grind arith in
    record {
      extends = extends_more d e f old.extends x;
      each = subst (All (IsPlaceTest f offset)) (sym is) (All-push (IsPlaceTest f offset) tests t (tests_stay e f offset tests x (within_stays d e offset old.extends there) old.each) test);
      at_is = omega (arith, next_is, old.at_is, stepped, split, ap (λ n. n * m) long);
      whole = λ q l.
          let pushed = ap (λ ts. is_tested size ts (q * m + b)) is ∙ tested_push size tests t (q * m + b) in
          elim (cases_lt q (length tests)) [
            | inl before ↦ pushed ∙ left_or (is_tested size tests (q * m + b)) (nat_lt t.at size && ((q * m + b) == t.at)) (old.whole q before)
            | inr after ↦ (let last : q ≡ length tests = omega (arith, after, l, long) in
                let place : q * m + b ≡ t.at = ap (λ n. n * m + b) last ∙ sym old.at_is ∙ sym same in
                pushed ∙ right_or (is_tested size tests (q * m + b)) (nat_lt t.at size && ((q * m + b) == t.at)) (both_true (nat_lt t.at size) ((q * m + b) == t.at) (below_is t.at size (omega (arith, same, less))) (equal_numbers (q * m + b) t.at place)))
          ];
    }

-- the number of a place among those with the same low bits
place_number : (m b n x size at : ℕ) → x % m ≡ b → at ≡ n * m + b → size ≤ at → x < size → x / m < n
place_number m b n x size at low at_is end less =
    elim (cases_lt (x / m) n) [
      | inl before ↦ before
      | inr after ↦ absurd (omega (arith, low, at_is, end, less, div-add-mod' x m, mul-le n m (x / m) m after (omega arith)))
    ]

-- low bits are known, and places are passed by so many
pub record Passing (d e : List Node) (offset : Id) (size step : ℕ) (tests : List PlaceTest) (at : ℕ) : Type 0 where
  pub known : LowBits
  pub low : AreKnown d offset known
  pub step_is : step ≡ (1 * 2 ^ known.count) % 2 ^ 64
  pub testing : Testing d e offset size known tests at

pub passing_more : (d e f : List Node) (offset : Id) (size step : ℕ) (tests more : List PlaceTest) (t : PlaceTest) (at next : ℕ) → Within d offset → Passing d e offset size step tests at → at < size → Extends e f → IsPlaceTest f offset t → t.at ≡ at → more ≡ tests ++ t ∷ []
    → next ≡ at + step → Passing d f offset size step more next
passing_more d e f offset size step tests more t at next there old less x test same is next_is = record {
  known = old.known;
  low = old.low;
  step_is = old.step_is;
  testing = testing_more d e f offset size old.known tests more t at next step there old.testing less x test same is old.step_is old.low.few next_is;
}

pub offset_made : (d e : List Node) (offset : Id) (size : ℕ) (known : LowBits) (tests : List PlaceTest) (at : ℕ) (o : TestedOffset) → IsWord d offset 32 → AreKnown d offset known → Testing d e offset size known tests at → size ≤ at → o.offset ≡ offset
    → o.size ≡ size → o.tests.items ≡ tests → IsTestedOffset e o
unfolding low_bits
offset_made d e offset size known tests at o word low all end offset_is size_is tests_are = record {
  offset = subst (λ i. IsWord e i 32) (sym offset_is) (word_stays d e offset 32 all.extends word);
  each = subst (All (IsPlaceTest e o.offset)) (sym tests_are) (subst (λ i. All (IsPlaceTest e i) tests) (sym offset_is) all.each);
  whole = λ v less.
      let x = value v e o.offset in
      let m = 2 ^ known.count in
      let same : x ≡ value v d offset = ap (value v e) offset_is ∙ all.extends.value_stays v offset word.there in
      let rest : x % m ≡ known.bits = ap (λ n. n % m) same ∙ low.same v in
      let q = place_number m known.bits (length tests) x size at rest all.at_is end (omega (arith, less, size_is)) in
      let split : x ≡ x / m * m + known.bits = omega (arith, div-add-mod' x m, rest) in
      (λ i. is_tested (size_is i) (tests_are i) x) ∙ ap (is_tested size tests) split ∙ all.whole (x / m) q;
}
