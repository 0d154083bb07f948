-- The steps of comparisons, from the lowest bit up.
use Rattle.std.proofs.Common.{◌≡◌, ℕ, ◌+◌, ◌-◌, ◌*◌, ◌^◌, ◌<◌, ◌≤◌, Bool, true, false, not, ◌&&◌, nat_eq, nat_lt, List, [], ◌∷◌, ◌++◌, length, refl, sym, ap, ◌∙◌, arith}
use Rattle.std.specs.Prelude.{if◌then◌else◌}
use Rattle.std.proofs.lemmas.Bool.Decides.{nat_tests}
use Rattle.sat_form.specs.Satisfaction.{Literal, Form, literal_value, inverse_of}
use Rattle.sat_form.specs.Numbers.{bit_value, value_of}
use Rattle.sat_form.proofs.Numbering.{value_of-below}
use Rattle.sat_form.proofs.Truth.{literal_value-inverse_of}
use Rattle.words.specs.Operators.{signed_lt}
use Rattle.words.proofs.Powers.{pow_doubled}
use Rattle.words.proofs.Signed.{signed_value_low, signed_value_high}
use Rattle.gate_bits.specs.Growth.{GrowsFreely}
use Rattle.gate_bits.specs.Truth.{IsTruth, differs, most}
use Rattle.gate_bits.proofs.Growing.{front}
use Rattle.gate_bits.proofs.Adding.{value_of-push}

-- ---- one bit more

equal_more : (p m n : ℕ) (u v : Bool) → m < p → n < p → nat_eq (m + p * bit_value u) (n + p * bit_value v) ≡ (nat_eq m n && not (differs u v))
equal_more p m n true true a b = grind (arith, nat_tests)
equal_more p m n true false a b = grind (arith, nat_tests)
equal_more p m n false true a b = grind (arith, nat_tests)
equal_more p m n false false a b = grind (arith, nat_tests)

less_more : (p m n : ℕ) (u v : Bool) → m < p → n < p → nat_lt (m + p * bit_value u) (n + p * bit_value v) ≡ most (not u) v (nat_lt m n)
less_more p m n true true a b = grind (arith, nat_tests)
less_more p m n true false a b = grind (arith, nat_tests)
less_more p m n false true a b = grind (arith, nat_tests)
less_more p m n false false a b = grind (arith, nat_tests)

signed_more : (w p m n : ℕ) (u v : Bool) → 1 ≤ w → p ≡ 2 ^ (w - 1) → m < p → n < p → signed_lt w (m + p * bit_value u) (n + p * bit_value v) ≡ most (not v) u (nat_lt m n)
unfolding signed_lt
signed_more w p m n true true h e a b =
    let twice = pow_doubled w h in
    rw (signed_value_high w (m + p * 1) (omega arith) (omega (arith, twice)), signed_value_high w (n + p * 1) (omega arith) (omega (arith, twice))) (grind (arith, nat_tests))
signed_more w p m n true false h e a b =
    let twice = pow_doubled w h in
    rw (signed_value_high w (m + p * 1) (omega arith) (omega (arith, twice)), signed_value_low w (n + p * 0) (omega arith)) refl
signed_more w p m n false true h e a b =
    let twice = pow_doubled w h in
    rw (signed_value_low w (m + p * 0) (omega arith), signed_value_high w (n + p * 1) (omega arith) (omega (arith, twice))) refl
signed_more w p m n false false h e a b =
    rw (signed_value_low w (m + p * 0) (omega arith), signed_value_low w (n + p * 0) (omega arith)) (grind (arith, nat_tests))

-- ---- lists of literals

below_at : (v : ℕ → Bool) (p q : List Literal) → length p ≡ length q → value_of q v < 2 ^ length p
below_at v p q same = let below : value_of q v < 2 ^ length q = value_of-below v q in omega (arith, below, ap (λ (n : ℕ). 2 ^ n) same)

push_at : (v : ℕ → Bool) (p q : List Literal) (y : Literal) → length p ≡ length q → value_of (q ++ y ∷ []) v ≡ value_of q v + 2 ^ length p * bit_value (literal_value v y)
push_at v p q y same = value_of-push v q y ∙ ap (λ (n : ℕ). value_of q v + 2 ^ n * bit_value (literal_value v y)) (sym same)

pub Equal_more : (f g h : Form) (p q : List Literal) (x y same apart other next : Literal) → length p ≡ length q → IsTruth f same (λ v. nat_eq (value_of p v) (value_of q v)) → GrowsFreely f g → IsTruth g apart (λ v. differs (literal_value v x) (literal_value v y)) → other ≡ inverse_of apart → GrowsFreely g h → IsTruth h next (λ v. literal_value v same && literal_value v other) → IsTruth h next (λ v. nat_eq (value_of (p ++ x ∷ []) v) (value_of (q ++ y ∷ []) v))
Equal_more f g h p q x y same apart other next lengths so_far first is_apart is_other second is_next = record {
  within = is_next.within;
  is = λ v all.
      let before = front second v all in
      let turned : literal_value v other ≡ not (differs (literal_value v x) (literal_value v y)) = ap (literal_value v) is_other ∙ literal_value-inverse_of v apart ∙ ap not (is_apart.is v before) in
      let low : literal_value v same ≡ nat_eq (value_of p v) (value_of q v) = so_far.is v (front first v before) in
      is_next.is v all
      ∙ (λ k. low k && turned k)
      ∙ sym (equal_more (2 ^ length p) (value_of p v) (value_of q v) (literal_value v x) (literal_value v y) (value_of-below v p) (below_at v p q lengths))
      ∙ sym (λ k. nat_eq (value_of-push v p x k) (push_at v p q y lengths k));
}

pub Less_more : (f g : Form) (p q : List Literal) (x y other below next : Literal) → length p ≡ length q → IsTruth f below (λ v. nat_lt (value_of p v) (value_of q v)) → other ≡ inverse_of x → GrowsFreely f g → IsTruth g next (λ v. most (literal_value v other) (literal_value v y) (literal_value v below)) → IsTruth g next (λ v. nat_lt (value_of (p ++ x ∷ []) v) (value_of (q ++ y ∷ []) v))
Less_more f g p q x y other below next lengths so_far is_other grows is_next = record {
  within = is_next.within;
  is = λ v all.
      let turned : literal_value v other ≡ not (literal_value v x) = ap (literal_value v) is_other ∙ literal_value-inverse_of v x in
      let low : literal_value v below ≡ nat_lt (value_of p v) (value_of q v) = so_far.is v (front grows v all) in
      is_next.is v all
      ∙ (λ k. most (turned k) (literal_value v y) (low k))
      ∙ sym (less_more (2 ^ length p) (value_of p v) (value_of q v) (literal_value v x) (literal_value v y) (value_of-below v p) (below_at v p q lengths))
      ∙ sym (λ k. nat_lt (value_of-push v p x k) (push_at v p q y lengths k));
}

abbrev pub less_by : Bool → ℕ → ℕ → ℕ → Bool
less_by signed w m n = if signed then signed_lt w m n else nat_lt m n

pub Less_top : (signed : Bool) (f g : Form) (p q : List Literal) (x y lower higher other below next : Literal) → length p ≡ length q → lower ≡ (if signed then y else x) → higher ≡ (if signed then x else y) → IsTruth f below (λ v. nat_lt (value_of p v) (value_of q v)) → other ≡ inverse_of lower → GrowsFreely f g → IsTruth g next (λ v. most (literal_value v other) (literal_value v higher) (literal_value v below)) → IsTruth g next (λ v. less_by signed (length p + 1) (value_of (p ++ x ∷ []) v) (value_of (q ++ y ∷ []) v))
Less_top false f g p q x y lower higher other below next lengths is_lower is_higher so_far is_other grows is_next =
    Less_more f g p q x y other below next lengths so_far (is_other ∙ ap inverse_of is_lower) grows
    (record { within = is_next.within; is = λ v all. is_next.is v all ∙ ap (λ (h : Literal). most (literal_value v other) (literal_value v h) (literal_value v below)) is_higher })
Less_top true f g p q x y lower higher other below next lengths is_lower is_higher so_far is_other grows is_next = record {
  within = is_next.within;
  is = λ v all.
      let turned : literal_value v other ≡ not (literal_value v y) = ap (literal_value v) (is_other ∙ ap inverse_of is_lower) ∙ literal_value-inverse_of v y in
      let low : literal_value v below ≡ nat_lt (value_of p v) (value_of q v) = so_far.is v (front grows v all) in
      let place : 2 ^ length p ≡ 2 ^ (length p + 1 - 1) = ap (λ (n : ℕ). 2 ^ n) (omega arith) in
      is_next.is v all
      ∙ (λ k. most (turned k) (literal_value v (is_higher k)) (low k))
      ∙ sym (signed_more (length p + 1) (2 ^ length p) (value_of p v) (value_of q v) (literal_value v x) (literal_value v y) (omega arith) place (value_of-below v p) (below_at v p q lengths))
      ∙ sym (λ k. signed_lt (length p + 1) (value_of-push v p x k) (push_at v p q y lengths k));
}
