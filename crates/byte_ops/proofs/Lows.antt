-- Low bits of numbers, and of nodes by their operands.
use Rattle.std.proofs.Common.{◌≡◌, ℕ, ◌+◌, ◌*◌, ◌%◌, ◌^◌, ◌<◌, ◌≤◌, Bool, true, false, cond, List, get_or, sym, ap, subst, ◌∙◌, arith}
use Rattle.std.proofs.Math.Nat.{add-mod}
use Rattle.std.proofs.lemmas.Nat.{one_shl, mul-mod_first, mul-mod_second, mod_low, pow_pos}
use Rattle.words.specs.Operators.{low_bits, logical_shift, word_sum, word_product}
use Rattle.words.proofs.Powers.{pow_grows, mod-mod_narrower}
use Rattle.words.proofs.Ranges.{low_bits_below}
use Rattle.words.proofs.Widths.{low_bits_same, low_bits-low_bits}
use Rattle.word_dag.specs.declared.nodes.Id.{Id}
use Rattle.word_dag.specs.declared.nodes.Node.{Node}
use Rattle.word_dag.specs.declared.nodes.Node.TheVariants.{Constant, Binary, Choice, ZeroExtend, Cut, Join}
use Rattle.word_dag.specs.declared.nodes.BinaryOperator.{BinaryOperator}
use Rattle.word_dag.specs.Meaning.{width, widths, value, values, node_width, node_value, binary_value, holds}
use Rattle.word_dag.specs.Fitting.{is_ordered}
use Rattle.word_dag.specs.Growth.{Within, IsFitting}
use Rattle.word_dag.proofs.Bounds.{value_below}
use Rattle.word_dag.proofs.Order.{width_is_final, value_is_final}
use Rattle.rewritten_nodes.proofs.Fitted.{fitting_at}
use Rattle.value_nodes.proofs.Conversions.{unshifted}
use Rattle.byte_ops.specs.declared.low_bits.LowBits.{LowBits}
use Rattle.byte_ops.specs.Known.{IsLow, AreKnown}

-- ---- numbers

-- the code's power of 2
pub rest_of : (count n x : ℕ) → n ≡ (1 * 2 ^ count) % 2 ^ 64 → count ≤ 16 → x % n ≡ low_bits count x
unfolding low_bits
rest_of count n x is few = ap (λ m. x % m) (is ∙ one_shl count 64 (omega (arith, few)))

pub no_bits : (x : ℕ) → low_bits 0 x ≡ 0
unfolding low_bits
no_bits x = omega arith

pub low_bits_of_0 : (k : ℕ) → low_bits k 0 ≡ 0
low_bits_of_0 k = low_bits_same k 0 (pow_pos k)

pub low_bits_small : (k x : ℕ) → k ≤ 16 → low_bits k x < 2 ^ 16
low_bits_small k x few = omega (arith, low_bits_below k x, pow_grows k 16 few)

-- fewer low bits
pub fewer_bits : (l m : LowBits) (x : ℕ) → m.count ≤ l.count → m.bits ≡ low_bits m.count l.bits → IsLow l x → IsLow m x
fewer_bits l m x h bits is = sym (low_bits-low_bits m.count l.count x h) ∙ ap (low_bits m.count) is ∙ sym bits

pub sum_bits : (k f s x y : ℕ) → low_bits k x ≡ f → low_bits k y ≡ s → low_bits k (x + y) ≡ low_bits k (f + s)
unfolding low_bits
sum_bits k f s x y p q = add-mod x y (2 ^ k) ∙ (λ i. (p i + q i) % 2 ^ k)

first_step : (k x y : ℕ) → low_bits k (x * y) ≡ low_bits k (low_bits k x * y)
unfolding low_bits
first_step k x y = sym (mul-mod_first x y (2 ^ k))

second_step : (k x y : ℕ) → low_bits k (x * y) ≡ low_bits k (x * low_bits k y)
unfolding low_bits
second_step k x y = sym (mul-mod_second x y (2 ^ k))

pub first_factor : (k x y : ℕ) → low_bits k x ≡ 0 → low_bits k (x * y) ≡ 0
first_factor k x y none = first_step k x y ∙ (λ i. low_bits k (none i * y)) ∙ (let zero_is : 0 * y ≡ 0 = omega arith in ap (low_bits k) zero_is) ∙ low_bits_of_0 k

pub second_factor : (k x y : ℕ) → low_bits k y ≡ 0 → low_bits k (x * y) ≡ 0
second_factor k x y none = second_step k x y ∙ (λ i. low_bits k (x * none i)) ∙ (let zero_is : x * 0 ≡ 0 = omega arith in ap (low_bits k) zero_is) ∙ low_bits_of_0 k

low_part : (high w low : ℕ) → low < 2 ^ w → low_bits w (high * 2 ^ w + low) ≡ low
unfolding low_bits
low_part high w low below = mod_low high w low below

-- the low bits of sums and products of words
pub low_sum : (k w x y : ℕ) → k ≤ w → low_bits k (word_sum w x y) ≡ low_bits k (x + y)
unfolding low_bits word_sum
low_sum k w x y h = mod-mod_narrower (x + y) k w h

pub low_product : (k w x y : ℕ) → k ≤ w → low_bits k (word_product w x y) ≡ low_bits k (x * y)
unfolding low_bits word_product
low_product k w x y h = mod-mod_narrower (x * y) k w h

-- the low bits of a number that stands below another
pub joined_bits : (k w high low : ℕ) → k ≤ w → low < 2 ^ w → low_bits k (high * 2 ^ w + low) ≡ low_bits k low
joined_bits k w high low h below = sym (low_bits-low_bits k w (high * 2 ^ w + low) h) ∙ ap (low_bits k) (low_part high w low below)

-- ---- nodes

module _ (d : List Node) (i : Id) (n : Node) (ordered : is_ordered d ≡ true) (there : Within d i) (at : n ≡ get_or d i.index n) where
  wide : (m : Node) → n ≡ m → width d i ≡ node_width (widths d) m
  wide m is = width_is_final d i.index n ordered there ∙ ap (node_width (widths d)) (sym at ∙ is)

  valued : (v : ℕ → ℕ) (m : Node) → n ≡ m → value v d i ≡ node_value v (widths d) (values v d) m
  valued v m is = value_is_final v d i.index n ordered there ∙ ap (node_value v (widths d) (values v d)) (sym at ∙ is)

  pub fitting : (m : Node) → n ≡ m → IsFitting d m
  fitting m is = subst (IsFitting d) is (fitting_at d i.index n ordered there at)

  pub constant_known : (bits w : ℕ) (l : LowBits) → n ≡ Constant bits w → l.count ≤ w → l.count ≤ 16 → IsLow l bits → AreKnown d i l
  constant_known bits w l is within few low =
      record { within = omega (arith, within, wide (Constant bits w) is); few = few; same = λ v. ap (low_bits l.count) (valued v (Constant bits w) is) ∙ low }

  pub cut_known : (a : Id) (low w : ℕ) (k l : LowBits) → n ≡ Cut a low w → low ≡ 0 → AreKnown d a k → l.count ≤ k.count → l.count ≤ w → ((x : ℕ) → IsLow k x → IsLow l x) → AreKnown d i l
  cut_known a low w k l is none known less within lows =
      record {
        within = omega (arith, within, wide (Cut a low w) is);
        few = omega (arith, less, known.few);
        same = λ v.
            ap (low_bits l.count) (valued v (Cut a low w) is ∙ (λ j. low_bits w (logical_shift (value v d a) (none j))) ∙ ap (low_bits w) (unshifted (value v d a)))
            ∙ low_bits-low_bits l.count w (value v d a) within
            ∙ lows (value v d a) (known.same v);
      }

  pub join_known : (high low : Id) (l : LowBits) → n ≡ Join high low → AreKnown d low l → AreKnown d i l
  join_known high low l is known =
      let fits = fitting (Join high low) is in
      record {
        within = omega (arith, known.within, wide (Join high low) is);
        few = known.few;
        same = λ v.
            ap (low_bits l.count) (valued v (Join high low) is)
            ∙ joined_bits l.count (width d low) (value v d high) (value v d low) known.within (value_below v d low ordered fits.1)
            ∙ known.same v;
      }

  pub extend_known : (a : Id) (w : ℕ) (l : LowBits) → n ≡ ZeroExtend a w → AreKnown d a l → AreKnown d i l
  extend_known a w l is known =
      let fits = fitting (ZeroExtend a w) is in
      record {
        within = omega (arith, known.within, fits.1, wide (ZeroExtend a w) is);
        few = known.few;
        same = λ v. ap (low_bits l.count) (valued v (ZeroExtend a w) is) ∙ known.same v;
      }

  either : (b : Bool) (x y : ℕ) (l : LowBits) → IsLow l x → IsLow l y → IsLow l (cond b x y)
  either true x y l p q = p
  either false x y l p q = q

  pub choice_known : (c a b : Id) (k m l : LowBits) → n ≡ Choice c a b → AreKnown d a k → AreKnown d b m → l.count ≤ k.count → ((x : ℕ) → IsLow k x → IsLow l x) → ((x : ℕ) → IsLow m x → IsLow l x) → AreKnown d i l
  choice_known c a b k m l is first second less lows others =
      record {
        within = omega (arith, less, first.within, wide (Choice c a b) is);
        few = omega (arith, less, first.few);
        same = λ v. ap (low_bits l.count) (valued v (Choice c a b) is) ∙ either (holds (value v d c)) (value v d a) (value v d b) l (lows (value v d a) (first.same v)) (others (value v d b) (second.same v));
      }

  pub binary_known : (o : BinaryOperator) (a b : Id) (k m l : LowBits) → n ≡ Binary o a b → AreKnown d a k → AreKnown d b m → l.count ≤ 16
      → ((w : ℕ) → k.count ≤ w → m.count ≤ w → l.count ≤ w) → ((w x y : ℕ) → k.count ≤ w → m.count ≤ w → IsLow k x → IsLow m y → IsLow l (binary_value o w x y)) → AreKnown d i l
  binary_known o a b k m l is first second few within lows =
      let fits = fitting (Binary o a b) is in
      let other : m.count ≤ width d a = omega (arith, second.within, fits.2) in
      record {
        within = omega (arith, within (width d a) first.within other, wide (Binary o a b) is);
        few = few;
        same = λ v. ap (low_bits l.count) (valued v (Binary o a b) is) ∙ lows (width d a) (value v d a) (value v d b) first.within other (first.same v) (second.same v);
      }

-- nothing is known
pub none_known : (d : List Node) (i : Id) (l : LowBits) → l.count ≡ 0 → ((x : ℕ) → IsLow l x) → AreKnown d i l
none_known d i l none low = record { within = omega (arith, none); few = omega (arith, none); same = λ v. low (value v d i) }

-- ---- bits in which two agree

pub record Agreeing (a b found : LowBits) : Type 0 where
  pub fewer : found.count ≤ a.count
  pub fewer_second : found.count ≤ b.count
  pub bits : found.bits ≡ low_bits found.count a.bits
  pub low : (x : ℕ) → IsLow a x → IsLow found x
  pub low_second : (x : ℕ) → IsLow b x → IsLow found x

pub agreeing_none : (a b found : LowBits) → found.count ≡ 0 → found.bits ≡ low_bits 0 a.bits → ((x : ℕ) → IsLow a x → IsLow found x) → Agreeing a b found
agreeing_none a b found none bits low =
    let nothing : found.bits ≡ 0 = bits ∙ no_bits a.bits in
    record {
      fewer = omega (arith, none);
      fewer_second = omega (arith, none);
      bits = bits ∙ ap (λ k. low_bits k a.bits) (sym none);
      low = low;
      low_second = λ x is. ap (λ k. low_bits k x) none ∙ no_bits x ∙ sym nothing;
    }

pub agreeing_more : (a b next other : LowBits) (k : ℕ) → next.count ≡ k → other.count ≡ k → k ≤ a.count → k ≤ b.count → next.bits ≡ low_bits k a.bits → next.bits ≡ other.bits
    → ((x : ℕ) → IsLow a x → IsLow next x) → ((x : ℕ) → IsLow b x → IsLow other x) → Agreeing a b next
agreeing_more a b next other k one two first second bits same low others =
    record {
      fewer = omega (arith, one, first);
      fewer_second = omega (arith, one, second);
      bits = bits ∙ ap (λ j. low_bits j a.bits) (sym one);
      low = low;
      low_second = λ x is. ap (λ j. low_bits j x) (one ∙ sym two) ∙ others x is ∙ sym same;
    }
