-- Rows of a product, and their sum.
use Rattle.std.proofs.Common.{◌≡◌, ℕ, zero, suc, ◌+◌, ◌-◌, ◌*◌, ◌/◌, ◌%◌, ◌^◌, ◌<◌, ◌≤◌, Bool, true, false, List, [], ◌∷◌, ◌++◌, take, drop, replicate, length, refl, sym, ap, ◌∙◌, subst, arith}
use Rattle.std.specs.Prelude.{if◌then◌else◌}
use Rattle.std.proofs.Math.Nat.{mod-eq_of_lt, add-mod-mod, mod-add-mod, zero-mod}
use Rattle.std.proofs.lemmas.Nat.{mod-mul-add, div-add-mod', mod_below, pow_pos}
use Rattle.std.proofs.lemmas.List.{take-append-drop, length-take-le, length-replicate}
use Rattle.sat_form.specs.Satisfaction.{Literal, Form, literal_value, IsWithin}
use Rattle.sat_form.specs.Numbers.{bit_value, value_of}
use Rattle.sat_form.proofs.Numbering.{value_of-append, value_of-below}
use Rattle.words.specs.Operators.{word_sum, word_product, left_shift}
use Rattle.words.proofs.Powers.{pow_split}
use Rattle.gate_bits.specs.Growth.{GrowsFreely}
use Rattle.gate_bits.specs.Truth.{IsTruth, IsNumber, IsFixed}
use Rattle.gate_bits.specs.Sums.{IsSum}
use Rattle.gate_bits.proofs.Growing.{front, IsTruth-kept}
use Rattle.gate_bits.proofs.Parts.{IsWithin-replicate}
use Rattle.gate_bits.proofs.Adding.{Sum_word, value_of-push}

-- ---- lists

pub value_of-fill : (x : ℕ → Bool) (n : ℕ) (l : Literal) → literal_value x l ≡ false → value_of (replicate n l) x ≡ 0
value_of-fill x zero l is = refl
value_of-fill x (suc n) l is = λ k. bit_value (is k) + 2 * value_of-fill x n l is k

pub value_of-take : (x : ℕ → Bool) (n : ℕ) (ls : List Literal) → n ≤ length ls → value_of (take n ls) x ≡ value_of ls x % 2 ^ n
value_of-take x n ls enough =
    let width : length (take n ls) ≡ n = length-take-le n ls enough in
    let below : value_of (take n ls) x < 2 ^ n = subst (λ (m : ℕ). value_of (take n ls) x < 2 ^ m) width (value_of-below x (take n ls)) in
    let parts : value_of ls x ≡ value_of (take n ls) x + 2 ^ n * value_of (drop n ls) x =
    ap (λ (q : List Literal). value_of q x) (sym (take-append-drop n ls)) ∙ value_of-append x (take n ls) (drop n ls) ∙ ap (λ (m : ℕ). value_of (take n ls) x + 2 ^ m * value_of (drop n ls) x) width in
    let form : value_of (drop n ls) x * 2 ^ n + value_of (take n ls) x ≡ value_of ls x = omega (arith, parts) in
    sym (mod-mul-add (value_of (drop n ls) x) (2 ^ n) (value_of (take n ls) x) below) ∙ ap (λ (m : ℕ). m % 2 ^ n) form

-- the low bits moved up
moved_number : (w d a : ℕ) → d ≤ w → 2 ^ d * (a % 2 ^ (w - d)) ≡ (a * 2 ^ d) % 2 ^ w
moved_number w d a fits =
    let r = a % 2 ^ (w - d) in
    let q = a / 2 ^ (w - d) in
    let split : 2 ^ w ≡ 2 ^ (w - d) * 2 ^ d = pow_split d w fits in
    let parts : q * 2 ^ (w - d) + r ≡ a = div-add-mod' a (2 ^ (w - d)) in
    let small : r < 2 ^ (w - d) = mod_below a (2 ^ (w - d)) (pow_pos (w - d)) in
    let below : r * 2 ^ d < 2 ^ w = rw split (mul-lt-left r (2 ^ (w - d)) (2 ^ d) small (pow_pos d)) in
    let whole : q * 2 ^ w + r * 2 ^ d ≡ a * 2 ^ d = ap (λ (m : ℕ). q * m + r * 2 ^ d) split ∙ spread q (2 ^ (w - d)) (2 ^ d) r ∙ ap (λ (m : ℕ). m * 2 ^ d) parts in
    omega arith ∙ sym (mod-mul-add q (2 ^ w) (r * 2 ^ d) below) ∙ ap (λ (m : ℕ). m % 2 ^ w) whole
  where
    spread : (q m d r : ℕ) → q * (m * d) + r * d ≡ (q * m + r) * d
    spread q m d r = grind arith

    mul-lt-left : (r m d : ℕ) → r < m → 0 < d → r * d < m * d
    mul-lt-left r m d small some = grind arith

pub value_of-moved_up : (x : ℕ → Bool) (d : ℕ) (fill : Literal) (ls : List Literal) → d ≤ length ls → literal_value x fill ≡ false → value_of (replicate d fill ++ take (length ls - d) ls) x ≡ left_shift (length ls) (value_of ls x) d
unfolding left_shift
value_of-moved_up x d fill ls fits is =
    value_of-append x (replicate d fill) (take (length ls - d) ls)
    ∙ (λ k. value_of-fill x d fill is k + 2 ^ length-replicate d fill k * value_of-take x (length ls - d) ls (omega arith) k)
    ∙ omega arith
    ∙ moved_number (length ls) d (value_of ls x) fits

-- ---- rows

pub row_number : (b : Bool) (n : ℕ) → (if b then n else 0) ≡ bit_value b * n
row_number true n = omega arith
row_number false n = omega arith

pub product_none : (w a : ℕ) → 0 ≡ word_product w a 0
unfolding word_product
product_none w a =
    let none : a * 0 ≡ 0 = omega arith in
    sym (ap (λ (m : ℕ). m % 2 ^ w) none ∙ zero-mod (2 ^ w))

-- one row more
pub product_more : (w a b i : ℕ) (bit : Bool) → word_sum w (word_product w a b) (bit_value bit * left_shift w a i) ≡ word_product w a (b + 2 ^ i * bit_value bit)
unfolding word_sum word_product left_shift
product_more w a b i true =
    let form : a * b + a * 2 ^ i ≡ a * (b + 2 ^ i * 1) = grind arith in
    ap (λ (m : ℕ). ((a * b) % 2 ^ w + m) % 2 ^ w) (omega arith)
    ∙ mod-add-mod (a * b) (2 ^ w) ((a * 2 ^ i) % 2 ^ w) ∙ add-mod-mod (a * b) (a * 2 ^ i) (2 ^ w) ∙ ap (λ (m : ℕ). m % 2 ^ w) form
product_more w a b i false =
    let form : a * b + 0 ≡ a * (b + 2 ^ i * 0) = omega arith in
    ap (λ (m : ℕ). ((a * b) % 2 ^ w + m) % 2 ^ w) (omega arith)
    ∙ mod-add-mod (a * b) (2 ^ w) 0 ∙ ap (λ (m : ℕ). m % 2 ^ w) form

pub Row_is : (f g h : Form) (factor total moved row next : List Literal) (bit off carry : Literal) (place : ℕ) → place ≤ length factor → length total ≡ length factor → moved ≡ replicate place off ++ take (length factor - place) factor → IsTruth f off (λ x. false) → GrowsFreely f g → IsNumber g (length moved) row (λ x. if literal_value x bit then value_of moved x else 0) → GrowsFreely g h → IsSum h total row off next carry → IsNumber h (length factor) next (λ x. word_sum (length factor) (value_of total x) (bit_value (literal_value x bit) * left_shift (length factor) (value_of factor x) place))
Row_is f g h factor total moved row next bit off carry place fits same is_moved none first is_row second is_sum =
    let word = Sum_word h total row off next carry false is_sum (IsTruth-kept (IsTruth-kept none first) second) in
    record {
      count = word.count ∙ same;
      within = word.within;
      is = λ x all.
          let before = front second x all in
          let number : value_of moved x ≡ left_shift (length factor) (value_of factor x) place =
          ap (λ (m : List Literal). value_of m x) is_moved ∙ value_of-moved_up x place off factor fits (none.is x (front first x before)) in
          let row_value : value_of row x + 0 ≡ bit_value (literal_value x bit) * left_shift (length factor) (value_of factor x) place =
          omega arith ∙ is_row.is x before ∙ row_number (literal_value x bit) (value_of moved x) ∙ ap (λ (m : ℕ). bit_value (literal_value x bit) * m) number in
          word.is x all ∙ (λ k. word_sum (same k) (value_of total x) (row_value k));
    }

pub Row_none : (f : Form) (factor total : List Literal) (bit : Literal) (truth : Bool) (shifted : (ℕ → Bool) → ℕ) → length total ≡ length factor → IsWithin f.variables total → IsFixed f bit truth → truth ≡ false → IsNumber f (length factor) total (λ x. word_sum (length factor) (value_of total x) (bit_value (literal_value x bit) * shifted x))
unfolding word_sum
Row_none f factor total bit truth shifted same within fixed is_false = record {
  count = same;
  within = within;
  is = λ x all.
      let below : value_of total x < 2 ^ length factor = subst (λ (n : ℕ). value_of total x < 2 ^ n) same (value_of-below x total) in
      let none : bit_value (literal_value x bit) ≡ 0 = ap bit_value (fixed x all ∙ is_false) in
      let form : value_of total x ≡ value_of total x + bit_value (literal_value x bit) * shifted x = omega arith ∙ sym (ap (λ (m : ℕ). value_of total x + m * shifted x) none) in
      sym (mod-eq_of_lt below) ∙ ap (λ (m : ℕ). m % 2 ^ length factor) form;
}

pub Product_none : (f : Form) (factor total : List Literal) (off : Literal) → IsTruth f off (λ x. false) → total ≡ replicate (length factor) off → IsNumber f (length factor) total (λ x. word_product (length factor) (value_of factor x) 0)
Product_none f factor total off none is = record {
  count = ap (λ (m : List Literal). length m) is ∙ length-replicate (length factor) off;
  within = subst (λ (m : List Literal). IsWithin f.variables m) (sym is) (IsWithin-replicate f.variables (length factor) off none.within);
  is = λ x all. ap (λ (m : List Literal). value_of m x) is ∙ value_of-fill x (length factor) off (none.is x all) ∙ product_none (length factor) (value_of factor x);
}

pub Product_more : (f g : Form) (factor rows total next : List Literal) (bit : Literal) (i : ℕ) → length rows ≡ i → GrowsFreely f g → IsNumber f (length factor) total (λ x. word_product (length factor) (value_of factor x) (value_of rows x)) → IsNumber g (length factor) next (λ x. word_sum (length factor) (value_of total x) (bit_value (literal_value x bit) * left_shift (length factor) (value_of factor x) i)) → IsNumber g (length factor) next (λ x. word_product (length factor) (value_of factor x) (value_of (rows ++ bit ∷ []) x))
Product_more f g factor rows total next bit i place grows so_far is_next = record {
  count = is_next.count;
  within = is_next.within;
  is = λ x all.
      let pushed : value_of rows x + 2 ^ i * bit_value (literal_value x bit) ≡ value_of (rows ++ bit ∷ []) x = sym (value_of-push x rows bit ∙ ap (λ (n : ℕ). value_of rows x + 2 ^ n * bit_value (literal_value x bit)) place) in
      is_next.is x all
      ∙ ap (λ (t : ℕ). word_sum (length factor) t (bit_value (literal_value x bit) * left_shift (length factor) (value_of factor x) i)) (so_far.is x (front grows x all))
      ∙ product_more (length factor) (value_of factor x) (value_of rows x) i (literal_value x bit)
      ∙ ap (word_product (length factor) (value_of factor x)) pushed;
}

pub product_turned : (w a b : ℕ) → word_product w a b ≡ word_product w b a
unfolding word_product
product_turned w a b = ap (λ (m : ℕ). m % 2 ^ w) (omega arith)
