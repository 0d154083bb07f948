-- Numbers as lists of bits and of literals.
use Rattle.std.proofs.Common.{◌≡◌, ℕ, ◌+◌, ◌*◌, ◌^◌, ◌<◌, Bool, true, false, List, [], ◌∷◌, ◌++◌, length, refl, ap, ◌∙◌, map, arith}
use Rattle.std.proofs.Math.Nat.{pow-succ'}
use Rattle.std.proofs.lemmas.List.{map-append, length-map}
use Rattle.sat_form.specs.Satisfaction.{Literal, literal_value, IsWithin, AgreeBelow}
use Rattle.sat_form.specs.Numbers.{bit_value, number_of, value_of}
use Rattle.sat_form.proofs.Truth.{map-literal_value-agree}

pub number_of-nil : number_of [] ≡ 0
number_of-nil = refl

pub number_of-cons : (b : Bool) (bits : List Bool) → number_of (b ∷ bits) ≡ bit_value b + 2 * number_of bits
number_of-cons b bits = refl

one_more : (b x p y q : ℕ) → q ≡ 2 * p → b + 2 * (x + p * y) ≡ (b + 2 * x) + q * y
one_more b x p y q h = rw h (grind arith)

pub number_of-append : (xs ys : List Bool) → number_of (xs ++ ys) ≡ number_of xs + 2 ^ length xs * number_of ys
number_of-append [] ys = grind arith
number_of-append (x ∷ xs) ys =
    ap (λ n. bit_value x + 2 * n) (number_of-append xs ys)
    ∙ one_more (bit_value x) (number_of xs) (2 ^ length xs) (number_of ys) (2 ^ length (x ∷ xs)) (pow-succ' 2 (length xs))

bit_value-below : (b : Bool) → bit_value b < 2
bit_value-below true = omega arith
bit_value-below false = omega arith

pub number_of-below : (bits : List Bool) → number_of bits < 2 ^ length bits
number_of-below [] = omega arith
number_of-below (b ∷ bits) = omega (arith, number_of-below bits, bit_value-below b, pow-succ' 2 (length bits))

lowest_bit : (b c : Bool) (m n : ℕ) → bit_value b + 2 * m ≡ bit_value c + 2 * n → b ≡ c
lowest_bit true true m n equal = refl
lowest_bit true false m n equal = absurd (omega arith)
lowest_bit false true m n equal = absurd (omega arith)
lowest_bit false false m n equal = refl

higher_bits : (b c : Bool) (m n : ℕ) → bit_value b + 2 * m ≡ bit_value c + 2 * n → m ≡ n
higher_bits b c m n equal = omega (arith, bit_value-below b, bit_value-below c)

-- a number has one list of bits of each length
pub number_of-injective : (xs ys : List Bool) → length xs ≡ length ys → number_of xs ≡ number_of ys → xs ≡ ys
number_of-injective [] [] same equal = refl
number_of-injective [] (y ∷ ys) same equal = absurd (omega arith)
number_of-injective (x ∷ xs) [] same equal = absurd (omega arith)
number_of-injective (x ∷ xs) (y ∷ ys) same equal =
    let rest : xs ≡ ys = number_of-injective xs ys (omega arith) (higher_bits x y _ _ equal) in
    λ k. lowest_bit x y _ _ equal k ∷ rest k

pub value_of-nil : (a : ℕ → Bool) → value_of [] a ≡ 0
value_of-nil a = refl

pub value_of-cons : (a : ℕ → Bool) (l : Literal) (ls : List Literal) → value_of (l ∷ ls) a ≡ bit_value (literal_value a l) + 2 * value_of ls a
value_of-cons a l ls = refl

pub value_of-append : (a : ℕ → Bool) (xs ys : List Literal) → value_of (xs ++ ys) a ≡ value_of xs a + 2 ^ length xs * value_of ys a
value_of-append a xs ys =
    ap number_of (map-append (literal_value a) xs ys)
    ∙ number_of-append (map (literal_value a) xs) (map (literal_value a) ys)
    ∙ ap (λ n. value_of xs a + 2 ^ n * value_of ys a) (length-map xs (literal_value a))

pub value_of-below : (a : ℕ → Bool) (ls : List Literal) → value_of ls a < 2 ^ length ls
value_of-below a ls = rw (← length-map ls (literal_value a)) (number_of-below (map (literal_value a) ls))

pub value_of-agree : (n : ℕ) (a b : ℕ → Bool) (ls : List Literal) → AgreeBelow n a b → IsWithin n ls → value_of ls a ≡ value_of ls b
value_of-agree n a b ls agree within = ap number_of (map-literal_value-agree n a b ls agree within)
