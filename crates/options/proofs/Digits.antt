-- Numbers of 1 to 10 digits.
use Rattle.std.proofs.Common.{◌≡◌, ◌≢◌, ◌<◌, ◌≤◌, ◌^◌, ◌∙◌, ℕ, sym, refl, subst, arith, List, [], ◌∷◌, length, get_or, Result, Ok, Err, MatchOption}
use Rattle.std.specs.Result.{result_ok}
use Rattle.std.specs.Char.{digit_value}
use Rattle.std.specs.Str.Parse.{AllDigits, IsNumeral, ParsesUnsigned, digits_value}
use Rattle.std.proofs.lemmas.Str.Parse.{IsNumeralModel, digits_value_short, without_leading_plus_none}
use Rattle.options.specs.Values.{IsNumber, IsNumberIn}

pub own : IsNumeralModel (AllDigits 10) (digits_value 10)
own = record { to = λ ds p. p; from = λ ds p. p; same = λ ds p. refl }

-- 10 digits are below 2^64
short_value : (text : List ℕ) → AllDigits 10 text → length text ≤ 10 → digits_value 10 text < 2 ^ 64
short_value text digits short = let below : digits_value 10 text < 10 ^ 10 = digits_value_short own text 10 digits short in omega (arith, below)

pub plus_is_none : (text : List ℕ) → get_or text 0 0 ≡ 43 → (n : ℕ) → IsNumber text n → ⊥
plus_is_none [] plus n is = absurd (omega (arith, is.digits.0))
plus_is_none (x ∷ xs) plus n is = let first : digit_value 43 < 10 = subst (λ y. digit_value y < 10) plus is.digits.1.0 in absurd (omega (arith, first))

pub long_is_none : (text : List ℕ) → 10 < length text → (n : ℕ) → IsNumber text n → ⊥
long_is_none text long n is = absurd (omega (arith, is.short))

-- what parsing tells of a short text without a plus
pub number_gives : {E : Type 0} (text : List ℕ) (r : Result ℕ E) → get_or text 0 0 ≢ 43 → length text ≤ 10 → ParsesUnsigned 64 10 text r
    → MatchOption (result_ok r) ((n : ℕ) → IsNumber text n → ⊥) (IsNumber text)
number_gives text (Ok n) no_plus short h =
    let same = without_leading_plus_none text no_plus in
    record { digits = subst (IsNumeral 10) same h.0.0; short = short; value = subst (λ ds. n ≡ digits_value 10 ds) same h.1 }
number_gives text (Err e) no_plus short h =
    λ n is.
    let same = sym (without_leading_plus_none text no_plus) in
    h (subst (IsNumeral 10) same is.digits, subst (λ ds. digits_value 10 ds < 2 ^ 64) same (short_value text is.digits.1 is.short))

-- a text writes one number
pub number_same : (text : List ℕ) (m n : ℕ) → IsNumber text m → IsNumber text n → m ≡ n
number_same text m n a b = a.value ∙ sym b.value

pub no_number_in : (least most : ℕ) (text : List ℕ) → ((n : ℕ) → IsNumber text n → ⊥) → (n : ℕ) → IsNumberIn least most text n → ⊥
no_number_in least most text none n is = none n is.number

pub outside : (least most : ℕ) (text : List ℕ) (value : ℕ) → IsNumber text value → (least ≤ value → value ≤ most → ⊥) → (n : ℕ) → IsNumberIn least most text n → ⊥
outside least most text value found out n is =
    let same : value ≡ n = number_same text value n found is.number in
    out (omega (arith, same, is.at_least)) (omega (arith, same, is.at_most))
