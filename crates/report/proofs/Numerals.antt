-- Numbers in decimal, read back.
use Rattle.std.proofs.Common.{◌≡◌, ◌≢◌, ℕ, zero, suc, ◌^◌, ◌<◌, ◌≤◌, Bool, true, false, not, List, [], ◌∷◌, ◌++◌, length, get_or, Result, Ok, Err, sym, refl, ap, ◌∙◌, subst, arith}
use Rattle.std.proofs.lemmas.Bool.{false≢true}
use Rattle.std.proofs.lemmas.Bool.Decides.{nat_tests}
use Rattle.std.proofs.lemmas.Fmt.{decimal_digit, first_decimal, decimal-digits_value, parse-decimal, IsAscii-from_digits}
use Rattle.std.proofs.lemmas.Str.{IsUtf8-from_ascii}
use Rattle.std.proofs.lemmas.Str.Parse.{IsNumeralModel, without_leading_plus_none}
use Rattle.std.specs.Char.{is_ascii_digit, digit_value}
use Rattle.std.specs.Fmt.{decimal}
use Rattle.std.specs.Str.{IsUtf8}
use Rattle.std.specs.Str.Parse.{AllDigits, IsNumeral, ParsesUnsigned, digits_value}
use Rattle.report.specs.Runs.{passes, fails}
use Rattle.report.proofs.Both.{and_both}
use Rattle.report.proofs.Bytes.{decimal_passes, no_middle}

not_true : (b : Bool) → not b ≡ true → b ≡ false
not_true true h = absurd (false≢true h)
not_true false h = refl

-- a text with a byte that is no digit is no number
pub not_digits : (ds a b : List ℕ) (n : ℕ) → n < 2 ^ 64 → ds ≡ decimal n → ds ≡ a ++ b → fails is_ascii_digit b ≡ true → ⊥
not_digits ds a [] n small e w f = false≢true f
not_digits ds a (c ∷ cs) n small e w f =
    no_middle is_ascii_digit a c cs (subst (λ (z : List ℕ). passes is_ascii_digit z ≡ true) (sym e ∙ w) (decimal_passes n small)) (not_true (is_ascii_digit c) f)

pub not_zero_first : (ds : List ℕ) (n : ℕ) → n < 2 ^ 64 → ds ≡ decimal n → 1 < length ds → get_or ds 0 0 ≡ 48 → ⊥
not_zero_first ds zero small e long first =
    let one : length ds ≡ 1 = ap (λ (z : List ℕ). length z) (e ∙ decimal_digit 0 (omega arith)) in
    omega arith
not_zero_first ds (suc k) small e long first =
    let more : 48 < get_or (decimal (suc k)) 0 0 = first_decimal (suc k) (omega arith) small in
    let same : get_or ds 0 0 ≡ get_or (decimal (suc k)) 0 0 = ap (λ (z : List ℕ). get_or z 0 0) e in
    omega arith

digit_is : (c : ℕ) → is_ascii_digit c ≡ true → digit_value c < 10
digit_is c h = grind (arith, nat_tests)

all_digits : (ds : List ℕ) → passes is_ascii_digit ds ≡ true → AllDigits 10 ds
all_digits [] h = tt
all_digits (c ∷ cs) h = let x = and_both (is_ascii_digit c) (passes is_ascii_digit cs) h in (digit_is c x.0, all_digits cs x.1)

own : IsNumeralModel (AllDigits 10) (digits_value 10)
own = record { to = λ ds p. p; from = λ ds p. p; same = λ ds p. refl }

pub digits_utf8 : (ds : List ℕ) → passes is_ascii_digit ds ≡ true → IsUtf8 ds
digits_utf8 ds h = IsUtf8-from_ascii ds (IsAscii-from_digits ds (all_digits ds h))

digit_no_plus : (c : ℕ) → is_ascii_digit c ≡ true → c ≢ 43
digit_no_plus c h = λ e. absurd (false≢true (ap is_ascii_digit (sym e) ∙ h))

no_plus : (ds : List ℕ) → passes is_ascii_digit ds ≡ true → get_or ds 0 0 ≢ 43
no_plus [] h = λ e. absurd (omega arith)
no_plus (c ∷ cs) h = digit_no_plus c (and_both (is_ascii_digit c) (passes is_ascii_digit cs) h).0

at_most_one : (ds : List ℕ) → 0 < length ds → length ds ≤ 1 → length ds ≡ 1
at_most_one ds some few = omega arith

pub value_read : (t ds : List ℕ) (n : ℕ) → t ≡ ds → passes is_ascii_digit ds ≡ true → (get_or ds 0 0 ≡ 48 → length ds ≤ 1) → n < 2 ^ 64 → ParsesUnsigned {E = ℕ} 64 10 t (Ok n) → ds ≡ decimal n
value_read t ds n same h zero_alone small q =
    let p = subst (λ (z : List ℕ). ParsesUnsigned {E = ℕ} 64 10 z (Ok n)) same q in
    let plain = without_leading_plus_none ds (no_plus ds h) in
    let numeral = subst (IsNumeral 10) plain p.0.0 in
    let some = numeral.0 in
    let value : n ≡ digits_value 10 ds = subst (λ (z : List ℕ). n ≡ digits_value 10 z) plain p.1 in
    sym (decimal-digits_value own ds (all_digits ds h) some (λ e. at_most_one ds some (zero_alone e)) (omega arith)) ∙ ap decimal (sym value)

err_is_no_ok : (x n : ℕ) → ◌≡◌ {A = Result ℕ ℕ} (Err x) (Ok n) → ⊥
err_is_no_ok x n e = cc

pub value_refused : (t ds : List ℕ) (n : ℕ) → t ≡ ds → n < 2 ^ 64 → ds ≡ decimal n → ParsesUnsigned {E = ℕ} 64 10 t (Err 0) → ⊥
value_refused t ds n same small e p = err_is_no_ok 0 n (parse-decimal 64 n t (Err 0) small small (same ∙ e) p)
