-- What the type of options keeps.
use Rattle.std.proofs.Common.{◌≡◌, ◌∙◌, ◌≤◌, ◌<◌, ◌^◌, ◌&&◌, ℕ, Bool, true, List, [], ◌∷◌, refl, ap, ap₂, arith, decimal, Option, Some, None, Result, Ok, Err, IfErr}
use Rattle.std.specs.Char.{digit_value}
use Rattle.std.specs.Str.Parse.{AllDigits}
use Rattle.std.proofs.lemmas.Bool.Decides.{nat_tests}
use Rattle.std.proofs.lemmas.Fmt.{digits_decimal}
use Rattle.std.proofs.lemmas.Str.Parse.{digit_from_value}
use Rattle.report.specs.FileNames.{is_name_byte, all_name_bytes}
use Rattle.options.specs.Ranges.{is_generated}
use Rattle.options.specs.Values.{IsChosen, is_file}
use Rattle.options.specs.Command.{IsTarget, generated_name}
use Rattle.options.proofs.Digits.{own}

pub any_error : {T E : Type 0} (r : Result T E) (Q : E → Type 0) → ((e : E) → Q e) → IfErr r Q
any_error (Ok x) Q h = tt
any_error (Err e) Q h = h e

-- a number that is chosen is in the option's range
pub chosen_in : (default least most : ℕ) (o : Option (List ℕ)) (n : ℕ) → least ≤ default → default ≤ most → IsChosen default least most o n → (least ≤ n) × (n ≤ most)
chosen_in default least most None n low high is = (omega (arith, is, low), omega (arith, is, high))
chosen_in default least most (Some text) n low high is = (is.at_least, is.at_most)

digit_is_name_byte : (d : ℕ) → digit_value d < 10 → is_name_byte d ≡ true
digit_is_name_byte d small = let range = digit_from_value d small in grind (arith, nat_tests)

digits_are_name_bytes : (ds : List ℕ) → AllDigits 10 ds → all_name_bytes ds ≡ true
digits_are_name_bytes [] all = refl
digits_are_name_bytes (d ∷ ds) all = ap₂ (λ (a b : Bool). a && b) (digit_is_name_byte d all.0) (digits_are_name_bytes ds all.1)

generated_is_file : (n : ℕ) → n < 2 ^ 64 → is_file (generated_name n) ≡ true
generated_is_file n small = digits_are_name_bytes (decimal n) (digits_decimal own n small)

pub target_named : (file text : Option (List ℕ)) (name : List ℕ) (n : Option ℕ) → IsTarget file text name n → is_file name ≡ true
target_named (Some file) None name n is = ap is_file is.1 ∙ is.0
target_named None (Some text) name (Some n) is = ap is_file is.1 ∙ generated_is_file n (let most : n ≤ 16 = is.0.at_most in omega (arith, most))
target_named None (Some text) name None is = absurd is
target_named (Some file) (Some text) name n is = absurd is
target_named None None name n is = absurd is

pub target_generated : (file text : Option (List ℕ)) (name : List ℕ) (n : Option ℕ) → IsTarget file text name n → is_generated n ≡ true
target_generated (Some file) None name n is = ap is_generated is.2
target_generated None (Some text) name (Some n) is = let low : 1 ≤ n = is.0.at_least in let high : n ≤ 16 = is.0.at_most in grind (arith, nat_tests)
target_generated None (Some text) name None is = refl
target_generated (Some file) (Some text) name n is = absurd is
target_generated None None name n is = absurd is
