-- The first lines of the texts that answer a command can be read back.
use Rattle.std.proofs.Common.{◌≡◌, ℕ, ◌≤◌, ◌<◌, ◌^◌, Bool, true, List, [], ◌∷◌, length, Option, Some, None, option_map, refl, sym, subst, arith}
use Rattle.std.specs.Prelude.{codes}
use Rattle.std.specs.Str.{IsUtf8}
use Rattle.report.specs.FileNames.{all_name_bytes}
use Rattle.report.specs.Report.{IsHead, IsFileName, IsGeneratedAs}
use Rattle.options.specs.Words.{value_given, file_name}
use Rattle.options.specs.Values.{IsChosen, is_file}
use Rattle.options.specs.Command.{Asked, IsCommand, IsTarget}
use Rattle.generator.specs.Program.{generated_text}
use Rattle.generator.proofs.Sizes.{few_bytes}
use Rattle.cbmc_top.specs.Command.{head_asked}

chosen_in : (default least most : ℕ) (text : Option (List ℕ)) (n : ℕ) → least ≤ default → default ≤ most → IsChosen default least most text n → (least ≤ n) × (n ≤ most)
chosen_in default least most None n low high is = (omega (arith, is, low), omega (arith, is, high))
chosen_in default least most (Some text) n low high is = (is.at_least, is.at_most)

generated_as : (file text : Option (List ℕ)) (name : List ℕ) (generate : Option ℕ) → IsTarget file text name generate → IsGeneratedAs name (option_map (λ n. (n, length (generated_text n))) generate)
generated_as file text name None is = tt
generated_as (Some file) None name (Some n) is = let none = is.2 in cc
generated_as (Some file) (Some text) name (Some n) is = absurd is
generated_as None None name (Some n) is = absurd is
generated_as None (Some text) name (Some n) is =
    let most = is.0.at_most in
    let few = few_bytes n most in
    (omega (arith, most), omega (arith, few), is.1)

some_bytes : (name : List ℕ) → is_file name ≡ true → 0 < length name
some_bytes [] is = cc
some_bytes (c ∷ cs) is = omega arith

all_shown : (name : List ℕ) → is_file name ≡ true → all_name_bytes name ≡ true
all_shown [] is = cc
all_shown (c ∷ cs) is = is

pub head_of_command : (words : List (List ℕ)) (asked : Asked) → IsCommand words asked → IsUtf8 asked.name → is_file asked.name ≡ true → IsHead (head_asked asked)
head_of_command words asked is utf8 named =
    let all = is.0 in
    let asks = is.2 in
    let unwind = chosen_in 8 1 1000 (value_given (codes "unwind") all) asked.limits.unwind (omega arith) (omega arith) asks.limits.unwind in
    record {
      name = record { some = some_bytes asked.name named; utf8 = utf8; shown = all_shown asked.name named };
      least = unwind.0;
      unwind = unwind.1;
      generated = generated_as (value_given file_name all) (value_given (codes "generate") all) asked.name asked.generate asks.target;
    }
