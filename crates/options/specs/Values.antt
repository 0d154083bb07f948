-- What the texts of options say.
use Rattle.std.specs.Prelude.{◌≡◌, ℕ, ◌≤◌, Bool, true, false, not, ◌&&◌, ◌==◌, ◌++◌, List, [], ◌∷◌, length, Option, Some, None}
use Rattle.std.specs.List.{list_all}
use Rattle.std.specs.Str.{bytes_eq}
use Rattle.std.specs.Str.Parse.{IsNumeral, digits_value}
use Rattle.core_tree.specs.Ranges.{LoopLimit}
use Rattle.report.specs.FileNames.{all_name_bytes}
use Rattle.report.specs.Identifiers.{is_identifier}

-- a number is 1 to 10 decimal digits
pub record IsNumber (text : List ℕ) (n : ℕ) : Type 0 where
  pub digits : IsNumeral 10 text
  pub short : length text ≤ 10
  pub value : n ≡ digits_value 10 text

pub record IsNumberIn (least most : ℕ) (text : List ℕ) (n : ℕ) : Type 0 where
  pub number : IsNumber text n
  pub at_least : least ≤ n
  pub at_most : n ≤ most

-- the number of an option, or what it is where the option isn't given
abbrev pub IsChosen : (default least most : ℕ) → Option (List ℕ) → ℕ → Type 0
IsChosen default least most None n = n ≡ default
IsChosen default least most (Some text) n = IsNumberIn least most text n

-- ---- the items of `--unwindset`

-- `f.n:K`: the loop n of function f has the bound K
pub record IsItem (text : List ℕ) (l : LoopLimit) : Type 0 where
  pub place : List ℕ
  pub bound : List ℕ
  pub written : text ≡ l.function ++ (46 ∷ (place ++ (58 ∷ bound)))
  pub function : is_identifier l.function ≡ true
  pub number : IsNumber place l.number
  pub unwind : IsNumberIn 1 1000 bound l.unwind

-- items with one comma between
pub data AreItems : List ℕ → List LoopLimit → Type 0 where
  one : (text : List ℕ) (l : LoopLimit) → IsItem text l → AreItems text (l ∷ [])
  more : (text rest : List ℕ) (l : LoopLimit) (ls : List LoopLimit) → IsItem text l → AreItems rest ls → AreItems (text ++ 44 ∷ rest) (l ∷ ls)

abbrev pub is_same_loop : LoopLimit → LoopLimit → Bool
is_same_loop a b = bytes_eq a.function b.function && a.number == b.number

-- no loop stands twice
abbrev pub are_once : List LoopLimit → Bool
are_once [] = true
are_once (l ∷ ls) = list_all (λ k. not (is_same_loop k l)) ls && are_once ls

-- the bounds of single loops, in the order of the items
abbrev pub AreLimits : Option (List ℕ) → List LoopLimit → Type 0
AreLimits None ls = ls ≡ []
AreLimits (Some text) ls = AreItems text ls × (are_once ls ≡ true)

-- ---- the file

-- a FILE: not empty and without a control character
abbrev pub is_file : List ℕ → Bool
is_file [] = false
is_file (c ∷ cs) = all_name_bytes (c ∷ cs)
