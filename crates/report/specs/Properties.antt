-- The lines of a file's properties.
use Rattle.std.specs.Prelude.{ℕ, List, [], ◌∷◌, ◌++◌, codes}
use Rattle.std.specs.List.{flat_map}
use Rattle.std.specs.Fmt.{decimal}
use Rattle.report.specs.declared.properties.Property.{Property}
use Rattle.report.specs.declared.properties.Property.TheVariants as properties

-- what a line tells: a loop, by its function's name and its number there, with its line, or an assertion, by its line and its
-- function's name
pub data Told : Type 0 where
  loop : (function : List ℕ) (number line : ℕ) → Told
  assertion : (line : ℕ) (function : List ℕ) → Told

abbrev pub told_of : Property → Told
told_of (properties.Loop function number line) = loop function.bytes.items number line
told_of (properties.Assertion line function) = assertion line function.bytes.items

abbrev pub property_line : Told → List ℕ
property_line (loop function number line) = codes "loop " ++ (function ++ (46 ∷ (decimal number ++ (codes " line " ++ (decimal line ++ 10 ∷ [])))))
property_line (assertion line function) = codes "assertion line " ++ (decimal line ++ (codes " function " ++ (function ++ 10 ∷ [])))

abbrev pub properties_text : List Told → List ℕ
properties_text told = flat_map property_line told
