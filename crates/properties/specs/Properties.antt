-- The loops and assertions of a file, as they are listed.
use Rattle.std.specs.Prelude.{ℕ, ◌+◌, ◌++◌, List, [], ◌∷◌}
use Rattle.c_tree.specs.declared.statement.External.{External}
use Rattle.c_tree.specs.declared.statement.External.TheVariants as externals
use Rattle.c_tree.specs.Declarations.{name_of, view_full}
use Rattle.c_tree.specs.Statements.{Externals, no_more, declared, defines, Statement, view_statement}
use Rattle.properties.specs.declared.spots.Spot.{Spot}
use Rattle.properties.specs.declared.spots.Spot.TheVariants as spots
use Rattle.report.specs.Properties.{Told, loop, assertion}
use Rattle.properties.specs.Spots.{with_statement}

-- where so many loops of the function stand before
abbrev pub told : (function : List ℕ) → (loops : ℕ) → Spot → Told
told function loops (spots.Loop line) = loop function loops line
told function loops (spots.Assertion line) = assertion line function

abbrev pub after : (loops : ℕ) → Spot → ℕ
after loops (spots.Loop line) = loops + 1
after loops (spots.Assertion line) = loops

-- a function's loops are counted from 0
abbrev pub told_in : (function : List ℕ) → (loops : ℕ) → List Spot → List Told
told_in function loops [] = []
told_in function loops (s ∷ ss) = told function loops s ∷ told_in function (after loops s) ss

-- of a function with this body
abbrev pub told_of_body : (function : List ℕ) → Statement → List Told
told_of_body function body = told_in function 0 (with_statement [] body)

-- What stands in the bodies of functions is listed, in the order of the file.
abbrev pub properties_of : Externals → List Told
properties_of no_more = []
properties_of (declared parts ds rest) = properties_of rest
properties_of (defines parts d body rest) = told_of_body (name_of d) body ++ properties_of rest

-- an external declaration behind others
abbrev pub with_external : List Told → External → List Told
with_external before (externals.Declares d) = before
with_external before (externals.Defines d) = before ++ told_of_body (name_of (view_full d.value.declarator)) (view_statement d.value.body.value)
