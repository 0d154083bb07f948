-- The view of a block, whose items are a list in memory, and lists in front of others.
use Rattle.std.proofs.Common.{◌≡◌, ◌≤◌, ◌<◌, ◌+◌, max, List, [], ◌∷◌, ◌++◌, ℕ, zero, suc, length, get_or, take, refl, ap, ◌∙◌, arith}
use Rattle.std.proofs.lemmas.List.{take_more}
use mathlib.Core.Former.{Count}
use Rattle.std.specs.Prelude.{Vec}
use Rattle.std.specs.Global.{Global}
use Rattle.c_tree.specs.declared.statement.Stmt.{Stmt, Block, Block', Row_of-Item, end_of-Item, more_of-Item, items-the_row-Item, items_hidden-the_row-Item-0}
use Rattle.c_tree.specs.declared.statement.Item.{Item}
use Rattle.c_tree.specs.declared.statement.Item as items
use Rattle.c_tree.specs.declared.statement.External.{External}
use Rattle.c_tree.specs.declared.statement.External.TheVariants as externals
use Rattle.c_tree.specs.Statements.{Items, done, Externals, no_more, block, view_statement, view_item, view_items, items_of, view_external, externals_of, items_depth, file_depth}

items_row : (n : _) (row : Row_of-Item n) → view_items row ≡ items_of (items-the_row-Item n row)
items_row _ end_of-Item = refl
items_row _ (more_of-Item i rest) = ap (view_item i) (items_row _ rest)

abbrev row_of : Stmt → (n : Count) × Row_of-Item n
row_of (Block' line shape row) = (_, row)
row_of _ = (_, end_of-Item)

-- the view of a block as code makes it
pub view_block : (line : ℕ) (is : Vec Item Global) → view_statement (Block line is) ≡ block line (items_of is.items)
view_block line is =
    let row = row_of (Block line is) in
    ap (block line) (items_row row.0 row.1 ∙ ap items_of (items_hidden-the_row-Item-0 is))

-- an item in front of others is as deep as the deepest of them
item_depth : (i : Item) (rest : Items) → items_depth (view_item i rest) ≡ max (items_depth (view_item i done)) (items_depth rest)
item_depth (items.Declares d) rest = omega arith
item_depth (items.Does' p s) rest = omega arith

-- an item of a list is no deeper than the list
pub item_within : (is : List Item) (n : ℕ) (i : Item) → n < length is → items_depth (view_item (get_or is n i) done) ≤ items_depth (items_of is)
item_within [] n i h = omega arith
item_within (x ∷ xs) zero i h = omega (arith, item_depth x (items_of xs))
item_within (x ∷ xs) (suc n) i h = let below = item_within xs n i (omega arith) in omega (arith, item_depth x (items_of xs))

item_push : (is : List Item) (i : Item) → items_depth (items_of (is ++ i ∷ [])) ≡ max (items_depth (items_of is)) (items_depth (view_item i done))
item_push [] i = omega arith
item_push (x ∷ xs) i = let above = item_push xs i in omega (arith, item_depth x (items_of xs), item_depth x (items_of (xs ++ i ∷ [])))

-- one item more
pub item_more : (is : List Item) (n : ℕ) (i : Item) → n < length is → items_depth (items_of (take (n + 1) is)) ≡ max (items_depth (items_of (take n is))) (items_depth (view_item (get_or is n i) done))
item_more is n i h = ap (λ (xs : List Item). items_depth (items_of xs)) (take_more is n i h) ∙ item_push (take n is) (get_or is n i)

-- the same of what stands in a file
external_depth : (e : External) (rest : Externals) → file_depth (view_external e rest) ≡ max (file_depth (view_external e no_more)) (file_depth rest)
external_depth (externals.Declares d) rest = omega arith
external_depth (externals.Defines d) rest = omega arith

pub external_within : (es : List External) (n : ℕ) (e : External) → n < length es → file_depth (view_external (get_or es n e) no_more) ≤ file_depth (externals_of es)
external_within [] n e h = omega arith
external_within (x ∷ xs) zero e h = omega (arith, external_depth x (externals_of xs))
external_within (x ∷ xs) (suc n) e h = let below = external_within xs n e (omega arith) in omega (arith, external_depth x (externals_of xs))

external_push : (es : List External) (e : External) → file_depth (externals_of (es ++ e ∷ [])) ≡ max (file_depth (externals_of es)) (file_depth (view_external e no_more))
external_push [] e = omega arith
external_push (x ∷ xs) e = let above = external_push xs e in omega (arith, external_depth x (externals_of xs), external_depth x (externals_of (xs ++ e ∷ [])))

pub external_more : (es : List External) (n : ℕ) (e : External) → n < length es → file_depth (externals_of (take (n + 1) es)) ≡ max (file_depth (externals_of (take n es))) (file_depth (view_external (get_or es n e) no_more))
external_more es n e h = ap (λ (xs : List External). file_depth (externals_of xs)) (take_more es n e h) ∙ external_push (take n es) (get_or es n e)
