-- The view of a switch, whose items are a list in memory.
use Rattle.std.proofs.Common.{◌≡◌, ℕ, refl, ap, ◌∙◌}
use mathlib.Core.Former.{Count}
use Rattle.std.specs.Prelude.{Box, Vec}
use Rattle.std.specs.Global.{Global}
use Rattle.core_tree.specs.declared.expression.CoreExpr.{CoreExpr}
use Rattle.core_tree.specs.declared.statement.CoreStatement as statements
use Rattle.core_tree.specs.declared.statement.CoreStatement.{CoreStatement}
use Rattle.core_tree.specs.declared.statement.CoreItem.{CoreItem}
use Rattle.core_tree.specs.declared.statement.CoreItem.TheBlock.{Row_of-CoreItem, end_of-CoreItem, more_of-CoreItem, items-the_row-CoreItem, items_hidden-the_row-CoreItem-0}
use Rattle.core_tree.specs.Trees.{switch, view, view_statement, view_items, with_item, items_of}

items_row : (n : _) (row : Row_of-CoreItem n) → view_items row ≡ items_of (items-the_row-CoreItem n row)
items_row _ end_of-CoreItem = refl
items_row _ (more_of-CoreItem i rest) = ap (with_item i) (items_row _ rest)

abbrev row_of : CoreStatement → (n : Count) × Row_of-CoreItem n
row_of (statements.Switch' line e shape row) = (_, row)
row_of _ = (_, end_of-CoreItem)

-- as code makes it
pub view_switch : (line : ℕ) (e : Box CoreExpr Global) (is : Vec CoreItem Global) → view_statement (statements.Switch line e is) ≡ switch line (view e.value) (items_of is.items)
view_switch line e is =
    let row = row_of (statements.Switch line e is) in
    ap (switch line (view e.value)) (items_row row.0 row.1 ∙ ap items_of (items_hidden-the_row-CoreItem-0 is))
