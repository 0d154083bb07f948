-- The view of a block, whose items are a list in memory, and of an initializer's list.
use Rattle.std.proofs.Common.{◌≡◌, refl, ap, ◌∙◌}
use mathlib.Core.Former.{Count}
use Rattle.std.specs.Prelude.{Vec}
use Rattle.std.specs.Global.{Global}
use Rattle.core_tree.specs.declared.statement.CoreStatement.{CoreStatement, Block, Block'}
use Rattle.core_tree.specs.declared.statement.CoreItem.{CoreItem}
use Rattle.core_tree.specs.declared.statement.CoreItem.TheBlock.{Row_of-CoreItem, end_of-CoreItem, more_of-CoreItem, items-the_row-CoreItem, items_hidden-the_row-CoreItem-0}
use Rattle.std.specs.Prelude.{ℕ}
use Rattle.core_tree.specs.declared.expression.CoreStructure.{CoreStructure, Row_of-CorePart, end_of-CorePart, more_of-CorePart, items-the_row-CorePart, items_hidden-the_row-CorePart-1, List, List'}
use Rattle.core_tree.specs.declared.expression.CorePart.{CorePart}
use Rattle.std.specs.Prelude.{Bool}
use Rattle.c_types.specs.declared.types.ValueType.{ValueType}
use Rattle.core_tree.specs.declared.expression.CoreExpr.{CoreExpr, Row_of-CoreArgument, end_of-CoreArgument, more_of-CoreArgument, items-the_row-CoreArgument, items_hidden-the_row-CoreArgument-0}
use Rattle.core_tree.specs.declared.expression.CoreExpr as exprs
use Rattle.core_tree.specs.declared.expression.CoreStructure as structures
use Rattle.core_tree.specs.declared.expression.CoreArgument.{CoreArgument}
use Rattle.core_tree.specs.Trees.{block, switch, view_statement, view_items, with_item, items_of, list, view, view_structure, view_parts, with_part, parts_of, call, give, view_arguments, with_argument, arguments_of}

items_row : (n : _) (row : Row_of-CoreItem n) → view_items row ≡ items_of (items-the_row-CoreItem n row)
items_row _ end_of-CoreItem = refl
items_row _ (more_of-CoreItem i rest) = ap (with_item i) (items_row _ rest)

abbrev row_of : CoreStatement → (n : Count) × Row_of-CoreItem n
row_of (Block' shape row) = (_, row)
row_of _ = (_, end_of-CoreItem)

-- the view of a block as code makes it
pub view_block : (is : Vec CoreItem Global) → view_statement (Block is) ≡ block (items_of is.items)
view_block is =
    let row = row_of (Block is) in
    ap block (items_row row.0 row.1 ∙ ap items_of (items_hidden-the_row-CoreItem-0 is))

parts_row : (n : _) (row : Row_of-CorePart n) → view_parts row ≡ parts_of (items-the_row-CorePart n row)
parts_row _ end_of-CorePart = refl
parts_row _ (more_of-CorePart p rest) = ap (with_part p) (parts_row _ rest)

abbrev list_row : CoreStructure → (n : Count) × Row_of-CorePart n
list_row (List' line size shape row) = (_, row)
list_row _ = (_, end_of-CorePart)

-- the view of a list as code makes it
pub view_list : (line size : ℕ) (ps : Vec CorePart Global) → view_structure (List line size ps) ≡ list line size (parts_of ps.items)
view_list line size ps =
    let row = list_row (List line size ps) in
    ap (list line size) (parts_row row.0 row.1 ∙ ap parts_of (items_hidden-the_row-CorePart-1 ps))

arguments_row : (n : _) (row : Row_of-CoreArgument n) → view_arguments row ≡ arguments_of (items-the_row-CoreArgument n row)
arguments_row _ end_of-CoreArgument = refl
arguments_row _ (more_of-CoreArgument a rest) = ap (with_argument a) (arguments_row _ rest)

abbrev call_row : CoreExpr → (n : Count) × Row_of-CoreArgument n
call_row (exprs.Call' line f used t shape row) = (_, row)
call_row _ = (_, end_of-CoreArgument)

-- the view of a call as code makes it
pub view_call : (line f : ℕ) (used : Bool) (t : ValueType) (args : Vec CoreArgument Global) → view (exprs.Call line f used t args) ≡ call line f used t (arguments_of args.items)
view_call line f used t args =
    let row = call_row (exprs.Call line f used t args) in
    ap (call line f used t) (arguments_row row.0 row.1 ∙ ap arguments_of (items_hidden-the_row-CoreArgument-0 args))

abbrev give_row : CoreStructure → (n : Count) × Row_of-CoreArgument n
give_row (structures.Call' line f used size shape row) = (_, row)
give_row _ = (_, end_of-CoreArgument)

-- the same of a call that gives a structure
pub view_give : (line f : ℕ) (used : Bool) (size : ℕ) (args : Vec CoreArgument Global) → view_structure (structures.Call line f used size args) ≡ give line f used size (arguments_of args.items)
view_give line f used size args =
    let row = give_row (structures.Call line f used size args) in
    ap (give line f used size) (arguments_row row.0 row.1 ∙ ap arguments_of (structures.items_hidden-the_row-CoreArgument-0 args))
