-- Statements and the file, without where they lie in memory (C11 6.8, 6.9).
use Rattle.std.specs.Prelude.{ℕ, ◌+◌, max, List, [], ◌∷◌, Option, option_map}
use Rattle.c_tree.specs.declared.statement.External.{External}
use Rattle.c_tree.specs.declared.statement.External.TheVariants as externals
use Rattle.c_tree.specs.declared.statement.File.{File}
use Rattle.c_tree.specs.declared.statement.Stmt.{Stmt, Row_of-Item, end_of-Item, more_of-Item}
use Rattle.c_tree.specs.declared.statement.Stmt as stmts
use Rattle.c_tree.specs.declared.statement.Item.{Item}
use Rattle.c_tree.specs.declared.statement.Item as items
use Rattle.c_tree.specs.Tree.{Tree, view, boxed, view_name, depth, first_line}
use Rattle.c_tree.specs.Declarations.{Parts, Declarators, Full, parts_of, declarators_of, view_full, value_depth, parts_depth, declarators_depth, full_depth}

mutual
  -- a block has the line of its brace
  pub data Statement : Type 0 where
    block : (line : ℕ) (items : Items) → Statement
    if_then : (line : ℕ) (test : Tree) (yes : Statement) → Statement
    if_else : (line : ℕ) (test : Tree) (yes no : Statement) → Statement
    evaluate : (expression : Tree) → Statement
    return_nothing : (line : ℕ) → Statement
    return_value : (line : ℕ) (value : Tree) → Statement
    empty : (line : ℕ) → Statement
    while_loop : (line : ℕ) (test : Tree) (body : Statement) → Statement
    do_loop : (line : ℕ) (body : Statement) (test : Tree) → Statement
    for_loop : (line : ℕ) (first test last : Option Tree) (body : Statement) → Statement
    for_declared : (line : ℕ) (specifiers : Parts) (declarators : Declarators) (test last : Option Tree) (body : Statement) → Statement
    switch_on : (line : ℕ) (value : Tree) (body : Statement) → Statement
    case_of : (line : ℕ) (value : Tree) (body : Statement) → Statement
    default_of : (line : ℕ) (body : Statement) → Statement
    labelled : (line : ℕ) (name : List ℕ) (body : Statement) → Statement
    goto_label : (line : ℕ) (name : List ℕ) → Statement
    break_off : (line : ℕ) → Statement
    continue_on : (line : ℕ) → Statement

  -- what stands in a block
  pub data Items : Type 0 where
    done : Items
    declares : (specifiers : Parts) (declarators : Declarators) (rest : Items) → Items
    does : (first : Statement) (rest : Items) → Items

-- what stands in a file: declarations, and definitions of functions
pub data Externals : Type 0 where
  no_more : Externals
  declared : (specifiers : Parts) (declarators : Declarators) (rest : Externals) → Externals
  defines : (specifiers : Parts) (declarator : Full) (body : Statement) (rest : Externals) → Externals

abbrev mutual
  pub view_statement : Stmt → Statement
  view_statement (stmts.Block' line shape items) = block line (view_items items)
  view_statement (stmts.If' line test p s) = if_then line (view test.value) (view_statement s)
  view_statement (stmts.IfElse' line test p s q u) = if_else line (view test.value) (view_statement s) (view_statement u)
  view_statement (stmts.Evaluate e) = evaluate (view e.value)
  view_statement (stmts.ReturnNothing line) = return_nothing line
  view_statement (stmts.ReturnValue line e) = return_value line (view e.value)
  view_statement (stmts.Empty line) = empty line
  view_statement (stmts.While' line e p s) = while_loop line (view e.value) (view_statement s)
  view_statement (stmts.Do' line p s e) = do_loop line (view_statement s) (view e.value)
  view_statement (stmts.For' line a b c p s) = for_loop line (option_map boxed a) (option_map boxed b) (option_map boxed c) (view_statement s)
  view_statement (stmts.ForDeclared' line d b c p s) =
      for_declared line (parts_of d.value.specifiers.items) (declarators_of d.value.declarators.items) (option_map boxed b) (option_map boxed c) (view_statement s)
  view_statement (stmts.Switch' line e p s) = switch_on line (view e.value) (view_statement s)
  view_statement (stmts.Case' line e p s) = case_of line (view e.value) (view_statement s)
  view_statement (stmts.Default' line p s) = default_of line (view_statement s)
  view_statement (stmts.Label' line n p s) = labelled line (view_name n) (view_statement s)
  view_statement (stmts.Goto line n) = goto_label line (view_name n)
  view_statement (stmts.Break line) = break_off line
  view_statement (stmts.Continue line) = continue_on line

  -- an item in front of others
  pub view_item : Item → Items → Items
  view_item (items.Declares d) rest = declares (parts_of d.value.specifiers.items) (declarators_of d.value.declarators.items) rest
  view_item (items.Does' p s) rest = does (view_statement s) rest

  pub view_items : {m : _} → Row_of-Item m → Items
  view_items end_of-Item = done
  view_items (more_of-Item i rest) = view_item i (view_items rest)

-- the items of a list
abbrev pub items_of : List Item → Items
items_of [] = done
items_of (i ∷ is) = view_item i (items_of is)

-- what stands in a file, in front of what follows
abbrev pub view_external : External → Externals → Externals
view_external (externals.Declares d) rest = declared (parts_of d.value.specifiers.items) (declarators_of d.value.declarators.items) rest
view_external (externals.Defines d) rest = defines (parts_of d.value.specifiers.items) (view_full d.value.declarator) (view_statement d.value.body.value) rest

-- what stands in a file, of a list
abbrev pub externals_of : List External → Externals
externals_of [] = no_more
externals_of (e ∷ es) = view_external e (externals_of es)

abbrev pub view_file : File → Externals
view_file f = externals_of f.externals.items

-- the line of the first token
abbrev pub statement_line : Statement → ℕ
statement_line (block line is) = line
statement_line (if_then line test s) = line
statement_line (if_else line test s u) = line
statement_line (evaluate e) = first_line e
statement_line (return_nothing line) = line
statement_line (return_value line e) = line
statement_line (empty line) = line
statement_line (while_loop line e s) = line
statement_line (do_loop line s e) = line
statement_line (for_loop line a b c s) = line
statement_line (for_declared line parts ds b c s) = line
statement_line (switch_on line e s) = line
statement_line (case_of line e s) = line
statement_line (default_of line s) = line
statement_line (labelled line n s) = line
statement_line (goto_label line n) = line
statement_line (break_off line) = line
statement_line (continue_on line) = line

-- Levels: each statement is one.
abbrev mutual
  pub statement_depth : Statement → ℕ
  statement_depth (block line is) = items_depth is + 1
  statement_depth (if_then line test s) = max (depth test) (statement_depth s) + 1
  statement_depth (if_else line test s u) = max (depth test) (max (statement_depth s) (statement_depth u)) + 1
  statement_depth (evaluate e) = depth e + 1
  statement_depth (return_nothing line) = 1
  statement_depth (return_value line e) = depth e + 1
  statement_depth (empty line) = 1
  statement_depth (while_loop line e s) = max (depth e) (statement_depth s) + 1
  statement_depth (do_loop line s e) = max (statement_depth s) (depth e) + 1
  statement_depth (for_loop line a b c s) = max (value_depth a) (max (value_depth b) (max (value_depth c) (statement_depth s))) + 1
  statement_depth (for_declared line parts ds b c s) =
      max (max (parts_depth parts) (declarators_depth ds)) (max (value_depth b) (max (value_depth c) (statement_depth s))) + 1
  statement_depth (switch_on line e s) = max (depth e) (statement_depth s) + 1
  statement_depth (case_of line e s) = max (depth e) (statement_depth s) + 1
  statement_depth (default_of line s) = statement_depth s + 1
  statement_depth (labelled line n s) = statement_depth s + 1
  statement_depth (goto_label line n) = 1
  statement_depth (break_off line) = 1
  statement_depth (continue_on line) = 1

  pub items_depth : Items → ℕ
  items_depth done = 0
  items_depth (declares parts ds rest) = max (max (parts_depth parts) (declarators_depth ds)) (items_depth rest)
  items_depth (does s rest) = max (statement_depth s) (items_depth rest)

-- a definition is as deep as its specifiers, its declarator and its body
abbrev pub file_depth : Externals → ℕ
file_depth no_more = 0
file_depth (declared parts ds rest) = max (max (parts_depth parts) (declarators_depth ds)) (file_depth rest)
file_depth (defines parts d body rest) = max (max (parts_depth parts) (max (full_depth d) (statement_depth body))) (file_depth rest)
