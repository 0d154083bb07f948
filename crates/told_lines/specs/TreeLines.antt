-- The lines of a file's tree that typing hands on: those of expressions outside of type names, of initializers, of statements, and of declarators and their names.
use Rattle.std.specs.Prelude.{ℕ, Option, Some, None}
use Rattle.c_tree.specs.Tree.{Tree, constant, character, strings, name, parens, unary, cast, sizeof_expr, sizeof_type, step, member, binary, choice, assign, comma, call, address, dereference, arrow, subscript, Trees, none, more}
use Rattle.c_tree.specs.Declarations.{Full, Initial, initial, braces, Initials, no_initial, initials, Declarators, none_declared, declarator}
use Rattle.c_tree.specs.Statements.{Statement, block, if_then, if_else, evaluate, return_nothing, return_value, empty, while_loop, do_loop, for_loop, for_declared, switch_on, case_of, default_of, labelled, goto_label, break_off, continue_on, Items, done, declares, does, Externals, no_more, declared, defines}
use Rattle.c_elab_base.specs.Derivations.{full_line, name_line}

-- each of them has the property
module _ (P : ℕ → Type 0) where
  abbrev mutual
    pub InTree : Tree → Type 0
    InTree (constant line c) = P line
    InTree (character line bits) = P line
    InTree (strings line parts) = P line
    InTree (name line n) = P line
    InTree (parens line e) = P line × InTree e
    InTree (unary line op e) = P line × InTree e
    InTree (address line e) = P line × InTree e
    InTree (dereference line e) = P line × InTree e
    InTree (cast line parts d e) = P line × InTree e
    InTree (sizeof_expr line e) = P line × InTree e
    InTree (sizeof_type line parts d) = P line
    InTree (step line op e) = P line × InTree e
    InTree (member line e n) = P line × InTree e
    InTree (arrow line e n) = P line × InTree e
    InTree (subscript line a b) = P line × InTree a × InTree b
    InTree (binary line op a b) = P line × InTree a × InTree b
    InTree (choice line test a b) = P line × InTree test × InTree a × InTree b
    InTree (assign line op a b) = P line × InTree a × InTree b
    InTree (comma line a b) = P line × InTree a × InTree b
    InTree (call f arguments) = InTree f × InTrees arguments

    pub InTrees : Trees → Type 0
    InTrees none = Unit {0}
    InTrees (more first rest) = InTree first × InTrees rest

  abbrev pub InMaybeTree : Option Tree → Type 0
  InMaybeTree None = Unit {0}
  InMaybeTree (Some e) = InTree e

  abbrev mutual
    pub InInitial : Initial → Type 0
    InInitial (initial e) = InTree e
    InInitial (braces line items) = P line × InInitials items

    pub InInitials : Initials → Type 0
    InInitials no_initial = Unit {0}
    InInitials (initials first rest) = InInitial first × InInitials rest

  abbrev pub InInitializer : Option Initial → Type 0
  InInitializer None = Unit {0}
  InInitializer (Some i) = InInitial i

  -- of a declarator that has a name
  abbrev pub InDeclarator : Full → Type 0
  InDeclarator d = P (full_line d) × P (name_line d)

  abbrev pub InDeclarators : Declarators → Type 0
  InDeclarators none_declared = Unit {0}
  InDeclarators (declarator d i rest) = InDeclarator d × InInitializer i × InDeclarators rest

  abbrev mutual
    pub InTreeStatement : Statement → Type 0
    InTreeStatement (block line is) = InTreeItems is
    InTreeStatement (if_then line test s) = P line × InTree test × InTreeStatement s
    InTreeStatement (if_else line test s u) = P line × InTree test × InTreeStatement s × InTreeStatement u
    InTreeStatement (evaluate e) = InTree e
    InTreeStatement (return_nothing line) = P line
    InTreeStatement (return_value line e) = P line × InTree e
    InTreeStatement (empty line) = Unit {0}
    InTreeStatement (while_loop line test s) = P line × InTree test × InTreeStatement s
    InTreeStatement (do_loop line s test) = P line × InTreeStatement s × InTree test
    InTreeStatement (for_loop line a b c s) = P line × InMaybeTree a × InMaybeTree b × InMaybeTree c × InTreeStatement s
    InTreeStatement (for_declared line parts ds b c s) = P line × InDeclarators ds × InMaybeTree b × InMaybeTree c × InTreeStatement s
    InTreeStatement (switch_on line e s) = P line × InTree e × InTreeStatement s
    InTreeStatement (case_of line e s) = P line × InTree e × InTreeStatement s
    InTreeStatement (default_of line s) = P line × InTreeStatement s
    InTreeStatement (labelled line n s) = InTreeStatement s
    InTreeStatement (goto_label line n) = P line
    InTreeStatement (break_off line) = P line
    InTreeStatement (continue_on line) = P line

    pub InTreeItems : Items → Type 0
    InTreeItems done = Unit {0}
    InTreeItems (declares parts ds rest) = InDeclarators ds × InTreeItems rest
    InTreeItems (does s rest) = InTreeStatement s × InTreeItems rest

  abbrev pub InExternals : Externals → Type 0
  InExternals no_more = Unit {0}
  InExternals (declared parts ds rest) = InDeclarators ds × InExternals rest
  InExternals (defines parts d body rest) = InDeclarator d × InTreeStatement body × InExternals rest
