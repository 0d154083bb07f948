-- The lines that the parts of a typed file carry.
use Rattle.std.specs.Prelude.{ℕ, ◌≤◌, List, [], ◌∷◌, Option, Some, None}
use Rattle.core_tree.specs.Trees.{Place, variable_at, object_at, literal_at, pointed, arrow, member, element, subscript, Expression, constant, read, convert, sign, is_zero, arithmetic, compare, logical, choice, assign, update, step, comma, assertion, assumption, draw, part, discard, discard_structure, call, function_name, size_of_value, size_of_structure, address, sum, distance, relation, pointer_update, pointer_step, allocate, allocate_zeroed, release, exit, abort, Structure, copy, choose, put, follow, section, list, string, give, Parts, no_part, number_part, structure_part, Arguments, no_argument, number_argument, structure_argument, Statement, block, if_then, if_else, evaluate, returns, returns_structure, returns_nothing, for_loop, do_loop, switch, breaks, continues, jumps, stray, Items, done, declares, initializes, initializes_structure, does, label, case_at, default_at, Procedure, Static, TypedFile}

-- the lines of files count from 1
abbrev pub IsLine : ℕ → Type 0
IsLine line = 1 ≤ line

-- each line that stands in a part has the property
module _ (P : ℕ → Type 0) where
  abbrev mutual
    pub InPlace : Place → Type 0
    InPlace (variable_at line v offset) = P line
    InPlace (object_at line k offset) = P line
    InPlace (literal_at line k) = P line
    InPlace (pointed line e) = P line × InExpression e
    InPlace (arrow line e offset) = P line × InExpression e
    InPlace (member line p offset) = P line × InPlace p
    InPlace (element line p e size whole swapped) = P line × InPlace p × InExpression e
    InPlace (subscript line a e size swapped) = P line × InExpression a × InExpression e

    pub InExpression : Expression → Type 0
    InExpression (constant line t bits) = P line
    InExpression (read t p) = InPlace p
    InExpression (convert to e) = InExpression e
    InExpression (sign line op e) = P line × InExpression e
    InExpression (is_zero line e) = P line × InExpression e
    InExpression (arithmetic line op a b) = P line × InExpression a × InExpression b
    InExpression (compare line op a b) = P line × InExpression a × InExpression b
    InExpression (logical line op a b) = P line × InExpression a × InExpression b
    InExpression (choice line test a b) = P line × InExpression test × InExpression a × InExpression b
    InExpression (assign line t p e) = P line × InPlace p × InExpression e
    InExpression (update line t p op u e) = P line × InPlace p × InExpression e
    InExpression (step line t p op before) = P line × InPlace p
    InExpression (comma line a b) = P line × InExpression a × InExpression b
    InExpression (assertion line e) = P line × InExpression e
    InExpression (assumption line e) = P line × InExpression e
    InExpression (draw line t) = P line
    InExpression (part line t offset a) = P line × InStructure a
    InExpression (discard line e) = P line × InExpression e
    InExpression (discard_structure a) = InStructure a
    InExpression (call line f used t args) = P line × InArguments args
    InExpression (function_name line) = P line
    InExpression (size_of_value line bits e) = P line × InExpression e
    InExpression (size_of_structure line bits a) = P line × InStructure a
    InExpression (address line p) = P line × InPlace p
    InExpression (sum line a e n swapped) = P line × InExpression a × InExpression e
    InExpression (distance line a b n) = P line × InExpression a × InExpression b
    InExpression (relation line op a b) = P line × InExpression a × InExpression b
    InExpression (pointer_update line p n e) = P line × InPlace p × InExpression e
    InExpression (pointer_step line p n before) = P line × InPlace p
    InExpression (allocate line e) = P line × InExpression e
    InExpression (allocate_zeroed line a b) = P line × InExpression a × InExpression b
    InExpression (release line e) = P line × InExpression e
    InExpression (exit line e) = P line × InExpression e
    InExpression (abort line) = P line

    pub InStructure : Structure → Type 0
    InStructure (copy p size) = InPlace p
    InStructure (choose line test a b) = P line × InExpression test × InStructure a × InStructure b
    InStructure (put line p a) = P line × InPlace p × InStructure a
    InStructure (follow line e a) = P line × InExpression e × InStructure a
    InStructure (section line offset size a) = P line × InStructure a
    InStructure (list line size ps) = P line × InParts ps
    InStructure (string line size bytes) = P line
    InStructure (give line f used size args) = P line × InArguments args

    pub InParts : Parts → Type 0
    InParts no_part = Unit {0}
    InParts (number_part offset e rest) = InExpression e × InParts rest
    InParts (structure_part offset a rest) = InStructure a × InParts rest

    pub InArguments : Arguments → Type 0
    InArguments no_argument = Unit {0}
    InArguments (number_argument e rest) = InExpression e × InArguments rest
    InArguments (structure_argument a rest) = InStructure a × InArguments rest

  -- of a loop's part or a function's body, which may be missing
  abbrev pub InMaybe : Option Expression → Type 0
  InMaybe None = Unit {0}
  InMaybe (Some e) = InExpression e

  abbrev mutual
    pub InStatement : Statement → Type 0
    InStatement (block items) = InItems items
    InStatement (if_then line test s) = P line × InExpression test × InStatement s
    InStatement (if_else line test s t) = P line × InExpression test × InStatement s × InStatement t
    InStatement (evaluate e) = InExpression e
    InStatement (returns line e) = P line × InExpression e
    InStatement (returns_structure line a) = P line × InStructure a
    InStatement (returns_nothing line) = P line
    InStatement (for_loop line n first test last s) = P line × InMaybe first × InMaybe test × InMaybe last × InStatement s
    InStatement (do_loop line n s test) = P line × InStatement s × InExpression test
    InStatement (switch line e items) = P line × InExpression e × InItems items
    InStatement (breaks line) = P line
    InStatement (continues line) = P line
    InStatement (jumps line n) = P line
    InStatement (stray line s) = P line × InStatement s

    pub InItems : Items → Type 0
    InItems done = Unit {0}
    InItems (declares line v rest) = P line × InItems rest
    InItems (initializes line v drawn e rest) = P line × InExpression e × InItems rest
    InItems (initializes_structure line v drawn a rest) = P line × InStructure a × InItems rest
    InItems (does s rest) = InStatement s × InItems rest
    InItems (label n rest) = InItems rest
    InItems (case_at line t bits rest) = P line × InItems rest
    InItems (default_at line rest) = P line × InItems rest

  abbrev pub InBody : Option Statement → Type 0
  InBody None = Unit {0}
  InBody (Some s) = InStatement s

  -- of a line that a declarator may have told
  abbrev pub InDeclared : Option ℕ → Type 0
  InDeclared None = Unit {0}
  InDeclared (Some line) = P line

  pub record InProcedure (f : Procedure) : Type 0 where
    pub name : P f.line
    pub ellipsis : InDeclared f.ellipsis
    pub body : InBody f.body

  abbrev pub InProcedures : List Procedure → Type 0
  InProcedures [] = Unit {0}
  InProcedures (f ∷ fs) = InProcedure f × InProcedures fs

  abbrev pub InStatics : List Static → Type 0
  InStatics [] = Unit {0}
  InStatics (o ∷ os) = InDeclared o.undefined × InStatics os

  pub record InFile (core : TypedFile) : Type 0 where
    pub functions : InProcedures core.functions
    pub objects : InStatics core.objects
