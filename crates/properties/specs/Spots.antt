-- Where the loops and assertions of a body stand, in the order of their own tokens: the keyword of a loop, and the name that a
-- call of an assertion calls. Each definition puts those of one tree behind others.
use Rattle.std.specs.Prelude.{ℕ, Bool, ◌||◌, ◌++◌, List, [], ◌∷◌, Option, Some, None, if◌then◌else◌, codes}
use Rattle.std.specs.Str.{bytes_eq}
use Rattle.c_tree.specs.Tree.{Tree, constant, character, strings, name, parens, unary, cast, sizeof_expr, sizeof_type, step, member, binary, choice, assign, comma, call, Trees, none, more, Declared, unnamed, named, inside, Suffixes, no_suffix, bounded, unbounded, address, dereference, arrow, subscript, pointing}
use Rattle.c_tree.specs.Declarations.{Enumerated, Part, type_part, storage, function, structure, enumeration, Parts, no_part, part, Members, no_member, members, Full, full_unnamed, full_named, full_inside, Fulls, no_full, full, FullSuffixes, full_end, full_bounded, full_open, full_empty, full_void, full_parameters, Parameters, no_parameter, parameter, Initial, initial, braces, Initials, no_initial, initials, Declarators, none_declared, declarator, full_pointing}
use Rattle.c_tree.specs.Statements.{Statement, block, if_then, if_else, evaluate, return_nothing, return_value, empty, while_loop, do_loop, for_loop, for_declared, switch_on, case_of, default_of, labelled, goto_label, break_off, continue_on, Items, done, declares, does}
use Rattle.properties.specs.declared.spots.Spot.{Spot}
use Rattle.properties.specs.declared.spots.Spot.TheVariants as spots

-- ---- assertions

abbrev pub is_assertion : List ℕ → Bool
is_assertion n = bytes_eq n (codes "assert") || bytes_eq n (codes "__CPROVER_assert")

-- the line of the name of an assertion, also in parentheses
abbrev pub assertion_line : Tree → Option ℕ
assertion_line (name line n) = if is_assertion n then Some line else None
assertion_line (parens line e) = assertion_line e
assertion_line _ = None

abbrev pub with_assertion : List Spot → Option ℕ → List Spot
with_assertion before None = before
with_assertion before (Some line) = before ++ spots.Assertion line ∷ []

-- the assertion that a call of this function is, if it is one
abbrev pub with_called : List Spot → Tree → List Spot
with_called before f = with_assertion before (assertion_line f)

-- of expressions, within the operands of `sizeof` and the bounds of type names too
abbrev mutual
  pub with_tree : List Spot → Tree → List Spot
  with_tree before (constant line c) = before
  with_tree before (character line c) = before
  with_tree before (strings line parts) = before
  with_tree before (name line n) = before
  with_tree before (parens line e) = with_tree before e
  with_tree before (unary line op e) = with_tree before e
  with_tree before (address line e) = with_tree before e
  with_tree before (dereference line e) = with_tree before e
  with_tree before (cast line parts d e) = with_tree (with_declared before d) e
  with_tree before (sizeof_expr line e) = with_tree before e
  with_tree before (sizeof_type line parts d) = with_declared before d
  with_tree before (step line op e) = with_tree before e
  with_tree before (member line e n) = with_tree before e
  with_tree before (arrow line e n) = with_tree before e
  with_tree before (subscript line a b) = with_tree (with_tree before a) b
  with_tree before (binary line op a b) = with_tree (with_tree before a) b
  with_tree before (choice line a b c) = with_tree (with_tree (with_tree before a) b) c
  with_tree before (assign line op a b) = with_tree (with_tree before a) b
  with_tree before (comma line a b) = with_tree (with_tree before a) b
  with_tree before (call f args) = with_trees (with_tree (with_called before f) f) args

  pub with_trees : List Spot → Trees → List Spot
  with_trees before none = before
  with_trees before (more first rest) = with_trees (with_tree before first) rest

  pub with_declared : List Spot → Declared → List Spot
  with_declared before (unnamed suffixes) = with_suffixes before suffixes
  with_declared before (named line n suffixes) = with_suffixes before suffixes
  with_declared before (inside line d suffixes) = with_suffixes (with_declared before d) suffixes
  with_declared before (pointing line qs d) = with_declared before d

  pub with_suffixes : List Spot → Suffixes → List Spot
  with_suffixes before no_suffix = before
  with_suffixes before (bounded line e rest) = with_suffixes (with_tree before e) rest
  with_suffixes before (unbounded line rest) = with_suffixes before rest

abbrev pub with_value : List Spot → Option Tree → List Spot
with_value before None = before
with_value before (Some e) = with_tree before e

-- ---- of declarations

abbrev pub with_enumerators : List Spot → List Enumerated → List Spot
with_enumerators before [] = before
with_enumerators before (e ∷ es) = with_enumerators (with_value before e.value) es

abbrev mutual
  pub with_part : List Spot → Part → List Spot
  with_part before (type_part p) = before
  with_part before (storage line class) = before
  with_part before (function line word) = before
  with_part before (structure line kind tag ms) = with_members before ms
  with_part before (enumeration line tag es) = with_enumerators before es

  pub with_parts : List Spot → Parts → List Spot
  with_parts before no_part = before
  with_parts before (part first rest) = with_parts (with_part before first) rest

  pub with_members : List Spot → Members → List Spot
  with_members before no_member = before
  with_members before (members parts ds rest) = with_members (with_fulls (with_parts before parts) ds) rest

  pub with_full : List Spot → Full → List Spot
  with_full before (full_unnamed suffixes) = with_full_suffixes before suffixes
  with_full before (full_named line n suffixes) = with_full_suffixes before suffixes
  with_full before (full_inside line d suffixes) = with_full_suffixes (with_full before d) suffixes
  with_full before (full_pointing line qs d) = with_full before d

  pub with_fulls : List Spot → Fulls → List Spot
  with_fulls before no_full = before
  with_fulls before (full first rest) = with_fulls (with_full before first) rest

  pub with_full_suffixes : List Spot → FullSuffixes → List Spot
  with_full_suffixes before full_end = before
  with_full_suffixes before (full_bounded line e rest) = with_full_suffixes (with_tree before e) rest
  with_full_suffixes before (full_open line rest) = with_full_suffixes before rest
  with_full_suffixes before (full_empty line rest) = with_full_suffixes before rest
  with_full_suffixes before (full_void line rest) = with_full_suffixes before rest
  with_full_suffixes before (full_parameters line ps variadic rest) = with_full_suffixes (with_parameters before ps) rest

  pub with_parameters : List Spot → Parameters → List Spot
  with_parameters before no_parameter = before
  with_parameters before (parameter parts d rest) = with_parameters (with_full (with_parts before parts) d) rest

abbrev mutual
  pub with_initial : List Spot → Initial → List Spot
  with_initial before (initial e) = with_tree before e
  with_initial before (braces line items) = with_initials before items

  pub with_initials : List Spot → Initials → List Spot
  with_initials before no_initial = before
  with_initials before (initials first rest) = with_initials (with_initial before first) rest

abbrev pub with_initializer : List Spot → Option Initial → List Spot
with_initializer before None = before
with_initializer before (Some i) = with_initial before i

abbrev pub with_declarators : List Spot → Declarators → List Spot
with_declarators before none_declared = before
with_declarators before (declarator d i rest) = with_declarators (with_initializer (with_full before d) i) rest

-- ---- of statements

abbrev pub with_loop : List Spot → ℕ → List Spot
with_loop before line = before ++ spots.Loop line ∷ []

abbrev mutual
  pub with_statement : List Spot → Statement → List Spot
  with_statement before (block line is) = with_items before is
  with_statement before (if_then line test s) = with_statement (with_tree before test) s
  with_statement before (if_else line test s u) = with_statement (with_statement (with_tree before test) s) u
  with_statement before (evaluate e) = with_tree before e
  with_statement before (return_nothing line) = before
  with_statement before (return_value line e) = with_tree before e
  with_statement before (empty line) = before
  with_statement before (while_loop line e s) = with_statement (with_tree (with_loop before line) e) s
  with_statement before (do_loop line s e) = with_tree (with_statement (with_loop before line) s) e
  with_statement before (for_loop line a b c s) = with_statement (with_value (with_value (with_value (with_loop before line) a) b) c) s
  with_statement before (for_declared line parts ds b c s) =
      with_statement (with_value (with_value (with_declarators (with_parts (with_loop before line) parts) ds) b) c) s
  with_statement before (switch_on line e s) = with_statement (with_tree before e) s
  with_statement before (case_of line e s) = with_statement (with_tree before e) s
  with_statement before (default_of line s) = with_statement before s
  with_statement before (labelled line n s) = with_statement before s
  with_statement before (goto_label line n) = before
  with_statement before (break_off line) = before
  with_statement before (continue_on line) = before

  pub with_items : List Spot → Items → List Spot
  with_items before done = before
  with_items before (declares parts ds rest) = with_items (with_declarators (with_parts before parts) ds) rest
  with_items before (does s rest) = with_items (with_statement before s) rest
