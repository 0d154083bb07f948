-- The functions of a file, or the first broken rule (C11 6.9).
use Rattle.std.specs.Prelude.{ℕ, ◌+◌, ◌-◌, ◌++◌, Bool, true, false, List, [], ◌∷◌, length, take, map, Option, Some, None, Result, Ok, Err}
use Rattle.c_tree.specs.Declarations.{Parts, Full, Parameters, name_of}
use Rattle.c_tree.specs.Statements.{Statement, block, Externals, no_more, declared, defines}
use Rattle.core_tree.specs.Trees.{TypedFile}
use Rattle.core_tree.specs.Trees as cores
use Rattle.c_scope.specs.declared.meaning.Meaning.TheVariants.{Function}
use Rattle.c_scope.specs.Scopes.{Environment, binding, Named, FunctionType, Scoped, first_scope, no_flow, with_defined, variables_in, linked_to}
use Rattle.c_scope.specs.Faults.{◌>>=◌, Fault, on_line}
use Rattle.c_elab_base.specs.Regions.{earlier}
use Rattle.c_elab_base.specs.Derivations.{Derived, called, Derivation, lengths, callable, derivation, full_line}
use Rattle.c_elab_base.specs.Specifiers.{parted, named_parts, inner_region, are_several, Passed}
use Rattle.c_elab_type.specs.Specifiers.{typed_parts, typed_full, typed_parameters}
use Rattle.c_elab_object.specs.Functions.{function_node, definition_node, declared_callable}
use Rattle.c_elab_object.specs.DeclaratorLists.{in_file, typed_outside}
use Rattle.c_elab_flow.specs.Jumps.{labels_in}
use Rattle.c_elab_decl.specs.Statements.{TypedStatement, typed_items}
use Rattle.c_elab_flow.specs.Files.{Definition, with_bodies, procedure_of, static_of, own_parameters}

-- the function type, or the rule that its declarator breaks
abbrev pub made_by : Derivation → Result FunctionType ℕ
made_by (lengths ls) = Err 6
made_by (callable made) = made

-- its parameters, whose names are in scope
abbrev pub own_suffixes : Scoped → Full → Option (Parameters × Bool) → Result (List Derived × Passed) Fault
own_suffixes s d None = do
  x ← typed_full s d
  Ok (x.0, record { parameters = []; scope = x.1 })
own_suffixes s d (Some own) = do
  p ← typed_parameters (inner_region s) (are_several own.0) (record { parameters = []; scope = s }) own.0
  Ok (called p.parameters own.1 ∷ [], p)

-- rule 2: the scope outside of the parameters has no other thing of that name
abbrev pub definition_type : Scoped → Named → Full → List Derived → Passed → Result FunctionType ℕ
definition_type outer base d ds p = do
  f ← function_node (record p.scope { bindings = outer.bindings }) true (name_of d) (earlier in_file outer (name_of d)) (made_by (derivation p.scope.functions p.scope.records.done base ds))
  definition_node p.scope.records.done p.parameters f

-- The names of parameters, in front of the function's name, which is declared behind its declarator (C11 6.2.1p7). What the
-- function gives is known, and no loop, label and switch so far.
abbrev pub names_within : Scoped → Scoped → Environment
names_within outer s = take (length s.bindings - length outer.bindings) s.bindings

abbrev pub within_body : Scoped → Scoped → Full → FunctionType → Scoped
within_body outer s d f =
    let x = declared_callable s.functions d f true (linked_to s.functions.named (name_of d)) in
    record s {
      bindings = names_within outer s ++ binding (name_of d) (Function x.0) ∷ outer.bindings;
      functions = x.1;
      flow = record { gives = f.gives.type; loops = 0; labels = 0; switch = None };
    }

-- the function of the name that is declared last
abbrev pub own_number : Option ℕ → ℕ
own_number None = 0
own_number (Some k) = k

-- A body: its block's items stand in the scope of the parameters (C11 6.2.1p4).
abbrev pub typed_body_of : (outer : ℕ) → Scoped → Statement → TypedStatement
typed_body_of outer s (block line is) = do
  x ← typed_items (record { labels = labels_in (block line is); breaks = false; continues = false }) false outer [] s is
  Ok (cores.block x.0, x.1)
typed_body_of outer s _ = Ok (cores.block cores.done, s)

-- names and variables of a function end with it, but for its own
abbrev pub outside : Scoped → Scoped → List ℕ → Scoped
outside outer s name = record s { bindings = binding name (Function (own_number (linked_to s.functions.named name))) ∷ outer.bindings; variables = []; flow = no_flow }

abbrev pub typed_definition : Scoped → Parts → Full → Statement → Result (Definition × Scoped) Fault
typed_definition s parts d body = do
  x ← named_parts parts (typed_parts in_file false (parted [] s) parts)
  p ← own_suffixes x.1 d (own_parameters d)
  f ← on_line (full_line d) (definition_type x.1 x.0 d p.0 p.1)
  y ← typed_body_of (length x.1.bindings + 1) (within_body x.1 p.1.scope d f) body
  Ok (record { number = own_number (linked_to y.1.functions.named (name_of d)); variables = variables_in y.1; labels = length (labels_in body); body = y.0 }, outside x.1 y.1 (name_of d))

-- ---- files

-- what stands in a file, in a scope outside of functions: its definitions, and the scope behind it
abbrev pub typed_externals : Scoped → Externals → Result (List Definition × Scoped) Fault
typed_externals s no_more = Ok ([], s)
typed_externals s (declared parts ds rest) = do
  t ← typed_outside s parts ds
  typed_externals t rest
typed_externals s (defines parts d body rest) = do
  x ← typed_definition s parts d body
  y ← typed_externals x.1 rest
  Ok (x.0 ∷ y.0, y.1)

-- the names of the functions that the file defines
abbrev pub with_definitions : Scoped → Externals → Scoped
with_definitions s no_more = s
with_definitions s (declared parts ds rest) = with_definitions s rest
with_definitions s (defines parts d body rest) = with_definitions (record s { functions = with_defined s.functions (name_of d) }) rest

-- the functions and the objects of a file; no string literal is an object, and no form over pointers stands there
abbrev pub elaborated : Externals → Result TypedFile Fault
elaborated file = do
  x ← typed_externals (with_definitions first_scope file) file
  Ok (record {
    functions = with_bodies (map (procedure_of x.1.records.done) x.1.functions.all) x.0;
    objects = map (static_of x.1.records.done) x.1.objects;
    literals = [];
    pointers = false;
  })
