-- The lines of a typed file are those of its tree.
use Rattle.std.proofs.Common.{◌≡◌, ℕ, ◌+◌, Bool, true, false, List, [], ◌∷◌, ◌++◌, length, map, Option, Some, None, Ok}
use Rattle.std.specs.Prelude.{slice_get}
use Rattle.c_tree.specs.Tree.{Tree}
use Rattle.c_tree.specs.Declarations.{Parts, Full, Parameters, name_of, parts_line}
use Rattle.c_tree.specs.Statements.{Statement, block, if_then, if_else, evaluate, return_nothing, return_value, empty, while_loop, do_loop, for_loop, for_declared, switch_on, case_of, default_of, labelled, goto_label, break_off, continue_on, Items, done, declares, does, Externals, no_more, declared, defines}
use Rattle.c_types.specs.Types.{CType, Completed}
use Rattle.c_types.specs.Types as ctypes
use Rattle.core_tree.specs.Trees.{Procedure, TypedFile}
use Rattle.core_tree.specs.Trees as cores
use Rattle.c_scope.specs.Scopes.{ObjectEntry, Callable, Scoped, first_scope, with_defined, linked_to}
use Rattle.c_scope.specs.Faults.{required, on_line}
use Rattle.c_scope.specs.Types.{specified_type}
use Rattle.c_elab_expr.specs.Typing.{operand, operand_by}
use Rattle.c_operands.specs.Operands.{Operand, number, record_value}
use Rattle.c_elab_base.specs.Derivations.{Derived, full_line}
use Rattle.c_elab_type.specs.Declarators.{Typed}
use Rattle.c_elab_base.specs.Specifiers.{Passed, inner_region, are_several, parted, named_parts}
use Rattle.c_elab_type.specs.Specifiers.{typed_parts, typed_full, typed_parameters, typed_specifiers}
use Rattle.c_elab_object.specs.DeclaratorLists.{in_file, typed_outside}
use Rattle.c_elab_flow.specs.Jumps.{jumps_in, is_passed}
use Rattle.c_elab_flow.specs.Nodes.{Around, in_loop, in_switch, with_loop, with_label, with_switch, switch_type, part_ignored, part_tested, return_node, return_nothing_node, jump_node, test_node, switch_value}
use Rattle.c_elab_decl.specs.Statements.{TypedStatement, in_block, as_block, own_block, as_items, switch_of, typed_rest, typed_statement, typed_front, typed_items}
use Rattle.c_elab_flow.specs.Files.{static_of, own_parameters, Definition, procedure_of, with_body, with_bodies}
use Rattle.c_elab_decl.specs.Files.{own_suffixes, definition_type, within_body, typed_body_of, typed_definition, typed_externals, with_definitions, elaborated}
use Rattle.told_lines.specs.TypedLines.{InExpression, InStructure, InMaybe, InStatement, InItems, InDeclared, InProcedure, InProcedures, InStatics, InFile}
use Rattle.told_lines.specs.TreeLines.{InMaybeTree, InDeclarator, InTreeStatement, InTreeItems, InExternals}
use Rattle.told_lines.proofs.Results.{Good, ok, fails, bind, pass, on, Holds, needs, Each, replaced, got, either, good_either}
use Rattle.told_lines.proofs.Operands.{InOperand, number_good, record_lined, dropped_lined, operand_by_good, operand_good, as_type_in}
use Rattle.told_lines.proofs.Declarators.{InCallable, InEntry, Fine, FineItems, parts_good, full_good, parameters_good, specifiers_good, callable_lined, others_good, in_front_good, declaration_good}

module _ (P : ℕ → Type 0) where
  -- ---- nodes

  abbrev FineStatement : cores.Statement × Scoped → Type 0
  FineStatement y = InStatement P y.0 × Fine P y.1

  abbrev Leads : (cores.Items → cores.Items) → Type 0
  Leads f = (rest : cores.Items) → InItems P rest → InItems P (f rest)

  abbrev FineFront : (cores.Items → cores.Items) × Scoped → Type 0
  FineFront y = Leads y.0 × Fine P y.1

  ignored_good : (s : Scoped) (e : Option Tree) → InMaybeTree P e → Good (InMaybe P) (part_ignored s e)
  ignored_good s None h = ok (InMaybe P) _ tt
  ignored_good s (Some e) h = bind (InOperand P) (InMaybe P) (operand_by s false e) _ (operand_by_good P s false e h) (λ x g. ok (InMaybe P) _ (dropped_lined P s.records.done x g))

  tested_good : (s : Scoped) (e : Option Tree) → InMaybeTree P e → Good (Holds (InOperand P)) (part_tested s e)
  tested_good s None h = ok (Holds (InOperand P)) _ tt
  tested_good s (Some e) h = bind (InOperand P) (Holds (InOperand P)) (operand s e) _ (operand_good P s e h) (λ x g. ok (Holds (InOperand P)) _ g)

  test_good : (x : Option Operand) → Holds (InOperand P) x → Good (InMaybe P) (test_node x)
  test_good None h = ok (InMaybe P) _ tt
  test_good (Some x) h = bind (InExpression P) (InMaybe P) (number 17 x) _ (number_good P 17 x h) (λ e g. ok (InMaybe P) _ g)

  return_good : (done_ : List Completed) (line : ℕ) (t : CType) (x : Operand) → P line → InOperand P x → Good (InStatement P) (return_node done_ line t x)
  return_good done_ line ctypes.void x k h = fails _ _
  return_good done_ line (ctypes.integer t) x k h = bind (InExpression P) (InStatement P) (number 8 x) _ (number_good P 8 x h) (λ e g. ok (InStatement P) _ (k, as_type_in P t e g))
  return_good done_ line (ctypes.aggregate p) x k h =
      bind (InStructure P) (InStatement P) (required 8 (record_value done_ (ctypes.aggregate p) x)) _ (needs (InStructure P) 8 (record_value done_ (ctypes.aggregate p) x) (record_lined P done_ (ctypes.aggregate p) x h)) (λ a g. ok (InStatement P) _ (k, g))
  return_good done_ line (ctypes.array element n) x k h = fails _ _
  return_good done_ line (ctypes.pointer t c) x k h = fails _ _
  return_good done_ line (ctypes.function f) x k h = fails _ _

  return_nothing_good : (line : ℕ) (t : CType) → P line → Good (InStatement P) (return_nothing_node line t)
  return_nothing_good line ctypes.void k = ok (InStatement P) _ k
  return_nothing_good line (ctypes.integer t) k = fails _ _
  return_nothing_good line (ctypes.aggregate p) k = fails _ _
  return_nothing_good line (ctypes.array element n) k = fails _ _
  return_nothing_good line (ctypes.pointer t c) k = fails _ _
  return_nothing_good line (ctypes.function f) k = fails _ _

  switch_value_good : (x : Operand) → InOperand P x → Good (InExpression P) (switch_value x)
  switch_value_good x h = bind (InExpression P) (InExpression P) (number 17 x) _ (number_good P 17 x h) (λ e g. ok (InExpression P) _ (as_type_in P (switch_type x) e g))

  number_on : (line : ℕ) (x : Operand) → InOperand P x → Good (InExpression P) (on_line line (number 17 x))
  number_on line x h = on (InExpression P) line (number 17 x) (number_good P 17 x h)

  -- ---- statements

  block_good : (outer : Scoped) (items : Typed) → Good (FineItems P) items → Good FineStatement (as_block outer items)
  block_good outer items good = bind (FineItems P) FineStatement items _ good (λ y h. ok FineStatement _ h)

  own_good : (outer : Scoped) (items : Typed) → Good (FineItems P) items → Good (FineItems P) (own_block outer items)
  own_good outer items good = bind (FineItems P) (FineItems P) items _ good (λ y h. ok (FineItems P) _ h)

  items_as_good : (body : TypedStatement) → Good FineStatement body → Good (FineItems P) (as_items body)
  items_as_good body good = bind FineStatement (FineItems P) body _ good (λ y h. ok (FineItems P) _ ((h.0, tt), h.1))

  switch_good : (s : Scoped) (line : ℕ) (x : Operand) (items : Typed) → P line → InOperand P x → Good (FineItems P) items → Good FineStatement (switch_of s line x items)
  switch_good s line x items k g good =
      bind (FineItems P) FineStatement items _ good (λ y h. bind (InExpression P) FineStatement (on_line line (switch_value x)) _ (on (InExpression P) line (switch_value x) (switch_value_good x g)) (λ v l. ok FineStatement _ ((k, l, h.0), h.1)))

  rest_good : (line loop : ℕ) (first : Option cores.Expression) (s : Scoped) (test last : Option Tree) (body : TypedStatement) → P line → InMaybe P first → InMaybeTree P test → InMaybeTree P last → Good FineStatement body
      → Good FineStatement (typed_rest line loop first s test last body)
  rest_good line loop first s test last body k f t l good =
      bind (Holds (InOperand P)) FineStatement (part_tested s test) _ (tested_good s test t) (λ x p.
      bind (InMaybe P) FineStatement (part_ignored s last) _ (ignored_good s last l) (λ c q.
      bind FineStatement FineStatement body _ good (λ y h.
      bind (InMaybe P) FineStatement (on_line line (test_node x)) _ (on (InMaybe P) line (test_node x) (test_good x p)) (λ e m. ok FineStatement _ ((k, f, m, q, h.0), h.1)))))

  mutual
    statement_good : (a : Around) (s : Scoped) (x : Statement) → Fine P s → InTreeStatement P x → Good FineStatement (typed_statement a s x)
    statement_good a s (block line is) fine k = block_good s _ (items_good a false (length s.bindings) [] s is fine k)
    statement_good a s (if_then line test one) fine k =
        bind (InOperand P) FineStatement (operand s test) _ (operand_good P s test k.1) (λ x g.
        bind FineStatement FineStatement (typed_statement a s one) _ (statement_good a s one fine k.2) (λ y h.
        bind (InExpression P) FineStatement (on_line line (number 17 x)) _ (number_on line x g) (λ e l. ok FineStatement _ ((k.0, l, h.0), h.1))))
    statement_good a s (if_else line test one other) fine k =
        bind (InOperand P) FineStatement (operand s test) _ (operand_good P s test k.1) (λ x g.
        bind FineStatement FineStatement (typed_statement a s one) _ (statement_good a s one fine k.2) (λ y h.
        bind FineStatement FineStatement (typed_statement a y.1 other) _ (statement_good a y.1 other h.1 k.3) (λ z m.
        bind (InExpression P) FineStatement (on_line line (number 17 x)) _ (number_on line x g) (λ e l. ok FineStatement _ ((k.0, l, h.0, m.0), m.1)))))
    statement_good a s (evaluate e) fine k = bind (InOperand P) FineStatement (operand_by s false e) _ (operand_by_good P s false e k) (λ x g. ok FineStatement _ (dropped_lined P s.records.done x g, fine))
    statement_good a s (return_nothing line) fine k =
        bind (InStatement P) FineStatement (on_line line (return_nothing_node line s.flow.gives)) _ (on (InStatement P) line (return_nothing_node line s.flow.gives) (return_nothing_good line s.flow.gives k)) (λ c g. ok FineStatement _ (g, fine))
    statement_good a s (return_value line e) fine k =
        bind (InOperand P) FineStatement (operand s e) _ (operand_good P s e k.1) (λ x g.
        bind (InStatement P) FineStatement (on_line line (return_node s.records.done line s.flow.gives x)) _ (on (InStatement P) line (return_node s.records.done line s.flow.gives x) (return_good s.records.done line s.flow.gives x k.0 g)) (λ c l. ok FineStatement _ (l, fine)))
    statement_good a s (empty line) fine k = ok FineStatement _ (tt, fine)
    statement_good a s (while_loop line test body) fine k =
        bind (InOperand P) FineStatement (operand s test) _ (operand_good P s test k.1) (λ x g.
        bind FineStatement FineStatement (typed_statement (in_loop a) (with_loop s) body) _ (statement_good (in_loop a) (with_loop s) body fine k.2) (λ y h.
        bind (InExpression P) FineStatement (on_line line (number 17 x)) _ (number_on line x g) (λ e l. ok FineStatement _ ((k.0, tt, l, tt, h.0), h.1))))
    statement_good a s (do_loop line body test) fine k =
        bind FineStatement FineStatement (typed_statement (in_loop a) (with_loop s) body) _ (statement_good (in_loop a) (with_loop s) body fine k.1) (λ y h.
        bind (InOperand P) FineStatement (operand y.1 test) _ (operand_good P y.1 test k.2) (λ x g.
        bind (InExpression P) FineStatement (on_line line (number 17 x)) _ (number_on line x g) (λ e l. ok FineStatement _ ((k.0, h.0, l), h.1))))
    statement_good a s (for_loop line first test last body) fine k =
        bind (InMaybe P) FineStatement (part_ignored s first) _ (ignored_good s first k.1) (λ b g.
        rest_good line s.flow.loops b (with_loop s) test last _ k.0 g k.2 k.3 (statement_good (in_loop a) (with_loop s) body fine k.4))
    statement_good a s (for_declared line parts ds test last body) fine k =
        block_good s _ (declaration_good P (in_block (length s.bindings)) s false parts ds _ fine k.1 (λ t h.
        items_as_good _ (rest_good line t.flow.loops None (with_loop t) test last _ k.0 tt k.2 k.3 (statement_good (in_loop a) (with_loop t) body h k.4))))
    statement_good a s (switch_on line e (block at is)) fine k =
        bind (InOperand P) FineStatement (operand s e) _ (operand_good P s e k.1) (λ x g. switch_good s line x _ k.0 g (own_good s _ (items_good (in_switch a) true (length s.bindings) [] (with_switch s (switch_type x)) is fine k.2)))
    statement_good a s (switch_on line e body) fine k =
        bind (InOperand P) FineStatement (operand s e) _ (operand_good P s e k.1) (λ x g. switch_good s line x _ k.0 g (items_as_good _ (statement_good (in_switch a) (with_switch s (switch_type x)) body fine k.2)))
    statement_good a s (case_of line e body) fine k =
        pass FineStatement (operand s e) _ (λ x. bind FineStatement FineStatement (typed_statement a s body) _ (statement_good a s body fine k.2) (λ y h. pass FineStatement _ _ (λ c. ok FineStatement _ ((k.0, h.0), h.1))))
    statement_good a s (default_of line body) fine k = bind FineStatement FineStatement (typed_statement a s body) _ (statement_good a s body fine k.1) (λ y h. pass FineStatement _ _ (λ c. ok FineStatement _ ((k.0, h.0), h.1)))
    statement_good a s (labelled line n body) fine k = bind FineStatement FineStatement (typed_statement a (with_label s) body) _ (statement_good a (with_label s) body fine k) (λ y h. pass FineStatement _ _ (λ new. ok FineStatement _ h))
    statement_good a s (goto_label line n) fine k =
        bind (InStatement P) FineStatement (on_line line (jump_node line a.labels n)) _ (on (InStatement P) line (jump_node line a.labels n) (pass (InStatement P) _ _ (λ j. ok (InStatement P) _ k))) (λ c g. ok FineStatement _ (g, fine))
    statement_good a s (break_off line) fine k = good_either FineStatement a.breaks _ _ (ok FineStatement _ (k, fine)) (fails _ _)
    statement_good a s (continue_on line) fine k = good_either FineStatement a.continues _ _ (ok FineStatement _ (k, fine)) (fails _ _)

    front_of_good : (a : Around) (switched : Bool) (s : Scoped) (x : Statement) (elsewhere : TypedStatement) → Fine P s → InTreeStatement P x → Good FineStatement elsewhere → Good FineFront (typed_front a switched s x elsewhere)
    front_of_good a switched s (labelled line n body) elsewhere fine k good =
        bind FineFront FineFront (typed_front a switched (with_label s) body (typed_statement a (with_label s) body)) _
        (front_of_good a switched (with_label s) body (typed_statement a (with_label s) body) fine k (statement_good a (with_label s) body fine k)) (λ y h. pass FineFront _ _ (λ new. ok FineFront _ ((λ rest g. h.0 rest g), h.1)))
    front_of_good a true s (case_of line e body) elsewhere fine k good =
        pass FineFront (operand s e) _ (λ x. bind FineFront FineFront (typed_front a true s body (typed_statement a s body)) _
        (front_of_good a true s body (typed_statement a s body) fine k.2 (statement_good a s body fine k.2)) (λ y h. pass FineFront _ _ (λ c. ok FineFront _ ((λ rest g. (k.0, h.0 rest g)), h.1))))
    front_of_good a true s (default_of line body) elsewhere fine k good =
        bind FineFront FineFront (typed_front a true s body (typed_statement a s body)) _ (front_of_good a true s body (typed_statement a s body) fine k.1 (statement_good a s body fine k.1))
        (λ y h. pass FineFront _ _ (λ c. ok FineFront _ ((λ rest g. (k.0, h.0 rest g)), h.1)))
    front_of_good a switched s _ elsewhere fine k good = bind FineStatement FineFront elsewhere _ good (λ y h. ok FineFront _ ((λ rest g. (h.0, g)), h.1))

    items_good : (a : Around) (switched : Bool) (outer : ℕ) (jumped : List (List ℕ)) (s : Scoped) (is : Items) → Fine P s → InTreeItems P is → Good (FineItems P) (typed_items a switched outer jumped s is)
    items_good a switched outer jumped s done fine k = ok (FineItems P) _ (tt, fine)
    items_good a switched outer jumped s (declares parts ds rest) fine k =
        declaration_good P (in_block outer) s (is_passed switched jumped rest) parts ds _ fine k.0 (λ t h. items_good a switched outer jumped t rest h k.1)
    items_good a switched outer jumped s (does first rest) fine k =
        bind FineFront (FineItems P) (typed_front a switched s first (typed_statement a s first)) _ (front_of_good a switched s first (typed_statement a s first) fine k.0 (statement_good a s first fine k.0))
        (λ x h. in_front_good P x.0 _ h.0 (items_good a switched outer (jumped ++ jumps_in first) x.1 rest h.1 k.1))

  -- ---- files

  abbrev FineOwn : List Derived × Passed → Type 0
  FineOwn x = Fine P x.1.scope

  own_suffixes_good : (s : Scoped) (d : Full) (own : Option (Parameters × Bool)) → Fine P s → Good FineOwn (own_suffixes s d own)
  own_suffixes_good s d None fine = bind (λ x. Fine P x.1) FineOwn (typed_full s d) _ (full_good P s d fine) (λ x h. ok FineOwn _ h)
  own_suffixes_good s d (Some own) fine =
      bind (λ p. Fine P p.scope) FineOwn (typed_parameters (inner_region s) (are_several own.0) (record { parameters = []; scope = s }) own.0) _
      (parameters_good P (inner_region s) (are_several own.0) (record { parameters = []; scope = s }) own.0 fine) (λ p h. ok FineOwn _ h)

  body_good : (outer : ℕ) (s : Scoped) (body : Statement) → Fine P s → InTreeStatement P body → Good FineStatement (typed_body_of outer s body)
  body_good outer s (block line is) fine k = bind (FineItems P) FineStatement (typed_items _ false outer [] s is) _ (items_good _ false outer [] s is fine k) (λ x h. ok FineStatement _ h)
  body_good outer s _ fine k = ok FineStatement _ (tt, fine)

  abbrev FineDefinition : Definition × Scoped → Type 0
  FineDefinition x = InStatement P x.0.body × Fine P x.1

  definition_good : (s : Scoped) (parts : Parts) (d : Full) (body : Statement) → Fine P s → InDeclarator P d → InTreeStatement P body → Good FineDefinition (typed_definition s parts d body)
  definition_good s parts d body fine p k =
      bind (λ x. Fine P x.1) FineDefinition (named_parts parts (typed_parts in_file false (parted [] s) parts)) _
      (bind (λ q. Fine P q.scope) (λ x. Fine P x.1) (typed_parts in_file false (parted [] s) parts) _ (parts_good P in_file false (parted [] s) parts fine) (λ q h. pass (λ x. Fine P x.1) (on_line (parts_line parts) (specified_type q.specified)) _ (λ n. ok (λ x. Fine P x.1) _ h)))
      (λ x h. bind FineOwn FineDefinition (own_suffixes x.1 d (own_parameters d)) _ (own_suffixes_good x.1 d (own_parameters d) h) (λ q g.
      pass FineDefinition (on_line (full_line d) (definition_type x.1 x.0 d q.0 q.1)) _ (λ f.
      bind FineStatement FineDefinition (typed_body_of (length x.1.bindings + 1) (within_body x.1 q.1.scope d f) body) _
      (body_good (length x.1.bindings + 1) (within_body x.1 q.1.scope d f) body (callable_lined P q.1.scope d f true (linked_to q.1.scope.functions.named (name_of d)) g p, g.1) k) (λ y l. ok FineDefinition _ (l.0, l.1)))))

  abbrev InDefinitions : List Definition → Type 0
  InDefinitions [] = Unit {0}
  InDefinitions (x ∷ xs) = InStatement P x.body × InDefinitions xs

  abbrev FineFile : List Definition × Scoped → Type 0
  FineFile x = InDefinitions x.0 × Fine P x.1

  externals_good : (s : Scoped) (file : Externals) → Fine P s → InExternals P file → Good FineFile (typed_externals s file)
  externals_good s no_more fine k = ok FineFile _ (tt, fine)
  externals_good s (declared parts ds rest) fine k =
      bind (Fine P) FineFile (typed_outside s parts ds) _
      (bind (λ x. Fine P x.scope) (Fine P) (typed_specifiers in_file s parts ds) _ (specifiers_good P in_file s parts ds fine) (λ x h. others_good P in_file x x.role ds h k.0))
      (λ t h. externals_good t rest h k.1)
  externals_good s (defines parts d body rest) fine k =
      bind FineDefinition FineFile (typed_definition s parts d body) _ (definition_good s parts d body fine k.0 k.1) (λ x h. bind FineFile FineFile (typed_externals x.1 rest) _ (externals_good x.1 rest h.1 k.2) (λ y g. ok FineFile _ ((h.0, g.0), g.1)))

  definitions_fine : (s : Scoped) (file : Externals) → Fine P s → Fine P (with_definitions s file)
  definitions_fine s no_more fine = fine
  definitions_fine s (declared parts ds rest) fine = definitions_fine s rest fine
  definitions_fine s (defines parts d body rest) fine = definitions_fine (record s { functions = with_defined s.functions (name_of d) }) rest fine

  procedures_lined : (done_ : List Completed) (cs : List Callable) → Each (InCallable P) cs → Each (InProcedure P) (map (procedure_of done_) cs)
  procedures_lined done_ [] all = tt
  procedures_lined done_ (c ∷ cs) all = (record { name = all.0.0; ellipsis = all.0.1; body = tt }, procedures_lined done_ cs all.1)

  with_body_lined : (fs : List Procedure) (x : Definition) (o : Option Procedure) → Each (InProcedure P) fs → InStatement P x.body → Holds (InProcedure P) o → Each (InProcedure P) (with_body fs x o)
  with_body_lined fs x None all h g = all
  with_body_lined fs x (Some f) all h g = replaced (InProcedure P) fs x.number _ all (record { name = g.name; ellipsis = g.ellipsis; body = h })

  bodies_lined : (fs : List Procedure) (xs : List Definition) → Each (InProcedure P) fs → InDefinitions xs → Each (InProcedure P) (with_bodies fs xs)
  bodies_lined fs [] all h = all
  bodies_lined fs (x ∷ xs) all h = bodies_lined (with_body fs x (slice_get fs x.number)) xs (with_body_lined fs x (slice_get fs x.number) all h.0 (got (InProcedure P) fs x.number all)) h.1

  all_procedures : (fs : List Procedure) → Each (InProcedure P) fs → InProcedures P fs
  all_procedures [] all = tt
  all_procedures (f ∷ fs) all = (all.0, all_procedures fs all.1)

  statics_lined : (done_ : List Completed) (os : List ObjectEntry) → Each (InEntry P) os → InStatics P (map (static_of done_) os)
  statics_lined done_ [] all = tt
  statics_lined done_ (o ∷ os) all = (either (InDeclared P) o.defined None (Some o.line) tt all.0, statics_lined done_ os all.1)

  elaborated_good : (file : Externals) → InExternals P file → Good (InFile P) (elaborated file)
  elaborated_good file k =
      bind FineFile (InFile P) (typed_externals (with_definitions first_scope file) file) _ (externals_good (with_definitions first_scope file) file (definitions_fine first_scope file (tt, tt)) k) (λ x h.
      ok (InFile P) _ (record {
        functions = all_procedures (with_bodies (map (procedure_of x.1.records.done) x.1.functions.all) x.0) (bodies_lined (map (procedure_of x.1.records.done) x.1.functions.all) x.0 (procedures_lined x.1.records.done x.1.functions.all h.1.0) h.0);
        objects = statics_lined x.1.records.done x.1.objects h.1.1;
      }))

  -- the typing of a tree hands on lines of the tree
  pub file_lined : (file : Externals) (core : TypedFile) → elaborated file ≡ Ok core → InExternals P file → InFile P core
  file_lined file core typed k = (elaborated_good file k).fine core typed
