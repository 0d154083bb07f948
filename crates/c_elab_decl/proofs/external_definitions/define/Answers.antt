use Rattle.std.proofs.Common.{◌≡◌, ◌+◌, ℕ, List, [], length, false, Result, Ok, refl, sym, ap, ap₂, ◌∙◌, arith}
use Rattle.std.proofs.lemmas.Result.{err_from_is_err_and}
use Rattle.c_tree.specs.declared.declaration.Specifier.{Specifier}
use Rattle.c_tree.specs.declared.statement.Stmt.{Stmt}
use Rattle.c_tree.specs.Declarations.{view_full, parts_of}
use Rattle.c_tree.specs.Statements.{defines, view_statement as tree}
use Rattle.core_tree.specs.Trees.{view_statement}
use Rattle.c_scope.specs.Scopes.{Named, FunctionType, Scoped, view_named, view_function_type}
use Rattle.c_scope.specs.Faults.{Fault, Fails, on_line}
use Rattle.c_elab_base.specs.declared.regions.Region.{Region}
use Rattle.c_elab_base.specs.declared.derivations.Derived.{Derived as CodeDerived}
use Rattle.c_elab_base.specs.Regions.{earlier}
use Rattle.c_elab_base.specs.Derivations.{full_line, view_deriveds}
use Rattle.c_elab_base.specs.Specifiers.{Passed, parted, named_parts}
use Rattle.c_elab_type.specs.Specifiers.{typed_parts}
use Rattle.c_elab_object.specs.DeclaratorLists.{in_file}
use Rattle.c_elab_flow.specs.declared.files.Definition.{Definition as CodeDefinition}
use Rattle.c_elab_flow.specs.Files.{own_parameters}
use Rattle.c_elab_flow.specs.Jumps.{labels_in}
use Rattle.c_elab_decl.specs.Files.{own_suffixes, definition_type, typed_body_of, typed_externals}
use Rattle.c_elab_flow.specs.Held.{parameters_in}
use Rattle.c_elab_base.proofs.Steps.{fails_on, fails_along}
use Rattle.c_elab_decl.proofs.Definitions.{bare_before, parts_fail, own_fail, type_fail, scope_is, body_within, body_fails, names_there, defined_so, outer_within}
use Rattle.c_elab_decl.proofs.StatementFronts.{definition_fails, definition_typed, fault_definition}
use Rattle.c_elab_decl.proofs.external_definitions.define.Goals as goal

pub returns-in_err-base-clause-step : goal.returns-in_err-base-clause-step
returns-in_err-base-clause-step c = λ rest.
    let p = err_from_is_err_and c.from_residual.result c.from_residual.ensures.1 in
    let x = c.args.definition.now in
    let s = c.args.scope.now in
    let parts = parts_of x.specifiers.items in
    let d = view_full x.declarator in
    let body = tree x.body.value in
    let e = c.in_err-base.field-0.0 in
    let before = c.args.definitions.now.items in
    let start : Region → List Specifier → Result (Named × Scoped) Fault = λ r xs. named_parts (parts_of xs) (typed_parts r false (parted [] s) (parts_of xs)) in
    let bad : Fails e (start in_file x.specifiers.items) =
    fails_along e (start c.in_file.result c.deref.result.now) (start in_file x.specifiers.items) (ap₂ start c.in_file.ensures c.deref.ensures.value) c.in_err-base.ensures.gives in
    let whole = typed_externals s (defines parts d body rest) in
    fault_definition c.from_residual.result p.0 e before before whole (typed_externals c.named_parts.new.scope rest) p.1 p.2
    (fails_on e (start in_file x.specifiers.items) whole (λ f h. definition_fails s parts d body rest f (parts_fail s parts d body f h)) bad)

pub returns-in_err-suffixes-clause-step : goal.returns-in_err-suffixes-clause-step
returns-in_err-suffixes-clause-step c = λ rest.
    let p = err_from_is_err_and c.from_residual-in_err-suffixes.result c.from_residual-in_err-suffixes.ensures.1 in
    let e = c.in_err-suffixes.field-0.0 in
    let x = c.args.definition.now in
    let s = c.args.scope.now in
    let parts = parts_of x.specifiers.items in
    let d = view_full x.declarator in
    let body = tree x.body.value in
    let before = c.args.definitions.now.items in
    let start : Region → List Specifier → Result (Named × Scoped) Fault = λ r xs. named_parts (parts_of xs) (typed_parts r false (parted [] s) (parts_of xs)) in
    let outer = c.named_parts.new.scope in
    let base = view_named c.in_ok-base.base in
    let e1 : start in_file x.specifiers.items ≡ Ok (base, outer) = ap₂ start (sym c.in_file.ensures) (sym c.deref.ensures.value) ∙ c.in_ok-base.ensures.gives in
    let whole = typed_externals s (defines parts d body rest) in
    fault_definition c.from_residual-in_err-suffixes.result p.0 e before before whole (typed_externals c.own_suffixes.new.scope rest) p.1 p.2
    (fails_on e (own_suffixes outer d (own_parameters d)) whole (λ g h. definition_fails s parts d body rest g (own_fail s parts d body outer base g e1 h)) c.in_err-suffixes.ensures.gives)

pub returns-in_err-type_-clause-step : goal.returns-in_err-type_-clause-step
returns-in_err-type_-clause-step c = λ rest.
    let p = err_from_is_err_and c.from_residual-in_err-type_.result c.from_residual-in_err-type_.ensures.1 in
    let e = c.in_err-type_.field-0.0 in
    let x = c.args.definition.now in
    let s = c.args.scope.now in
    let parts = parts_of x.specifiers.items in
    let d = view_full x.declarator in
    let body = tree x.body.value in
    let before = c.args.definitions.now.items in
    let start : Region → List Specifier → Result (Named × Scoped) Fault = λ r xs. named_parts (parts_of xs) (typed_parts r false (parted [] s) (parts_of xs)) in
    let outer = c.named_parts.new.scope in
    let base = view_named c.in_ok-base.base in
    let e1 : start in_file x.specifiers.items ≡ Ok (base, outer) = ap₂ start (sym c.in_file.ensures) (sym c.deref.ensures.value) ∙ c.in_ok-base.ensures.gives in
    let found = c.in_ok-suffixes.suffixes.items in
    let ds = view_deriveds found in
    let q : Passed = record { parameters = parameters_in c.in_ok-suffixes.own ds; scope = c.own_suffixes.new.scope } in
    let e2 = c.in_ok-suffixes.ensures.gives in
    let at = c.earlier-before.ensures ∙ ap₂ (λ (r : Region) (n : List ℕ). earlier r outer n) c.in_file-2.ensures c.name_of-name.ensures in
    let typing : List CodeDerived → Result FunctionType Fault = λ xs. on_line (full_line d) (definition_type outer base d (view_deriveds xs) (record { parameters = parameters_in c.in_ok-suffixes.own (view_deriveds xs); scope = q.scope })) in
    let whole = typed_externals s (defines parts d body rest) in
    fault_definition c.from_residual-in_err-type_.result p.0 e before before whole (typed_externals c.own_suffixes.new.scope rest) p.1 p.2
    (fails_on e (typing c.deref-2.result.now) whole (λ g h. definition_fails s parts d body rest g (type_fail s parts d body outer base ds q g e1 e2 (ap typing (sym c.deref-2.ensures.value) ∙ h))) (c.in_err-type_.ensures outer at))

pub declare_below-requires-clause-within : goal.declare_below-requires-clause-within
declare_below-requires-clause-within c =
    let x = c.args.definition.now in
    let s = c.args.scope.now in
    let parts = parts_of x.specifiers.items in
    let d = view_full x.declarator in
    let body = tree x.body.value in
    let before = c.args.definitions.now.items in
    let start : Region → List Specifier → Result (Named × Scoped) Fault = λ r xs. named_parts (parts_of xs) (typed_parts r false (parted [] s) (parts_of xs)) in
    let outer = c.named_parts.new.scope in
    let base = view_named c.in_ok-base.base in
    let e1 : start in_file x.specifiers.items ≡ Ok (base, outer) = ap₂ start (sym c.in_file.ensures) (sym c.deref.ensures.value) ∙ c.in_ok-base.ensures.gives in
    let found = c.in_ok-suffixes.suffixes.items in
    let ds = view_deriveds found in
    let q : Passed = record { parameters = parameters_in c.in_ok-suffixes.own ds; scope = c.own_suffixes.new.scope } in
    let e2 = c.in_ok-suffixes.ensures.gives in
    let at = c.earlier-before.ensures ∙ ap₂ (λ (r : Region) (n : List ℕ). earlier r outer n) c.in_file-2.ensures c.name_of-name.ensures in
    let typing : List CodeDerived → Result FunctionType Fault = λ xs. on_line (full_line d) (definition_type outer base d (view_deriveds xs) (record { parameters = parameters_in c.in_ok-suffixes.own (view_deriveds xs); scope = q.scope })) in
    let f = view_function_type c.in_ok-type_.type_ in
    let e3 : typing found ≡ Ok f = ap typing (sym c.deref-2.ensures.value) ∙ c.in_ok-type_.ensures outer at in
    let within = outer_within s parts d body outer base ds q f e1 e2 e3 in
    let long = ap (λ (y : Scoped). length y.bindings) c.in_ok-number.ensures.declared in
    omega (arith, within, long, c.len-outer.ensures)

pub typed_body-requires-clause-within : goal.typed_body-requires-clause-within
typed_body-requires-clause-within c =
    let x = c.args.definition.now in
    let s = c.args.scope.now in
    let parts = parts_of x.specifiers.items in
    let d = view_full x.declarator in
    let body = tree x.body.value in
    let before = c.args.definitions.now.items in
    let start : Region → List Specifier → Result (Named × Scoped) Fault = λ r xs. named_parts (parts_of xs) (typed_parts r false (parted [] s) (parts_of xs)) in
    let outer = c.named_parts.new.scope in
    let base = view_named c.in_ok-base.base in
    let e1 : start in_file x.specifiers.items ≡ Ok (base, outer) = ap₂ start (sym c.in_file.ensures) (sym c.deref.ensures.value) ∙ c.in_ok-base.ensures.gives in
    let found = c.in_ok-suffixes.suffixes.items in
    let ds = view_deriveds found in
    let q : Passed = record { parameters = parameters_in c.in_ok-suffixes.own ds; scope = c.own_suffixes.new.scope } in
    let e2 = c.in_ok-suffixes.ensures.gives in
    let at = c.earlier-before.ensures ∙ ap₂ (λ (r : Region) (n : List ℕ). earlier r outer n) c.in_file-2.ensures c.name_of-name.ensures in
    let typing : List CodeDerived → Result FunctionType Fault = λ xs. on_line (full_line d) (definition_type outer base d (view_deriveds xs) (record { parameters = parameters_in c.in_ok-suffixes.own (view_deriveds xs); scope = q.scope })) in
    let f = view_function_type c.in_ok-type_.type_ in
    let e3 : typing found ≡ Ok f = ap typing (sym c.deref-2.ensures.value) ∙ c.in_ok-type_.ensures outer at in
    let is = scope_is s parts d body outer base ds q f e1 e2 e3 c.declared_callable.new.scope c.declare_below.new.self c.begin.new.scope c.len-outer.result c.in_ok-number.number c.name_of-name.result.now f.gives.type
    c.in_ok-number.ensures.number c.in_ok-number.ensures.declared c.len-outer.ensures c.name_of-name.ensures refl c.in_ok-declare_below.ensures c.begin.ensures in
    body_within s parts d body outer base ds q f e1 e2 e3 c.begin.new.scope c.len-outer.result is c.len-outer.ensures

pub returns-in_err-body-clause-step : goal.returns-in_err-body-clause-step
returns-in_err-body-clause-step c = λ rest.
    let p = err_from_is_err_and c.from_residual-in_err-body.result c.from_residual-in_err-body.ensures.1 in
    let e = c.in_err-body.field-0.0 in
    let x = c.args.definition.now in
    let s = c.args.scope.now in
    let parts = parts_of x.specifiers.items in
    let d = view_full x.declarator in
    let body = tree x.body.value in
    let before = c.args.definitions.now.items in
    let start : Region → List Specifier → Result (Named × Scoped) Fault = λ r xs. named_parts (parts_of xs) (typed_parts r false (parted [] s) (parts_of xs)) in
    let outer = c.named_parts.new.scope in
    let base = view_named c.in_ok-base.base in
    let e1 : start in_file x.specifiers.items ≡ Ok (base, outer) = ap₂ start (sym c.in_file.ensures) (sym c.deref.ensures.value) ∙ c.in_ok-base.ensures.gives in
    let found = c.in_ok-suffixes.suffixes.items in
    let ds = view_deriveds found in
    let q : Passed = record { parameters = parameters_in c.in_ok-suffixes.own ds; scope = c.own_suffixes.new.scope } in
    let e2 = c.in_ok-suffixes.ensures.gives in
    let at = c.earlier-before.ensures ∙ ap₂ (λ (r : Region) (n : List ℕ). earlier r outer n) c.in_file-2.ensures c.name_of-name.ensures in
    let typing : List CodeDerived → Result FunctionType Fault = λ xs. on_line (full_line d) (definition_type outer base d (view_deriveds xs) (record { parameters = parameters_in c.in_ok-suffixes.own (view_deriveds xs); scope = q.scope })) in
    let f = view_function_type c.in_ok-type_.type_ in
    let e3 : typing found ≡ Ok f = ap typing (sym c.deref-2.ensures.value) ∙ c.in_ok-type_.ensures outer at in
    let is = scope_is s parts d body outer base ds q f e1 e2 e3 c.declared_callable.new.scope c.declare_below.new.self c.begin.new.scope c.len-outer.result c.in_ok-number.number c.name_of-name.result.now f.gives.type
    c.in_ok-number.ensures.number c.in_ok-number.ensures.declared c.len-outer.ensures c.name_of-name.ensures refl c.in_ok-declare_below.ensures c.begin.ensures in
    let whole = typed_externals s (defines parts d body rest) in
    fault_definition c.from_residual-in_err-body.result p.0 e before before whole (typed_externals c.typed_body.new.scope rest) p.1 p.2
    (fails_on e (typed_body_of (c.len-outer.result + 1) c.begin.new.scope body) whole (λ g h. definition_fails s parts d body rest g (body_fails s parts d body outer base ds q f e1 e2 e3 c.begin.new.scope c.len-outer.result g is c.len-outer.ensures h)) (fails_along e (typed_body_of (c.len-outer.result + 1) c.begin.new.scope (tree c.deref-block.result.now)) (typed_body_of (c.len-outer.result + 1) c.begin.new.scope body) (ap (λ (b : Stmt). typed_body_of (c.len-outer.result + 1) c.begin.new.scope (tree b)) c.deref-block.ensures) c.in_err-body.ensures.gives))

pub take_variables-requires : goal.take_variables-requires
take_variables-requires c =
    let x = c.args.definition.now in
    let s = c.args.scope.now in
    let parts = parts_of x.specifiers.items in
    let d = view_full x.declarator in
    let body = tree x.body.value in
    let before = c.args.definitions.now.items in
    let start : Region → List Specifier → Result (Named × Scoped) Fault = λ r xs. named_parts (parts_of xs) (typed_parts r false (parted [] s) (parts_of xs)) in
    let outer = c.named_parts.new.scope in
    let base = view_named c.in_ok-base.base in
    let e1 : start in_file x.specifiers.items ≡ Ok (base, outer) = ap₂ start (sym c.in_file.ensures) (sym c.deref.ensures.value) ∙ c.in_ok-base.ensures.gives in
    let found = c.in_ok-suffixes.suffixes.items in
    let ds = view_deriveds found in
    let q : Passed = record { parameters = parameters_in c.in_ok-suffixes.own ds; scope = c.own_suffixes.new.scope } in
    let e2 = c.in_ok-suffixes.ensures.gives in
    let at = c.earlier-before.ensures ∙ ap₂ (λ (r : Region) (n : List ℕ). earlier r outer n) c.in_file-2.ensures c.name_of-name.ensures in
    let typing : List CodeDerived → Result FunctionType Fault = λ xs. on_line (full_line d) (definition_type outer base d (view_deriveds xs) (record { parameters = parameters_in c.in_ok-suffixes.own (view_deriveds xs); scope = q.scope })) in
    let f = view_function_type c.in_ok-type_.type_ in
    let e3 : typing found ≡ Ok f = ap typing (sym c.deref-2.ensures.value) ∙ c.in_ok-type_.ensures outer at in
    let is = scope_is s parts d body outer base ds q f e1 e2 e3 c.declared_callable.new.scope c.declare_below.new.self c.begin.new.scope c.len-outer.result c.in_ok-number.number c.name_of-name.result.now f.gives.type
    c.in_ok-number.ensures.number c.in_ok-number.ensures.declared c.len-outer.ensures c.name_of-name.ensures refl c.in_ok-declare_below.ensures c.begin.ensures in
    let bare = bare_before s parts d body outer base e1 c.requires in
    names_there s parts d body outer base ds q f e1 e2 e3 c.begin.new.scope c.typed_body.new.scope c.len-outer.result (view_statement c.in_ok-body.body.value) is c.len-outer.ensures (sym (ap (λ (b : Stmt). typed_body_of (c.len-outer.result + 1) c.begin.new.scope (tree b)) c.deref-block.ensures) ∙ c.in_ok-body.ensures.gives)
    c.leave.new.self c.end.new.scope bare c.prove_there.ensures.there c.leave.ensures c.end.ensures

pub returns-clause-step : goal.returns-clause-step
returns-clause-step c = λ rest.
    let x = c.args.definition.now in
    let s = c.args.scope.now in
    let parts = parts_of x.specifiers.items in
    let d = view_full x.declarator in
    let body = tree x.body.value in
    let before = c.args.definitions.now.items in
    let start : Region → List Specifier → Result (Named × Scoped) Fault = λ r xs. named_parts (parts_of xs) (typed_parts r false (parted [] s) (parts_of xs)) in
    let outer = c.named_parts.new.scope in
    let base = view_named c.in_ok-base.base in
    let e1 : start in_file x.specifiers.items ≡ Ok (base, outer) = ap₂ start (sym c.in_file.ensures) (sym c.deref.ensures.value) ∙ c.in_ok-base.ensures.gives in
    let found = c.in_ok-suffixes.suffixes.items in
    let ds = view_deriveds found in
    let q : Passed = record { parameters = parameters_in c.in_ok-suffixes.own ds; scope = c.own_suffixes.new.scope } in
    let e2 = c.in_ok-suffixes.ensures.gives in
    let at = c.earlier-before.ensures ∙ ap₂ (λ (r : Region) (n : List ℕ). earlier r outer n) c.in_file-2.ensures c.name_of-name.ensures in
    let typing : List CodeDerived → Result FunctionType Fault = λ xs. on_line (full_line d) (definition_type outer base d (view_deriveds xs) (record { parameters = parameters_in c.in_ok-suffixes.own (view_deriveds xs); scope = q.scope })) in
    let f = view_function_type c.in_ok-type_.type_ in
    let e3 : typing found ≡ Ok f = ap typing (sym c.deref-2.ensures.value) ∙ c.in_ok-type_.ensures outer at in
    let is = scope_is s parts d body outer base ds q f e1 e2 e3 c.declared_callable.new.scope c.declare_below.new.self c.begin.new.scope c.len-outer.result c.in_ok-number.number c.name_of-name.result.now f.gives.type
    c.in_ok-number.ensures.number c.in_ok-number.ensures.declared c.len-outer.ensures c.name_of-name.ensures refl c.in_ok-declare_below.ensures c.begin.ensures in
    let last = c.take_variables.new.self in
    let made : CodeDefinition = record { number = c.in_ok-number.number; variables = c.take_variables.result; labels = c.len.result; body = c.in_ok-body.body } in
    definition_typed s last parts d body rest before c.push.new.self.items made
    (defined_so s parts d body outer base ds q f e1 e2 e3 c.begin.new.scope c.typed_body.new.scope c.len-outer.result (view_statement c.in_ok-body.body.value) is c.len-outer.ensures (sym (ap (λ (b : Stmt). typed_body_of (c.len-outer.result + 1) c.begin.new.scope (tree b)) c.deref-block.ensures) ∙ c.in_ok-body.ensures.gives)
    c.leave.new.self c.end.new.scope last c.in_ok-number.number c.take_variables.result.items c.len.result c.in_ok-number.ensures.number c.leave.ensures c.end.ensures c.take_variables.ensures.ended c.take_variables.ensures.variables
    (c.len.ensures ∙ ap (λ (ls : List (List ℕ)). length ls) c.in_ok-labels.ensures ∙ ap (λ (b : Stmt). length (labels_in (tree b))) c.deref-block.ensures))
    c.in_ok-push.ensures.items
