use Rattle.std.proofs.Common.{◌≡◌, ◌<◌, ◌^◌, ℕ, false, List, length, subst, arith, map, sym, ap, ap₂, ◌∙◌}
use Rattle.std.proofs.lemmas.Result.{err_from_is_err_and}
use Rattle.c_tree.specs.declared.statement.External.{External}
use Rattle.c_tree.specs.Statements.{externals_of}
use Rattle.core_tree.specs.Trees.{Procedure, view_functions, view_statics, view_literals}
use Rattle.core_tree.specs.declared.functions.Literal.{Literal}
use Rattle.core_tree.specs.Typed.{are_typed}
use Rattle.c_scope.specs.declared.fault.TypingError.TheVariants as errors
use Rattle.c_scope.specs.Scopes.{Scoped, first_scope}
use Rattle.c_elab_flow.specs.Files.{static_of, with_bodies}
use Rattle.c_elab_decl.specs.Files.{typed_externals, with_definitions, elaborated}
use Rattle.c_elab_flow.specs.Held.{view_definitions}
use Rattle.c_elab_decl.specs.DefinitionSteps.{TypedDefinitions}
use Rattle.c_elab_base.proofs.Steps.{fails_on, gives_err}
use Rattle.c_elab_decl.proofs.Bodies.{noted_empty, file_typed, file_small}
use Rattle.c_elab_decl.proofs.Enclosed.{file_stands}
use Rattle.c_elab_decl.proofs.Definitions.{file_fails}
use Rattle.c_elab_decl.proofs.external_definitions.typed_file.Goals as goal

pub typed_externals-requires : goal.typed_externals-requires
typed_externals-requires c =
    ap (λ (t : Scoped). t.variables) c.in_ok-note_definitions.ensures ∙ noted_empty c.args.scope.now (externals_of c.deref.result.now) ∙ ap (λ (t : Scoped). t.variables) c.requires

pub new-requires-clause-typed : goal.new-requires-clause-typed
new-requires-clause-typed c =
    let is = c.args.file.now.externals.items in
    let ds = externals_of is in
    let xs = view_definitions c.in_ok-definitions.definitions.items in
    let noted : c.note_definitions.new.scope ≡ with_definitions first_scope ds =
    c.in_ok-note_definitions.ensures ∙ ap₂ (λ (t : Scoped) (ys : List External). with_definitions t (externals_of ys)) c.requires c.deref.ensures.value in
    let start = ap₂ (λ (t : Scoped) (ys : List External). typed_externals t (externals_of ys)) noted c.deref-2.ensures.value in
    ap (λ (ls : List Literal). are_typed (record { functions = view_functions c.give_bodies.new.functions.items; objects = view_statics c.in_ok-objects.objects.items; literals = view_literals ls; pointers = false })) c.no_literals.ensures
    ∙ file_typed ds xs c.typed_externals.new.scope (view_functions c.give_bodies.new.functions.items) (view_statics c.in_ok-objects.objects.items)
    (sym start ∙ c.in_ok-definitions.ensures)
    (c.give_bodies.ensures ∙ ap (λ (fs : List Procedure). with_bodies fs xs) c.in_ok-functions.ensures)
    (c.in_ok-objects.ensures.are ∙ ap (λ (t : Scoped). map (static_of t.records.done) t.objects) c.leave.ensures) c.in_ok-objects.ensures.fit

pub new-requires-clause-few_literals : goal.new-requires-clause-few_literals
new-requires-clause-few_literals c = omega (arith, ap (λ (ls : List Literal). length ls) c.no_literals.ensures)

pub new-requires-clause-standing : goal.new-requires-clause-standing
new-requires-clause-standing c =
    let ds = externals_of c.args.file.now.externals.items in
    let xs = view_definitions c.in_ok-definitions.definitions.items in
    let noted : c.note_definitions.new.scope ≡ with_definitions first_scope ds =
    c.in_ok-note_definitions.ensures ∙ ap₂ (λ (t : Scoped) (ys : List External). with_definitions t (externals_of ys)) c.requires c.deref.ensures.value in
    let start = ap₂ (λ (t : Scoped) (ys : List External). typed_externals t (externals_of ys)) noted c.deref-2.ensures.value in
    file_stands ds xs c.typed_externals.new.scope (view_functions c.give_bodies.new.functions.items) (view_statics c.in_ok-objects.objects.items)
    (sym start ∙ c.in_ok-definitions.ensures) (c.give_bodies.ensures ∙ ap (λ (fs : List Procedure). with_bodies fs xs) c.in_ok-functions.ensures)

pub new-requires-clause-small : goal.new-requires-clause-small
new-requires-clause-small c =
    let ds = externals_of c.args.file.now.externals.items in
    let xs = view_definitions c.in_ok-definitions.definitions.items in
    let noted : c.note_definitions.new.scope ≡ with_definitions first_scope ds =
    c.in_ok-note_definitions.ensures ∙ ap₂ (λ (t : Scoped) (ys : List External). with_definitions t (externals_of ys)) c.requires c.deref.ensures.value in
    let start = ap₂ (λ (t : Scoped) (ys : List External). typed_externals t (externals_of ys)) noted c.deref-2.ensures.value in
    file_small ds xs c.typed_externals.new.scope (view_functions c.give_bodies.new.functions.items)
    (sym start ∙ c.in_ok-definitions.ensures) (c.give_bodies.ensures ∙ ap (λ (fs : List Procedure). with_bodies fs xs) c.in_ok-functions.ensures)

pub returns-in_err-note_definitions : goal.returns-in_err-note_definitions
returns-in_err-note_definitions c =
    let p = err_from_is_err_and c.from_residual.result c.from_residual.ensures.1 in
    gives_err _ _ p.0 errors.Memory (elaborated (externals_of c.args.file.now.externals.items)) p.1 p.2 tt

pub returns-in_err-definitions : goal.returns-in_err-definitions
returns-in_err-definitions c =
    let p = err_from_is_err_and c.from_residual-in_err-definitions.result c.from_residual-in_err-definitions.ensures.1 in
    let e = c.in_err-definitions.field-0.0 in
    let is = c.args.file.now.externals.items in
    let ds = externals_of is in
    let noted : c.note_definitions.new.scope ≡ with_definitions first_scope ds =
    c.in_ok-note_definitions.ensures ∙ ap₂ (λ (t : Scoped) (ys : List External). with_definitions t (externals_of ys)) c.requires c.deref.ensures.value in
    let typing : Scoped → List External → TypedDefinitions = λ t ys. typed_externals t (externals_of ys) in
    gives_err _ _ p.0 e (elaborated ds) p.1 p.2
    (fails_on e (typing c.note_definitions.new.scope c.deref-2.result.now) (elaborated ds) (λ f bad. file_fails ds f (sym (ap₂ typing noted c.deref-2.ensures.value) ∙ bad)) c.in_err-definitions.ensures)

pub returns-in_err-functions : goal.returns-in_err-functions
returns-in_err-functions c =
    let p = err_from_is_err_and c.from_residual-in_err-functions.result c.from_residual-in_err-functions.ensures.1 in
    gives_err _ _ p.0 errors.Memory (elaborated (externals_of c.args.file.now.externals.items)) p.1 p.2 tt

pub returns-in_err-objects : goal.returns-in_err-objects
returns-in_err-objects c =
    let p = err_from_is_err_and c.from_residual-in_err-objects.result c.from_residual-in_err-objects.ensures.1 in
    gives_err _ _ p.0 errors.Memory (elaborated (externals_of c.args.file.now.externals.items)) p.1 p.2 tt
