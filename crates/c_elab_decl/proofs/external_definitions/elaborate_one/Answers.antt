use Rattle.std.proofs.Common.{ap, sym, subst, ◌∙◌}
use Rattle.c_tree.specs.declared.statement.External.{External}
use Rattle.c_tree.specs.declared.declaration.Declaration.{Declaration}
use Rattle.c_tree.specs.declared.statement.Definition.{Definition}
use Rattle.c_tree.specs.Declarations.{parts_of, declarators_of, view_full}
use Rattle.c_tree.specs.Statements.{declared, defines, view_external, view_statement}
use Rattle.c_elab_decl.specs.Files.{typed_externals}
use Rattle.c_elab_decl.specs.DefinitionSteps.{DefinitionStep, TypedDefinitions}
use Rattle.c_elab_decl.proofs.Bodies.{nothing_outside}
use Rattle.c_elab_decl.proofs.Definitions.{outside_step}
use Rattle.c_elab_decl.proofs.external_definitions.elaborate_one.Goals as goal

pub returns-in-Declares-clause-step : goal.returns-in-Declares-clause-step
returns-in-Declares-clause-step c = λ rest.
    let d = c.deref.result.now in
    let s = c.args.scope.now in
    let t = c.declare_outside.new.scope in
    let before = c.args.definitions.now.items in
    subst (λ (r : TypedDefinitions). DefinitionStep c.declare_outside.result before before r (typed_externals t rest)) (sym (ap (λ (x : External). typed_externals s (view_external x rest)) c.in-Declares.is
    ∙ ap (λ (x : Declaration). typed_externals s (declared (parts_of x.specifiers.items) (declarators_of x.declarators.items) rest)) (sym c.deref.ensures)))
    (outside_step c.declare_outside.result s t (parts_of d.specifiers.items) (declarators_of d.declarators.items) rest before c.declare_outside.ensures)

pub returns-in-Defines-clause-step : goal.returns-in-Defines-clause-step
returns-in-Defines-clause-step c = λ rest.
    let s = c.args.scope.now in
    subst (λ (r : TypedDefinitions). DefinitionStep c.define.result c.args.definitions.now.items c.define.new.definitions.items r (typed_externals c.define.new.scope rest)) (sym (ap (λ (x : External). typed_externals s (view_external x rest)) c.in-Defines.is
    ∙ ap (λ (x : Definition). typed_externals s (defines (parts_of x.specifiers.items) (view_full x.declarator) (view_statement x.body.value) rest)) (sym c.deref-in-Defines.ensures)))
    (c.define.ensures.step rest)

pub returns-in-Declares-clause-outside : goal.returns-in-Declares-clause-outside
returns-in-Declares-clause-outside c =
    let d = c.deref.result.now in
    nothing_outside c.declare_outside.result c.args.scope.now c.declare_outside.new.scope (parts_of d.specifiers.items) (declarators_of d.declarators.items) c.requires c.declare_outside.ensures
