use Rattle.std.proofs.Common.{◌≡◌, List, [], Some, Result, sym, ap, subst, ◌∙◌}
use Rattle.std.specs.Prelude.{Bool, Vec}
use Rattle.std.specs.Global.{Global}
use Rattle.c_tree.specs.declared.declaration.DeclaratorSuffix.{DeclaratorSuffix}
use Rattle.c_tree.specs.declared.declaration.Parameter.{Parameter as ParameterTree}
use Rattle.c_tree.specs.Declarations.{Parameters, full_end, view_full_suffix, parameters_of}
use Rattle.c_tree.proofs.DeclarationViews.{view_takes}
use Rattle.c_scope.specs.Faults.{Fault, Gives}
use Rattle.c_elab_base.specs.declared.derivations.Parameter.{Parameter as CodeParameter}
use Rattle.c_elab_base.specs.Derivations.{view_parameters}
use Rattle.c_elab_base.specs.Specifiers.{Passed, are_several, inner_region}
use Rattle.c_elab_type.specs.Specifiers.{typed_parameters}
use Rattle.c_elab_flow.specs.Files.{one_function}
use Rattle.c_elab_type.proofs.Ending.{names_given}
use Rattle.c_elab_decl.proofs.external_definitions.suffix_parameters.Goals as goal

same_own : (a b : Parameters × Bool) → Some a ≡ Some b → a ≡ b
same_own a b e = cc

pub returns-in-Parameters-clause-gives : goal.returns-in-Parameters-clause-gives
returns-in-Parameters-clause-gives c = λ own e.
    let s = c.args.scope.now in
    let i = c.in-Parameters in
    let run : Parameters → Result Passed Fault = λ ps. typed_parameters (inner_region s) (are_several ps) (record { parameters = []; scope = s }) ps in
    let shape = ap (λ (x : DeclaratorSuffix). one_function (view_full_suffix x full_end)) i.is ∙ ap one_function (view_takes i.line i.parameters i.variadic full_end) in
    let own_is : (parameters_of i.parameters.items, i.variadic) ≡ own = same_own (parameters_of i.parameters.items, i.variadic) own (sym shape ∙ e) in
    subst (λ (r : Result Passed Fault). Gives (λ (v : Vec CodeParameter Global). record { parameters = view_parameters v.items; scope = c.typed_parameters.new.scope }) c.typed_parameters.result r)
    (ap (λ (xs : List ParameterTree). run (parameters_of xs)) c.deref.ensures.value ∙ ap (λ (o : Parameters × Bool). run o.0) own_is) c.typed_parameters.ensures.gives

pub returns-in-Parameters-clause-names : goal.returns-in-Parameters-clause-names
returns-in-Parameters-clause-names c = names_given c.typed_parameters.result c.args.scope.now c.typed_parameters.new.scope (parameters_of c.deref.result.now) c.typed_parameters.ensures.gives
