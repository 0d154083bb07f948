use Rattle.std.proofs.Common.{List, ap, sym, ◌∙◌}
use Rattle.c_tree.specs.declared.declaration.Parameter.{Parameter}
use Rattle.c_tree.specs.declared.declaration.DeclaratorSuffix.{DeclaratorSuffix}
use Rattle.c_tree.specs.Declarations.{view_full_suffix, full_end, parameters_of, with_parameters, with_parameters_of}
use Rattle.c_tree.proofs.DeclarationViews.{view_takes}
use Rattle.c_parse_parts.proofs.declared.declare_suffix.Goals as goal

pub returns-in_ok-declare_parameters-in-Parameters : goal.returns-in_ok-declare_parameters-in-Parameters
returns-in_ok-declare_parameters-in-Parameters c =
    let made = ap (λ (s : DeclaratorSuffix). with_parameters_of c.args.names.now (view_full_suffix s full_end)) c.in-Parameters.is ∙ ap (with_parameters_of c.args.names.now) (view_takes c.in-Parameters.line c.in-Parameters.parameters c.in-Parameters.variadic full_end) in
    let same = ap (λ (ps : List Parameter). with_parameters c.args.names.now (parameters_of ps)) c.deref.ensures.value in
    c.in_ok-declare_parameters-in-Parameters.ensures ∙ same ∙ sym made
