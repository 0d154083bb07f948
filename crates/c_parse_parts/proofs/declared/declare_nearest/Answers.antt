use Rattle.std.proofs.Common.{ap, ◌∙◌}
use Rattle.c_tree.specs.declared.declaration.DeclaratorSuffix.{DeclaratorSuffix}
use Rattle.c_tree.specs.Declarations.{view_full_suffix, full_end, with_parameters_of}
use Rattle.c_parse_parts.proofs.DeclaredNames.{first_declares}
use Rattle.c_parse_parts.proofs.declared.declare_nearest.Goals as goal

pub returns-in_ok-declare_suffix-in-len1-up : goal.returns-in_ok-declare_suffix-in-len1-up
returns-in_ok-declare_suffix-in-len1-up c =
    c.in_ok-declare_suffix-in-len1-up.ensures
    ∙ ap (λ (s : DeclaratorSuffix). with_parameters_of c.args.names.now (view_full_suffix s full_end)) c.first-item.is
    ∙ first_declares c.args.names.now c.args.suffixes.now c.first-item.result c.in-len1-up.len_at_least
