use Rattle.std.proofs.Common.{ap, ◌∙◌, false}
use Rattle.c_tree.specs.declared.declaration.DeclaratorSuffix.{DeclaratorSuffix}
use Rattle.c_tree.specs.Declarations.{view_full_suffix, full_end, begin_function}
use Rattle.c_parse_parts.proofs.DeclaredNames.{first_function}
use Rattle.c_parse_parts.proofs.declared.begin_function.Goals as goal

pub returns-in-len1-up : goal.returns-in-len1-up
returns-in-len1-up c =
    c.is_of_function.ensures ∙ ap (λ (s : DeclaratorSuffix). begin_function (view_full_suffix s full_end) false) c.first-item.is
    ∙ first_function c.args.suffixes.now c.first-item.result c.args.outer c.in-len1-up.len_at_least
