use Rattle.std.proofs.Common.{List, ap, ◌∙◌, arith}
use Rattle.std.proofs.lemmas.List.{take_all}
use Rattle.c_tree.specs.declared.declaration.Specifier.{Specifier}
use Rattle.c_tree.specs.Declarations.{view_part, parts_of, is_typedef, have_typedef}
use Rattle.c_parse_parts.proofs.DeclaredNames.{typedef_more}
use Rattle.c_parse_parts.proofs.declared.have_typedef.Goals as goal

pub loop-specifier-preserved : goal.loop-specifier-preserved
loop-specifier-preserved c =
    typedef_more c.loop-specifier.types c.either-types.result c.is_typedef.result c.args.specifiers.now c.loop-specifier.specifier-index c.specifier-item.result (omega arith) c.loop-specifier.invariant
    (c.is_typedef.ensures ∙ ap (λ (s : Specifier). is_typedef (view_part s)) c.specifier-item.is) c.either-types.ensures

pub returns : goal.returns
returns c =
    c.loop-specifier.invariant ∙ ap (λ (ss : List Specifier). have_typedef (parts_of ss)) (take_all c.loop-specifier.specifier-index c.args.specifiers.now c.loop-specifier-test.false)
