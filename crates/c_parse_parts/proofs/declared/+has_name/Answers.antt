use Rattle.std.proofs.Common.{ap, sym, ◌∙◌, arith}
use Rattle.c_tree.specs.declared.declaration.FullDeclarator.{FullDeclarator}
use Rattle.c_tree.specs.Declarations.{view_full, full_depth, full_has_name, full_inside, full_suffixes_of}
use Rattle.c_tree.proofs.DeclarationViews.{view_unnamed, view_named, view_inside, full_behind_least}
use Rattle.c_parse_parts.proofs.DeclaredNames.{behind_has_name}
use Rattle.c_parse_parts.proofs.declared.+has_name.Goals as goal

pub has_name-requires : goal.has_name-requires
has_name-requires t c =
    let e = ap (λ (d : FullDeclarator). full_depth (view_full d)) c.in-Inside.is ∙ ap full_depth (view_inside c.in-Inside.pointers c.in-Inside.line c.in-Inside.inner c.in-Inside.suffixes) in
    let least = full_behind_least c.in-Inside.pointers.items (full_inside c.in-Inside.line (view_full c.in-Inside.inner.value) (full_suffixes_of c.in-Inside.suffixes.items)) in
    let same = ap (λ (d : FullDeclarator). full_depth (view_full d)) c.deref.ensures in
    (omega (arith, e, least, same), tt)

pub returns-in-Unnamed : goal.returns-in-Unnamed
returns-in-Unnamed t c = sym (ap (λ (d : FullDeclarator). full_has_name (view_full d)) c.in-Unnamed.is ∙ ap full_has_name (view_unnamed c.in-Unnamed.pointers c.in-Unnamed.suffixes) ∙ behind_has_name c.in-Unnamed.pointers.items _)

pub returns-in-Named : goal.returns-in-Named
returns-in-Named t c = sym (ap (λ (d : FullDeclarator). full_has_name (view_full d)) c.in-Named.is ∙ ap full_has_name (view_named c.in-Named.pointers c.in-Named.line c.in-Named.name c.in-Named.suffixes) ∙ behind_has_name c.in-Named.pointers.items _)

pub returns-in-Inside : goal.returns-in-Inside
returns-in-Inside t c =
    c.has_name.ensures
    ∙ ap (λ (d : FullDeclarator). full_has_name (view_full d)) c.deref.ensures
    ∙ sym (ap (λ (d : FullDeclarator). full_has_name (view_full d)) c.in-Inside.is ∙ ap full_has_name (view_inside c.in-Inside.pointers c.in-Inside.line c.in-Inside.inner c.in-Inside.suffixes) ∙ behind_has_name c.in-Inside.pointers.items _)
