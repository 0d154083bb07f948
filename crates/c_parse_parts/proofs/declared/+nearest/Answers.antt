use Rattle.std.proofs.Common.{List, ap, sym, ◌∙◌, arith}
use Rattle.c_tree.specs.declared.declaration.FullDeclarator.{FullDeclarator}
use Rattle.c_tree.specs.declared.declaration.DeclaratorSuffix.{DeclaratorSuffix}
use Rattle.c_tree.specs.Declarations.{view_full, full_depth, nearest, full_suffixes_of, or_suffixes, full_inside}
use Rattle.c_tree.proofs.DeclarationViews.{view_unnamed, view_named, view_inside, full_behind_least}
use Rattle.c_parse_parts.proofs.DeclaredNames.{behind_nearest}
use Rattle.c_parse_parts.proofs.declared.+nearest.Goals as goal

pub nearest-requires : goal.nearest-requires
nearest-requires t c =
    let e = ap (λ (d : FullDeclarator). full_depth (view_full d)) c.in-Inside.is ∙ ap full_depth (view_inside c.in-Inside.pointers c.in-Inside.line c.in-Inside.inner c.in-Inside.suffixes) in
    let least = full_behind_least c.in-Inside.pointers.items (full_inside c.in-Inside.line (view_full c.in-Inside.inner.value) (full_suffixes_of c.in-Inside.suffixes.items)) in
    let same = ap (λ (d : FullDeclarator). full_depth (view_full d)) c.deref-in-Inside.ensures in
    (omega (arith, e, least, same), tt)

pub returns-in-Unnamed : goal.returns-in-Unnamed
returns-in-Unnamed t c =
    ap (λ (ss : List DeclaratorSuffix). full_suffixes_of ss) c.deref.ensures.value
    ∙ sym (ap (λ (d : FullDeclarator). nearest (view_full d)) c.in-Unnamed.is ∙ ap nearest (view_unnamed c.in-Unnamed.pointers c.in-Unnamed.suffixes) ∙ behind_nearest c.in-Unnamed.pointers.items _)

pub returns-in-Named : goal.returns-in-Named
returns-in-Named t c =
    ap (λ (ss : List DeclaratorSuffix). full_suffixes_of ss) c.deref-in-Named.ensures.value
    ∙ sym (ap (λ (d : FullDeclarator). nearest (view_full d)) c.in-Named.is ∙ ap nearest (view_named c.in-Named.pointers c.in-Named.line c.in-Named.name c.in-Named.suffixes) ∙ behind_nearest c.in-Named.pointers.items _)

pub returns-in-Inside : goal.returns-in-Inside
returns-in-Inside t c =
    let outer = ap (λ (ss : List DeclaratorSuffix). full_suffixes_of ss) c.deref-in-Inside-2.ensures.value in
    let inner = c.nearest.ensures ∙ ap (λ (d : FullDeclarator). nearest (view_full d)) c.deref-in-Inside.ensures in
    c.or_suffixes.ensures
    ∙ ap (λ x. or_suffixes x (full_suffixes_of c.deref-in-Inside-2.result.now)) inner
    ∙ ap (or_suffixes (nearest (view_full c.in-Inside.inner.value))) outer
    ∙ sym (ap (λ (d : FullDeclarator). nearest (view_full d)) c.in-Inside.is ∙ ap nearest (view_inside c.in-Inside.pointers c.in-Inside.line c.in-Inside.inner c.in-Inside.suffixes) ∙ behind_nearest c.in-Inside.pointers.items _)
