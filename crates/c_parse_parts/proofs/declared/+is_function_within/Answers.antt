use Rattle.std.proofs.Common.{List, ap, sym, ◌∙◌, arith}
use Rattle.c_tree.specs.declared.declaration.FullDeclarator.{FullDeclarator}
use Rattle.c_tree.specs.declared.declaration.DeclaratorSuffix.{DeclaratorSuffix}
use Rattle.c_tree.specs.Declarations.{view_full, full_depth, full_unnamed, full_named, full_inside, full_suffixes_of, begin_function, is_function_within, Full, full_behind}
use Rattle.c_tree.specs.Tree.{view_name}
use Rattle.c_tree.proofs.DeclarationViews.{view_unnamed, view_named, view_inside, full_behind_least}
use Rattle.c_tree.specs.declared.expr.PointerMark.{PointerMark}
use Rattle.c_parse_parts.proofs.declared.+is_function_within.Goals as goal

pub is_function_within-requires : goal.is_function_within-requires
is_function_within-requires t c =
    let e = ap (λ (d : FullDeclarator). full_depth (view_full d)) c.in-Inside.is ∙ ap full_depth (view_inside c.in-Inside.pointers c.in-Inside.line c.in-Inside.inner c.in-Inside.suffixes) in
    let least = full_behind_least c.in-Inside.pointers.items (full_inside c.in-Inside.line (view_full c.in-Inside.inner.value) (full_suffixes_of c.in-Inside.suffixes.items)) in
    let same = ap (λ (d : FullDeclarator). full_depth (view_full d)) c.deref-in-Inside.ensures in
    (omega (arith, e, least, same), tt)

pub returns-in-Unnamed : goal.returns-in-Unnamed
returns-in-Unnamed t c =
    let d = full_unnamed (full_suffixes_of c.in-Unnamed.suffixes.items) in
    c.begin_function.ensures
    ∙ ap (λ (ss : List DeclaratorSuffix). begin_function (full_suffixes_of ss) c.behind_pointers.result) c.deref.ensures.value
    ∙ sym (c.behind_pointers.ensures d)
    ∙ ap (λ (ps : List PointerMark). is_function_within (full_behind ps d) c.args.outer) c.deref-in-Unnamed.ensures.value
    ∙ sym (ap (λ (d : FullDeclarator). is_function_within (view_full d) c.args.outer) c.in-Unnamed.is ∙ ap (λ (d : Full). is_function_within d c.args.outer) (view_unnamed c.in-Unnamed.pointers c.in-Unnamed.suffixes))

pub returns-in-Named : goal.returns-in-Named
returns-in-Named t c =
    let d = full_named c.in-Named.line (view_name c.in-Named.name) (full_suffixes_of c.in-Named.suffixes.items) in
    c.begin_function-in-Named.ensures
    ∙ ap (λ (ss : List DeclaratorSuffix). begin_function (full_suffixes_of ss) c.behind_pointers-in-Named.result) c.deref-in-Named.ensures.value
    ∙ sym (c.behind_pointers-in-Named.ensures d)
    ∙ ap (λ (ps : List PointerMark). is_function_within (full_behind ps d) c.args.outer) c.deref-in-Named-2.ensures.value
    ∙ sym (ap (λ (d : FullDeclarator). is_function_within (view_full d) c.args.outer) c.in-Named.is ∙ ap (λ (d : Full). is_function_within d c.args.outer) (view_named c.in-Named.pointers c.in-Named.line c.in-Named.name c.in-Named.suffixes))

pub returns-in-Inside : goal.returns-in-Inside
returns-in-Inside t c =
    let d = full_inside c.in-Inside.line (view_full c.in-Inside.inner.value) (full_suffixes_of c.in-Inside.suffixes.items) in
    c.is_function_within.ensures
    ∙ ap (λ (d : FullDeclarator). is_function_within (view_full d) c.begin_function-in-Inside.result) c.deref-in-Inside.ensures
    ∙ ap (is_function_within (view_full c.in-Inside.inner.value)) (c.begin_function-in-Inside.ensures ∙ ap (λ (ss : List DeclaratorSuffix). begin_function (full_suffixes_of ss) c.behind_pointers-in-Inside.result) c.deref-in-Inside-2.ensures.value)
    ∙ sym (c.behind_pointers-in-Inside.ensures d)
    ∙ ap (λ (ps : List PointerMark). is_function_within (full_behind ps d) c.args.outer) c.deref-in-Inside-3.ensures.value
    ∙ sym (ap (λ (d : FullDeclarator). is_function_within (view_full d) c.args.outer) c.in-Inside.is ∙ ap (λ (d : Full). is_function_within d c.args.outer) (view_inside c.in-Inside.pointers c.in-Inside.line c.in-Inside.inner c.in-Inside.suffixes))
