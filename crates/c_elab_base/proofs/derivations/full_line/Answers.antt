use Rattle.std.proofs.Common.{◌≡◌, ℕ, List, ap, sym, ◌∙◌, refl}
use Rattle.c_tree.specs.declared.expr.PointerMark.{PointerMark}
use Rattle.c_tree.specs.declared.declaration.DeclaratorSuffix.{DeclaratorSuffix}
use Rattle.c_tree.specs.Tree.{view_name}
use Rattle.c_tree.specs.Declarations.{Full, full_behind, full_unnamed, full_named, full_inside, view_full, full_suffixes_of}
use Rattle.c_tree.proofs.DeclarationViews.{view_unnamed, view_named, view_inside}
use Rattle.c_elab_base.specs.Derivations.{full_line, suffixes_line}
use Rattle.c_elab_base.proofs.derivations.full_line.Goals as goal

-- the pointers that are there
at_pointers : (ps qs : List PointerMark) (d : Full) (line : ℕ) → ps ≡ qs → line ≡ full_line (full_behind ps d) → line ≡ full_line (full_behind qs d)
at_pointers ps qs d line e f = f ∙ ap (λ (xs : List PointerMark). full_line (full_behind xs d)) e

pub returns-in-Unnamed : goal.returns-in-Unnamed
returns-in-Unnamed c =
    let d = full_unnamed (full_suffixes_of c.in-Unnamed.suffixes.items) in
    at_pointers c.deref.result.now c.in-Unnamed.pointers.items d c.pointers_line.result c.deref.ensures.value
    (c.pointers_line.ensures d (c.suffixes_line.ensures ∙ ap (λ (xs : List DeclaratorSuffix). suffixes_line (full_suffixes_of xs)) c.deref-in-Unnamed.ensures.value))
    ∙ sym (ap full_line (ap view_full c.in-Unnamed.is ∙ view_unnamed c.in-Unnamed.pointers c.in-Unnamed.suffixes))

pub returns-in-Named : goal.returns-in-Named
returns-in-Named c =
    let d = full_named c.in-Named.line (view_name c.in-Named.name) (full_suffixes_of c.in-Named.suffixes.items) in
    at_pointers c.deref-in-Named.result.now c.in-Named.pointers.items d c.pointers_line-in-Named.result c.deref-in-Named.ensures.value (c.pointers_line-in-Named.ensures d refl)
    ∙ sym (ap full_line (ap view_full c.in-Named.is ∙ view_named c.in-Named.pointers c.in-Named.line c.in-Named.name c.in-Named.suffixes))

pub returns-in-Inside : goal.returns-in-Inside
returns-in-Inside c =
    let d = full_inside c.in-Inside.line (view_full c.in-Inside.inner.value) (full_suffixes_of c.in-Inside.suffixes.items) in
    at_pointers c.deref-in-Inside.result.now c.in-Inside.pointers.items d c.pointers_line-in-Inside.result c.deref-in-Inside.ensures.value (c.pointers_line-in-Inside.ensures d refl)
    ∙ sym (ap full_line (ap view_full c.in-Inside.is ∙ view_inside c.in-Inside.pointers c.in-Inside.line c.in-Inside.inner c.in-Inside.suffixes))
