use Rattle.std.proofs.Common.{◌≡◌, Bool, List, length, ap, ap₂, sym, ◌∙◌}
use Rattle.std.specs.Prelude.{◌==◌, ◌&&◌}
use Rattle.c_tree.specs.Tree.{view_name}
use Rattle.c_tree.specs.declared.expr.PointerMark.{PointerMark}
use Rattle.c_tree.specs.declared.declaration.DeclaratorSuffix.{DeclaratorSuffix}
use Rattle.c_tree.specs.declared.declaration.FullDeclarator.{FullDeclarator}
use Rattle.c_tree.specs.Declarations.{view_full, full_suffixes_of}
use Rattle.c_tree.proofs.DeclarationViews.{view_unnamed, view_named, view_inside}
use Rattle.c_elab_flow.specs.Files.{no_suffixes, is_name_alone}
use Rattle.c_elab_flow.proofs.Declaring.{unnamed_alone, named_alone, inside_alone, inside_more}
use Rattle.c_elab_flow.proofs.own.+is_name_alone.Goals as goal

-- neither pointers nor suffixes
abbrev bare : List PointerMark → List DeclaratorSuffix → Bool
bare ps xs = (length ps == 0) && no_suffixes (full_suffixes_of xs)

pub returns-in-Unnamed : goal.returns-in-Unnamed
returns-in-Unnamed t c =
    let i = c.in-Unnamed in
    sym (ap (λ (d : FullDeclarator). is_name_alone (view_full d)) i.is ∙ ap is_name_alone (view_unnamed i.pointers i.suffixes) ∙ unnamed_alone i.pointers.items (full_suffixes_of i.suffixes.items))

pub returns-in-Named : goal.returns-in-Named
returns-in-Named t c =
    let i = c.in-Named in
    c.is_bare.ensures ∙ ap₂ bare c.deref.ensures.value c.deref-in-Named.ensures.value
    ∙ named_alone i.pointers.items i.line (view_name i.name) (full_suffixes_of i.suffixes.items)
    ∙ sym (ap (λ (d : FullDeclarator). is_name_alone (view_full d)) i.is ∙ ap is_name_alone (view_named i.pointers i.line i.name i.suffixes))

pub returns-then-is_bare : goal.returns-then-is_bare
returns-then-is_bare t c =
    let i = c.in-Inside in
    let empty = sym c.if-is_bare.true ∙ c.is_bare-in-Inside.ensures ∙ ap₂ bare c.deref-in-Inside.ensures.value c.deref-in-Inside-2.ensures.value in
    let inner = c.is_name_alone.ensures ∙ ap (λ (d : FullDeclarator). is_name_alone (view_full d)) c.deref-then-is_bare.ensures in
    inside_alone i.pointers.items i.line (view_full i.inner.value) (full_suffixes_of i.suffixes.items) c.is_name_alone.result empty inner
    ∙ sym (ap (λ (d : FullDeclarator). is_name_alone (view_full d)) i.is ∙ ap is_name_alone (view_inside i.pointers i.line i.inner i.suffixes))

pub returns-else-is_bare : goal.returns-else-is_bare
returns-else-is_bare t c =
    let i = c.in-Inside in
    let more = sym c.if-is_bare.false ∙ c.is_bare-in-Inside.ensures ∙ ap₂ bare c.deref-in-Inside.ensures.value c.deref-in-Inside-2.ensures.value in
    c.if-is_bare.false ∙ inside_more i.pointers.items i.line (view_full i.inner.value) (full_suffixes_of i.suffixes.items) more
    ∙ sym (ap (λ (d : FullDeclarator). is_name_alone (view_full d)) i.is ∙ ap is_name_alone (view_inside i.pointers i.line i.inner i.suffixes))
