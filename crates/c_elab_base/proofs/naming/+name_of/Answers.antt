use Rattle.std.proofs.Common.{ap, sym, ◌∙◌}
use Rattle.c_tree.specs.declared.declaration.FullDeclarator.{FullDeclarator}
use Rattle.c_tree.specs.Declarations.{view_full, name_of}
use Rattle.c_tree.proofs.DeclarationViews.{view_unnamed, view_named, view_inside}
use Rattle.c_elab_base.proofs.Pointed.{behind_name}
use Rattle.c_elab_base.proofs.naming.+name_of.Goals as goal

pub returns-in-Unnamed : goal.returns-in-Unnamed
returns-in-Unnamed t c = sym (ap (λ (d : FullDeclarator). name_of (view_full d)) c.in-Unnamed.is ∙ ap name_of (view_unnamed c.in-Unnamed.pointers c.in-Unnamed.suffixes) ∙ behind_name c.in-Unnamed.pointers.items _)

pub returns-in-Named : goal.returns-in-Named
returns-in-Named t c = c.deref.ensures.value ∙ sym (ap (λ (d : FullDeclarator). name_of (view_full d)) c.in-Named.is ∙ ap name_of (view_named c.in-Named.pointers c.in-Named.line c.in-Named.name c.in-Named.suffixes) ∙ behind_name c.in-Named.pointers.items _)

pub returns-in-Inside : goal.returns-in-Inside
returns-in-Inside t c =
    c.name_of.ensures
    ∙ ap (λ (d : FullDeclarator). name_of (view_full d)) c.deref-in-Inside.ensures
    ∙ sym (ap (λ (d : FullDeclarator). name_of (view_full d)) c.in-Inside.is ∙ ap name_of (view_inside c.in-Inside.pointers c.in-Inside.line c.in-Inside.inner c.in-Inside.suffixes) ∙ behind_name c.in-Inside.pointers.items _)
