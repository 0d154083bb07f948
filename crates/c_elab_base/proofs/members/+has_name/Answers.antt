use Rattle.std.proofs.Common.{ap, sym, ◌∙◌}
use Rattle.c_tree.specs.declared.declaration.FullDeclarator.{FullDeclarator}
use Rattle.c_tree.specs.Declarations.{view_full, full_has_name}
use Rattle.c_tree.proofs.DeclarationViews.{view_unnamed, view_named, view_inside}
use Rattle.c_elab_base.proofs.Pointed.{behind_has_name}
use Rattle.c_elab_base.proofs.members.+has_name.Goals as goal

pub returns-in-Unnamed : goal.returns-in-Unnamed
returns-in-Unnamed t c = sym (ap (λ (d : FullDeclarator). full_has_name (view_full d)) c.in-Unnamed.is ∙ ap full_has_name (view_unnamed c.in-Unnamed.pointers c.in-Unnamed.suffixes) ∙ behind_has_name c.in-Unnamed.pointers.items _)

pub returns-in-Named : goal.returns-in-Named
returns-in-Named t c = sym (ap (λ (d : FullDeclarator). full_has_name (view_full d)) c.in-Named.is ∙ ap full_has_name (view_named c.in-Named.pointers c.in-Named.line c.in-Named.name c.in-Named.suffixes) ∙ behind_has_name c.in-Named.pointers.items _)

pub returns-in-Inside : goal.returns-in-Inside
returns-in-Inside t c =
    c.has_name.ensures
    ∙ ap (λ (d : FullDeclarator). full_has_name (view_full d)) c.deref.ensures
    ∙ sym (ap (λ (d : FullDeclarator). full_has_name (view_full d)) c.in-Inside.is ∙ ap full_has_name (view_inside c.in-Inside.pointers c.in-Inside.line c.in-Inside.inner c.in-Inside.suffixes) ∙ behind_has_name c.in-Inside.pointers.items _)
