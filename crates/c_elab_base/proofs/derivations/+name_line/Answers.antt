use Rattle.std.proofs.Common.{ap, sym, ◌∙◌}
use Rattle.c_tree.specs.declared.declaration.FullDeclarator.{FullDeclarator}
use Rattle.c_tree.specs.Declarations.{view_full}
use Rattle.c_tree.proofs.DeclarationViews.{view_unnamed, view_named, view_inside}
use Rattle.c_elab_base.specs.Derivations.{name_line}
use Rattle.c_elab_base.proofs.Pointed.{behind_name_line}
use Rattle.c_elab_base.proofs.derivations.+name_line.Goals as goal

pub returns-in-Unnamed : goal.returns-in-Unnamed
returns-in-Unnamed t c = sym (ap (λ (d : FullDeclarator). name_line (view_full d)) c.in-Unnamed.is ∙ ap name_line (view_unnamed c.in-Unnamed.pointers c.in-Unnamed.suffixes) ∙ behind_name_line c.in-Unnamed.pointers.items _)

pub returns-in-Named : goal.returns-in-Named
returns-in-Named t c = sym (ap (λ (d : FullDeclarator). name_line (view_full d)) c.in-Named.is ∙ ap name_line (view_named c.in-Named.pointers c.in-Named.line c.in-Named.name c.in-Named.suffixes) ∙ behind_name_line c.in-Named.pointers.items _)

pub returns-in-Inside : goal.returns-in-Inside
returns-in-Inside t c =
    c.name_line.ensures
    ∙ ap (λ (d : FullDeclarator). name_line (view_full d)) c.deref.ensures
    ∙ sym (ap (λ (d : FullDeclarator). name_line (view_full d)) c.in-Inside.is ∙ ap name_line (view_inside c.in-Inside.pointers c.in-Inside.line c.in-Inside.inner c.in-Inside.suffixes) ∙ behind_name_line c.in-Inside.pointers.items _)
