use Rattle.std.proofs.Common.{sym, ap, ◌∙◌}
use Rattle.c_tree.specs.declared.declaration.Initializer.{Initializer}
use Rattle.c_tree.specs.Declarations.{view_initializer}
use Rattle.c_tree.proofs.DeclarationViews.{view_braces}
use Rattle.c_elab_type.specs.Initializers.{initial_elements}
use Rattle.c_elab_type.proofs.Values.{counted}
use Rattle.c_elab_type.proofs.initializers.initial_elements.Goals as goal

pub returns-in-List : goal.returns-in-List
returns-in-List c =
    c.len.ensures ∙ c.in-List.items.ok.0 ∙ sym (counted c.in-List.items.items)
    ∙ sym (ap (λ (i : Initializer). initial_elements (view_initializer i)) c.in-List.is ∙ ap initial_elements (view_braces c.in-List.line c.in-List.items))
