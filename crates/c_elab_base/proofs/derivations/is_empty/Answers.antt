use Rattle.std.proofs.Common.{ℕ, Bool, length, ap, ap₂, sym, ◌∙◌, refl}
use Rattle.std.specs.Prelude.{◌==◌, ◌&&◌}
use Rattle.c_tree.specs.Declarations.{view_full}
use Rattle.c_tree.specs.Files.{full_is_empty}
use Rattle.c_tree.proofs.DeclarationViews.{view_unnamed, view_named, view_inside}
use Rattle.c_elab_base.proofs.Pointed.{behind_some, nothing}
use Rattle.c_elab_base.proofs.derivations.is_empty.Goals as goal

pub returns-then-is_empty : goal.returns-then-is_empty
returns-then-is_empty c =
    let i = c.in-Unnamed in
    let before = ap (λ (n : ℕ). n == 0) (sym i.pointers.ok.0) ∙ sym c.is_empty.ensures ∙ c.if-is_empty.true in
    let behind = ap (λ (n : ℕ). n == 0) (sym i.suffixes.ok.0) ∙ sym c.is_empty-then-is_empty.ensures in
    sym (ap full_is_empty (ap view_full i.is ∙ view_unnamed i.pointers i.suffixes) ∙ nothing i.pointers.items i.suffixes.items ∙ ap₂ (λ (a b : Bool). a && b) before behind)

pub returns-else-is_empty : goal.returns-else-is_empty
returns-else-is_empty c =
    let i = c.in-Unnamed in
    let before = ap (λ (n : ℕ). n == 0) (sym i.pointers.ok.0) ∙ sym c.is_empty.ensures ∙ c.if-is_empty.false in
    c.if-is_empty.false
    ∙ sym (ap full_is_empty (ap view_full i.is ∙ view_unnamed i.pointers i.suffixes) ∙ nothing i.pointers.items i.suffixes.items ∙ ap (λ (b : Bool). b && (length i.suffixes.items == 0)) before)

pub returns-in-Named : goal.returns-in-Named
returns-in-Named c = sym (ap full_is_empty (ap view_full c.in-Named.is ∙ view_named c.in-Named.pointers c.in-Named.line c.in-Named.name c.in-Named.suffixes) ∙ behind_some c.in-Named.pointers.items _ refl)

pub returns-in-Inside : goal.returns-in-Inside
returns-in-Inside c = sym (ap full_is_empty (ap view_full c.in-Inside.is ∙ view_inside c.in-Inside.pointers c.in-Inside.line c.in-Inside.inner c.in-Inside.suffixes) ∙ behind_some c.in-Inside.pointers.items _ refl)
