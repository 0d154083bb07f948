use Rattle.std.proofs.Common.{◌≡◌, Bool, List, Option, None, sym, ap, subst, ◌∙◌}
use Rattle.std.specs.Prelude.{MatchOption}
use Rattle.c_tree.specs.Tree.{view_name}
use Rattle.c_tree.specs.declared.declaration.DeclaratorSuffix.{DeclaratorSuffix}
use Rattle.c_tree.specs.declared.declaration.FullDeclarator.{FullDeclarator}
use Rattle.c_tree.specs.Declarations.{Parameters, full_unnamed, full_named, full_inside, view_full, full_suffixes_of}
use Rattle.c_tree.proofs.DeclarationViews.{view_unnamed, view_named, view_inside}
use Rattle.c_elab_flow.specs.Files.{own_parameters, one_function, is_name_alone}
use Rattle.c_elab_flow.specs.Held.{IsOwn}
use Rattle.c_elab_flow.proofs.Declaring.{none_stored, unnamed_own, direct_own, pointed_own, inside_none, inside_own, inside_other}
use Rattle.c_elab_flow.proofs.own.+own_suffix.Goals as goal

pub returns-in-Unnamed : goal.returns-in-Unnamed
returns-in-Unnamed t c =
    let i = c.in-Unnamed in
    ap (λ (d : FullDeclarator). own_parameters (view_full d)) i.is ∙ ap own_parameters (view_unnamed i.pointers i.suffixes) ∙ unnamed_own i.pointers.items (full_suffixes_of i.suffixes.items)

pub returns-then-is_empty : goal.returns-then-is_empty
returns-then-is_empty t c =
    let i = c.in-Named in
    let same = ap (λ (d : FullDeclarator). own_parameters (view_full d)) i.is ∙ ap own_parameters (view_named i.pointers i.line i.name i.suffixes)
    ∙ direct_own i.pointers (full_named i.line (view_name i.name) (full_suffixes_of i.suffixes.items)) (sym c.if-is_empty.true ∙ c.is_empty.ensures) in
    subst (λ (o : Option (Parameters × Bool)). MatchOption c.one_function.result (o ≡ None) (λ x. IsOwn o x.now)) (sym (same ∙ sym (ap (λ (xs : List DeclaratorSuffix). one_function (full_suffixes_of xs)) c.deref.ensures.value))) c.one_function.ensures

pub returns-else-is_empty : goal.returns-else-is_empty
returns-else-is_empty t c =
    let i = c.in-Named in
    ap (λ (d : FullDeclarator). own_parameters (view_full d)) i.is ∙ ap own_parameters (view_named i.pointers i.line i.name i.suffixes)
    ∙ pointed_own i.pointers (full_named i.line (view_name i.name) (full_suffixes_of i.suffixes.items)) (sym c.if-is_empty.false ∙ c.is_empty.ensures)

pub returns-then-not-is_empty : goal.returns-then-not-is_empty
returns-then-not-is_empty t c =
    let i = c.in-Inside in
    ap (λ (d : FullDeclarator). own_parameters (view_full d)) i.is ∙ ap own_parameters (view_inside i.pointers i.line i.inner i.suffixes)
    ∙ pointed_own i.pointers (full_inside i.line (view_full i.inner.value) (full_suffixes_of i.suffixes.items)) (sym c.if-not-is_empty.true ∙ c.is_empty-in-Inside.ensures)

pub returns-then-is_empty-2 : goal.returns-then-is_empty-2
returns-then-is_empty-2 t c =
    let i = c.in-Inside in
    let direct = direct_own i.pointers (full_inside i.line (view_full i.inner.value) (full_suffixes_of i.suffixes.items)) (sym c.if-not-is_empty.false ∙ c.is_empty-in-Inside.ensures) in
    let empty = sym c.if-is_empty-2.true ∙ c.is_empty-else-not-is_empty.ensures ∙ none_stored i.suffixes in
    let same = ap (λ (d : FullDeclarator). own_parameters (view_full d)) i.is ∙ ap own_parameters (view_inside i.pointers i.line i.inner i.suffixes) ∙ direct
    ∙ inside_none i.line (view_full i.inner.value) (full_suffixes_of i.suffixes.items) empty ∙ sym (ap (λ (d : FullDeclarator). own_parameters (view_full d)) c.deref-then-is_empty-2.ensures) in
    subst (λ (o : Option (Parameters × Bool)). MatchOption c.own_suffix.result (o ≡ None) (λ x. IsOwn o x.now)) (sym same) c.own_suffix.ensures

pub returns-then-is_name_alone : goal.returns-then-is_name_alone
returns-then-is_name_alone t c =
    let i = c.in-Inside in
    let direct = direct_own i.pointers (full_inside i.line (view_full i.inner.value) (full_suffixes_of i.suffixes.items)) (sym c.if-not-is_empty.false ∙ c.is_empty-in-Inside.ensures) in
    let more = sym c.if-is_empty-2.false ∙ c.is_empty-else-not-is_empty.ensures ∙ none_stored i.suffixes in
    let bare = sym c.if-is_name_alone.true ∙ c.is_name_alone.ensures ∙ ap (λ (d : FullDeclarator). is_name_alone (view_full d)) c.deref-else-is_empty-2.ensures in
    let same = ap (λ (d : FullDeclarator). own_parameters (view_full d)) i.is ∙ ap own_parameters (view_inside i.pointers i.line i.inner i.suffixes) ∙ direct
    ∙ inside_own i.line (view_full i.inner.value) (full_suffixes_of i.suffixes.items) more bare
    ∙ sym (ap (λ (xs : List DeclaratorSuffix). one_function (full_suffixes_of xs)) c.deref-then-is_name_alone.ensures.value) in
    subst (λ (o : Option (Parameters × Bool)). MatchOption c.one_function-then-is_name_alone.result (o ≡ None) (λ x. IsOwn o x.now)) (sym same) c.one_function-then-is_name_alone.ensures

pub returns-else-is_name_alone : goal.returns-else-is_name_alone
returns-else-is_name_alone t c =
    let i = c.in-Inside in
    let direct = direct_own i.pointers (full_inside i.line (view_full i.inner.value) (full_suffixes_of i.suffixes.items)) (sym c.if-not-is_empty.false ∙ c.is_empty-in-Inside.ensures) in
    let more = sym c.if-is_empty-2.false ∙ c.is_empty-else-not-is_empty.ensures ∙ none_stored i.suffixes in
    let other = sym c.if-is_name_alone.false ∙ c.is_name_alone.ensures ∙ ap (λ (d : FullDeclarator). is_name_alone (view_full d)) c.deref-else-is_empty-2.ensures in
    ap (λ (d : FullDeclarator). own_parameters (view_full d)) i.is ∙ ap own_parameters (view_inside i.pointers i.line i.inner i.suffixes) ∙ direct
    ∙ inside_other i.line (view_full i.inner.value) (full_suffixes_of i.suffixes.items) more other
