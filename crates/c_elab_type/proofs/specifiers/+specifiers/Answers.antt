use Rattle.std.proofs.Common.{◌≡◌, List, Result, option_map, sym, ap, subst, ◌∙◌, ◌+◌, ◌-◌, ℕ, Bool, false, [], None, Ok, length, drop, ap₂, arith}
use Rattle.c_tree.specs.declared.declaration.Specifier.{Specifier}
use Rattle.c_tree.specs.declared.declaration.MemberDeclaration.{MemberDeclaration}
use Rattle.c_tree.specs.Tree.{view_name}
use Rattle.c_tree.specs.Declarations.{view_part, parts_of, parts_line, members, no_member, members_of, name_of, full_has_name, full_unnamed, full_named, full_inside, FullSuffixes, full_end, full_parameters, no_parameter, view_full, fulls_of, view_full_suffix, full_suffixes_of, parameters_of, view_parameter as view_parameter_tree}
use Rattle.c_tree.proofs.DeclarationViews.{view_record, view_unnamed, view_named as view_named_full, view_inside, view_takes}
use Rattle.c_scope.specs.Faults.{Fault, Gives, on_line, ◌>>=◌}
use Rattle.c_elab_base.specs.Specifiers.{Parted, Fields, is_none, has_untagged, said_before, with_field, fields_behind, called_in_front, ended, view_parted, Passed, are_several, inner_region, with_member, view_typed}
use Rattle.c_elab_type.specs.Specifiers.{typed_record, typed_part, typed_members, typed_fields, typed_full, typed_suffixes, typed_parameters, typed_parts}
use Rattle.c_elab_base.specs.declared.derivations.Derived.{Derived as CodeDerived}
use Rattle.c_elab_base.specs.Derivations.{Derived, derivation, view_deriveds, view_parameters}
use Rattle.std.proofs.lemmas.Result.{err_from_is_err_and}
use Rattle.std.proofs.lemmas.List.{drop_all, append-nil}
use Rattle.c_tree.specs.declared.declaration.FullDeclarator.{FullDeclarator}
use Rattle.c_tree.specs.declared.declaration.DeclaratorSuffix.{DeclaratorSuffix}
use Rattle.c_tree.specs.declared.declaration.Parameter.{Parameter as ParameterTree}
use Rattle.c_scope.specs.Scopes.{Environment, Scoped, are_there, view_named}
use Rattle.c_elab_base.specs.Regions.{earlier}
use Rattle.c_elab_base.specs.declared.regions.Region.{Region}
use Rattle.std.specs.Prelude.{◌&&◌, is_some, nat_lt, Vec}
use Rattle.std.specs.Global.{Global}
use Rattle.c_types.specs.Types.{CType, view as type_view}
use Rattle.c_scope.specs.declared.members.Field.{Field as CodeField}
use Rattle.c_scope.specs.Members.{Field}
use Rattle.c_scope.specs.Types.{Said, specified_type}
use Rattle.c_scope.proofs.Variables.{and}
use Rattle.c_elab_base.specs.declared.derivations.Parameter.{Parameter as CodeParameter}
use Rattle.c_elab_type.specs.Steps.{suffixes_first}
use Rattle.c_elab_type.proofs.specifiers.+specifiers.Goals.{typed_line-then-alone+then-has_untagged+in_ok-copied+in_ok-add_field, typed_line-else-alone, typed_line-else-alone-via-then-alone+else-has_untagged, typed_line-else-alone-via-else-alone}
use Rattle.c_elab_type.proofs.specifiers.+specifiers.Goals as goal
use Rattle.c_elab_base.proofs.Steps.{fails_on, fails_bind, fails_along, gives_err}
use Rattle.c_elab_expr.specs.Typing.{RefusesFirst}
use Rattle.c_elab_type.proofs.Suffixes.{full_refused, no_pointers, fulls_at, suffixes_at, parameters_at, field_more, field_fails, full_fails, joined, derives_both, derives_as, derives_fault, derives_one, suffix_fails, first_fails, parameter_more, parameter_fails, line_parts_fail, line_type_fails, line_is, none_declared, with_it, without_it, several_are, parameter_sized}
use Rattle.c_elab_type.proofs.Ending.{names_within, variables_within, names_there, suffix_ends, names_now, variables_now}

pub typed_part-returns-in-Record-clause-gives : goal.typed_part-returns-in-Record-clause-gives
typed_part-returns-in-Record-clause-gives t c =
    let r = c.args.region in
    let alone = c.args.alone in
    let p = view_parted c.args.specified.now c.args.names.now c.args.scope.now in
    let kind = c.in-Record.kind in
    let tag = option_map view_name c.in-Record.tag in
    let whole : typed_record r alone p kind tag (members_of c.deref.result.now) ≡ typed_part r alone p (view_part c.args.specifier.now) =
    ap (λ (ms : List MemberDeclaration). typed_record r alone p kind tag (members_of ms)) c.deref.ensures.value
    ∙ sym (ap (λ (x : Specifier). typed_part r alone p (view_part x)) c.in-Record.is ∙ ap (typed_part r alone p) (view_record c.in-Record.line kind c.in-Record.tag c.in-Record.members)) in
    subst (λ (x : Result Parted Fault). Gives (λ u. view_parted c.typed_record.new.specified c.typed_record.new.names c.typed_record.new.scope) c.typed_record.result x) whole c.typed_record.ensures.gives

-- ---- members of one declaration

pub typed_fields-returns-in_err-suffixes-clause-gives : goal.typed_fields-returns-in_err-suffixes-clause-gives
typed_fields-returns-in_err-suffixes-clause-gives t c =
    let p = err_from_is_err_and c.from_residual.result c.from_residual.ensures.1 in
    let r = c.args.region in
    let b = view_named c.args.base.now in
    let l = c.loop-declarator in
    let fs = view_typed l.fields.items l.names l.scope in
    let ds = c.args.declarators.now in
    let i = l.declarator-index in
    let d = c.declarator-item.result in
    let e = c.in_err-suffixes.field-0.0 in
    let whole = typed_fields r b (view_typed c.args.fields.now.items c.args.names.now c.args.scope.now) (fulls_of ds) in
    let rest = fulls_of (drop (i + 1) ds) in
    gives_err _ _ p.0 e whole p.1 p.2
    (fails_on e (typed_full l.scope (view_full d)) whole
    (λ f bad. sym l.invariant.gives ∙ ap (typed_fields r b fs) (fulls_at ds i d (omega arith) c.declarator-item.is) ∙ full_fails r b fs (view_full d) rest f bad)
    c.in_err-suffixes.ensures.gives)

pub typed_fields-returns-in_err-with_member-clause-gives : goal.typed_fields-returns-in_err-with_member-clause-gives
typed_fields-returns-in_err-with_member-clause-gives t c =
    let p = err_from_is_err_and c.from_residual-in_err-with_member.result c.from_residual-in_err-with_member.ensures.1 in
    let r = c.args.region in
    let b = view_named c.args.base.now in
    let l = c.loop-declarator in
    let fs = view_typed l.fields.items l.names l.scope in
    let ds = c.args.declarators.now in
    let i = l.declarator-index in
    let d = c.declarator-item.result in
    let s = c.typed_full.new.scope in
    let found = view_deriveds c.in_ok-suffixes.suffixes.items in
    let e = c.in_err-with_member.field-0.0 in
    let whole = typed_fields r b (view_typed c.args.fields.now.items c.args.names.now c.args.scope.now) (fulls_of ds) in
    let rest = fulls_of (drop (i + 1) ds) in
    let same = ap (λ (xs : List CodeDerived). with_member b (view_typed l.fields.items l.names s) (view_full d) (view_deriveds xs)) (sym c.deref.ensures.value) in
    gives_err _ _ p.0 e whole p.1 p.2
    (fails_on e (with_member b (view_typed l.fields.items l.names s) (view_full d) (view_deriveds c.deref.result.now)) whole
    (λ f bad. sym l.invariant.gives ∙ ap (typed_fields r b fs) (fulls_at ds i d (omega arith) c.declarator-item.is)
    ∙ field_fails r b fs (view_full d) rest found s f c.in_ok-suffixes.ensures.gives (same ∙ bad))
    c.in_err-with_member.ensures)

pub typed_fields-loop-declarator-preserved : goal.typed_fields-loop-declarator-preserved
typed_fields-loop-declarator-preserved t c =
    let r = c.args.region in
    let b = view_named c.args.base.now in
    let l = c.loop-declarator in
    let fs = view_typed l.fields.items l.names l.scope in
    let ds = c.args.declarators.now in
    let i = l.declarator-index in
    let d = c.declarator-item.result in
    let s = c.typed_full.new.scope in
    let found = view_deriveds c.in_ok-suffixes.suffixes.items in
    let now = view_typed c.with_member.new.fields.items c.with_member.new.names s in
    let rest = fulls_of (drop (i + 1) ds) in
    let same = ap (λ (xs : List CodeDerived). with_member b (view_typed l.fields.items l.names s) (view_full d) (view_deriveds xs)) (sym c.deref.ensures.value) in
    let names = ap (λ (env : Environment). length env) c.in_ok-suffixes.ensures.names in
    let within = l.invariant.within in
    let before = l.invariant.grows in
    let grows = c.in_ok-suffixes.ensures.grows in
    record {
      gives = sym (ap (typed_fields r b fs) (fulls_at ds i d (omega arith) c.declarator-item.is)
          ∙ field_more r b fs now (view_full d) rest found s c.in_ok-suffixes.ensures.gives (same ∙ c.in_ok-with_member.ensures)) ∙ l.invariant.gives;
      within = omega (arith, names, within);
      grows = omega (arith, before, grows);
    }

pub typed_fields-returns-clause-gives : goal.typed_fields-returns-clause-gives
typed_fields-returns-clause-gives t c =
    let l = c.loop-declarator in
    sym l.invariant.gives
    ∙ ap (λ (xs : List FullDeclarator). typed_fields c.args.region (view_named c.args.base.now) (view_typed l.fields.items l.names l.scope) (fulls_of xs)) (drop_all l.declarator-index c.args.declarators.now (omega arith))

-- ---- suffixes

pub add_full-returns-in_err-no_pointers-in-Unnamed-clause-gives : goal.add_full-returns-in_err-no_pointers-in-Unnamed-clause-gives
add_full-returns-in_err-no_pointers-in-Unnamed-clause-gives t c =
    let p = err_from_is_err_and c.from_residual.result c.from_residual.ensures.1 in
    let s = c.args.scope.now in
    let e = c.in_err-no_pointers-in-Unnamed.field-0.0 in
    let shape = ap (typed_full s) (ap view_full c.in-Unnamed.is ∙ view_unnamed c.in-Unnamed.pointers c.in-Unnamed.suffixes) in
    let first = subst (RefusesFirst e) c.deref.ensures.value c.in_err-no_pointers-in-Unnamed.ensures.first in
    derives_fault c.from_residual.result p.0 e s c.args.found.now.items c.args.found.now.items (typed_full s (view_full c.args.declarator.now)) p.1 p.2
    (fails_along e _ (typed_full s (view_full c.args.declarator.now)) (sym shape) (full_refused e s c.in-Unnamed.pointers.items (full_unnamed (full_suffixes_of c.in-Unnamed.suffixes.items)) first))

pub add_full-returns-in_err-no_pointers-in-Named-clause-gives : goal.add_full-returns-in_err-no_pointers-in-Named-clause-gives
add_full-returns-in_err-no_pointers-in-Named-clause-gives t c =
    let p = err_from_is_err_and c.from_residual-in_err-no_pointers-in-Named.result c.from_residual-in_err-no_pointers-in-Named.ensures.1 in
    let s = c.args.scope.now in
    let e = c.in_err-no_pointers-in-Named.field-0.0 in
    let shape = ap (typed_full s) (ap view_full c.in-Named.is ∙ view_named_full c.in-Named.pointers c.in-Named.line c.in-Named.name c.in-Named.suffixes) in
    let first = subst (RefusesFirst e) c.deref-in-Named.ensures.value c.in_err-no_pointers-in-Named.ensures.first in
    derives_fault c.from_residual-in_err-no_pointers-in-Named.result p.0 e s c.args.found.now.items c.args.found.now.items (typed_full s (view_full c.args.declarator.now)) p.1 p.2
    (fails_along e _ (typed_full s (view_full c.args.declarator.now)) (sym shape) (full_refused e s c.in-Named.pointers.items (full_named c.in-Named.line (view_name c.in-Named.name) (full_suffixes_of c.in-Named.suffixes.items)) first))

pub add_full-returns-in_err-no_pointers-in-Inside-clause-gives : goal.add_full-returns-in_err-no_pointers-in-Inside-clause-gives
add_full-returns-in_err-no_pointers-in-Inside-clause-gives t c =
    let p = err_from_is_err_and c.from_residual-in_err-no_pointers-in-Inside.result c.from_residual-in_err-no_pointers-in-Inside.ensures.1 in
    let s = c.args.scope.now in
    let e = c.in_err-no_pointers-in-Inside.field-0.0 in
    let shape = ap (typed_full s) (ap view_full c.in-Inside.is ∙ view_inside c.in-Inside.pointers c.in-Inside.line c.in-Inside.inner c.in-Inside.suffixes) in
    let first = subst (RefusesFirst e) c.deref-in-Inside.ensures.value c.in_err-no_pointers-in-Inside.ensures.first in
    derives_fault c.from_residual-in_err-no_pointers-in-Inside.result p.0 e s c.args.found.now.items c.args.found.now.items (typed_full s (view_full c.args.declarator.now)) p.1 p.2
    (fails_along e _ (typed_full s (view_full c.args.declarator.now)) (sym shape) (full_refused e s c.in-Inside.pointers.items (full_inside c.in-Inside.line (view_full c.in-Inside.inner.value) (full_suffixes_of c.in-Inside.suffixes.items)) first))

pub add_full-returns-in_ok-no_pointers-in-Unnamed-clause-gives : goal.add_full-returns-in_ok-no_pointers-in-Unnamed-clause-gives
add_full-returns-in_ok-no_pointers-in-Unnamed-clause-gives t c =
    let s = c.args.scope.now in
    let none = no_pointers c.in-Unnamed.pointers.items (full_unnamed (full_suffixes_of c.in-Unnamed.suffixes.items)) (sym c.deref.ensures.value ∙ c.in_ok-no_pointers-in-Unnamed.ensures.none) in
    let same = ap (λ (xs : List DeclaratorSuffix). typed_suffixes s (full_suffixes_of xs)) c.deref-in-Unnamed.ensures.value
    ∙ sym (ap (typed_full s) (ap view_full c.in-Unnamed.is ∙ view_unnamed c.in-Unnamed.pointers c.in-Unnamed.suffixes ∙ none)) in
    derives_as c.add_suffixes.result c.add_suffixes.new.scope c.args.found.now.items c.add_suffixes.new.found.items (typed_suffixes s (full_suffixes_of c.deref-in-Unnamed.result.now)) (typed_full s (view_full c.args.declarator.now)) same c.add_suffixes.ensures.gives

pub add_full-returns-in_ok-no_pointers-in-Named-clause-gives : goal.add_full-returns-in_ok-no_pointers-in-Named-clause-gives
add_full-returns-in_ok-no_pointers-in-Named-clause-gives t c =
    let s = c.args.scope.now in
    let none = no_pointers c.in-Named.pointers.items (full_named c.in-Named.line (view_name c.in-Named.name) (full_suffixes_of c.in-Named.suffixes.items)) (sym c.deref-in-Named.ensures.value ∙ c.in_ok-no_pointers-in-Named.ensures.none) in
    let same = ap (λ (xs : List DeclaratorSuffix). typed_suffixes s (full_suffixes_of xs)) c.deref-in-Named-2.ensures.value
    ∙ sym (ap (typed_full s) (ap view_full c.in-Named.is ∙ view_named_full c.in-Named.pointers c.in-Named.line c.in-Named.name c.in-Named.suffixes ∙ none)) in
    derives_as c.add_suffixes-in-Named.result c.add_suffixes-in-Named.new.scope c.args.found.now.items c.add_suffixes-in-Named.new.found.items (typed_suffixes s (full_suffixes_of c.deref-in-Named-2.result.now)) (typed_full s (view_full c.args.declarator.now)) same c.add_suffixes-in-Named.ensures.gives

pub add_full-returns-in_err-add_full-in-Inside-clause-gives : goal.add_full-returns-in_err-add_full-in-Inside-clause-gives
add_full-returns-in_err-add_full-in-Inside-clause-gives t c =
    let p = err_from_is_err_and c.from_residual-in_err-add_full-in-Inside.result c.from_residual-in_err-add_full-in-Inside.ensures.1 in
    let s = c.args.scope.now in
    let e = c.in_err-add_full-in-Inside.field-0.0 in
    let none = no_pointers c.in-Inside.pointers.items (full_inside c.in-Inside.line (view_full c.in-Inside.inner.value) (full_suffixes_of c.in-Inside.suffixes.items)) (sym c.deref-in-Inside.ensures.value ∙ c.in_ok-no_pointers-in-Inside.ensures.none) in
    let shape = ap (typed_full s) (ap view_full c.in-Inside.is ∙ view_inside c.in-Inside.pointers c.in-Inside.line c.in-Inside.inner c.in-Inside.suffixes ∙ none) in
    derives_fault c.from_residual-in_err-add_full-in-Inside.result p.0 e c.add_full.new.scope c.args.found.now.items c.add_full.new.found.items (typed_full s (view_full c.args.declarator.now)) p.1 p.2
    (fails_along e _ (typed_full s (view_full c.args.declarator.now)) (sym shape)
    (fails_bind e (typed_full s (view_full c.in-Inside.inner.value)) _ (fails_along e _ _ (ap (λ (d : FullDeclarator). typed_full s (view_full d)) c.deref-in-Inside-2.ensures) c.in_err-add_full-in-Inside.ensures.gives)))

pub add_full-returns-in_ok-add_full-in-Inside-clause-gives : goal.add_full-returns-in_ok-add_full-in-Inside-clause-gives
add_full-returns-in_ok-add_full-in-Inside-clause-gives t c =
    let s = c.args.scope.now in
    let u = c.add_full.new.scope in
    let found = c.args.found.now.items in
    let mid = c.add_full.new.found.items in
    let now = c.add_suffixes-in-Inside.new.found.items in
    let last = c.add_suffixes-in-Inside.new.scope in
    let r = c.add_suffixes-in-Inside.result in
    let none = no_pointers c.in-Inside.pointers.items (full_inside c.in-Inside.line (view_full c.in-Inside.inner.value) (full_suffixes_of c.in-Inside.suffixes.items)) (sym c.deref-in-Inside.ensures.value ∙ c.in_ok-no_pointers-in-Inside.ensures.none) in
    let shape = ap (typed_full s) (ap view_full c.in-Inside.is ∙ view_inside c.in-Inside.pointers c.in-Inside.line c.in-Inside.inner c.in-Inside.suffixes ∙ none) in
    let first = typed_full s (view_full c.in-Inside.inner.value) in
    let g : Scoped → Result (List Derived × Scoped) Fault = λ y. typed_suffixes y (full_suffixes_of c.in-Inside.suffixes.items) in
    let good = sym (ap (λ (d : FullDeclarator). suffixes_first (view_deriveds found) (typed_full s (view_full d))) c.deref-in-Inside-2.ensures) ∙ c.in_ok-add_full-in-Inside.ensures.gives in
    let rest = derives_as r last mid now (typed_suffixes u (full_suffixes_of c.deref-in-Inside-3.result.now)) (g u) (ap (λ (xs : List DeclaratorSuffix). typed_suffixes u (full_suffixes_of xs)) c.deref-in-Inside-3.ensures.value) c.add_suffixes-in-Inside.ensures.gives in
    derives_as r last found now (joined first g) (typed_full s (view_full c.args.declarator.now)) (sym shape) (derives_both r found mid now u last first g good rest)

pub add_suffixes-returns-in_err-derived-clause-gives : goal.add_suffixes-returns-in_err-derived-clause-gives
add_suffixes-returns-in_err-derived-clause-gives t c =
    let p = err_from_is_err_and c.from_residual.result c.from_residual.ensures.1 in
    let l = c.loop-suffix in
    let xs = c.args.suffixes.now in
    let i = l.suffix-index in
    let x = c.suffix-item.result in
    let e = c.in_err-derived.field-0.0 in
    let whole = typed_suffixes c.args.scope.now (full_suffixes_of xs) in
    let one = typed_suffixes l.scope (view_full_suffix x full_end) in
    let rest = full_suffixes_of (drop (i + 1) xs) in
    derives_fault c.from_residual.result p.0 e c.typed_suffix.new.scope c.args.found.now.items l.found.items whole p.1 p.2
    (fails_on e one whole
    (λ f bad. first_fails (view_deriveds c.args.found.now.items) whole f
    (sym l.invariant.gives ∙ ap (λ (r : FullSuffixes). suffixes_first (view_deriveds l.found.items) (typed_suffixes l.scope r)) (suffixes_at xs i x (omega arith) c.suffix-item.is)
    ∙ ap (suffixes_first (view_deriveds l.found.items)) (suffix_fails l.scope x rest f bad)))
    c.in_err-derived.ensures.gives)

pub add_suffixes-loop-suffix-preserved : goal.add_suffixes-loop-suffix-preserved
add_suffixes-loop-suffix-preserved t c =
    let l = c.loop-suffix in
    let xs = c.args.suffixes.now in
    let i = l.suffix-index in
    let x = c.suffix-item.result in
    let rest = full_suffixes_of (drop (i + 1) xs) in
    let before = l.invariant.grows in
    let grows = c.in_ok-derived.ensures.grows in
    record {
      gives = sym (ap (λ (r : FullSuffixes). suffixes_first (view_deriveds l.found.items) (typed_suffixes l.scope r)) (suffixes_at xs i x (omega arith) c.suffix-item.is)
          ∙ derives_one l.found.items c.push.new.self.items c.in_ok-derived.derived l.scope c.typed_suffix.new.scope x rest c.in_ok-derived.ensures.gives c.in_ok-push.ensures.items) ∙ l.invariant.gives;
      names = c.in_ok-derived.ensures.names ∙ l.invariant.names;
      variables = c.in_ok-derived.ensures.variables ∙ l.invariant.variables;
      grows = omega (arith, before, grows);
    }

pub add_suffixes-returns-clause-gives : goal.add_suffixes-returns-clause-gives
add_suffixes-returns-clause-gives t c =
    let l = c.loop-suffix in
    sym l.invariant.gives ∙ ap (λ (xs : List DeclaratorSuffix). suffixes_first (view_deriveds l.found.items) (typed_suffixes l.scope (full_suffixes_of xs))) (drop_all l.suffix-index c.args.suffixes.now (omega arith))
    ∙ ap (λ (ds : List Derived). Ok (ds, l.scope)) (append-nil (view_deriveds l.found.items))

-- ---- parameters

-- ---- a suffix with parameters

pub typed_suffix-end_parameters-requires-clause-within : goal.typed_suffix-end_parameters-requires-clause-within
typed_suffix-end_parameters-requires-clause-within t c =
    let s = c.args.scope.now in
    let ps = parameters_of c.deref-in-Parameters.result.now in
    let p : Passed = record { parameters = view_parameters c.in_ok-parameters-in-Parameters.parameters.items; scope = c.typed_parameters.new.scope } in
    let within = names_within s (are_several ps) ps p c.in_ok-parameters-in-Parameters.ensures.gives in
    let at = c.len-outer.ensures in
    omega (arith, within, at)

pub typed_suffix-end_parameters-requires-clause-variables : goal.typed_suffix-end_parameters-requires-clause-variables
typed_suffix-end_parameters-requires-clause-variables t c =
    let s = c.args.scope.now in
    let ps = parameters_of c.deref-in-Parameters.result.now in
    let p : Passed = record { parameters = view_parameters c.in_ok-parameters-in-Parameters.parameters.items; scope = c.typed_parameters.new.scope } in
    let within = variables_within s (are_several ps) ps p c.in_ok-parameters-in-Parameters.ensures.gives in
    let few = c.variable_count-variables.ensures in
    omega (arith, within, few)

pub typed_suffix-end_parameters-requires-clause-there : goal.typed_suffix-end_parameters-requires-clause-there
typed_suffix-end_parameters-requires-clause-there t c =
    let s = c.args.scope.now in
    let u = c.typed_parameters.new.scope in
    let ps = parameters_of c.deref-in-Parameters.result.now in
    let p : Passed = record { parameters = view_parameters c.in_ok-parameters-in-Parameters.parameters.items; scope = u } in
    ap₂ (λ (m n : ℕ). are_there m (length u.objects) (length u.types) (length u.records.declared) (drop (length u.bindings - n) u.bindings)) c.variable_count-variables.ensures c.len-outer.ensures
    ∙ names_there s (are_several ps) ps p c.in_ok-parameters-in-Parameters.ensures.gives c.prove_there.ensures.there

pub typed_suffix-returns-in_ok-parameters-in-Parameters-clause-gives : goal.typed_suffix-returns-in_ok-parameters-in-Parameters-clause-gives
typed_suffix-returns-in_ok-parameters-in-Parameters-clause-gives t c =
    let s = c.args.scope.now in
    let u = c.typed_parameters.new.scope in
    let ps = parameters_of c.deref-in-Parameters.result.now in
    let made = view_parameters c.in_ok-parameters-in-Parameters.parameters.items in
    let shape = ap (λ (x : DeclaratorSuffix). view_full_suffix x full_end) c.in-Parameters.is ∙ view_takes c.in-Parameters.line c.in-Parameters.parameters c.in-Parameters.variadic full_end in
    ap (typed_suffixes s) shape
    ∙ ap (λ (xs : List ParameterTree). typed_suffixes s (full_parameters c.in-Parameters.line (parameters_of xs) c.in-Parameters.variadic full_end)) (sym c.deref-in-Parameters.ensures.value)
    ∙ suffix_ends s u c.end_parameters.new.self c.in-Parameters.line c.len-outer.result c.variable_count-variables.result ps c.in-Parameters.variadic made c.len-outer.ensures c.variable_count-variables.ensures
    c.in_ok-parameters-in-Parameters.ensures.gives c.end_parameters.ensures

pub typed_suffix-returns-in_ok-parameters-in-Parameters-clause-names : goal.typed_suffix-returns-in_ok-parameters-in-Parameters-clause-names
typed_suffix-returns-in_ok-parameters-in-Parameters-clause-names t c =
    names_now c.args.scope.now c.typed_parameters.new.scope c.end_parameters.new.self c.in-Parameters.line c.len-outer.result c.variable_count-variables.result (parameters_of c.deref-in-Parameters.result.now) c.in-Parameters.variadic
    (view_parameters c.in_ok-parameters-in-Parameters.parameters.items) c.len-outer.ensures c.variable_count-variables.ensures c.in_ok-parameters-in-Parameters.ensures.gives c.end_parameters.ensures

pub typed_suffix-returns-in_ok-parameters-in-Parameters-clause-variables : goal.typed_suffix-returns-in_ok-parameters-in-Parameters-clause-variables
typed_suffix-returns-in_ok-parameters-in-Parameters-clause-variables t c =
    variables_now c.args.scope.now c.typed_parameters.new.scope c.end_parameters.new.self c.in-Parameters.line c.len-outer.result c.variable_count-variables.result (parameters_of c.deref-in-Parameters.result.now) c.in-Parameters.variadic
    (view_parameters c.in_ok-parameters-in-Parameters.parameters.items) c.len-outer.ensures c.variable_count-variables.ensures c.in_ok-parameters-in-Parameters.ensures.gives c.end_parameters.ensures

-- ---- parameters from left to right

pub typed_parameters-loop-parameter-init : goal.typed_parameters-loop-parameter-init
typed_parameters-loop-parameter-init t c =
    let ps = c.args.parameters.now in
    record {
      gives = ap (λ (xs : List CodeParameter). typed_parameters (record { outer = c.len.result; is_file = false }) (nat_lt 1 (length ps)) (record { parameters = view_parameters xs; scope = c.args.scope.now }) (parameters_of ps)) c.new-typed.ensures.items;
      within = omega arith;
      grows = omega arith;
    }

pub typed_parameters-returns-in_err-typed_parameter-clause-gives : goal.typed_parameters-returns-in_err-typed_parameter-clause-gives
typed_parameters-returns-in_err-typed_parameter-clause-gives t c =
    let p = err_from_is_err_and c.from_residual.result c.from_residual.ensures.1 in
    let e = c.in_err-typed_parameter.field-0.0 in
    let x = c.parameter-item.result in
    let l = c.loop-parameter in
    let s = c.args.scope.now in
    let ps = c.args.parameters.now in
    let i = l.parameter-index in
    let r : Region = record { outer = c.len.result; is_file = false } in
    let several = nat_lt 1 (length ps) in
    let before : Passed = record { parameters = view_parameters l.typed.items; scope = l.scope } in
    let first : Passed = record { parameters = []; scope = s } in
    let whole = typed_parameters (inner_region s) (are_several (parameters_of ps)) first (parameters_of ps) in
    let start : whole ≡ typed_parameters r several first (parameters_of ps) =
    ap₂ (λ (n : ℕ) (b : Bool). typed_parameters (record { outer = n; is_file = false }) b first (parameters_of ps)) (sym c.len.ensures) (several_are ps) in
    let rest = parameters_of (drop (i + 1) ps) in
    gives_err _ _ p.0 e whole p.1 p.2
    (fails_on e (typed_parameters r several before (view_parameter_tree x no_parameter)) whole
    (λ f bad. start ∙ sym l.invariant.gives ∙ ap (typed_parameters r several before) (parameters_at ps i x (omega arith) c.parameter-item.is) ∙ parameter_fails r several before x rest f bad)
    c.in_err-typed_parameter.ensures.gives)

pub typed_parameters-loop-parameter-preserved : goal.typed_parameters-loop-parameter-preserved
typed_parameters-loop-parameter-preserved t c =
    let x = c.parameter-item.result in
    let l = c.loop-parameter in
    let s = c.args.scope.now in
    let ps = c.args.parameters.now in
    let i = l.parameter-index in
    let r : Region = record { outer = c.len.result; is_file = false } in
    let several = nat_lt 1 (length ps) in
    let before : Passed = record { parameters = view_parameters l.typed.items; scope = l.scope } in
    let now : Passed = record { parameters = view_parameters c.typed_parameter.new.typed.items; scope = c.typed_parameter.new.scope } in
    let rest = parameters_of (drop (i + 1) ps) in
    let earlier = l.invariant.grows in
    let grows = c.in_ok-typed_parameter.ensures.grows in
    record {
      gives = sym (ap (typed_parameters r several before) (parameters_at ps i x (omega arith) c.parameter-item.is) ∙ parameter_more r several before now x rest c.in_ok-typed_parameter.ensures.gives) ∙ l.invariant.gives;
      within = c.in_ok-typed_parameter.ensures.within;
      grows = omega (arith, earlier, grows);
    }

pub typed_parameters-returns-clause-gives : goal.typed_parameters-returns-clause-gives
typed_parameters-returns-clause-gives t c =
    let l = c.loop-parameter in
    let s = c.args.scope.now in
    let ps = c.args.parameters.now in
    let i = l.parameter-index in
    let r : Region = record { outer = c.len.result; is_file = false } in
    let several = nat_lt 1 (length ps) in
    let before : Passed = record { parameters = view_parameters l.typed.items; scope = l.scope } in
    let first : Passed = record { parameters = []; scope = s } in
    let whole = typed_parameters (inner_region s) (are_several (parameters_of ps)) first (parameters_of ps) in
    let start : whole ≡ typed_parameters r several first (parameters_of ps) =
    ap₂ (λ (n : ℕ) (b : Bool). typed_parameters (record { outer = n; is_file = false }) b first (parameters_of ps)) (sym c.len.ensures) (several_are ps) in
    start ∙ sym l.invariant.gives ∙ ap (λ (xs : List ParameterTree). typed_parameters r several before (parameters_of xs)) (drop_all i ps (omega arith))

-- ---- one parameter

pub typed_parameter-add_parameter-requires : goal.typed_parameter-add_parameter-requires
typed_parameter-add_parameter-requires t c =
    let s = c.typed_full.new.scope in
    let d = view_full c.args.parameter.now.declarator in
    let base = view_named c.in_ok-base.base in
    let named = full_has_name d && is_some (earlier c.args.region s (name_of d)) in
    parameter_sized s.records.done c.parameter_line-line.result named c.args.several base.type (derivation s.functions s.records.done base (view_deriveds c.deref-3.result.now)) (type_view c.in_ok-type_.type_) c.in_ok-type_.ensures

pub typed_suffix-returns-in_err-parameters-in-Parameters-clause-gives : goal.typed_suffix-returns-in_err-parameters-in-Parameters-clause-gives
typed_suffix-returns-in_err-parameters-in-Parameters-clause-gives t c =
    let p = err_from_is_err_and c.from_residual-in_err-parameters-in-Parameters.result c.from_residual-in_err-parameters-in-Parameters.ensures.1 in
    let s = c.args.scope.now in
    let e = c.in_err-parameters-in-Parameters.field-0.0 in
    let ps = parameters_of c.deref-in-Parameters.result.now in
    let first : Passed = record { parameters = []; scope = s } in
    let typing = typed_parameters (inner_region s) (are_several ps) first ps in
    let whole = typed_suffixes s (view_full_suffix c.args.suffix.now full_end) in
    let shape = ap (λ (x : DeclaratorSuffix). view_full_suffix x full_end) c.in-Parameters.is ∙ view_takes c.in-Parameters.line c.in-Parameters.parameters c.in-Parameters.variadic full_end in
    let here : whole ≡ typed_suffixes s (full_parameters c.in-Parameters.line ps c.in-Parameters.variadic full_end) =
    ap (typed_suffixes s) shape ∙ ap (λ (xs : List ParameterTree). typed_suffixes s (full_parameters c.in-Parameters.line (parameters_of xs) c.in-Parameters.variadic full_end)) (sym c.deref-in-Parameters.ensures.value) in
    gives_err _ _ p.0 e whole p.1 p.2
    (fails_on e typing whole
    (λ f bad. here ∙ ap (λ (r : Result Passed Fault). r >>= λ q. called_in_front q.parameters c.in-Parameters.variadic (typed_suffixes (ended s q.scope) full_end)) bad)
    c.in_err-parameters-in-Parameters.ensures.gives)

-- ---- one declaration of members

pub typed_line-returns-in_err-typed_parts-clause-gives : goal.typed_line-returns-in_err-typed_parts-clause-gives
typed_line-returns-in_err-typed_parts-clause-gives t c =
    let p = err_from_is_err_and c.from_residual.result c.from_residual.ensures.1 in
    let e = c.in_err-typed_parts.field-0.0 in
    let x = c.args.member.now in
    let r = c.args.region in
    let parts = parts_of x.specifiers.items in
    let ds = fulls_of x.declarators.items in
    let f = view_typed c.args.fields.now.items c.args.names.now c.args.scope.now in
    let start : Bool → Parted → List Specifier → Result Parted Fault = λ b q xs. typed_parts r b q (parts_of xs) in
    let alone : c.is_empty-alone.result ≡ is_none ds = c.is_empty-alone.ensures ∙ none_declared x.declarators in
    let first = view_parted c.new-specified.result c.args.names.now c.args.scope.now in
    let same : start c.is_empty-alone.result first c.deref.result.now ≡ typed_parts r (is_none ds) (said_before f) parts =
    ap (λ (b : Bool). start b first c.deref.result.now) alone
    ∙ ap (λ (w : Said). start (is_none ds) (record { specified = w; names = c.args.names.now; scope = c.args.scope.now }) c.deref.result.now) c.new-specified.ensures
    ∙ ap (start (is_none ds) (said_before f)) c.deref.ensures.value in
    let whole = typed_members r f (members parts ds no_member) in
    gives_err _ _ p.0 e whole p.1 p.2
    (fails_on e (start c.is_empty-alone.result first c.deref.result.now) whole (λ g bad. line_parts_fail r f parts ds g (sym same ∙ bad)) c.in_err-typed_parts.ensures.gives)

pub typed_line-returns-in_err-named-clause-gives : goal.typed_line-returns-in_err-named-clause-gives
typed_line-returns-in_err-named-clause-gives t c =
    let p = err_from_is_err_and c.from_residual-in_err-named.result c.from_residual-in_err-named.ensures.1 in
    let e = c.in_err-named.field-0.0 in
    let x = c.args.member.now in
    let r = c.args.region in
    let parts = parts_of x.specifiers.items in
    let ds = fulls_of x.declarators.items in
    let f = view_typed c.args.fields.now.items c.args.names.now c.args.scope.now in
    let start : Bool → Parted → List Specifier → Result Parted Fault = λ b q xs. typed_parts r b q (parts_of xs) in
    let alone : c.is_empty-alone.result ≡ is_none ds = c.is_empty-alone.ensures ∙ none_declared x.declarators in
    let first = view_parted c.new-specified.result c.args.names.now c.args.scope.now in
    let same : start c.is_empty-alone.result first c.deref.result.now ≡ typed_parts r (is_none ds) (said_before f) parts =
    ap (λ (b : Bool). start b first c.deref.result.now) alone
    ∙ ap (λ (w : Said). start (is_none ds) (record { specified = w; names = c.args.names.now; scope = c.args.scope.now }) c.deref.result.now) c.new-specified.ensures
    ∙ ap (start (is_none ds) (said_before f)) c.deref.ensures.value in
    let q = view_parted c.typed_parts.new.specified c.typed_parts.new.names c.typed_parts.new.scope in
    let e1 = sym same ∙ c.in_ok-typed_parts.ensures.gives in
    let line : c.parts_line.result ≡ parts_line parts = c.parts_line.ensures ∙ ap (λ (xs : List Specifier). parts_line (parts_of xs)) c.deref-2.ensures.value in
    let whole = typed_members r f (members parts ds no_member) in
    gives_err _ _ p.0 e whole p.1 p.2
    (fails_on e (on_line c.parts_line.result (specified_type q.specified)) whole (λ g bad. line_type_fails r f parts ds q g e1 (ap (λ (n : ℕ). on_line n (specified_type q.specified)) (sym line) ∙ bad)) c.in_err-named.ensures)

pub typed_line-returns-clause-gives : goal.typed_line-returns-clause-gives
typed_line-returns-clause-gives t c =
    let x = c.args.member.now in
    let r = c.args.region in
    let parts = parts_of x.specifiers.items in
    let ds = fulls_of x.declarators.items in
    let f = view_typed c.args.fields.now.items c.args.names.now c.args.scope.now in
    let start : Bool → Parted → List Specifier → Result Parted Fault = λ b q xs. typed_parts r b q (parts_of xs) in
    let alone : c.is_empty-alone.result ≡ is_none ds = c.is_empty-alone.ensures ∙ none_declared x.declarators in
    let first = view_parted c.new-specified.result c.args.names.now c.args.scope.now in
    let same : start c.is_empty-alone.result first c.deref.result.now ≡ typed_parts r (is_none ds) (said_before f) parts =
    ap (λ (b : Bool). start b first c.deref.result.now) alone
    ∙ ap (λ (w : Said). start (is_none ds) (record { specified = w; names = c.args.names.now; scope = c.args.scope.now }) c.deref.result.now) c.new-specified.ensures
    ∙ ap (start (is_none ds) (said_before f)) c.deref.ensures.value in
    let q = view_parted c.typed_parts.new.specified c.typed_parts.new.names c.typed_parts.new.scope in
    let e1 = sym same ∙ c.in_ok-typed_parts.ensures.gives in
    let line : c.parts_line.result ≡ parts_line parts = c.parts_line.ensures ∙ ap (λ (xs : List Specifier). parts_line (parts_of xs)) c.deref-2.ensures.value in
    let n = view_named c.in_ok-named.named in
    let e2 = ap (λ (m : ℕ). on_line m (specified_type q.specified)) (sym line) ∙ c.in_ok-named.ensures in
    let plain : Fields = record { fields = f.fields; names = q.names; scope = q.scope } in
    let untagged = has_untagged parts in
    let fields : view_typed c.if-alone.fields.items q.names q.scope ≡ fields_behind f parts ds q n =
    elim c.if-alone.branch [
      | typed_line-then-alone+then-has_untagged+in_ok-copied+in_ok-add_field w ↦
          let here : w.has_untagged.result ≡ untagged = w.has_untagged.ensures ∙ ap (λ (xs : List Specifier). has_untagged (parts_of xs)) w.deref-then-alone.ensures.value in
          ap (λ (v : Vec CodeField Global). view_typed v.items q.names q.scope) w.fields-is
          ∙ ap (λ (fs : List Field). record { fields = fs; names = q.names; scope = q.scope }) w.in_ok-add_field.ensures
          ∙ ap (λ (u : CType). with_field plain None (record { type = u; constant = n.constant })) w.in_ok-copied.ensures
          ∙ sym (with_it (is_none ds && untagged) n plain (and _ _ (sym alone ∙ w.if-alone.true) (sym here ∙ w.if-has_untagged.true)))
      | typed_line-else-alone w ↦
          ap (λ (v : Vec CodeField Global). view_typed v.items q.names q.scope) w.fields-is
          ∙ sym (without_it (is_none ds && untagged) n plain (elim w.else-alone.branch [
            | typed_line-else-alone-via-then-alone+else-has_untagged w' ↦
                let here : w'.has_untagged.result ≡ untagged = w'.has_untagged.ensures ∙ ap (λ (xs : List Specifier). has_untagged (parts_of xs)) w'.deref-then-alone.ensures.value in
                ap₂ (λ (a b : Bool). a && b) (sym alone ∙ w'.if-alone.true) (sym here ∙ w'.if-has_untagged.false)
            | typed_line-else-alone-via-else-alone w' ↦ ap (λ (a : Bool). a && untagged) (sym alone ∙ w'.if-alone.false)
          ]))
    ] in
    let whole = typed_members r f (members parts ds no_member) in
    let is : typed_fields r n (view_typed c.if-alone.fields.items q.names q.scope) (fulls_of c.deref-3.result.now) ≡ whole =
    ap₂ (λ (g : Fields) (xs : List FullDeclarator). typed_fields r n g (fulls_of xs)) fields c.deref-3.ensures.value ∙ sym (line_is r f parts ds q n e1 e2) in
    subst (λ (y : Result Fields Fault). Gives (λ u. view_typed c.typed_fields.new.fields.items c.typed_fields.new.names c.typed_fields.new.scope) c.typed_fields.result y) is c.typed_fields.ensures.gives
