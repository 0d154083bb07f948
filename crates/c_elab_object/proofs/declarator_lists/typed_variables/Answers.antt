use Rattle.std.proofs.Common.{◌≡◌, ◌≤◌, ◌+◌, List, [], refl, length, drop, option_map, sym, ap, subst, ◌∙◌, arith}
use Rattle.std.proofs.lemmas.Result.{err_from_is_err_and}
use Rattle.std.proofs.lemmas.List.{drop_all}
use Rattle.c_tree.specs.declared.declaration.InitDeclarator.{InitDeclarator}
use Rattle.c_tree.specs.Declarations.{view_full, declarators_of, view_initializer}
use Rattle.c_scope.specs.Scopes.{Environment, view_named}
use Rattle.c_elab_base.specs.declared.derivations.Derived.{Derived as CodeDerived}
use Rattle.c_elab_base.specs.Derivations.{view_deriveds, view_derivation, derivation}
use Rattle.c_scope.specs.Faults.{Fails}
use Rattle.c_tree.specs.Declarations.{Declarators}
use Rattle.c_elab_type.specs.Declarators.{Typed}
use Rattle.c_elab_type.specs.Specifiers.{typed_full}
use Rattle.c_elab_type.specs.Steps.{items_first}
use Rattle.c_elab_object.specs.DeclaratorLists.{typed_variables}
use Rattle.c_elab_type.proofs.Fronts.{behind_fails, fault_step, memory_step}
use Rattle.c_elab_base.proofs.Lists.{declarators_at}
use Rattle.c_elab_base.proofs.Steps.{fails_on}
use Rattle.c_elab_object.proofs.Listing.{variables_more, variables_full_fail}
use Rattle.c_elab_object.proofs.declarator_lists.typed_variables.Goals as goal

pub loop-declared-init : goal.loop-declared-init
loop-declared-init c = record { step = λ behind. refl; within = c.requires }

pub variable_by-requires : goal.variable_by-requires
variable_by-requires c = subst (λ (env : Environment). c.args.region.outer ≤ length env) (sym c.in_ok-suffixes.ensures.names) c.loop-declared.invariant.within

pub returns-in_err-suffixes-clause-step : goal.returns-in_err-suffixes-clause-step
returns-in_err-suffixes-clause-step c = λ behind.
    let p = err_from_is_err_and c.from_residual.result c.from_residual.ensures.1 in
    let r = c.args.region in
    let b = view_named c.args.base.now in
    let ds = c.args.declarators.now in
    let s = c.loop-declared.scope in
    let i = c.loop-declared.declared-index in
    let d = c.declared-item.result in
    let rest = declarators_of (drop (i + 1) ds) in
    let e = c.in_err-suffixes.field-0.0 in
    let whole = typed_variables r c.args.scope.now b c.args.passed (declarators_of ds) behind in
    let tail = typed_variables r s b c.args.passed (declarators_of (drop i ds)) behind in
    let here = ap (λ (xs : Declarators). typed_variables r s b c.args.passed xs behind) (declarators_at ds i d (omega arith) c.declared-item.is) in
    let bad : Fails e tail =
    fails_on e (typed_full s (view_full d.declarator)) tail (λ f is. here ∙ variables_full_fail r s b (view_full d.declarator) (option_map view_initializer d.initializer) c.args.passed rest behind f is) c.in_err-suffixes.ensures.gives in
    fault_step c.from_residual.result p.0 e c.args.items.now.items c.loop-declared.items.items whole (behind c.typed_full.new.scope) p.1 p.2
    (behind_fails c.args.items.now.items c.loop-declared.items.items whole tail e (sym (c.loop-declared.invariant.step behind)) bad)

pub returns-in_err-derived-clause-step : goal.returns-in_err-derived-clause-step
returns-in_err-derived-clause-step c = λ behind.
    let p = err_from_is_err_and c.from_residual-in_err-derived.result c.from_residual-in_err-derived.ensures.1 in
    memory_step c.from_residual-in_err-derived.result p.0 c.args.items.now.items c.loop-declared.items.items
    (typed_variables c.args.region c.args.scope.now (view_named c.args.base.now) c.args.passed (declarators_of c.args.declarators.now) behind) (behind c.typed_full.new.scope) p.1 p.2

pub returns-in_err-variable_by-clause-step : goal.returns-in_err-variable_by-clause-step
returns-in_err-variable_by-clause-step c = λ behind.
    let p = err_from_is_err_and c.from_residual-in_err-variable_by.result c.from_residual-in_err-variable_by.ensures.1 in
    let r = c.args.region in
    let b = view_named c.args.base.now in
    let ds = c.args.declarators.now in
    let s = c.loop-declared.scope in
    let t = c.typed_full.new.scope in
    let i = c.loop-declared.declared-index in
    let d = c.declared-item.result in
    let o = option_map view_initializer d.initializer in
    let x = view_derivation c.in_ok-derived.derived in
    let suffixes = c.in_ok-suffixes.suffixes.items in
    let rest = declarators_of (drop (i + 1) ds) in
    let e = c.in_err-variable_by.field-0.0 in
    let is = c.in_ok-derived.ensures ∙ ap (λ (xs : List CodeDerived). derivation t.functions t.records.done b (view_deriveds xs)) c.deref.ensures.value in
    let whole = typed_variables r c.args.scope.now b c.args.passed (declarators_of ds) behind in
    let tail = typed_variables r s b c.args.passed (declarators_of (drop i ds)) behind in
    let here = ap (λ (xs : Declarators). typed_variables r s b c.args.passed xs behind) (declarators_at ds i d (omega arith) c.declared-item.is)
    ∙ variables_more r s t b (view_full d.declarator) o c.args.passed rest behind (view_deriveds suffixes) x c.in_ok-suffixes.ensures.gives is in
    let bad : Fails e tail = subst (λ (y : Typed). Fails e y) (sym here) (c.in_err-variable_by.ensures.step (λ u. typed_variables r u b c.args.passed rest behind)) in
    fault_step c.from_residual-in_err-variable_by.result p.0 e c.args.items.now.items c.variable_by.new.items.items whole (behind c.variable_by.new.scope) p.1 p.2
    (behind_fails c.args.items.now.items c.loop-declared.items.items whole tail e (sym (c.loop-declared.invariant.step behind)) bad)

pub loop-declared-preserved : goal.loop-declared-preserved
loop-declared-preserved c =
    let r = c.args.region in
    let b = view_named c.args.base.now in
    let ds = c.args.declarators.now in
    let s = c.loop-declared.scope in
    let t = c.typed_full.new.scope in
    let i = c.loop-declared.declared-index in
    let d = c.declared-item.result in
    let o = option_map view_initializer d.initializer in
    let x = view_derivation c.in_ok-derived.derived in
    let suffixes = c.in_ok-suffixes.suffixes.items in
    let rest = declarators_of (drop (i + 1) ds) in
    let is = c.in_ok-derived.ensures ∙ ap (λ (xs : List CodeDerived). derivation t.functions t.records.done b (view_deriveds xs)) c.deref.ensures.value in
    record {
      step = λ behind. c.loop-declared.invariant.step behind
          ∙ ap (items_first c.loop-declared.items.items) (ap (λ (xs : Declarators). typed_variables r s b c.args.passed xs behind) (declarators_at ds i d (omega arith) c.declared-item.is)
          ∙ variables_more r s t b (view_full d.declarator) o c.args.passed rest behind (view_deriveds suffixes) x c.in_ok-suffixes.ensures.gives is)
          ∙ c.in_ok-variable_by.ensures.step (λ u. typed_variables r u b c.args.passed rest behind);
      within = c.in_ok-variable_by.ensures.within;
    }

pub returns-clause-step : goal.returns-clause-step
returns-clause-step c = λ behind.
    let none : drop c.loop-declared.declared-index c.args.declarators.now ≡ [] = drop_all c.loop-declared.declared-index c.args.declarators.now (omega arith) in
    c.loop-declared.invariant.step behind
    ∙ ap (λ (xs : List InitDeclarator). items_first c.loop-declared.items.items (typed_variables c.args.region c.loop-declared.scope (view_named c.args.base.now) c.args.passed (declarators_of xs) behind)) none

pub returns-clause-within : goal.returns-clause-within
returns-clause-within c = c.loop-declared.invariant.within
