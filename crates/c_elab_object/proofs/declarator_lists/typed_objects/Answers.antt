use Rattle.std.proofs.Common.{◌≤◌, ◌+◌, List, length, drop, option_map, sym, ap, subst, ◌∙◌, arith}
use Rattle.std.proofs.lemmas.Result.{err_from_is_err_and}
use Rattle.std.proofs.lemmas.List.{drop_all}
use Rattle.c_tree.specs.declared.declaration.InitDeclarator.{InitDeclarator}
use Rattle.c_tree.specs.Declarations.{view_full, declarators_of, view_initializer}
use Rattle.c_scope.specs.Scopes.{Environment, view_named}
use Rattle.c_elab_base.specs.declared.derivations.Derived.{Derived as CodeDerived}
use Rattle.c_elab_base.specs.Derivations.{view_deriveds, view_derivation, derivation}
use Rattle.c_elab_type.specs.Specifiers.{typed_full}
use Rattle.c_elab_object.specs.DeclaratorLists.{object_by, typed_objects}
use Rattle.c_elab_base.proofs.Lists.{declarators_at}
use Rattle.c_elab_base.proofs.Steps.{fails_on, gives_err}
use Rattle.c_elab_object.proofs.Listing.{objects_more, objects_full_fail, objects_by_fail}
use Rattle.c_elab_object.proofs.declarator_lists.typed_objects.Goals as goal

pub object_by-requires : goal.object_by-requires
object_by-requires c = subst (λ (env : Environment). c.args.region.outer ≤ length env) (sym c.in_ok-suffixes.ensures.names) c.loop-declared.invariant.within

pub returns-in_err-suffixes-clause-gives : goal.returns-in_err-suffixes-clause-gives
returns-in_err-suffixes-clause-gives c =
    let p = err_from_is_err_and c.from_residual.result c.from_residual.ensures.1 in
    let r = c.args.region in
    let b = view_named c.args.base.now in
    let s = c.loop-declared.scope in
    let ds = c.args.declarators.now in
    let i = c.loop-declared.declared-index in
    let d = c.declared-item.result in
    let e = c.in_err-suffixes.field-0.0 in
    let whole = typed_objects r c.args.is_extern c.args.scope.now b (declarators_of ds) in
    let rest = declarators_of (drop (i + 1) ds) in
    gives_err _ _ p.0 e whole p.1 p.2
    (fails_on e (typed_full s (view_full d.declarator)) whole
    (λ f bad. sym c.loop-declared.invariant.gives ∙ ap (typed_objects r c.args.is_extern s b) (declarators_at ds i d (omega arith) c.declared-item.is)
    ∙ objects_full_fail r c.args.is_extern s b (view_full d.declarator) (option_map view_initializer d.initializer) rest f bad)
    c.in_err-suffixes.ensures.gives)

pub returns-in_err-object_by-clause-gives : goal.returns-in_err-object_by-clause-gives
returns-in_err-object_by-clause-gives c =
    let p = err_from_is_err_and c.from_residual-in_err-object_by.result c.from_residual-in_err-object_by.ensures.1 in
    let r = c.args.region in
    let b = view_named c.args.base.now in
    let s = c.loop-declared.scope in
    let t = c.typed_full.new.scope in
    let ds = c.args.declarators.now in
    let i = c.loop-declared.declared-index in
    let d = c.declared-item.result in
    let o = option_map view_initializer d.initializer in
    let x = view_derivation c.in_ok-derived.derived in
    let suffixes = c.in_ok-suffixes.suffixes.items in
    let e = c.in_err-object_by.field-0.0 in
    let whole = typed_objects r c.args.is_extern c.args.scope.now b (declarators_of ds) in
    let rest = declarators_of (drop (i + 1) ds) in
    let is = c.in_ok-derived.ensures ∙ ap (λ (xs : List CodeDerived). derivation t.functions t.records.done b (view_deriveds xs)) c.deref.ensures.value in
    gives_err _ _ p.0 e whole p.1 p.2
    (fails_on e (object_by r c.args.is_extern t b (view_full d.declarator) o x) whole
    (λ f bad. sym c.loop-declared.invariant.gives ∙ ap (typed_objects r c.args.is_extern s b) (declarators_at ds i d (omega arith) c.declared-item.is)
    ∙ objects_by_fail r c.args.is_extern s t b (view_full d.declarator) o rest (view_deriveds suffixes) x f c.in_ok-suffixes.ensures.gives is bad)
    c.in_err-object_by.ensures.gives)

pub loop-declared-preserved : goal.loop-declared-preserved
loop-declared-preserved c =
    let r = c.args.region in
    let b = view_named c.args.base.now in
    let s = c.loop-declared.scope in
    let t = c.typed_full.new.scope in
    let u = c.object_by.new.scope in
    let ds = c.args.declarators.now in
    let i = c.loop-declared.declared-index in
    let d = c.declared-item.result in
    let x = view_derivation c.in_ok-derived.derived in
    let suffixes = c.in_ok-suffixes.suffixes.items in
    let rest = declarators_of (drop (i + 1) ds) in
    let is = c.in_ok-derived.ensures ∙ ap (λ (xs : List CodeDerived). derivation t.functions t.records.done b (view_deriveds xs)) c.deref.ensures.value in
    record {
      gives = sym (ap (typed_objects r c.args.is_extern s b) (declarators_at ds i d (omega arith) c.declared-item.is)
          ∙ objects_more r c.args.is_extern s t u b (view_full d.declarator) (option_map view_initializer d.initializer) rest (view_deriveds suffixes) x c.in_ok-suffixes.ensures.gives is c.in_ok-object_by.ensures.gives)
          ∙ c.loop-declared.invariant.gives;
      within = c.in_ok-object_by.ensures.within;
    }

pub returns-clause-gives : goal.returns-clause-gives
returns-clause-gives c =
    let b = view_named c.args.base.now in
    sym c.loop-declared.invariant.gives
    ∙ ap (λ (xs : List InitDeclarator). typed_objects c.args.region c.args.is_extern c.loop-declared.scope b (declarators_of xs)) (drop_all c.loop-declared.declared-index c.args.declarators.now (omega arith))
