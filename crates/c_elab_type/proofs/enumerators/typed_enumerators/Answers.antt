use Rattle.std.proofs.Common.{◌+◌, ℕ, List, Some, None, Result, drop, map, sym, ap, ◌∙◌, arith}
use Rattle.std.proofs.lemmas.Result.{err_from_is_err_and}
use Rattle.std.proofs.lemmas.List.{drop_all}
use Rattle.c_tree.specs.declared.declaration.Enumerator.{Enumerator}
use Rattle.c_tree.specs.Declarations.{view_enumerator}
use Rattle.c_scope.specs.Scopes.{Scoped}
use Rattle.c_scope.specs.Faults.{◌>>=◌, Fault}
use Rattle.c_elab_type.specs.Enumerations.{typed_enumerator, typed_enumerators}
use Rattle.c_elab_base.proofs.Steps.{fails_on, gives_err, list_at}
use Rattle.c_elab_type.proofs.enumerators.typed_enumerators.Goals as goal

pub typed_enumerator-requires : goal.typed_enumerator-requires
typed_enumerator-requires c = c.loop-enumerator.invariant.within

pub returns-in_err-bits-clause-gives : goal.returns-in_err-bits-clause-gives
returns-in_err-bits-clause-gives c =
    let p = err_from_is_err_and c.from_residual.result c.from_residual.ensures.1 in
    let r = c.args.region in
    let s = c.loop-enumerator.scope in
    let es = c.args.enumerators.now in
    let i = c.loop-enumerator.enumerator-index in
    let x = c.enumerator-item.result in
    let e = c.in_err-bits.field-0.0 in
    let whole = typed_enumerators r c.args.scope.now None (map view_enumerator es) in
    let rest = map view_enumerator (drop (i + 1) es) in
    gives_err _ _ p.0 e whole p.1 p.2
    (fails_on e (typed_enumerator r s c.loop-enumerator.previous (view_enumerator x)) whole
    (λ f bad. sym c.loop-enumerator.invariant.gives
    ∙ ap (typed_enumerators r s c.loop-enumerator.previous) (list_at view_enumerator es i x (omega arith) c.enumerator-item.is)
    ∙ ap (λ (y : Result (ℕ × Scoped) Fault). y >>= λ z. typed_enumerators r z.1 (Some z.0) rest) bad)
    c.in_err-bits.ensures.gives)

pub loop-enumerator-preserved : goal.loop-enumerator-preserved
loop-enumerator-preserved c =
    let r = c.args.region in
    let s = c.loop-enumerator.scope in
    let es = c.args.enumerators.now in
    let i = c.loop-enumerator.enumerator-index in
    let x = c.enumerator-item.result in
    let rest = map view_enumerator (drop (i + 1) es) in
    record {
      gives = sym (ap (typed_enumerators r s c.loop-enumerator.previous) (list_at view_enumerator es i x (omega arith) c.enumerator-item.is)
          ∙ ap (λ (y : Result (ℕ × Scoped) Fault). y >>= λ z. typed_enumerators r z.1 (Some z.0) rest) c.in_ok-bits.ensures.gives)
          ∙ c.loop-enumerator.invariant.gives;
      within = c.in_ok-bits.ensures.within;
      same = c.in_ok-bits.ensures.same ∙ c.loop-enumerator.invariant.same;
    }

pub returns-clause-gives : goal.returns-clause-gives
returns-clause-gives c =
    let r = c.args.region in
    sym c.loop-enumerator.invariant.gives
    ∙ ap (λ (xs : List Enumerator). typed_enumerators r c.loop-enumerator.scope c.loop-enumerator.previous (map view_enumerator xs)) (drop_all c.loop-enumerator.enumerator-index c.args.enumerators.now (omega arith))
