use Rattle.std.proofs.Common.{◌≡◌, ◌≤◌, ◌+◌, ℕ, List, length, drop, Ok, sym, ap, subst, ◌∙◌, arith}
use Rattle.std.proofs.lemmas.Result.{err_from_is_err_and}
use Rattle.std.proofs.lemmas.List.{append-nil, drop_all}
use Rattle.c_tree.specs.declared.statement.External.{External}
use Rattle.c_tree.specs.Statements.{externals_of}
use Rattle.c_scope.specs.Scopes.{Scoped}
use Rattle.c_scope.specs.Faults.{Fails}
use Rattle.c_elab_flow.specs.Files.{Definition}
use Rattle.c_elab_decl.specs.Files.{typed_externals}
use Rattle.c_elab_flow.specs.Held.{view_definitions}
use Rattle.c_elab_decl.specs.DefinitionSteps.{TypedDefinitions, definitions_first}
use Rattle.c_elab_base.proofs.Steps.{fails_on, gives_err}
use Rattle.c_elab_decl.proofs.StatementFronts.{externals_at}
use Rattle.c_elab_decl.proofs.external_definitions.typed_externals.Goals as goal

pub returns-in_err-elaborate_one : goal.returns-in_err-elaborate_one
returns-in_err-elaborate_one c =
    let p = err_from_is_err_and c.from_residual.result c.from_residual.ensures.1 in
    let is = c.args.externals.now in
    let s = c.loop-external.scope in
    let i = c.loop-external.external-index in
    let d = c.external-item.result in
    let e = c.in_err-elaborate_one.field-0.0 in
    let before = view_definitions c.loop-external.definitions.items in
    let tail = typed_externals s (externals_of (drop i is)) in
    let whole = typed_externals c.args.scope.now (externals_of is) in
    let bad : Fails e tail =
    subst (λ (r : TypedDefinitions). Fails e r) (sym (externals_at s is i d (omega arith) c.external-item.is)) (c.in_err-elaborate_one.ensures.step (externals_of (drop (i + 1) is))) in
    gives_err _ _ p.0 e whole p.1 p.2 (fails_on e tail whole (λ f is_bad. sym c.loop-external.invariant.step ∙ ap (definitions_first before) is_bad) bad)

-- at the end the definitions are those of the file
at_end : (s : Scoped) (is : List External) (i : ℕ) (xs : List Definition) (whole : TypedDefinitions) → length is ≤ i
    → definitions_first xs (typed_externals s (externals_of (drop i is))) ≡ whole → whole ≡ Ok (xs, s)
at_end s is i xs whole h e =
    sym e ∙ ap (λ (ds : List External). definitions_first xs (typed_externals s (externals_of ds))) (drop_all i is h) ∙ ap (λ (ys : List Definition). Ok (ys, s)) (append-nil xs)

pub returns : goal.returns
returns c =
    at_end c.loop-external.scope c.args.externals.now c.loop-external.external-index (view_definitions c.loop-external.definitions.items) (typed_externals c.args.scope.now (externals_of c.args.externals.now)) (omega arith) c.loop-external.invariant.step
