use Rattle.std.proofs.Common.{◌≡◌, ℕ, List, [], false, Ok, refl, sym, subst, ap, ◌∙◌}
use Rattle.std.proofs.lemmas.Result.{err_from_is_err_and}
use Rattle.c_tree.specs.Statements.{Statement, block, view_statement as tree}
use Rattle.c_tree.specs.Statements.{items_of as trees}
use Rattle.c_tree.specs.Files.{is_block}
use Rattle.core_tree.specs.Trees.{view_statement, items_of}
use Rattle.core_tree.specs.Trees as cores
use Rattle.c_scope.specs.Faults.{◌>>=◌, Gives}
use Rattle.c_scope.specs.Scopes.{Scoped}
use Rattle.c_elab_type.specs.Declarators.{Typed}
use Rattle.c_elab_flow.specs.Jumps.{labels_in}
use Rattle.c_elab_decl.specs.Statements.{TypedStatement, typed_items}
use Rattle.c_elab_decl.specs.Files.{typed_body_of}
use Rattle.c_elab_base.proofs.Steps.{fails_on, gives_err}
use Rattle.c_elab_decl.proofs.StatementFronts.{block_as}
use Rattle.c_elab_decl.proofs.external_definitions.typed_body.Goals as goal

pub returns-in_ok-items-in-Some-clause-gives : goal.returns-in_ok-items-in-Some-clause-gives
returns-in_ok-items-in-Some-clause-gives c =
    let s = c.args.scope.now in
    let items = trees c.in-Some.items.now in
    let here = block_as c.args.body.now c.in-Some.items.now c.in-Some.ensures in
    let v = c.in_ok-items-in-Some.items in
    let run : List (List ℕ) → Typed = λ ls. typed_items (record { labels = ls; breaks = false; continues = false }) false c.args.outer [] s items in
    let labels = c.requires.labels ∙ ap labels_in here in
    let given : run (labels_in (block c.in-Some.ensures.line items)) ≡ Ok (items_of v.items, c.typed_items.new.scope) = sym (ap run labels) ∙ c.in_ok-items-in-Some.ensures.gives in
    let u = c.typed_items.new.scope in
    subst (λ (r : TypedStatement). Gives (λ k. (view_statement k.value, u)) c.block_of.result r)
    (sym (ap (typed_body_of c.args.outer s) here ∙ ap (λ (r : Typed). r >>= λ x. Ok (cores.block x.0, x.1)) given)) (c.block_of.ensures u)

pub returns-in_err-items-in-Some-clause-gives : goal.returns-in_err-items-in-Some-clause-gives
returns-in_err-items-in-Some-clause-gives c =
    let p = err_from_is_err_and c.from_residual.result c.from_residual.ensures.1 in
    let e = c.in_err-items-in-Some.field-0.0 in
    let s = c.args.scope.now in
    let items = trees c.in-Some.items.now in
    let here = block_as c.args.body.now c.in-Some.items.now c.in-Some.ensures in
    let run : List (List ℕ) → Typed = λ ls. typed_items (record { labels = ls; breaks = false; continues = false }) false c.args.outer [] s items in
    let labels = c.requires.labels ∙ ap labels_in here in
    let whole = typed_body_of c.args.outer s (tree c.args.body.now) in
    gives_err _ _ p.0 e whole p.1 p.2
    (fails_on e (run c.args.labels.now) whole
    (λ f bad. ap (typed_body_of c.args.outer s) here ∙ ap (λ (r : Typed). r >>= λ x. Ok (cores.block x.0, x.1)) (sym (ap run labels) ∙ bad))
    c.in_err-items-in-Some.ensures.gives)

-- a body that is no block
no_block : (outer : ℕ) (s : Scoped) (x : Statement) → is_block x ≡ false → typed_body_of outer s x ≡ Ok (cores.block cores.done, s)
no_block outer s (block line is) e = let none : ⊥ = cc in absurd none
no_block outer s _ e = refl

pub returns-in-None-clause-gives : goal.returns-in-None-clause-gives
returns-in-None-clause-gives c =
    let s = c.args.scope.now in
    subst (λ (r : TypedStatement). Gives (λ k. (view_statement k.value, s)) c.block_of-in-None.result r)
    (sym (no_block c.args.outer s (tree c.args.body.now) c.in-None.ensures ∙ ap (λ (is : cores.Items). Ok (cores.block is, s)) (sym (ap items_of c.new.ensures.items)))) (c.block_of-in-None.ensures s)
