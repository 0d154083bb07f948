use Rattle.std.proofs.Common.{◌≡◌, ◌+◌, ℕ, List, Result, Ok, length, drop, sym, ap, subst, ◌∙◌, arith}
use Rattle.std.proofs.lemmas.Result.{err_from_is_err_and}
use Rattle.std.proofs.lemmas.List.{append-nil, drop_all}
use Rattle.c_tree.specs.declared.declaration.Initializer.{Initializer}
use Rattle.c_tree.specs.Declarations.{initials_of, view_initializer, initial_depth, initials_depth}
use Rattle.c_tree.proofs.DeclarationViews.{view_braces}
use Rattle.c_tree.proofs.Deepest.{deepest_within, of_initializer, initials_deepest}
use Rattle.c_types.specs.Types.{Records, view as type_view}
use Rattle.c_scope.specs.Faults.{◌>>=◌, Fault, Gives}
use Rattle.c_elab_type.specs.declared.items.Made.{Made as CodeMade}
use Rattle.c_elab_base.specs.Slots.{slot, slot_type}
use Rattle.c_elab_type.specs.Initializers.{Made, view_made, braced, typed_initial, typed_initials}
use Rattle.c_elab_base.proofs.Lists.{initials_at}
use Rattle.c_elab_base.proofs.Steps.{fails_on, gives_err}
use Rattle.c_elab_type.proofs.Values.{views, items_first, none_first, item_more, item_fails, one_longer}
use Rattle.c_elab_type.proofs.initializers.+initializers.Goals as goal

pub typed_initial-returns-in_err-items-in-List : goal.typed_initial-returns-in_err-items-in-List
typed_initial-returns-in_err-items-in-List t c =
    let p = err_from_is_err_and c.from_residual.result c.from_residual.ensures.1 in
    let object_entry = c.args.object_entry in
    let s = c.args.scope.now in
    let u = type_view c.args.type_.now in
    let line = c.in-List.line in
    let e = c.in_err-items-in-List.field-0.0 in
    let whole = typed_initial object_entry s u (view_initializer c.args.initializer.now) in
    let shape = ap (λ (i : Initializer). typed_initial object_entry s u (view_initializer i)) c.in-List.is ∙ ap (typed_initial object_entry s u) (view_braces line c.in-List.items)
    ∙ ap (λ (is : List Initializer). typed_initials object_entry s u 0 (initials_of is) >>= λ xs. braced object_entry line s.records u xs) (sym c.deref-in-List.ensures.value) in
    gives_err _ _ p.0 e whole p.1 p.2
    (fails_on e (typed_initials object_entry s u 0 (initials_of c.deref-in-List.result.now)) whole (λ f bad. shape ∙ ap (λ (r : Result (List Made) Fault). r >>= λ xs. braced object_entry line s.records u xs) bad)
    c.in_err-items-in-List.ensures)

pub typed_initial-returns-in_ok-items-in-List : goal.typed_initial-returns-in_ok-items-in-List
typed_initial-returns-in_ok-items-in-List t c =
    let object_entry = c.args.object_entry in
    let s = c.args.scope.now in
    let u = type_view c.args.type_.now in
    let line = c.in-List.line in
    let whole = typed_initial object_entry s u (view_initializer c.args.initializer.now) in
    let shape : whole ≡ braced object_entry line c.layouts.result.now u (views c.in_ok-items-in-List.items.items) =
    ap (λ (i : Initializer). typed_initial object_entry s u (view_initializer i)) c.in-List.is ∙ ap (typed_initial object_entry s u) (view_braces line c.in-List.items)
    ∙ ap (λ (is : List Initializer). typed_initials object_entry s u 0 (initials_of is) >>= λ xs. braced object_entry line s.records u xs) (sym c.deref-in-List.ensures.value)
    ∙ ap (λ (r : Result (List Made) Fault). r >>= λ xs. braced object_entry line s.records u xs) c.in_ok-items-in-List.ensures
    ∙ ap (λ (rs : Records). braced object_entry line rs u (views c.in_ok-items-in-List.items.items)) (sym c.layouts.ensures) in
    subst (λ (r : Result Made Fault). Gives view_made c.braced.result r) (sym shape) c.braced.ensures

pub typed_initials-loop-initializer-init : goal.typed_initials-loop-initializer-init
typed_initials-loop-initializer-init t c =
    let object_entry = c.args.object_entry in
    let s = c.args.scope.now in
    let u = type_view c.args.type_.now in
    let is = initials_of c.args.initializers.now in
    ap (λ (xs : List CodeMade). items_first (views xs) (typed_initials object_entry s u (length xs) is)) c.new-items.ensures.items ∙ none_first (typed_initials object_entry s u 0 is)

pub typed_initials-returns-in_err-item : goal.typed_initials-returns-in_err-item
typed_initials-returns-in_err-item t c =
    let p = err_from_is_err_and c.from_residual.result c.from_residual.ensures.1 in
    let object_entry = c.args.object_entry in
    let s = c.args.scope.now in
    let u = type_view c.args.type_.now in
    let is = c.args.initializers.now in
    let k = c.loop-initializer.initializer-index in
    let i = c.initializer-item.result in
    let e = c.in_err-item.field-0.0 in
    let xs = c.loop-initializer.items.items in
    let whole = typed_initials object_entry s u 0 (initials_of is) in
    gives_err _ _ p.0 e whole p.1 p.2
    (fails_on e (typed_initial object_entry s (slot_type (slot s.records u c.len.result)) (view_initializer i)) whole
    (λ f bad. sym c.loop-initializer.invariant ∙ ap (λ ys. items_first (views xs) (typed_initials object_entry s u (length xs) ys)) (initials_at is k i (omega arith) c.initializer-item.is)
    ∙ item_fails object_entry s u (view_initializer i) (initials_of (drop (k + 1) is)) (views xs) (length xs) f
    (ap (λ (n : ℕ). typed_initial object_entry s (slot_type (slot s.records u n)) (view_initializer i)) (sym c.loop-initializer.items.ok.0 ∙ sym c.len.ensures) ∙ bad))
    c.in_err-item.ensures)

pub typed_initials-loop-initializer-preserved : goal.typed_initials-loop-initializer-preserved
typed_initials-loop-initializer-preserved t c =
    let object_entry = c.args.object_entry in
    let s = c.args.scope.now in
    let u = type_view c.args.type_.now in
    let is = c.args.initializers.now in
    let k = c.loop-initializer.initializer-index in
    let i = c.initializer-item.result in
    let before = c.loop-initializer.items.items in
    let now = c.push.new.self.items in
    let rest = initials_of (drop (k + 1) is) in
    let x = c.in_ok-item.item in
    let made : typed_initial object_entry s (slot_type (slot s.records u (length before))) (view_initializer i) ≡ Ok (view_made x) =
    ap (λ (n : ℕ). typed_initial object_entry s (slot_type (slot s.records u n)) (view_initializer i)) (sym c.loop-initializer.items.ok.0 ∙ sym c.len.ensures) ∙ c.in_ok-item.ensures in
    ap (λ (n : ℕ). items_first (views now) (typed_initials object_entry s u n rest)) (one_longer before now x c.in_ok-push.ensures.items)
    ∙ sym (ap (λ ys. items_first (views before) (typed_initials object_entry s u (length before) ys)) (initials_at is k i (omega arith) c.initializer-item.is)
    ∙ item_more object_entry s u (view_initializer i) rest x (length before) before now made c.in_ok-push.ensures.items)
    ∙ c.loop-initializer.invariant

pub typed_initials-returns : goal.typed_initials-returns
typed_initials-returns t c =
    let object_entry = c.args.object_entry in
    let s = c.args.scope.now in
    let u = type_view c.args.type_.now in
    let xs = c.loop-initializer.items.items in
    let is = c.args.initializers.now in
    sym c.loop-initializer.invariant
    ∙ ap (λ (ys : List Initializer). items_first (views xs) (typed_initials object_entry s u (length xs) (initials_of ys))) (drop_all c.loop-initializer.initializer-index is (omega arith))
    ∙ ap Ok (append-nil (views xs))

-- ---- each call goes down

pub typed_initial-typed_initials-requires : goal.typed_initial-typed_initials-requires
typed_initial-typed_initials-requires t c =
    let e = ap (λ (i : Initializer). initial_depth (view_initializer i)) c.in-List.is ∙ ap initial_depth (view_braces c.in-List.line c.in-List.items) in
    let same = ap (λ (is : List Initializer). initials_depth (initials_of is)) c.deref-in-List.ensures.value in
    omega (arith, e, same)

pub typed_initials-typed_item-requires : goal.typed_initials-typed_item-requires
typed_initials-typed_item-requires t c =
    let below = deepest_within of_initializer c.args.initializers.now c.loop-initializer.initializer-index c.initializer-item.result (omega arith) in
    let all = initials_deepest c.args.initializers.now in
    let e = ap (λ (x : Initializer). of_initializer x) c.initializer-item.is in
    omega (arith, below, all, e)
