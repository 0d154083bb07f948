use Rattle.std.proofs.Common.{◌≡◌, ◌≤◌, ◌+◌, ◌-◌, ◌++◌, ℕ, Bool, true, false, List, [], ◌∷◌, length, set, drop, Option, Some, None, Ok, option_map, refl, sym, ap, subst, ◌∙◌, arith}
use Rattle.std.proofs.lemmas.Result.{err_from_is_err_and}
use Rattle.std.proofs.lemmas.List.{drop_all}
use Rattle.c_types.specs.declared.integers.IntegerType.{IntegerType}
use Rattle.c_tree.specs.declared.declaration.Declaration.{Declaration}
use Rattle.c_tree.specs.declared.expr.Expr.{Expr}
use Rattle.c_tree.specs.declared.statement.Item.{Item}
use Rattle.c_tree.specs.declared.statement.Stmt.{Stmt}
use Rattle.c_tree.specs.Declarations.{parts_of, declarators_of}
use Rattle.c_tree.specs.Statements.{if_then, if_else, while_loop, do_loop, for_loop, for_declared, case_of, default_of, labelled, view_statement as tree}
use Rattle.c_tree.specs.Statements.{view_item, items_of as trees}
use Rattle.c_tree.specs.Tree.{view as tree_of, boxed as boxed_tree, view_name}
use Rattle.c_tree.proofs.StatementViews.{view_block as view_tree_block}
use Rattle.core_tree.specs.declared.statement.CoreItem.{CoreItem}
use Rattle.core_tree.specs.declared.statement.CoreItem as codes
use Rattle.core_tree.specs.declared.statement.CoreStatement.{CoreStatement}
use Rattle.core_tree.specs.Trees.{boxed, view_statement, items_of}
use Rattle.core_tree.specs.Trees as cores
use Rattle.c_operands.specs.Operands.{view_operand}
use Rattle.c_scope.specs.Scopes.{Cases, Environment, Scoped}
use Rattle.c_scope.specs.Faults.{Fails, Gives}
use Rattle.c_elab_expr.specs.Typing.{operand}
use Rattle.c_elab_type.specs.Declarators.{Typed}
use Rattle.c_elab_type.specs.Steps.{items_first, Step}
use Rattle.c_elab_object.specs.DeclaratorLists.{typed_declaration}
use Rattle.c_elab_flow.specs.Jumps.{jumps_in, is_passed}
use Rattle.c_elab_flow.specs.Lookahead.{jumped_behind}
use Rattle.c_elab_flow.specs.Nodes.{evaluated, returned, Around, view_around, in_loop, in_switch, with_switch, switch_type}
use Rattle.c_elab_decl.specs.Statements.{TypedStatement, TypedFront, in_block, switch_ended, as_block, as_items, typed_statement, typed_rest, typed_body, typed_front, typed_items}
use Rattle.c_elab_decl.specs.StatementSteps.{Fronts, alone}
use Rattle.c_elab_type.proofs.Fronts.{none_first, prepend_all, behind_fails, fault_step}
use Rattle.c_elab_base.proofs.Steps.{fails_bind, fails_along}
use Rattle.c_elab_decl.proofs.StatementFronts.{items_at, fronted, front_more, block_as, block_by, body_alone, items_names, names_left, fault_front, for_behind, declaration_names, for_typed, for_fails, switch_behind, switch_by_body}
use Rattle.c_elab_decl.proofs.Fronting.{alone_front, label_front_fails, label_front, place_within, case_value_fails, case_body_fails, case_front_fails, case_front, default_body_fails, default_front, front_not, front_else, own_by, switch_body_fails, switch_ends, front_as}
use Rattle.c_elab_decl.proofs.Chains.{whatever, statement_as, fails_at, if_behind, if_else_behind, while_test_fails, while_body_fails, while_behind, do_body_fails, do_test_fails, do_behind, for_first_fails, for_behind_first, case_behind, default_behind, label_body_fails, label_end_fails, label_typed, rest_body_fails, rest_behind}
use Rattle.c_elab_flow.proofs.Jumping.{looks_next, passes_at}
use Rattle.c_elab_decl.proofs.statements.+statement.Goals as goal

pub typed_item-returns-in-Declares-clause-step : goal.typed_item-returns-in-Declares-clause-step
typed_item-returns-in-Declares-clause-step t c = λ jumped rest h.
    let a = view_around c.args.around in
    let sw = c.args.switched in
    let outer = c.args.outer in
    let s = c.args.scope.now in
    let go : Scoped → Typed = λ u. typed_items a sw outer jumped u rest in
    let d = c.deref.result.now in
    let passed = c.is_passed-passed.ensures ∙ h in
    let whole : typed_declaration (in_block outer) s c.is_passed-passed.result (parts_of d.specifiers.items) (declarators_of d.declarators.items) go ≡ typed_items a sw outer jumped s (view_item c.args.item.now rest) =
    ap (λ b. typed_declaration (in_block outer) s b (parts_of d.specifiers.items) (declarators_of d.declarators.items) go) passed
    ∙ ap (λ (x : Declaration). typed_declaration (in_block outer) s (is_passed sw jumped rest) (parts_of x.specifiers.items) (declarators_of x.declarators.items) go) c.deref.ensures
    ∙ sym (ap (λ (x : Item). typed_items a sw outer jumped s (view_item x rest)) c.in-Declares.is) in
    let behind : go c.declare.new.scope ≡ typed_items a sw outer (jumped_behind jumped (view_item c.args.item.now rest)) c.declare.new.scope rest =
    sym (ap (λ (x : Item). typed_items a sw outer (jumped_behind jumped (view_item x rest)) c.declare.new.scope rest) c.in-Declares.is) in
    subst (λ (r : Typed). Step c.declare.result c.args.items.now.items c.declare.new.items.items (typed_items a sw outer jumped s (view_item c.args.item.now rest)) r) behind
    (subst (λ (r : Typed). Step c.declare.result c.args.items.now.items c.declare.new.items.items r (go c.declare.new.scope)) whole (c.declare.ensures.step go))

pub typed_item-returns-in_err-typed_front-in-Does-clause-step : goal.typed_item-returns-in_err-typed_front-in-Does-clause-step
typed_item-returns-in_err-typed_front-in-Does-clause-step t c = λ jumped rest h.
    let p = err_from_is_err_and c.from_residual.result c.from_residual.ensures.1 in
    let a = view_around c.args.around in
    let sw = c.args.switched in
    let outer = c.args.outer in
    let s = c.args.scope.now in
    let e = c.in_err-typed_front-in-Does.field-0.0 in
    let x = tree c.in-Does.statement.value in
    let whole = typed_items a sw outer jumped s (view_item c.args.item.now rest) in
    let front = typed_front a sw s x (typed_statement a s x) in
    let go : Scoped → Typed = λ u. typed_items a sw outer (jumped ++ jumps_in x) u rest in
    fault_step c.from_residual.result p.0 e c.args.items.now.items c.typed_front.new.items.items whole (typed_items a sw outer (jumped_behind jumped (view_item c.args.item.now rest)) c.typed_front.new.scope rest) p.1 p.2
    (fails_along e (fronted go front) whole (sym (ap (λ (y : Item). typed_items a sw outer jumped s (view_item y rest)) c.in-Does.is)) (fails_bind e front _ (fails_along e _ front (front_as a sw s c.deref-in-Does.result.now c.in-Does.statement.value c.deref-in-Does.ensures) c.in_err-typed_front-in-Does.ensures.front)))

pub typed_item-returns-in_ok-typed_front-in-Does-clause-step : goal.typed_item-returns-in_ok-typed_front-in-Does-clause-step
typed_item-returns-in_ok-typed_front-in-Does-clause-step t c = λ jumped rest h.
    let a = view_around c.args.around in
    let sw = c.args.switched in
    let outer = c.args.outer in
    let s = c.args.scope.now in
    let u = c.typed_front.new.scope in
    let x = tree c.in-Does.statement.value in
    let before = c.args.items.now.items in
    let now = c.typed_front.new.items.items in
    let front = typed_front a sw s x (typed_statement a s x) in
    let go : Scoped → Typed = λ y. typed_items a sw outer (jumped ++ jumps_in x) y rest in
    let f = c.in_ok-typed_front-in-Does.ensures.front in
    ap (λ (y : Item). items_first before (typed_items a sw outer jumped s (view_item y rest))) c.in-Does.is
    ∙ front_more before now front f.0 u go (sym (front_as a sw s c.deref-in-Does.result.now c.in-Does.statement.value c.deref-in-Does.ensures) ∙ f.1) f.2
    ∙ sym (ap (λ (y : Item). items_first now (typed_items a sw outer (jumped_behind jumped (view_item y rest)) u rest)) c.in-Does.is)

pub typed_items-loop-item-init : goal.typed_items-loop-item-init
typed_items-loop-item-init t c =
    let a = view_around c.args.around in
    let whole = typed_items a c.args.switched c.args.outer [] c.args.scope.now (trees c.args.items.now) in
    record {
      number = refl;
      jumps = ([], c.in_ok-ahead.ensures, ap (λ (is : List CoreItem). items_first is whole) c.new-cores.ensures.items ∙ none_first whole);
      within = c.requires;
    }

pub typed_items-loop-item-preserved : goal.typed_items-loop-item-preserved
typed_items-loop-item-preserved t c =
    let a = view_around c.args.around in
    let sw = c.args.switched in
    let outer = c.args.outer in
    let items = c.args.items.now in
    let s = c.loop-item.scope in
    let i = c.loop-item.item-index in
    let x = c.item-item.result in
    let j = c.loop-item.invariant.jumps in
    let rest = trees (drop (i + 1) items) in
    record {
      number = ap (λ k. k + 1) c.loop-item.invariant.number;
      jumps = (
        jumped_behind j.0 (view_item x rest),
        looks_next sw (trees items) j.0 c.loop-item.ahead c.typed_item.new.ahead x rest c.in_ok-typed_item.ensures.noted j.1,
        sym (c.in_ok-typed_item.ensures.step j.0 rest (passes_at sw items j.0 c.loop-item.ahead c.loop-item.number i c.loop-item.invariant.number j.1))
            ∙ sym (ap (items_first c.loop-item.cores.items) (items_at a sw outer j.0 s items i x (omega arith) c.item-item.is))
            ∙ j.2,
      );
      within = c.in_ok-typed_item.ensures.within;
    }

pub typed_items-returns-in_err-typed_item-clause-gives : goal.typed_items-returns-in_err-typed_item-clause-gives
typed_items-returns-in_err-typed_item-clause-gives t c =
    let p = err_from_is_err_and c.from_residual-in_err-typed_item.result c.from_residual-in_err-typed_item.ensures.1 in
    let a = view_around c.args.around in
    let sw = c.args.switched in
    let outer = c.args.outer in
    let items = c.args.items.now in
    let s = c.loop-item.scope in
    let i = c.loop-item.item-index in
    let x = c.item-item.result in
    let e = c.in_err-typed_item.field-0.0 in
    let j = c.loop-item.invariant.jumps in
    let rest = trees (drop (i + 1) items) in
    let whole = typed_items a sw outer [] c.args.scope.now (trees items) in
    let tail = typed_items a sw outer j.0 s (trees (drop i items)) in
    let bad : Fails e tail =
    subst (λ (r : Typed). Fails e r) (sym (items_at a sw outer j.0 s items i x (omega arith) c.item-item.is))
    (c.in_err-typed_item.ensures.step j.0 rest (passes_at sw items j.0 c.loop-item.ahead c.loop-item.number i c.loop-item.invariant.number j.1)) in
    rw (p.1, p.2) (behind_fails [] c.loop-item.cores.items whole tail e (j.2 ∙ sym (none_first whole)) bad)

pub typed_items-returns-clause-gives : goal.typed_items-returns-clause-gives
typed_items-returns-clause-gives t c =
    let a = view_around c.args.around in
    let s = c.loop-item.scope in
    let cores_now = c.loop-item.cores.items in
    let j = c.loop-item.invariant.jumps in
    let none : drop c.loop-item.item-index c.args.items.now ≡ [] = drop_all c.loop-item.item-index c.args.items.now (omega arith) in
    sym j.2 ∙ ap (λ (xs : List Item). items_first cores_now (typed_items a c.args.switched c.args.outer j.0 s (trees xs))) none
    ∙ ap (λ (is : cores.Items). Ok (is, s)) (prepend_all cores_now)

pub typed_statement-returns-in_err-items-in-Block-clause-gives : goal.typed_statement-returns-in_err-items-in-Block-clause-gives
typed_statement-returns-in_err-items-in-Block-clause-gives t c =
    let p = err_from_is_err_and c.from_residual.result c.from_residual.ensures.1 in
    let a = view_around c.args.around in
    let s = c.args.scope.now in
    let items = trees c.in-Block.items.items in
    let e = c.in_err-items-in-Block.field-0.0 in
    let shape = ap (typed_statement a s) (ap tree c.in-Block.is ∙ view_tree_block c.in-Block.line c.in-Block.items) in
    let given : typed_items a false c.len-outer.result [] s (trees c.deref.result.now) ≡ typed_items a false (length s.bindings) [] s items =
    ap (λ (k : ℕ). typed_items a false k [] s (trees c.deref.result.now)) c.len-outer.ensures ∙ ap (λ (is : List Item). typed_items a false (length s.bindings) [] s (trees is)) c.deref.ensures.value in
    rw (p.1, p.2) (fails_along e _ (typed_statement a s (tree c.args.statement.now)) (sym shape)
    (fails_bind e (typed_items a false (length s.bindings) [] s items) _ (fails_along e _ (typed_items a false (length s.bindings) [] s items) given c.in_err-items-in-Block.ensures.gives)))

pub typed_statement-returns-in_ok-items-in-Block-clause-gives : goal.typed_statement-returns-in_ok-items-in-Block-clause-gives
typed_statement-returns-in_ok-items-in-Block-clause-gives t c =
    let a = view_around c.args.around in
    let s = c.args.scope.now in
    let u = c.typed_items.new.scope in
    let v = c.in_ok-items-in-Block.items in
    let items = trees c.in-Block.items.items in
    let shape = ap (typed_statement a s) (ap tree c.in-Block.is ∙ view_tree_block c.in-Block.line c.in-Block.items) in
    let given : typed_items a false (length s.bindings) [] s items ≡ typed_items a false c.len-outer.result [] s (trees c.deref.result.now) =
    ap (λ (k : ℕ). typed_items a false k [] s items) (sym c.len-outer.ensures) ∙ ap (λ (is : List Item). typed_items a false c.len-outer.result [] s (trees is)) (sym c.deref.ensures.value) in
    let left : c.leave.new.self ≡ record u { bindings = drop (length u.bindings - length s.bindings) u.bindings } =
    c.leave.ensures ∙ ap (λ (k : ℕ). record u { bindings = drop (length u.bindings - k) u.bindings }) c.len-outer.ensures in
    let all = given ∙ c.in_ok-items-in-Block.ensures.gives in
    subst (λ (r : TypedStatement). Gives (λ k. (view_statement k.value, c.leave.new.self)) c.block_of.result r)
    (sym (shape ∙ block_by s u (typed_items a false (length s.bindings) [] s items) v all (items_names a false (length s.bindings) [] s u items (items_of v.items) all)
    ∙ ap (λ (x : Scoped). Ok (cores.block (items_of v.items), x)) (sym left))) (c.block_of.ensures c.leave.new.self)

pub typed_statement-returns-in_ok-items-in-Block-clause-names : goal.typed_statement-returns-in_ok-items-in-Block-clause-names
typed_statement-returns-in_ok-items-in-Block-clause-names t c =
    let a = view_around c.args.around in
    let s = c.args.scope.now in
    let u = c.typed_items.new.scope in
    let v = c.in_ok-items-in-Block.items in
    let items = trees c.in-Block.items.items in
    let given : typed_items a false (length s.bindings) [] s items ≡ typed_items a false c.len-outer.result [] s (trees c.deref.result.now) =
    ap (λ (k : ℕ). typed_items a false k [] s items) (sym c.len-outer.ensures) ∙ ap (λ (is : List Item). typed_items a false c.len-outer.result [] s (trees is)) (sym c.deref.ensures.value) in
    let left : c.leave.new.self ≡ record u { bindings = drop (length u.bindings - length s.bindings) u.bindings } =
    c.leave.ensures ∙ ap (λ (k : ℕ). record u { bindings = drop (length u.bindings - k) u.bindings }) c.len-outer.ensures in
    whatever c.block_of.result (c.leave.new.self.bindings ≡ s.bindings) (ap (λ (x : Scoped). x.bindings) left ∙ names_left s u (items_names a false (length s.bindings) [] s u items (items_of v.items) (given ∙ c.in_ok-items-in-Block.ensures.gives)))

pub typed_statement-returns-in-Empty-clause-gives : goal.typed_statement-returns-in-Empty-clause-gives
typed_statement-returns-in-Empty-clause-gives t c =
    let a = view_around c.args.around in
    let s = c.args.scope.now in
    let v = c.new.result in
    subst (λ (r : TypedStatement). Gives (λ k. (view_statement k.value, s)) c.block_of-in-Empty.result r)
    (sym (ap (typed_statement a s) (ap tree c.in-Empty.is) ∙ ap (λ (is : List CoreItem). Ok (cores.block (items_of is), s)) (sym c.new.ensures.items))) (c.block_of-in-Empty.ensures s)

-- ---- an expression, and a value that is returned

pub typed_statement-returns-in-Evaluate-clause-gives : goal.typed_statement-returns-in-Evaluate-clause-gives
typed_statement-returns-in-Evaluate-clause-gives t c =
    let a = view_around c.args.around in
    let s = c.args.scope.now in
    subst (λ (r : TypedStatement). Gives (λ k. (view_statement k.value, s)) c.evaluated.result r)
    (ap (λ (x : Expr). evaluated s (tree_of x) s) c.deref-in-Evaluate.ensures ∙ sym (ap (typed_statement a s) (ap tree c.in-Evaluate.is))) (c.evaluated.ensures s)

pub typed_statement-returns-in-ReturnValue-clause-gives : goal.typed_statement-returns-in-ReturnValue-clause-gives
typed_statement-returns-in-ReturnValue-clause-gives t c =
    let a = view_around c.args.around in
    let s = c.args.scope.now in
    subst (λ (r : TypedStatement). Gives (λ k. (view_statement k.value, s)) c.returned.result r)
    (ap (λ (x : Expr). returned c.in-ReturnValue.line s (tree_of x) s) c.deref-in-ReturnValue.ensures ∙ sym (ap (typed_statement a s) (ap tree c.in-ReturnValue.is))) (c.returned.ensures s)

-- ---- if

pub typed_statement-returns-in_ok-yes-in-If-clause-gives : goal.typed_statement-returns-in_ok-yes-in-If-clause-gives
typed_statement-returns-in_ok-yes-in-If-clause-gives t c =
    let a = view_around c.args.around in
    let s = c.args.scope.now in
    let u = c.typed_statement.new.scope in
    let test = tree_of c.deref-in-If.result.now in
    let one = tree c.in-If.yes.value in
    let at = ap tree c.in-If.is ∙ ap (λ (x : Expr). if_then c.in-If.line (tree_of x) one) (sym c.deref-in-If.ensures) in
    let x = view_operand c.in_ok-test-in-If.test in
    let same = statement_as a a s c.deref-in-If-2.result.now c.in-If.yes.value refl c.deref-in-If-2.ensures in
    let y : cores.Statement × Scoped = (view_statement c.in_ok-yes-in-If.yes.value, u) in
    subst (λ (r : TypedStatement). Gives (λ k. (view_statement k.value, u)) c.if_on.result r)
    (if_behind a s c.in-If.line test one x y c.in_ok-test-in-If.ensures.gives (sym same ∙ c.in_ok-yes-in-If.ensures.gives) ∙ sym (ap (typed_statement a s) at)) (c.if_on.ensures u)

pub typed_statement-returns-in_ok-no-in-IfElse-clause-gives : goal.typed_statement-returns-in_ok-no-in-IfElse-clause-gives
typed_statement-returns-in_ok-no-in-IfElse-clause-gives t c =
    let a = view_around c.args.around in
    let s = c.args.scope.now in
    let v = c.typed_statement-in-IfElse.new.scope in
    let u = c.typed_statement-in-IfElse-2.new.scope in
    let test = tree_of c.deref-in-IfElse.result.now in
    let one = tree c.in-IfElse.yes.value in
    let other = tree c.in-IfElse.no.value in
    let at = ap tree c.in-IfElse.is ∙ ap (λ (x : Expr). if_else c.in-IfElse.line (tree_of x) one other) (sym c.deref-in-IfElse.ensures) in
    let x = view_operand c.in_ok-test-in-IfElse.test in
    let same = statement_as a a s c.deref-in-IfElse-2.result.now c.in-IfElse.yes.value refl c.deref-in-IfElse-2.ensures in
    let same2 = statement_as a a v c.deref-in-IfElse-3.result.now c.in-IfElse.no.value refl c.deref-in-IfElse-3.ensures in
    let y : cores.Statement × Scoped = (view_statement c.in_ok-yes-in-IfElse.yes.value, v) in
    let z : cores.Statement × Scoped = (view_statement c.in_ok-no-in-IfElse.no.value, u) in
    subst (λ (r : TypedStatement). Gives (λ k. (view_statement k.value, u)) c.if_else_on.result r)
    (if_else_behind a s c.in-IfElse.line test one other x y z c.in_ok-test-in-IfElse.ensures.gives (sym same ∙ c.in_ok-yes-in-IfElse.ensures.gives) (sym same2 ∙ c.in_ok-no-in-IfElse.ensures.gives) ∙ sym (ap (typed_statement a s) at)) (c.if_else_on.ensures u)

-- ---- while

pub typed_statement-returns-in_err-test-in-While-clause-gives : goal.typed_statement-returns-in_err-test-in-While-clause-gives
typed_statement-returns-in_err-test-in-While-clause-gives t c =
    let p = err_from_is_err_and c.from_residual-in_err-test-in-While.result c.from_residual-in_err-test-in-While.ensures.1 in
    let a = view_around c.args.around in
    let s = c.args.scope.now in
    let w = c.next_loop.new.scope in
    let test = tree_of c.deref-in-While.result.now in
    let body = tree c.in-While.body.value in
    let scope = c.in_ok-number-in-While.ensures.more in
    let e = c.in_err-test-in-While.field-0.0 in
    rw (p.1, p.2) (fails_at a s e _ (while_loop c.in-While.line test body) (ap tree c.in-While.is ∙ ap (λ (x : Expr). while_loop c.in-While.line (tree_of x) body) (sym c.deref-in-While.ensures)) (while_test_fails a s w c.in-While.line test body scope e c.in_err-test-in-While.ensures.gives))

pub typed_statement-returns-in_err-body-in-While-clause-gives : goal.typed_statement-returns-in_err-body-in-While-clause-gives
typed_statement-returns-in_err-body-in-While-clause-gives t c =
    let p = err_from_is_err_and c.from_residual-in_err-body-in-While.result c.from_residual-in_err-body-in-While.ensures.1 in
    let a = view_around c.args.around in
    let s = c.args.scope.now in
    let w = c.next_loop.new.scope in
    let test = tree_of c.deref-in-While.result.now in
    let body = tree c.in-While.body.value in
    let scope = c.in_ok-number-in-While.ensures.more in
    let x = view_operand c.in_ok-test-in-While.test in
    let same = statement_as (view_around c.in_loop.result) (in_loop a) w c.deref-in-While-2.result.now c.in-While.body.value c.in_loop.ensures c.deref-in-While-2.ensures in
    let e = c.in_err-body-in-While.field-0.0 in
    rw (p.1, p.2) (fails_at a s e _ (while_loop c.in-While.line test body) (ap tree c.in-While.is ∙ ap (λ (x : Expr). while_loop c.in-While.line (tree_of x) body) (sym c.deref-in-While.ensures)) (while_body_fails a s w c.in-While.line test body scope e x c.in_ok-test-in-While.ensures.gives (fails_along e _ _ same c.in_err-body-in-While.ensures.gives)))

pub typed_statement-returns-in_ok-body-in-While-clause-gives : goal.typed_statement-returns-in_ok-body-in-While-clause-gives
typed_statement-returns-in_ok-body-in-While-clause-gives t c =
    let a = view_around c.args.around in
    let s = c.args.scope.now in
    let w = c.next_loop.new.scope in
    let u = c.typed_statement-in-While.new.scope in
    let test = tree_of c.deref-in-While.result.now in
    let body = tree c.in-While.body.value in
    let at = ap tree c.in-While.is ∙ ap (λ (x : Expr). while_loop c.in-While.line (tree_of x) body) (sym c.deref-in-While.ensures) in
    let x = view_operand c.in_ok-test-in-While.test in
    let same = statement_as (view_around c.in_loop.result) (in_loop a) w c.deref-in-While-2.result.now c.in-While.body.value c.in_loop.ensures c.deref-in-While-2.ensures in
    let y : cores.Statement × Scoped = (view_statement c.in_ok-body-in-While.body.value, u) in
    subst (λ (r : TypedStatement). Gives (λ k. (view_statement k.value, u)) c.while_on.result r)
    (while_behind a s w c.in-While.line test body c.in_ok-number-in-While.ensures.more c.in_ok-number-in-While.number x y c.in_ok-number-in-While.ensures.number c.in_ok-test-in-While.ensures.gives (sym same ∙ c.in_ok-body-in-While.ensures.gives)
    ∙ sym (ap (typed_statement a s) at)) (c.while_on.ensures u)

-- ---- do

pub typed_statement-returns-in_err-body-in-Do-clause-gives : goal.typed_statement-returns-in_err-body-in-Do-clause-gives
typed_statement-returns-in_err-body-in-Do-clause-gives t c =
    let p = err_from_is_err_and c.from_residual-in_err-body-in-Do.result c.from_residual-in_err-body-in-Do.ensures.1 in
    let a = view_around c.args.around in
    let s = c.args.scope.now in
    let w = c.next_loop-in-Do.new.scope in
    let test = tree_of c.in-Do.test.value in
    let body = tree c.in-Do.body.value in
    let scope = c.in_ok-number-in-Do.ensures.more in
    let same = statement_as (view_around c.in_loop-in-Do.result) (in_loop a) w c.deref-in-Do.result.now c.in-Do.body.value c.in_loop-in-Do.ensures c.deref-in-Do.ensures in
    let e = c.in_err-body-in-Do.field-0.0 in
    rw (p.1, p.2) (fails_at a s e _ (do_loop c.in-Do.line body test) (ap tree c.in-Do.is) (do_body_fails a s w c.in-Do.line body test scope e (fails_along e _ _ same c.in_err-body-in-Do.ensures.gives)))

pub typed_statement-returns-in_err-test-in-Do-clause-gives : goal.typed_statement-returns-in_err-test-in-Do-clause-gives
typed_statement-returns-in_err-test-in-Do-clause-gives t c =
    let p = err_from_is_err_and c.from_residual-in_err-test-in-Do.result c.from_residual-in_err-test-in-Do.ensures.1 in
    let a = view_around c.args.around in
    let s = c.args.scope.now in
    let w = c.next_loop-in-Do.new.scope in
    let test = tree_of c.in-Do.test.value in
    let body = tree c.in-Do.body.value in
    let scope = c.in_ok-number-in-Do.ensures.more in
    let same = statement_as (view_around c.in_loop-in-Do.result) (in_loop a) w c.deref-in-Do.result.now c.in-Do.body.value c.in_loop-in-Do.ensures c.deref-in-Do.ensures in
    let y : cores.Statement × Scoped = (view_statement c.in_ok-body-in-Do.body.value, c.typed_statement-in-Do.new.scope) in
    let e = c.in_err-test-in-Do.field-0.0 in
    rw (p.1, p.2) (fails_at a s e _ (do_loop c.in-Do.line body test) (ap tree c.in-Do.is) (do_test_fails a s w c.in-Do.line body test scope e y (sym same ∙ c.in_ok-body-in-Do.ensures.gives) (fails_along e (operand y.1 (tree_of c.deref-in-Do-2.result.now)) (operand y.1 test) (ap (λ (x : Expr). operand y.1 (tree_of x)) c.deref-in-Do-2.ensures) c.in_err-test-in-Do.ensures.gives)))

pub typed_statement-returns-in_ok-test-in-Do-clause-gives : goal.typed_statement-returns-in_ok-test-in-Do-clause-gives
typed_statement-returns-in_ok-test-in-Do-clause-gives t c =
    let a = view_around c.args.around in
    let s = c.args.scope.now in
    let w = c.next_loop-in-Do.new.scope in
    let u = c.typed_statement-in-Do.new.scope in
    let test = tree_of c.deref-in-Do-2.result.now in
    let body = tree c.in-Do.body.value in
    let at = ap tree c.in-Do.is ∙ ap (λ (x : Expr). do_loop c.in-Do.line body (tree_of x)) (sym c.deref-in-Do-2.ensures) in
    let same = statement_as (view_around c.in_loop-in-Do.result) (in_loop a) w c.deref-in-Do.result.now c.in-Do.body.value c.in_loop-in-Do.ensures c.deref-in-Do.ensures in
    let x = view_operand c.in_ok-test-in-Do.test in
    let y : cores.Statement × Scoped = (view_statement c.in_ok-body-in-Do.body.value, u) in
    subst (λ (r : TypedStatement). Gives (λ k. (view_statement k.value, u)) c.do_on.result r)
    (do_behind a s w c.in-Do.line body test c.in_ok-number-in-Do.ensures.more c.in_ok-number-in-Do.number y x c.in_ok-number-in-Do.ensures.number (sym same ∙ c.in_ok-body-in-Do.ensures.gives) c.in_ok-test-in-Do.ensures.gives
    ∙ sym (ap (typed_statement a s) at)) (c.do_on.ensures u)

-- ---- for

pub typed_statement-returns-in_err-first-in-For-clause-gives : goal.typed_statement-returns-in_err-first-in-For-clause-gives
typed_statement-returns-in_err-first-in-For-clause-gives t c =
    let p = err_from_is_err_and c.from_residual-in_err-first-in-For.result c.from_residual-in_err-first-in-For.ensures.1 in
    let a = view_around c.args.around in
    let s = c.args.scope.now in
    let w = c.next_loop-in-For.new.scope in
    let first = option_map boxed_tree c.in-For.first in
    let test = option_map boxed_tree c.in-For.test in
    let last = option_map boxed_tree c.in-For.last in
    let body = tree c.in-For.body.value in
    let scope = c.in_ok-number-in-For.ensures.more in
    let e = c.in_err-first-in-For.field-0.0 in
    rw (p.1, p.2) (fails_at a s e _ (for_loop c.in-For.line first test last body) (ap tree c.in-For.is) (for_first_fails a s w c.in-For.line first test last body scope e c.in_err-first-in-For.ensures))

pub typed_statement-returns-in_ok-first-in-For-clause-gives : goal.typed_statement-returns-in_ok-first-in-For-clause-gives
typed_statement-returns-in_ok-first-in-For-clause-gives t c =
    let a = view_around c.args.around in
    let s = c.args.scope.now in
    let w = c.next_loop-in-For.new.scope in
    let first = option_map boxed_tree c.in-For.first in
    let test = option_map boxed_tree c.in-For.test in
    let last = option_map boxed_tree c.in-For.last in
    let body = tree c.in-For.body.value in
    let scope = c.in_ok-number-in-For.ensures.more in
    let n = c.in_ok-number-in-For.number in
    let b = option_map boxed c.in_ok-first-in-For.first in
    let same : typed_rest c.in-For.line n b w test last (typed_statement (in_loop a) w (tree c.deref-in-For.result.now)) ≡ typed_statement a s (tree c.args.statement.now) =
    ap (λ (x : Stmt). typed_rest c.in-For.line n b w test last (typed_statement (in_loop a) w (tree x))) c.deref-in-For.ensures
    ∙ for_behind_first a s w c.in-For.line first test last body scope n b c.in_ok-number-in-For.ensures.number c.in_ok-first-in-For.ensures
    ∙ sym (ap (typed_statement a s) (ap tree c.in-For.is)) in
    subst (λ (r : TypedStatement). Gives (λ k. (view_statement k.value, c.typed_rest.new.scope)) c.typed_rest.result r) same c.typed_rest.ensures.gives

-- ---- case, default and labels

pub typed_statement-returns-in_ok-body-in-Case-clause-gives : goal.typed_statement-returns-in_ok-body-in-Case-clause-gives
typed_statement-returns-in_ok-body-in-Case-clause-gives t c =
    let a = view_around c.args.around in
    let s = c.args.scope.now in
    let value = tree_of c.deref-in-Case.result.now in
    let body = tree c.in-Case.body.value in
    let at = ap tree c.in-Case.is ∙ ap (λ (x : Expr). case_of c.in-Case.line (tree_of x) body) (sym c.deref-in-Case.ensures) in
    let x = view_operand c.in_ok-value-in-Case.value in
    let same = statement_as a a s c.deref-in-Case-2.result.now c.in-Case.body.value refl c.deref-in-Case-2.ensures in
    let y : cores.Statement × Scoped = (view_statement c.in_ok-body-in-Case.body.value, c.typed_statement-in-Case.new.scope) in
    subst (λ (r : TypedStatement). Gives (λ k. (view_statement k.value, c.case_on.new.scope)) c.case_on.result r)
    (case_behind a s c.in-Case.line value body x y c.in_ok-value-in-Case.ensures.gives (sym same ∙ c.in_ok-body-in-Case.ensures.gives) ∙ sym (ap (typed_statement a s) at)) c.case_on.ensures.gives

pub typed_statement-returns-in_ok-body-in-Default-clause-gives : goal.typed_statement-returns-in_ok-body-in-Default-clause-gives
typed_statement-returns-in_ok-body-in-Default-clause-gives t c =
    let a = view_around c.args.around in
    let s = c.args.scope.now in
    let body = tree c.in-Default.body.value in
    let same = statement_as a a s c.deref-in-Default.result.now c.in-Default.body.value refl c.deref-in-Default.ensures in
    let y : cores.Statement × Scoped = (view_statement c.in_ok-body-in-Default.body.value, c.typed_statement-in-Default.new.scope) in
    subst (λ (r : TypedStatement). Gives (λ k. (view_statement k.value, c.default_on.new.scope)) c.default_on.result r)
    (default_behind a s c.in-Default.line body y (sym same ∙ c.in_ok-body-in-Default.ensures.gives) ∙ sym (ap (typed_statement a s) (ap tree c.in-Default.is))) c.default_on.ensures.gives

pub typed_statement-returns-in_err-body-in-Label-clause-gives : goal.typed_statement-returns-in_err-body-in-Label-clause-gives
typed_statement-returns-in_err-body-in-Label-clause-gives t c =
    let p = err_from_is_err_and c.from_residual-in_err-body-in-Label.result c.from_residual-in_err-body-in-Label.ensures.1 in
    let a = view_around c.args.around in
    let s = c.args.scope.now in
    let w = c.next_label.new.scope in
    let name = view_name c.in-Label.name in
    let body = tree c.in-Label.body.value in
    let scope = c.in_ok-number-in-Label.ensures.more in
    let same = statement_as a a w c.deref-in-Label.result.now c.in-Label.body.value refl c.deref-in-Label.ensures in
    let e = c.in_err-body-in-Label.field-0.0 in
    rw (p.1, p.2) (fails_at a s e _ (labelled c.in-Label.line name body) (ap tree c.in-Label.is) (label_body_fails a s w c.in-Label.line name body scope e (fails_along e _ _ same c.in_err-body-in-Label.ensures.gives)))

pub typed_statement-returns-in_err-label_on-in-Label-clause-gives : goal.typed_statement-returns-in_err-label_on-in-Label-clause-gives
typed_statement-returns-in_err-label_on-in-Label-clause-gives t c =
    let p = err_from_is_err_and c.from_residual-in_err-label_on-in-Label.result c.from_residual-in_err-label_on-in-Label.ensures.1 in
    let a = view_around c.args.around in
    let s = c.args.scope.now in
    let w = c.next_label.new.scope in
    let name = view_name c.in-Label.name in
    let body = tree c.in-Label.body.value in
    let scope = c.in_ok-number-in-Label.ensures.more in
    let same = statement_as a a w c.deref-in-Label.result.now c.in-Label.body.value refl c.deref-in-Label.ensures in
    let y : cores.Statement × Scoped = (view_statement c.in_ok-body-in-Label.body.value, c.typed_statement-in-Label.new.scope) in
    let e = c.in_err-label_on-in-Label.field-0.0 in
    rw (p.1, p.2) (fails_at a s e _ (labelled c.in-Label.line name body) (ap tree c.in-Label.is) (label_end_fails a s w c.in-Label.line name body scope e c.in_ok-number-in-Label.number y c.in_ok-number-in-Label.ensures.number (sym same ∙ c.in_ok-body-in-Label.ensures.gives) c.in_err-label_on-in-Label.ensures))

pub typed_statement-returns-in_ok-label_on-in-Label-clause-gives : goal.typed_statement-returns-in_ok-label_on-in-Label-clause-gives
typed_statement-returns-in_ok-label_on-in-Label-clause-gives t c =
    let a = view_around c.args.around in
    let s = c.args.scope.now in
    let w = c.next_label.new.scope in
    let name = view_name c.in-Label.name in
    let body = tree c.in-Label.body.value in
    let scope = c.in_ok-number-in-Label.ensures.more in
    let same = statement_as a a w c.deref-in-Label.result.now c.in-Label.body.value refl c.deref-in-Label.ensures in
    let y : cores.Statement × Scoped = (view_statement c.in_ok-body-in-Label.body.value, c.typed_statement-in-Label.new.scope) in
    ap (typed_statement a s) (ap tree c.in-Label.is)
    ∙ label_typed a s w c.in-Label.line name body scope c.in_ok-number-in-Label.number y c.in_ok-number-in-Label.ensures.number (sym same ∙ c.in_ok-body-in-Label.ensures.gives) c.in_ok-label_on-in-Label.ensures

-- ---- what is behind the first part of a loop

pub typed_rest-returns-in_err-body-clause-gives : goal.typed_rest-returns-in_err-body-clause-gives
typed_rest-returns-in_err-body-clause-gives t c =
    let p = err_from_is_err_and c.from_residual-in_err-body.result c.from_residual-in_err-body.ensures.1 in
    let a = view_around c.args.around in
    let s = c.args.scope.now in
    let first = option_map boxed c.args.first in
    let test = option_map boxed_tree c.args.test.now in
    let last = option_map boxed_tree c.args.last.now in
    let body = typed_statement (in_loop a) s (tree c.args.body.now) in
    let x = option_map view_operand c.in_ok-test.test in
    let k = option_map boxed c.in_ok-last.last in
    let same = statement_as (view_around c.in_loop.result) (in_loop a) s c.args.body.now c.args.body.now c.in_loop.ensures refl in
    let e = c.in_err-body.field-0.0 in
    rw (p.1, p.2) (rest_body_fails c.args.line c.args.number first s test last body e x k c.in_ok-test.ensures c.in_ok-last.ensures (fails_along e _ _ same c.in_err-body.ensures.gives))

pub typed_rest-returns-clause-gives : goal.typed_rest-returns-clause-gives
typed_rest-returns-clause-gives t c =
    let a = view_around c.args.around in
    let s = c.args.scope.now in
    let u = c.typed_statement.new.scope in
    let first = option_map boxed c.args.first in
    let test = option_map boxed_tree c.args.test.now in
    let last = option_map boxed_tree c.args.last.now in
    let body = typed_statement (in_loop a) s (tree c.args.body.now) in
    let x = option_map view_operand c.in_ok-test.test in
    let k = option_map boxed c.in_ok-last.last in
    let same = statement_as (view_around c.in_loop.result) (in_loop a) s c.args.body.now c.args.body.now c.in_loop.ensures refl in
    let y : cores.Statement × Scoped = (view_statement c.in_ok-body.body.value, u) in
    subst (λ (r : TypedStatement). Gives (λ k. (view_statement k.value, u)) c.for_on.result r)
    (rest_behind c.args.line c.args.number first s test last body x k y c.in_ok-test.ensures c.in_ok-last.ensures (sym same ∙ c.in_ok-body.ensures.gives)) (c.for_on.ensures u)

-- ---- a loop with a declaration

pub typed_for-returns-in_err-declare-clause-gives : goal.typed_for-returns-in_err-declare-clause-gives
typed_for-returns-in_err-declare-clause-gives t c =
    let p = err_from_is_err_and c.from_residual.result c.from_residual.ensures.1 in
    let a = view_around c.args.around in
    let s = c.args.scope.now in
    let parts = parts_of c.args.declaration.now.specifiers.items in
    let ds = declarators_of c.args.declaration.now.declarators.items in
    let test = option_map boxed_tree c.args.test.now in
    let last = option_map boxed_tree c.args.last.now in
    let body = tree c.args.body.now in
    let line = c.args.line in
    let outer = c.len-outer.result in
    let go = for_behind a line test last body in
    let shape : as_block s (typed_declaration (in_block outer) s false parts ds go) ≡ typed_statement a s (for_declared line parts ds test last body) = ap (λ (n : ℕ). as_block s (typed_declaration (in_block n) s false parts ds go)) c.len-outer.ensures in
    let e = c.in_err-declare.field-0.0 in
    rw (p.1, p.2) (fails_along e _ _ shape (fails_bind e (typed_declaration (in_block outer) s false parts ds go) _ (c.in_err-declare.ensures.step go)))

pub typed_for-returns-in_err-statement-clause-gives : goal.typed_for-returns-in_err-statement-clause-gives
typed_for-returns-in_err-statement-clause-gives t c =
    let p = err_from_is_err_and c.from_residual-in_err-statement.result c.from_residual-in_err-statement.ensures.1 in
    let a = view_around c.args.around in
    let s = c.args.scope.now in
    let parts = parts_of c.args.declaration.now.specifiers.items in
    let ds = declarators_of c.args.declaration.now.declarators.items in
    let test = option_map boxed_tree c.args.test.now in
    let last = option_map boxed_tree c.args.last.now in
    let body = tree c.args.body.now in
    let line = c.args.line in
    let outer = c.len-outer.result in
    let go = for_behind a line test last body in
    let shape : as_block s (typed_declaration (in_block outer) s false parts ds go) ≡ typed_statement a s (for_declared line parts ds test last body) = ap (λ (n : ℕ). as_block s (typed_declaration (in_block n) s false parts ds go)) c.len-outer.ensures in
    let v = c.declare.new.scope in
    let w = c.next_loop.new.scope in
    let made = c.declare.new.items.items in
    let step = ap (λ (is : List CoreItem). items_first is (typed_declaration (in_block outer) s false parts ds go)) (sym c.new-items.ensures.items) ∙ c.in_ok-declare.ensures.step go in
    let e = c.in_err-statement.field-0.0 in
    rw (p.1, p.2) (fails_along e _ _ shape (fails_bind e (typed_declaration (in_block outer) s false parts ds go) _
    (for_fails a (in_block outer) s v w parts ds line c.in_ok-number.number test last body made e step c.in_ok-number.ensures.number c.in_ok-number.ensures.more c.in_err-statement.ensures.gives)))

pub typed_for-returns-clause-gives : goal.typed_for-returns-clause-gives
typed_for-returns-clause-gives t c =
    let a = view_around c.args.around in
    let s = c.args.scope.now in
    let parts = parts_of c.args.declaration.now.specifiers.items in
    let ds = declarators_of c.args.declaration.now.declarators.items in
    let test = option_map boxed_tree c.args.test.now in
    let last = option_map boxed_tree c.args.last.now in
    let body = tree c.args.body.now in
    let line = c.args.line in
    let outer = c.len-outer.result in
    let go = for_behind a line test last body in
    let shape : as_block s (typed_declaration (in_block outer) s false parts ds go) ≡ typed_statement a s (for_declared line parts ds test last body) = ap (λ (n : ℕ). as_block s (typed_declaration (in_block n) s false parts ds go)) c.len-outer.ensures in
    let v = c.declare.new.scope in
    let w = c.next_loop.new.scope in
    let made = c.declare.new.items.items in
    let step = ap (λ (is : List CoreItem). items_first is (typed_declaration (in_block outer) s false parts ds go)) (sym c.new-items.ensures.items) ∙ c.in_ok-declare.ensures.step go in
    let u = c.typed_rest.new.scope in
    let items = c.push.new.self in
    let all = for_typed a (in_block outer) s v w u parts ds line c.in_ok-number.number test last body made c.in_ok-statement.statement items.items step c.in_ok-number.ensures.number c.in_ok-number.ensures.more c.in_ok-statement.ensures.gives c.in_ok-push.ensures.items in
    let names = declaration_names a (in_block outer) s u parts ds line test last body (items_of items.items) all in
    let left : c.leave.new.self ≡ record u { bindings = drop (length u.bindings - length s.bindings) u.bindings } = c.leave.ensures ∙ ap (λ (n : ℕ). record u { bindings = drop (length u.bindings - n) u.bindings }) c.len-outer.ensures in
    subst (λ (r : TypedStatement). Gives (λ k. (view_statement k.value, c.leave.new.self)) c.block_of.result r)
    (sym (sym shape ∙ block_by s u (typed_declaration (in_block outer) s false parts ds go) items all names ∙ ap (λ (x : Scoped). Ok (cores.block (items_of items.items), x)) (sym left))) (c.block_of.ensures c.leave.new.self)

pub typed_for-returns-clause-names : goal.typed_for-returns-clause-names
typed_for-returns-clause-names t c =
    let a = view_around c.args.around in
    let s = c.args.scope.now in
    let parts = parts_of c.args.declaration.now.specifiers.items in
    let ds = declarators_of c.args.declaration.now.declarators.items in
    let test = option_map boxed_tree c.args.test.now in
    let last = option_map boxed_tree c.args.last.now in
    let body = tree c.args.body.now in
    let line = c.args.line in
    let outer = c.len-outer.result in
    let go = for_behind a line test last body in
    let shape : as_block s (typed_declaration (in_block outer) s false parts ds go) ≡ typed_statement a s (for_declared line parts ds test last body) = ap (λ (n : ℕ). as_block s (typed_declaration (in_block n) s false parts ds go)) c.len-outer.ensures in
    let v = c.declare.new.scope in
    let w = c.next_loop.new.scope in
    let made = c.declare.new.items.items in
    let step = ap (λ (is : List CoreItem). items_first is (typed_declaration (in_block outer) s false parts ds go)) (sym c.new-items.ensures.items) ∙ c.in_ok-declare.ensures.step go in
    let u = c.typed_rest.new.scope in
    let items = c.push.new.self in
    let all = for_typed a (in_block outer) s v w u parts ds line c.in_ok-number.number test last body made c.in_ok-statement.statement items.items step c.in_ok-number.ensures.number c.in_ok-number.ensures.more c.in_ok-statement.ensures.gives c.in_ok-push.ensures.items in
    let names = declaration_names a (in_block outer) s u parts ds line test last body (items_of items.items) all in
    let left : c.leave.new.self ≡ record u { bindings = drop (length u.bindings - length s.bindings) u.bindings } = c.leave.ensures ∙ ap (λ (n : ℕ). record u { bindings = drop (length u.bindings - n) u.bindings }) c.len-outer.ensures in
    whatever c.block_of.result (c.leave.new.self.bindings ≡ s.bindings) (ap (λ (x : Scoped). x.bindings) left ∙ names_left s u names)

pub typed_for-leave-requires : goal.typed_for-leave-requires
typed_for-leave-requires t c =
    subst (λ (env : Environment). c.len-outer.result ≤ length env) (sym (c.in_ok-statement.ensures.names ∙ ap (λ (x : Scoped). x.bindings) c.in_ok-number.ensures.more)) c.in_ok-declare.ensures.within

-- ---- switches

pub typed_switch-returns-in_err-value-clause-gives : goal.typed_switch-returns-in_err-value-clause-gives
typed_switch-returns-in_err-value-clause-gives t c =
    let p = err_from_is_err_and c.from_residual.result c.from_residual.ensures.1 in
    let a = view_around c.args.around in
    let s = c.args.scope.now in
    let value = tree_of c.args.value.now in
    let body = tree c.args.body.now in
    let e = c.in_err-value.field-0.0 in
    rw (p.1, p.2) (fails_along e _ _ (sym (switch_by_body a s c.args.line value body)) (fails_bind e (operand s value) (switch_behind a s c.args.line body) c.in_err-value.ensures.gives))

pub typed_switch-returns-in_err-items-clause-gives : goal.typed_switch-returns-in_err-items-clause-gives
typed_switch-returns-in_err-items-clause-gives t c =
    let p = err_from_is_err_and c.from_residual-in_err-items.result c.from_residual-in_err-items.ensures.1 in
    let a = view_around c.args.around in
    let s = c.args.scope.now in
    let value = tree_of c.args.value.now in
    let body = tree c.args.body.now in
    let x = view_operand c.in_ok-value.value in
    let w = c.open_switch-outer.new.scope in
    let same : typed_body (view_around c.in_switch.result) w body ≡ typed_body (in_switch a) (with_switch s (switch_type x)) body = ap (λ (b : Around). typed_body b w body) c.in_switch.ensures ∙ ap (λ (z : Scoped). typed_body (in_switch a) z body) (c.open_switch-outer.ensures.opened ∙ ap (with_switch s) c.switch_type.ensures) in
    let e = c.in_err-items.field-0.0 in
    rw (p.1, p.2) (switch_body_fails a s c.args.line value body x c.in_ok-value.ensures.gives e (fails_along e _ _ same c.in_err-items.ensures.gives))

pub typed_switch-returns-clause-gives : goal.typed_switch-returns-clause-gives
typed_switch-returns-clause-gives t c =
    let a = view_around c.args.around in
    let s = c.args.scope.now in
    let value = tree_of c.args.value.now in
    let body = tree c.args.body.now in
    let x = view_operand c.in_ok-value.value in
    let w = c.open_switch-outer.new.scope in
    let same : typed_body (view_around c.in_switch.result) w body ≡ typed_body (in_switch a) (with_switch s (switch_type x)) body = ap (λ (b : Around). typed_body b w body) c.in_switch.ensures ∙ ap (λ (z : Scoped). typed_body (in_switch a) z body) (c.open_switch-outer.ensures.opened ∙ ap (with_switch s) c.switch_type.ensures) in
    let u = c.typed_body.new.scope in
    let items = c.in_ok-items.items in
    let y : cores.Items × Scoped = (items_of items.items, u) in
    let typed = sym same ∙ c.in_ok-items.ensures.gives in
    let w2 = c.close_switch.new.scope in
    let closed : w2 ≡ switch_ended s u = c.close_switch.ensures ∙ ap (λ (o : Option Cases). record u { flow = record u.flow { switch = o } }) c.open_switch-outer.ensures.outer in
    subst (λ (r : TypedStatement). Gives (λ k. (view_statement k.value, w2)) c.switch_of.result r) (switch_ends a s c.args.line value body x c.in_ok-value.ensures.gives y w2 typed closed) (c.switch_of.ensures w2)

pub typed_body-returns-in_err-items-in-Some-clause-gives : goal.typed_body-returns-in_err-items-in-Some-clause-gives
typed_body-returns-in_err-items-in-Some-clause-gives t c =
    let p = err_from_is_err_and c.from_residual.result c.from_residual.ensures.1 in
    let a = view_around c.args.around in
    let s = c.args.scope.now in
    let items = trees c.in-Some.items.now in
    let shape = ap (typed_body a s) (block_as c.args.body.now c.in-Some.items.now c.in-Some.ensures) in
    let given : typed_items a true (length s.bindings) [] s items ≡ typed_items a true c.len-outer.result [] s items = ap (λ (k : ℕ). typed_items a true k [] s items) (sym c.len-outer.ensures) in
    let e = c.in_err-items-in-Some.field-0.0 in
    rw (p.1, p.2) (fails_along e _ (typed_body a s (tree c.args.body.now)) (sym shape) (fails_bind e (typed_items a true (length s.bindings) [] s items) _ (fails_along e _ _ (sym given) c.in_err-items-in-Some.ensures.gives)))

pub typed_body-returns-in_ok-items-in-Some-clause-gives : goal.typed_body-returns-in_ok-items-in-Some-clause-gives
typed_body-returns-in_ok-items-in-Some-clause-gives t c =
    let a = view_around c.args.around in
    let s = c.args.scope.now in
    let items = trees c.in-Some.items.now in
    let shape = ap (typed_body a s) (block_as c.args.body.now c.in-Some.items.now c.in-Some.ensures) in
    let given : typed_items a true (length s.bindings) [] s items ≡ typed_items a true c.len-outer.result [] s items = ap (λ (k : ℕ). typed_items a true k [] s items) (sym c.len-outer.ensures) in
    let u = c.typed_items.new.scope in
    let v = c.in_ok-items-in-Some.items in
    let left : c.leave.new.self ≡ record u { bindings = drop (length u.bindings - length s.bindings) u.bindings } = c.leave.ensures ∙ ap (λ (k : ℕ). record u { bindings = drop (length u.bindings - k) u.bindings }) c.len-outer.ensures in
    let all = given ∙ c.in_ok-items-in-Some.ensures.gives in
    let names = items_names a true (length s.bindings) [] s u items (items_of v.items) all in
    shape ∙ own_by s u (typed_items a true (length s.bindings) [] s items) (items_of v.items) all names ∙ ap (λ (x : Scoped). Ok (items_of v.items, x)) (sym left)

pub typed_body-returns-in_ok-items-in-Some-clause-names : goal.typed_body-returns-in_ok-items-in-Some-clause-names
typed_body-returns-in_ok-items-in-Some-clause-names t c =
    let a = view_around c.args.around in
    let s = c.args.scope.now in
    let items = trees c.in-Some.items.now in
    let given : typed_items a true (length s.bindings) [] s items ≡ typed_items a true c.len-outer.result [] s items = ap (λ (k : ℕ). typed_items a true k [] s items) (sym c.len-outer.ensures) in
    let u = c.typed_items.new.scope in
    let v = c.in_ok-items-in-Some.items in
    let left : c.leave.new.self ≡ record u { bindings = drop (length u.bindings - length s.bindings) u.bindings } = c.leave.ensures ∙ ap (λ (k : ℕ). record u { bindings = drop (length u.bindings - k) u.bindings }) c.len-outer.ensures in
    let all = given ∙ c.in_ok-items-in-Some.ensures.gives in
    let names = items_names a true (length s.bindings) [] s u items (items_of v.items) all in
    ap (λ (x : Scoped). x.bindings) left ∙ names_left s u names

pub typed_body-returns-in_err-statement-in-None-clause-gives : goal.typed_body-returns-in_err-statement-in-None-clause-gives
typed_body-returns-in_err-statement-in-None-clause-gives t c =
    let p = err_from_is_err_and c.from_residual-in_err-statement-in-None.result c.from_residual-in_err-statement-in-None.ensures.1 in
    let a = view_around c.args.around in
    let s = c.args.scope.now in
    let body = tree c.args.body.now in
    let e = c.in_err-statement-in-None.field-0.0 in
    rw (p.1, p.2) (fails_along e _ (typed_body a s body) (sym (body_alone a s body c.in-None.ensures)) (fails_bind e (typed_statement a s body) _ c.in_err-statement-in-None.ensures.gives))

pub typed_body-returns-in_ok-push-in-None-clause-gives : goal.typed_body-returns-in_ok-push-in-None-clause-gives
typed_body-returns-in_ok-push-in-None-clause-gives t c =
    let a = view_around c.args.around in
    let s = c.args.scope.now in
    let u = c.typed_statement.new.scope in
    let pushed = c.in_ok-push-in-None.ensures.items ∙ ap (λ (xs : List CoreItem). xs ++ codes.Statement c.in_ok-statement-in-None.statement ∷ []) c.new-items.ensures.items in
    body_alone a s (tree c.args.body.now) c.in-None.ensures ∙ ap as_items c.in_ok-statement-in-None.ensures.gives ∙ ap (λ (xs : List CoreItem). Ok (items_of xs, u)) (sym pushed)

-- ---- a statement of a list

pub typed_front-returns-in_err-typed_front-in-Label-clause-front : goal.typed_front-returns-in_err-typed_front-in-Label-clause-front
typed_front-returns-in_err-typed_front-in-Label-clause-front t c =
    let p = err_from_is_err_and c.from_residual-in_err-typed_front-in-Label.result c.from_residual-in_err-typed_front-in-Label.ensures.1 in
    let a = view_around c.args.around in
    let s = c.args.scope.now in
    let sw = c.args.switched in
    let elsewhere = typed_statement a s (tree c.args.statement.now) in
    let w = c.next_label.new.scope in
    let name = view_name c.in-Label.name in
    let body = tree c.in-Label.body.value in
    let scope = c.in_ok-label-in-Label.ensures.more in
    let whole = typed_front a sw s (labelled c.in-Label.line name body) elsewhere in
    let shape : whole ≡ typed_front a sw s (tree c.args.statement.now) elsewhere = ap (λ (x : Stmt). typed_front a sw s (tree x) elsewhere) (sym c.in-Label.is) in
    let inner = front_as a sw w c.deref.result.now c.in-Label.body.value c.deref.ensures in
    let e = c.in_err-typed_front-in-Label.field-0.0 in
    fault_front c.from_residual-in_err-typed_front-in-Label.result p.0 e c.typed_front.new.scope c.args.items.now.items c.typed_front.new.items.items _ p.1 p.2
    (fails_along e whole _ shape (label_front_fails a sw s w c.in-Label.line name body elsewhere scope e (fails_along e _ _ inner c.in_err-typed_front-in-Label.ensures.front)))

pub typed_front-returns-in_ok-typed_front-in-Label-clause-front : goal.typed_front-returns-in_ok-typed_front-in-Label-clause-front
typed_front-returns-in_ok-typed_front-in-Label-clause-front t c =
    let a = view_around c.args.around in
    let s = c.args.scope.now in
    let sw = c.args.switched in
    let elsewhere = typed_statement a s (tree c.args.statement.now) in
    let w = c.next_label.new.scope in
    let name = view_name c.in-Label.name in
    let body = tree c.in-Label.body.value in
    let scope = c.in_ok-label-in-Label.ensures.more in
    let whole = typed_front a sw s (labelled c.in-Label.line name body) elsewhere in
    let shape : whole ≡ typed_front a sw s (tree c.args.statement.now) elsewhere = ap (λ (x : Stmt). typed_front a sw s (tree x) elsewhere) (sym c.in-Label.is) in
    let inner = front_as a sw w c.deref.result.now c.in-Label.body.value c.deref.ensures in
    let u = c.typed_front.new.scope in
    let pushed = c.push.new.self.items in
    let now = c.typed_front.new.items.items in
    let h = subst (λ (r : TypedFront). Fronts (Ok tt) u pushed now r) inner c.in_ok-typed_front-in-Label.ensures.front in
    subst (λ (r : TypedFront). Fronts c.label_on.result u c.args.items.now.items now r) shape
    (label_front a sw s w c.in-Label.line name body elsewhere scope c.in_ok-label-in-Label.label u c.args.items.now.items pushed now c.label_on.result c.in_ok-label-in-Label.ensures.number c.in_ok-push-in-Label.ensures.items h c.label_on.ensures)

pub typed_front-returns-in_err-value-in-Case-clause-front : goal.typed_front-returns-in_err-value-in-Case-clause-front
typed_front-returns-in_err-value-in-Case-clause-front t c =
    let p = err_from_is_err_and c.from_residual-in_err-value-in-Case.result c.from_residual-in_err-value-in-Case.ensures.1 in
    let a = view_around c.args.around in
    let s = c.args.scope.now in
    let sw = c.args.switched in
    let elsewhere = typed_statement a s (tree c.args.statement.now) in
    let value = tree_of c.deref-in-Case.result.now in
    let body = tree c.in-Case.body.value in
    let whole = typed_front a true s (case_of c.in-Case.line value body) elsewhere in
    let shape : whole ≡ typed_front a sw s (tree c.args.statement.now) elsewhere = ap (λ (x : Expr). typed_front a true s (case_of c.in-Case.line (tree_of x) body) elsewhere) c.deref-in-Case.ensures ∙ ap (λ (x : Stmt). typed_front a true s (tree x) elsewhere) (sym c.in-Case.is) ∙ ap (λ (b : Bool). typed_front a b s (tree c.args.statement.now) elsewhere) (sym c.if-not-switched.false) in
    let e = c.in_err-value-in-Case.field-0.0 in
    fault_front c.from_residual-in_err-value-in-Case.result p.0 e s c.args.items.now.items c.args.items.now.items _ p.1 p.2
    (fails_along e whole _ shape (case_value_fails a s c.in-Case.line value body elsewhere e c.in_err-value-in-Case.ensures.gives))

pub typed_front-returns-in_err-typed_front-in-Case-clause-front : goal.typed_front-returns-in_err-typed_front-in-Case-clause-front
typed_front-returns-in_err-typed_front-in-Case-clause-front t c =
    let p = err_from_is_err_and c.from_residual-in_err-typed_front-in-Case.result c.from_residual-in_err-typed_front-in-Case.ensures.1 in
    let a = view_around c.args.around in
    let s = c.args.scope.now in
    let sw = c.args.switched in
    let elsewhere = typed_statement a s (tree c.args.statement.now) in
    let value = tree_of c.deref-in-Case.result.now in
    let body = tree c.in-Case.body.value in
    let whole = typed_front a true s (case_of c.in-Case.line value body) elsewhere in
    let shape : whole ≡ typed_front a sw s (tree c.args.statement.now) elsewhere = ap (λ (x : Expr). typed_front a true s (case_of c.in-Case.line (tree_of x) body) elsewhere) c.deref-in-Case.ensures ∙ ap (λ (x : Stmt). typed_front a true s (tree x) elsewhere) (sym c.in-Case.is) ∙ ap (λ (b : Bool). typed_front a b s (tree c.args.statement.now) elsewhere) (sym c.if-not-switched.false) in
    let x = view_operand c.in_ok-value-in-Case.value in
    let v = c.typed_front-in-Case.new.scope in
    let made = c.typed_front-in-Case.new.items.items in
    let pushed = c.push-in-Case.new.self.items in
    let inner = front_as a sw s c.deref-in-Case-2.result.now c.in-Case.body.value c.deref-in-Case-2.ensures ∙ ap (λ (b : Bool). typed_front a b s body (typed_statement a s body)) c.if-not-switched.false in
    let e = c.in_err-typed_front-in-Case.field-0.0 in
    fault_front c.from_residual-in_err-typed_front-in-Case.result p.0 e v c.args.items.now.items made _ p.1 p.2
    (fails_along e whole _ shape (case_body_fails a s c.in-Case.line value body elsewhere e x c.in_ok-value-in-Case.ensures.gives (fails_along e _ _ inner c.in_err-typed_front-in-Case.ensures.front)))

pub typed_front-returns-in_err-type_-in-Case-clause-front : goal.typed_front-returns-in_err-type_-in-Case-clause-front
typed_front-returns-in_err-type_-in-Case-clause-front t c =
    let p = err_from_is_err_and c.from_residual-in_err-type_-in-Case.result c.from_residual-in_err-type_-in-Case.ensures.1 in
    let a = view_around c.args.around in
    let s = c.args.scope.now in
    let sw = c.args.switched in
    let elsewhere = typed_statement a s (tree c.args.statement.now) in
    let value = tree_of c.deref-in-Case.result.now in
    let body = tree c.in-Case.body.value in
    let whole = typed_front a true s (case_of c.in-Case.line value body) elsewhere in
    let shape : whole ≡ typed_front a sw s (tree c.args.statement.now) elsewhere = ap (λ (x : Expr). typed_front a true s (case_of c.in-Case.line (tree_of x) body) elsewhere) c.deref-in-Case.ensures ∙ ap (λ (x : Stmt). typed_front a true s (tree x) elsewhere) (sym c.in-Case.is) ∙ ap (λ (b : Bool). typed_front a b s (tree c.args.statement.now) elsewhere) (sym c.if-not-switched.false) in
    let x = view_operand c.in_ok-value-in-Case.value in
    let v = c.typed_front-in-Case.new.scope in
    let made = c.typed_front-in-Case.new.items.items in
    let pushed = c.push-in-Case.new.self.items in
    let inner = front_as a sw s c.deref-in-Case-2.result.now c.in-Case.body.value c.deref-in-Case-2.ensures ∙ ap (λ (b : Bool). typed_front a b s body (typed_statement a s body)) c.if-not-switched.false in
    let h = subst (λ (r : TypedFront). Fronts (Ok tt) v pushed made r) inner c.in_ok-typed_front-in-Case.ensures.front in
    let e = c.in_err-type_-in-Case.field-0.0 in
    fault_front c.from_residual-in_err-type_-in-Case.result p.0 e c.add_case.new.scope c.args.items.now.items made _ p.1 p.2
    (fails_along e whole _ shape (case_front_fails a s c.in-Case.line value body elsewhere e x v pushed made c.in_ok-value-in-Case.ensures.gives h c.in_err-type_-in-Case.ensures))

pub typed_front-index_mut-requires : goal.typed_front-index_mut-requires
typed_front-index_mut-requires t c =
    let made = c.typed_front-in-Case.new.items in
    let f = c.in_ok-typed_front-in-Case.ensures.front in
    let within = place_within c.args.items.now.items c.push-in-Case.new.self.items made.items (codes.Default c.in-Case.line) f.0 c.in_ok-push-in-Case.ensures.items f.2 in
    omega (arith, within, c.len-place.ensures, made.ok.0, c.args.items.now.ok.0)

pub typed_front-returns-in_ok-type_-in-Case-clause-front : goal.typed_front-returns-in_ok-type_-in-Case-clause-front
typed_front-returns-in_ok-type_-in-Case-clause-front t c =
    let a = view_around c.args.around in
    let s = c.args.scope.now in
    let sw = c.args.switched in
    let elsewhere = typed_statement a s (tree c.args.statement.now) in
    let value = tree_of c.deref-in-Case.result.now in
    let body = tree c.in-Case.body.value in
    let whole = typed_front a true s (case_of c.in-Case.line value body) elsewhere in
    let shape : whole ≡ typed_front a sw s (tree c.args.statement.now) elsewhere = ap (λ (x : Expr). typed_front a true s (case_of c.in-Case.line (tree_of x) body) elsewhere) c.deref-in-Case.ensures ∙ ap (λ (x : Stmt). typed_front a true s (tree x) elsewhere) (sym c.in-Case.is) ∙ ap (λ (b : Bool). typed_front a b s (tree c.args.statement.now) elsewhere) (sym c.if-not-switched.false) in
    let x = view_operand c.in_ok-value-in-Case.value in
    let v = c.typed_front-in-Case.new.scope in
    let made = c.typed_front-in-Case.new.items.items in
    let pushed = c.push-in-Case.new.self.items in
    let inner = front_as a sw s c.deref-in-Case-2.result.now c.in-Case.body.value c.deref-in-Case-2.ensures ∙ ap (λ (b : Bool). typed_front a b s body (typed_statement a s body)) c.if-not-switched.false in
    let h = subst (λ (r : TypedFront). Fronts (Ok tt) v pushed made r) inner c.in_ok-typed_front-in-Case.ensures.front in
    let k : IntegerType × ℕ = (c.in_ok-type_-in-Case.type_, c.in_ok-type_-in-Case.bits) in
    let now = set made c.len-place.result (codes.Case c.in-Case.line k.0 k.1) in
    let u = c.add_case.new.scope in
    subst (λ (r : TypedFront). Fronts (Ok tt) u c.args.items.now.items now r) shape
    (case_front a s c.in-Case.line value body elsewhere x v u c.args.items.now.items pushed made now k c.len-place.result c.in_ok-value-in-Case.ensures.gives c.in_ok-push-in-Case.ensures.items
    (c.len-place.ensures ∙ c.args.items.now.ok.0) h c.in_ok-type_-in-Case.ensures refl)

pub typed_front-returns-in_err-typed_front-in-Default-clause-front : goal.typed_front-returns-in_err-typed_front-in-Default-clause-front
typed_front-returns-in_err-typed_front-in-Default-clause-front t c =
    let p = err_from_is_err_and c.from_residual-in_err-typed_front-in-Default.result c.from_residual-in_err-typed_front-in-Default.ensures.1 in
    let a = view_around c.args.around in
    let s = c.args.scope.now in
    let sw = c.args.switched in
    let elsewhere = typed_statement a s (tree c.args.statement.now) in
    let body = tree c.in-Default.body.value in
    let whole = typed_front a true s (default_of c.in-Default.line body) elsewhere in
    let shape : whole ≡ typed_front a sw s (tree c.args.statement.now) elsewhere = ap (λ (x : Stmt). typed_front a true s (tree x) elsewhere) (sym c.in-Default.is) ∙ ap (λ (b : Bool). typed_front a b s (tree c.args.statement.now) elsewhere) (sym c.if-not-switched-2.false) in
    let v = c.typed_front-in-Default.new.scope in
    let made = c.typed_front-in-Default.new.items.items in
    let pushed = c.push-in-Default.new.self.items in
    let inner = front_as a sw s c.deref-in-Default.result.now c.in-Default.body.value c.deref-in-Default.ensures ∙ ap (λ (b : Bool). typed_front a b s body (typed_statement a s body)) c.if-not-switched-2.false in
    let e = c.in_err-typed_front-in-Default.field-0.0 in
    fault_front c.from_residual-in_err-typed_front-in-Default.result p.0 e v c.args.items.now.items made _ p.1 p.2
    (fails_along e whole _ shape (default_body_fails a s c.in-Default.line body elsewhere e (fails_along e _ _ inner c.in_err-typed_front-in-Default.ensures.front)))

pub typed_front-returns-in_ok-typed_front-in-Default-clause-front : goal.typed_front-returns-in_ok-typed_front-in-Default-clause-front
typed_front-returns-in_ok-typed_front-in-Default-clause-front t c =
    let a = view_around c.args.around in
    let s = c.args.scope.now in
    let sw = c.args.switched in
    let elsewhere = typed_statement a s (tree c.args.statement.now) in
    let body = tree c.in-Default.body.value in
    let whole = typed_front a true s (default_of c.in-Default.line body) elsewhere in
    let shape : whole ≡ typed_front a sw s (tree c.args.statement.now) elsewhere = ap (λ (x : Stmt). typed_front a true s (tree x) elsewhere) (sym c.in-Default.is) ∙ ap (λ (b : Bool). typed_front a b s (tree c.args.statement.now) elsewhere) (sym c.if-not-switched-2.false) in
    let v = c.typed_front-in-Default.new.scope in
    let made = c.typed_front-in-Default.new.items.items in
    let pushed = c.push-in-Default.new.self.items in
    let inner = front_as a sw s c.deref-in-Default.result.now c.in-Default.body.value c.deref-in-Default.ensures ∙ ap (λ (b : Bool). typed_front a b s body (typed_statement a s body)) c.if-not-switched-2.false in
    let h = subst (λ (r : TypedFront). Fronts (Ok tt) v pushed made r) inner c.in_ok-typed_front-in-Default.ensures.front in
    let u = c.add_default.new.scope in
    subst (λ (r : TypedFront). Fronts c.add_default.result u c.args.items.now.items made r) shape
    (default_front a s c.in-Default.line body elsewhere v u c.args.items.now.items pushed made c.add_default.result c.in_ok-push-in-Default.ensures.items h c.add_default.ensures)

pub typed_front-returns-then-not-switched-clause-front : goal.typed_front-returns-then-not-switched-clause-front
typed_front-returns-then-not-switched-clause-front t c =
    let a = view_around c.args.around in
    let s = c.args.scope.now in
    let sw = c.args.switched in
    let elsewhere = typed_statement a s (tree c.args.statement.now) in
    let shape : alone elsewhere ≡ typed_front a sw s (tree c.args.statement.now) elsewhere = ap (λ (x : Stmt). typed_front a false s (tree x) elsewhere) (sym c.in-Case.is) ∙ ap (λ (b : Bool). typed_front a b s (tree c.args.statement.now) elsewhere) (sym c.if-not-switched.true) in
    subst (λ (r : TypedFront). Fronts c.add_statement.result c.add_statement.new.scope c.args.items.now.items c.add_statement.new.items.items r) shape c.add_statement.ensures.front

pub typed_front-returns-then-not-switched-2-clause-front : goal.typed_front-returns-then-not-switched-2-clause-front
typed_front-returns-then-not-switched-2-clause-front t c =
    let a = view_around c.args.around in
    let s = c.args.scope.now in
    let sw = c.args.switched in
    let elsewhere = typed_statement a s (tree c.args.statement.now) in
    let shape : alone elsewhere ≡ typed_front a sw s (tree c.args.statement.now) elsewhere = ap (λ (x : Stmt). typed_front a false s (tree x) elsewhere) (sym c.in-Default.is) ∙ ap (λ (b : Bool). typed_front a b s (tree c.args.statement.now) elsewhere) (sym c.if-not-switched-2.true) in
    subst (λ (r : TypedFront). Fronts c.add_statement-then-not-switched-2.result c.add_statement-then-not-switched-2.new.scope c.args.items.now.items c.add_statement-then-not-switched-2.new.items.items r) shape c.add_statement-then-not-switched-2.ensures.front

pub typed_front-returns-in_default : goal.typed_front-returns-in_default
typed_front-returns-in_default t c =
    let a = view_around c.args.around in
    let s = c.args.scope.now in
    let sw = c.args.switched in
    let elsewhere = typed_statement a s (tree c.args.statement.now) in
    let other = front_not c.args.statement.now c.in_default.not-Label c.in_default.not-Case c.in_default.not-Default in
    record {
      front = subst (λ (r : TypedFront). Fronts c.add_statement-in_default.result c.add_statement-in_default.new.scope c.args.items.now.items c.add_statement-in_default.new.items.items r)
          (sym (front_else a sw s c.args.statement.now elsewhere other)) c.add_statement-in_default.ensures.front;
      names = c.add_statement-in_default.ensures.names;
    }

pub add_statement-returns-in_err-statement-clause-front : goal.add_statement-returns-in_err-statement-clause-front
add_statement-returns-in_err-statement-clause-front t c =
    let p = err_from_is_err_and c.from_residual.result c.from_residual.ensures.1 in
    let a = view_around c.args.around in
    let s = c.args.scope.now in
    let statement = typed_statement a s (tree c.args.statement.now) in
    let e = c.in_err-statement.field-0.0 in
    fault_front c.from_residual.result p.0 e c.typed_statement.new.scope c.args.items.now.items c.args.items.now.items _ p.1 p.2
    (fails_bind e statement _ c.in_err-statement.ensures.gives)

pub add_statement-returns-clause-front : goal.add_statement-returns-clause-front
add_statement-returns-clause-front t c =
    alone_front c.args.scope.now c.typed_statement.new.scope c.args.items.now.items c.push.new.self.items c.in_ok-statement.statement (typed_statement (view_around c.args.around) c.args.scope.now (tree c.args.statement.now)) c.in_ok-statement.ensures.gives c.in_ok-push.ensures.items
