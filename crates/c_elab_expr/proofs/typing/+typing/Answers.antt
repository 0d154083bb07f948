use Rattle.std.proofs.Common.{false, true, ◌≡◌, ◌+◌, ℕ, Bool, Option, List, [], ◌∷◌, ◌++◌, drop, map, Result, Ok, Err, ap, sym, subst, refl, ◌∙◌, arith}
use Rattle.std.proofs.lemmas.List.{map-append, append-nil, drop_all}
use Rattle.std.proofs.lemmas.Result.{err_from_is_err_and}
use Rattle.c_tree.specs.declared.expr.Expr.{Expr}
use Rattle.c_tree.specs.Tree.{Tree, Trees, first_line, behind_pointers}
use Rattle.c_tree.specs.Tree.{view as tree, views_of as trees}
use Rattle.c_tree.specs.declared.expr.TypeName.{TypeName}
use Rattle.c_tree.specs.declared.expr.Declarator.{Declarator}
use Rattle.c_tree.specs.declared.expr.DeclaratorCore.{DeclaratorCore}
use Rattle.c_tree.specs.declared.expr.ArraySuffix.{ArraySuffix}
use Rattle.c_tree.specs.Tree.{Declared, inside, view_type_part, view_core, view_declarator, view_suffix, no_suffix, suffixes_of, depth, depth_of, declared_depth, suffixes_depth}
use Rattle.c_tree.proofs.Views.{view_call, view_cast, view_sizeof_type, view_inside, depth_within, suffix_within, behind_least}
use Rattle.c_types.specs.Types.{Records}
use Rattle.c_types.specs.Types.{view as type_view}
use Rattle.c_operands.specs.declared.operands.CoreOperand.{CoreOperand}
use Rattle.c_operands.specs.Operands.{Operand, view_operand, cast_operand, binary_operand, choice_operand, assign_operand}
use Rattle.c_scope.specs.Scopes.{Scoped}
use Rattle.c_scope.specs.Faults.{Fault, Gives, ◌>>=◌}
use Rattle.c_elab_expr.specs.Typing.{Adds, node_on, node_on_both, comma_of, size_of_named, call_of, is_wanted, callee, typed, typed_arguments, operand_in, lengths, suffix_lengths, behind, RefusesFirst}
use Rattle.c_elab_expr.proofs.Arguments.{fails_on, front, argument_fails, argument_typed, call_typed}
use Rattle.c_elab_expr.proofs.Parts.{suffix_more, suffix_fails, inside_adds, lengths_refused}
use Rattle.c_elab_expr.proofs.Casts.{named_type, cast_name_fails, cast_typed}
use Rattle.c_tree.specs.declared.expr.PointerMark.{PointerMark}
use Rattle.c_elab_expr.proofs.typing.+typing.Goals as goal

pub typed_arguments-returns-in_err-argument : goal.typed_arguments-returns-in_err-argument
typed_arguments-returns-in_err-argument t c =
    let p = err_from_is_err_and c.from_residual.result c.from_residual.ensures.1 in
    let scope = c.args.scope.now in
    let es = c.args.exprs.now in
    rw (p.1, p.2) (fails_on c.in_err-argument.field-0.0 (operand_in scope c.args.measured true (tree c.expr-item.result)) (typed_arguments scope c.args.measured (trees es))
    (λ f bad. argument_fails scope c.args.measured es c.loop-expr.expr-index c.expr-item.result (map view_operand c.loop-expr.arguments.items) (typed_arguments scope c.args.measured (trees es)) f (omega arith) c.expr-item.is c.loop-expr.invariant bad)
    c.in_err-argument.ensures)

pub typed_arguments-loop-expr-preserved : goal.typed_arguments-loop-expr-preserved
typed_arguments-loop-expr-preserved t c =
    let scope = c.args.scope.now in
    let es = c.args.exprs.now in
    let before = c.loop-expr.arguments.items in
    let argument = c.in_ok-argument.argument in
    let items : map view_operand c.push.new.self.items ≡ map view_operand before ++ view_operand argument ∷ [] =
    ap (λ (xs : List CoreOperand). map view_operand xs) c.in_ok-push.ensures.items ∙ map-append view_operand before (argument ∷ []) in
    ap (λ (xs : List Operand). front xs (typed_arguments scope c.args.measured (trees (drop (c.loop-expr.expr-index + 1) es)))) items
    ∙ argument_typed scope c.args.measured es c.loop-expr.expr-index c.expr-item.result (map view_operand before) (typed_arguments scope c.args.measured (trees es)) (view_operand argument) (omega arith) c.expr-item.is c.loop-expr.invariant c.in_ok-argument.ensures

front_none : (scope : Scoped) (m : Bool) (es : List Expr) → front [] (typed_arguments scope m (trees es)) ≡ typed_arguments scope m (trees es)
front_none scope m es = by_result (typed_arguments scope m (trees es)) where
  by_result : (r : Result (List Operand) Fault) → front [] r ≡ r
  by_result (Ok xs) = refl
  by_result (Err f) = refl

pub typed_arguments-loop-expr-init : goal.typed_arguments-loop-expr-init
typed_arguments-loop-expr-init t c =
    let scope = c.args.scope.now in
    let es = c.args.exprs.now in
    ap (λ (xs : List CoreOperand). front (map view_operand xs) (typed_arguments scope c.args.measured (trees es))) c.new-arguments.ensures.items ∙ front_none scope c.args.measured es

pub typed_arguments-returns : goal.typed_arguments-returns
typed_arguments-returns t c =
    let scope = c.args.scope.now in
    let xs = map view_operand c.loop-expr.arguments.items in
    let none : drop c.loop-expr.expr-index c.args.exprs.now ≡ [] = drop_all c.loop-expr.expr-index c.args.exprs.now (omega arith) in
    sym c.loop-expr.invariant ∙ ap (λ (es : List Expr). front xs (typed_arguments scope c.args.measured (trees es))) none ∙ ap Ok (append-nil xs)

pub typed_expr-returns-in_ok-callee-in-Call : goal.typed_expr-returns-in_ok-callee-in-Call
typed_expr-returns-in_ok-callee-in-Call t c =
    let scope = c.args.scope.now in
    let w = c.args.wanted in
    let f = tree c.in-Call.function.value in
    let args = trees c.in-Call.arguments.items in
    let shape = ap tree c.in-Call.is ∙ view_call c.in-Call.function c.in-Call.arguments in
    let same_f = ap tree c.deref-in-Call.ensures in
    let same_args = ap trees c.deref-in-Call-2.ensures.value in
    let m = c.in_ok-callee-in-Call.callee in
    let typing = typed_arguments scope c.args.measured (trees c.deref-in-Call-2.result.now) in
    let means : callee scope f (operand_in scope c.args.measured true f) ≡ Ok m = ap (λ (x : Tree). callee scope x (operand_in scope c.args.measured true x)) (sym same_f) ∙ c.in_ok-callee-in-Call.ensures in
    let same : call_of scope (tree c.deref-in-Call-3.result.now) w m typing ≡ typed scope c.args.measured w (tree c.args.expr.now) =
    ap (λ (e : Expr). call_of scope (tree e) w m typing) c.deref-in-Call-3.ensures
    ∙ ap (λ (xs : Trees). call_of scope f w m (typed_arguments scope c.args.measured xs)) same_args
    ∙ sym (ap (typed scope c.args.measured w) shape ∙ call_typed scope f args c.args.measured w m means) in
    subst (λ (r : Result Operand Fault). Gives view_operand c.call_at.result r) same (c.call_at.ensures typing c.typed_arguments-arguments.ensures)

-- ---- measures

pub typed_arguments-used_expr-requires : goal.typed_arguments-used_expr-requires
typed_arguments-used_expr-requires t c =
    let below = depth_within c.args.exprs.now c.loop-expr.expr-index c.expr-item.result (omega arith) in
    let e = ap (λ (e : Expr). depth (tree e)) c.expr-item.is in
    (omega (arith, below, e), tt)

pub typed_expr-typed_arguments-arguments-requires : goal.typed_expr-typed_arguments-arguments-requires
typed_expr-typed_arguments-arguments-requires t c =
    let e = ap (λ (e : Expr). depth (tree e)) c.in-Call.is ∙ ap depth (view_call c.in-Call.function c.in-Call.arguments) in
    let same = ap (λ (es : List Expr). depth_of (trees es)) c.deref-in-Call-2.ensures.value in
    (omega (arith, e, same), tt)

pub typed_expr-type_named-requires : goal.typed_expr-type_named-requires
typed_expr-type_named-requires t c =
    let e = ap (λ (e : Expr). depth (tree e)) c.in-Cast.is ∙ ap depth (view_cast c.in-Cast.line c.in-Cast.type_name c.in-Cast.operand) in
    let one = ap (λ (n : TypeName). declared_depth (view_declarator n.declarator)) c.deref-in-Cast.ensures in
    (omega (arith, e, one), tt)

pub typed_expr-type_named-requires-in-SizeofType : goal.typed_expr-type_named-requires-in-SizeofType
typed_expr-type_named-requires-in-SizeofType t c =
    let e = ap (λ (e : Expr). depth (tree e)) c.in-SizeofType.is ∙ ap depth (view_sizeof_type c.in-SizeofType.line c.in-SizeofType.type_name) in
    let one = ap (λ (n : TypeName). declared_depth (view_declarator n.declarator)) c.deref-in-SizeofType.ensures in
    (omega (arith, e, one), tt)

pub add_direct_lengths-add_lengths-requires : goal.add_direct_lengths-add_lengths-requires
add_direct_lengths-add_lengths-requires t c =
    let suffixes = suffixes_of c.args.declarator.now.suffixes.items in
    let e = ap (λ (core : DeclaratorCore). declared_depth (view_core core suffixes)) c.in-Inside.is ∙ ap declared_depth (view_inside c.in-Inside.line c.in-Inside.inner suffixes) in
    let one = ap (λ (d : Declarator). declared_depth (view_declarator d)) c.deref-in-Inside.ensures in
    (omega (arith, e, one), tt)

pub add_suffixes-add_suffix-requires : goal.add_suffixes-add_suffix-requires
add_suffixes-add_suffix-requires t c =
    let below = suffix_within c.args.suffixes.now c.loop-suffix.suffix-index c.suffix-item.result (omega arith) in
    let e = ap (λ (s : ArraySuffix). suffixes_depth (view_suffix s no_suffix)) c.suffix-item.is in
    (omega (arith, below, e), tt)

-- ---- lengths

pub add_suffixes-returns-in_err-add_suffix : goal.add_suffixes-returns-in_err-add_suffix
add_suffixes-returns-in_err-add_suffix t c =
    let p = err_from_is_err_and c.from_residual.result c.from_residual.ensures.1 in
    let s = c.args.scope.now in
    let xs = c.args.suffixes.now in
    let x = c.suffix-item.result in
    rw (p.1, p.2) (fails_on c.in_err-add_suffix.field-0.0 (suffix_lengths s c.args.measured (view_suffix x no_suffix)) (suffix_lengths s c.args.measured (suffixes_of xs))
    (λ f bad. suffix_fails s c.args.measured xs c.loop-suffix.suffix-index x c.loop-suffix.found.items c.args.found.now.items (suffix_lengths s c.args.measured (suffixes_of xs)) f (omega arith) c.suffix-item.is c.loop-suffix.invariant bad)
    c.in_err-add_suffix.ensures)

pub add_suffixes-loop-suffix-preserved : goal.add_suffixes-loop-suffix-preserved
add_suffixes-loop-suffix-preserved t c =
    let s = c.args.scope.now in
    let xs = c.args.suffixes.now in
    suffix_more s c.args.measured xs c.loop-suffix.suffix-index c.suffix-item.result c.loop-suffix.found.items c.add_suffix.new.found.items (behind c.args.found.now.items (suffix_lengths s c.args.measured (suffixes_of xs)))
    (omega arith) c.suffix-item.is c.loop-suffix.invariant c.in_ok-add_suffix.ensures

pub add_direct_lengths-returns-in_err-add_lengths-in-Inside : goal.add_direct_lengths-returns-in_err-add_lengths-in-Inside
add_direct_lengths-returns-in_err-add_lengths-in-Inside t c =
    let p = err_from_is_err_and c.from_residual.result c.from_residual.ensures.1 in
    let s = c.args.scope.now in
    let suffixes = suffixes_of c.args.declarator.now.suffixes.items in
    let shape : view_core c.args.declarator.now.core suffixes ≡ inside c.in-Inside.line (view_declarator c.in-Inside.inner.value) suffixes =
    ap (λ (core : DeclaratorCore). view_core core suffixes) c.in-Inside.is ∙ view_inside c.in-Inside.line c.in-Inside.inner suffixes in
    let same = ap (λ (d : Declarator). lengths s c.args.measured (view_declarator d)) c.deref-in-Inside.ensures in
    rw (p.1, p.2) (fails_on c.in_err-add_lengths-in-Inside.field-0.0 (lengths s c.args.measured (view_declarator c.deref-in-Inside.result.now)) (lengths s c.args.measured (view_core c.args.declarator.now.core suffixes))
    (λ f bad. ap (λ (d : Declared). lengths s c.args.measured d) shape ∙ ap (λ (r : Result (List (Option ℕ)) Fault). r >>= λ ms. suffix_lengths s c.args.measured suffixes >>= λ ns. Ok (ms ++ ns)) (sym same ∙ bad))
    c.in_err-add_lengths-in-Inside.ensures)

pub add_direct_lengths-returns-in_ok-add_lengths-in-Inside : goal.add_direct_lengths-returns-in_ok-add_lengths-in-Inside
add_direct_lengths-returns-in_ok-add_lengths-in-Inside t c =
    let s = c.args.scope.now in
    let before = c.args.found.now.items in
    let middle = c.add_lengths.new.found.items in
    let now = c.add_suffixes-in-Inside.new.found.items in
    let suffixes = suffixes_of c.args.declarator.now.suffixes.items in
    let shape : view_core c.args.declarator.now.core suffixes ≡ inside c.in-Inside.line (view_declarator c.in-Inside.inner.value) suffixes =
    ap (λ (core : DeclaratorCore). view_core core suffixes) c.in-Inside.is ∙ view_inside c.in-Inside.line c.in-Inside.inner suffixes in
    let same = ap (λ (d : Declarator). lengths s c.args.measured (view_declarator d)) c.deref-in-Inside.ensures in
    let others = ap (λ (xs : List ArraySuffix). suffix_lengths s c.args.measured (suffixes_of xs)) c.deref-in-Inside-2.ensures.value in
    let first : behind before (lengths s c.args.measured (view_declarator c.in-Inside.inner.value)) ≡ Ok middle = ap (behind before) (sym same) ∙ c.in_ok-add_lengths-in-Inside.ensures in
    let second = subst (λ (r : Result (List (Option ℕ)) Fault). Adds c.add_suffixes-in-Inside.result middle now r) others c.add_suffixes-in-Inside.ensures in
    subst (λ (r : Result (List (Option ℕ)) Fault). Adds c.add_suffixes-in-Inside.result before now r) (sym (ap (λ (d : Declared). lengths s c.args.measured d) shape))
    (inside_adds c.add_suffixes-in-Inside.result before middle now (lengths s c.args.measured (view_declarator c.in-Inside.inner.value)) (suffix_lengths s c.args.measured suffixes) first second)

pub add_lengths-add_direct_lengths-requires : goal.add_lengths-add_direct_lengths-requires
add_lengths-add_direct_lengths-requires t c =
    let least = behind_least c.args.declarator.now.pointers.items (view_core c.args.declarator.now.core (suffixes_of c.args.declarator.now.suffixes.items)) in
    (omega (arith, least), tt)

pub add_lengths-returns-in_err-no_pointers : goal.add_lengths-returns-in_err-no_pointers
add_lengths-returns-in_err-no_pointers t c =
    let p = err_from_is_err_and c.from_residual.result c.from_residual.ensures.1 in
    let first = subst (λ (ps : List PointerMark). RefusesFirst c.in_err-no_pointers.field-0.0 ps) c.deref.ensures.value c.in_err-no_pointers.ensures.first in
    rw (p.1, p.2) (lengths_refused c.in_err-no_pointers.field-0.0 c.args.scope.now c.args.measured c.args.declarator.now.pointers.items (view_core c.args.declarator.now.core (suffixes_of c.args.declarator.now.suffixes.items)) first)

pub add_lengths-returns : goal.add_lengths-returns
add_lengths-returns t c =
    let d = view_core c.args.declarator.now.core (suffixes_of c.args.declarator.now.suffixes.items) in
    let none = sym c.deref.ensures.value ∙ c.in_ok-no_pointers.ensures.none in
    subst (λ (ps : List PointerMark). Adds c.add_direct_lengths.result c.args.found.now.items c.add_direct_lengths.new.found.items (lengths c.args.scope.now c.args.measured (behind_pointers ps d))) (sym none) c.add_direct_lengths.ensures

-- ---- type names

pub typed_expr-returns-in_err-type_-in-Cast : goal.typed_expr-returns-in_err-type_-in-Cast
typed_expr-returns-in_err-type_-in-Cast t c =
    let p = err_from_is_err_and c.from_residual.result c.from_residual.ensures.1 in
    let s = c.args.scope.now in
    let name = c.in-Cast.type_name.value in
    let shape = ap tree c.in-Cast.is ∙ view_cast c.in-Cast.line c.in-Cast.type_name c.in-Cast.operand in
    let same = ap (named_type s c.args.measured) c.deref-in-Cast.ensures in
    rw (p.1, p.2) (fails_on c.in_err-type_-in-Cast.field-0.0 (named_type s c.args.measured c.deref-in-Cast.result.now) (typed s c.args.measured c.args.wanted (tree c.args.expr.now))
    (λ f bad. ap (typed s c.args.measured c.args.wanted) shape ∙ cast_name_fails s c.args.measured c.args.wanted c.in-Cast.line (map view_type_part name.specifiers.items) (view_declarator name.declarator) (tree c.in-Cast.operand.value) f (sym same ∙ bad))
    c.in_err-type_-in-Cast.ensures)

pub typed_expr-returns-in_ok-type_-in-Cast : goal.typed_expr-returns-in_ok-type_-in-Cast
typed_expr-returns-in_ok-type_-in-Cast t c =
    let s = c.args.scope.now in
    let line = c.in-Cast.line in
    let name = c.in-Cast.type_name.value in
    let shape = ap tree c.in-Cast.is ∙ view_cast line c.in-Cast.type_name c.in-Cast.operand in
    let same = ap (named_type s c.args.measured) c.deref-in-Cast.ensures in
    let u = type_view c.in_ok-type_-in-Cast.type_ in
    let typing = operand_in s c.args.measured c.is_wanted.result (tree c.deref-in-Cast-2.result.now) in
    let other : typing ≡ operand_in s c.args.measured (is_wanted u) (tree c.in-Cast.operand.value) =
    ap (λ (e : Expr). operand_in s c.args.measured c.is_wanted.result (tree e)) c.deref-in-Cast-2.ensures ∙ ap (λ (w : Bool). operand_in s c.args.measured w (tree c.in-Cast.operand.value)) c.is_wanted.ensures in
    let whole : node_on line (cast_operand c.layouts.result.now.done line u) typing ≡ typed s c.args.measured c.args.wanted (tree c.args.expr.now) =
    ap (λ (r : Records). node_on line (cast_operand r.done line u) typing) c.layouts.ensures
    ∙ ap (node_on line (cast_operand s.records.done line u)) other
    ∙ sym (ap (typed s c.args.measured c.args.wanted) shape
    ∙ cast_typed s c.args.measured c.args.wanted line (map view_type_part name.specifiers.items) (view_declarator name.declarator) (tree c.in-Cast.operand.value) u (sym same ∙ c.in_ok-type_-in-Cast.ensures)) in
    subst (λ (r : Result Operand Fault). Gives view_operand c.cast_at.result r) whole (c.cast_at.ensures typing c.used_by-core.ensures)

pub typed_expr-returns-in-SizeofType : goal.typed_expr-returns-in-SizeofType
typed_expr-returns-in-SizeofType t c =
    let s = c.args.scope.now in
    let line = c.in-SizeofType.line in
    let name = c.in-SizeofType.type_name.value in
    let shape = ap tree c.in-SizeofType.is ∙ view_sizeof_type line c.in-SizeofType.type_name in
    let same = ap (named_type s true) c.deref-in-SizeofType.ensures in
    let typing = named_type s true c.deref-in-SizeofType.result.now in
    let whole : size_of_named line c.layouts-in-SizeofType.result.now.done typing ≡ typed s c.args.measured c.args.wanted (tree c.args.expr.now) =
    ap (λ (r : Records). size_of_named line r.done typing) c.layouts-in-SizeofType.ensures
    ∙ ap (size_of_named line s.records.done) same
    ∙ sym (ap (typed s c.args.measured c.args.wanted) shape) in
    subst (λ (r : Result Operand Fault). Gives view_operand c.size_of_type.result r) whole (c.size_of_type.ensures typing c.type_named-in-SizeofType.ensures)

-- ---- two operands

pub typed_expr-returns-in-Binary : goal.typed_expr-returns-in-Binary
typed_expr-returns-in-Binary t c =
    let s = c.args.scope.now in
    let node = binary_operand c.in-Binary.line c.in-Binary.operator in
    let x = operand_in s c.args.measured true (tree c.deref-in-Binary.result.now) in
    let y = operand_in s c.args.measured true (tree c.deref-in-Binary-2.result.now) in
    let left = c.in-Binary.left.value in
    let whole : node_on_both (first_line (tree c.deref-in-Binary-3.result.now)) node x y ≡ typed s c.args.measured c.args.wanted (tree c.args.expr.now) =
    ap (λ (e : Expr). node_on_both (first_line (tree e)) node x y) c.deref-in-Binary-3.ensures
    ∙ ap (λ (e : Expr). node_on_both (first_line (tree left)) node (operand_in s c.args.measured true (tree e)) y) c.deref-in-Binary.ensures
    ∙ ap (λ (e : Expr). node_on_both (first_line (tree left)) node (operand_in s c.args.measured true (tree left)) (operand_in s c.args.measured true (tree e))) c.deref-in-Binary-2.ensures
    ∙ sym (ap (λ (e : Expr). typed s c.args.measured c.args.wanted (tree e)) c.in-Binary.is) in
    subst (λ (r : Result Operand Fault). Gives view_operand c.binary_at.result r) whole (c.binary_at.ensures x y c.used_both-operands.ensures)

pub typed_expr-returns-in-Assign : goal.typed_expr-returns-in-Assign
typed_expr-returns-in-Assign t c =
    let s = c.args.scope.now in
    let node = assign_operand s c.in-Assign.line c.in-Assign.operator in
    let x = operand_in s c.args.measured true (tree c.deref-in-Assign.result.now) in
    let y = operand_in s c.args.measured true (tree c.deref-in-Assign-2.result.now) in
    let place = c.in-Assign.place.value in
    let whole : node_on_both (first_line (tree c.deref-in-Assign-3.result.now)) node x y ≡ typed s c.args.measured c.args.wanted (tree c.args.expr.now) =
    ap (λ (e : Expr). node_on_both (first_line (tree e)) node x y) c.deref-in-Assign-3.ensures
    ∙ ap (λ (e : Expr). node_on_both (first_line (tree place)) node (operand_in s c.args.measured true (tree e)) y) c.deref-in-Assign.ensures
    ∙ ap (λ (e : Expr). node_on_both (first_line (tree place)) node (operand_in s c.args.measured true (tree place)) (operand_in s c.args.measured true (tree e))) c.deref-in-Assign-2.ensures
    ∙ sym (ap (λ (e : Expr). typed s c.args.measured c.args.wanted (tree e)) c.in-Assign.is) in
    subst (λ (r : Result Operand Fault). Gives view_operand c.assign_at.result r) whole (c.assign_at.ensures x y c.used_both-operands-in-Assign.ensures)

pub typed_expr-returns-in-Comma : goal.typed_expr-returns-in-Comma
typed_expr-returns-in-Comma t c =
    let s = c.args.scope.now in
    let w = c.args.wanted in
    let done = s.records.done in
    let line = c.in-Comma.line in
    let x = operand_in s c.args.measured false (tree c.deref-in-Comma.result.now) in
    let y = operand_in s c.args.measured w (tree c.deref-in-Comma-2.result.now) in
    let left = c.in-Comma.left.value in
    let whole : comma_of done line x y ≡ typed s c.args.measured w (tree c.args.expr.now) =
    ap (λ (e : Expr). comma_of done line (operand_in s c.args.measured false (tree e)) y) c.deref-in-Comma.ensures
    ∙ ap (λ (e : Expr). comma_of done line (operand_in s c.args.measured false (tree left)) (operand_in s c.args.measured w (tree e))) c.deref-in-Comma-2.ensures
    ∙ sym (ap (λ (e : Expr). typed s c.args.measured w (tree e)) c.in-Comma.is) in
    subst (λ (r : Result Operand Fault). Gives view_operand c.comma_at.result r) whole (c.comma_at.ensures x y c.used_both-operands-in-Comma.ensures)

pub typed_expr-returns-in_ok-a-in-Choice : goal.typed_expr-returns-in_ok-a-in-Choice
typed_expr-returns-in_ok-a-in-Choice t c =
    let s = c.args.scope.now in
    let w = c.args.wanted in
    let test = c.in-Choice.test.value in
    let yes = c.in-Choice.yes.value in
    let no = c.in-Choice.no.value in
    let line = c.in-Choice.line in
    let a = view_operand c.in_ok-a-in-Choice.a in
    let node = choice_operand s.records.done line a in
    let y = operand_in s c.args.measured w (tree c.deref-in-Choice-2.result.now) in
    let z = operand_in s c.args.measured w (tree c.deref-in-Choice-3.result.now) in
    let tested : operand_in s c.args.measured true (tree test) ≡ Ok a = sym (ap (λ (e : Expr). operand_in s c.args.measured true (tree e)) c.deref-in-Choice.ensures) ∙ c.in_ok-a-in-Choice.ensures in
    let whole : node_on_both (first_line (tree c.deref-in-Choice-4.result.now)) node y z ≡ typed s c.args.measured w (tree c.args.expr.now) =
    ap (λ (e : Expr). node_on_both (first_line (tree e)) node y z) c.deref-in-Choice-4.ensures
    ∙ ap (λ (e : Expr). node_on_both (first_line (tree test)) node (operand_in s c.args.measured w (tree e)) z) c.deref-in-Choice-2.ensures
    ∙ ap (λ (e : Expr). node_on_both (first_line (tree test)) node (operand_in s c.args.measured w (tree yes)) (operand_in s c.args.measured w (tree e))) c.deref-in-Choice-3.ensures
    ∙ sym (ap (λ (e : Expr). typed s c.args.measured w (tree e)) c.in-Choice.is
    ∙ ap (λ (r : Result Operand Fault). r >>= λ x. node_on_both (first_line (tree test)) (choice_operand s.records.done line x) (operand_in s c.args.measured w (tree yes)) (operand_in s c.args.measured w (tree no))) tested) in
    subst (λ (r : Result Operand Fault). Gives view_operand c.choice_at.result r) whole (c.choice_at.ensures y z c.used_both-operands-in-Choice.ensures)
