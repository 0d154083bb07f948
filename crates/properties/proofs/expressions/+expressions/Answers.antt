use Rattle.std.proofs.Common.{List, ap, ◌∙◌, arith, sym}
use Rattle.c_tree.specs.declared.expr.Expr.{Expr}
use Rattle.c_tree.specs.declared.expr.TypeName.{TypeName}
use Rattle.c_tree.specs.declared.expr.Declarator.{Declarator}
use Rattle.c_tree.specs.declared.expr.DeclaratorCore.{DeclaratorCore}
use Rattle.c_tree.specs.declared.expr.ArraySuffix.{ArraySuffix}
use Rattle.c_tree.specs.Tree.{no_suffix, view, views_of, view_core, view_declarator, view_suffix, suffixes_of, depth, depth_of, declared_depth, suffixes_depth}
use Rattle.c_tree.proofs.Views.{view_call, view_cast, view_sizeof_type, view_inside, depth_within, suffix_within, behind_least}
use Rattle.properties.proofs.Behind.{by_expr, exprs_in_turn, by_suffix, suffixes_in_turn, one_more, at_end}
use Rattle.properties.proofs.Arms.{call_arm, cast_arm, sizeof_arm, inside_arm, behind_declared}
use Rattle.properties.proofs.expressions.+expressions.Goals as goal

pub push_expression-push_arguments-requires : goal.push_expression-push_arguments-requires
push_expression-push_arguments-requires t c =
    let e = ap (λ (e : Expr). depth (view e)) c.in-Call.is ∙ ap depth (view_call c.in-Call.function c.in-Call.arguments) in
    let same = ap (λ (es : List Expr). depth_of (views_of es)) c.deref-in-Call-3.ensures.value in
    omega (arith, e, same)

pub push_arguments-push_expression-requires : goal.push_arguments-push_expression-requires
push_arguments-push_expression-requires t c =
    let below = depth_within c.args.exprs.now c.loop-expr.expr-index c.expr-item.result (omega arith) in
    let e = ap (λ (e : Expr). depth (view e)) c.expr-item.is in
    omega (arith, below, e)

pub push_expression-push_declarator-requires : goal.push_expression-push_declarator-requires
push_expression-push_declarator-requires t c =
    let e = ap (λ (e : Expr). depth (view e)) c.in-Cast.is ∙ ap depth (view_cast c.in-Cast.line c.in-Cast.type_name c.in-Cast.operand) in
    let one = ap (λ (t : TypeName). declared_depth (view_declarator t.declarator)) c.deref-in-Cast.ensures in
    omega (arith, e, one)

pub push_expression-push_declarator-requires-in-SizeofType : goal.push_expression-push_declarator-requires-in-SizeofType
push_expression-push_declarator-requires-in-SizeofType t c =
    let e = ap (λ (e : Expr). depth (view e)) c.in-SizeofType.is ∙ ap depth (view_sizeof_type c.in-SizeofType.line c.in-SizeofType.type_name) in
    let one = ap (λ (t : TypeName). declared_depth (view_declarator t.declarator)) c.deref-in-SizeofType.ensures in
    omega (arith, e, one)

pub push_direct-push_declarator-requires : goal.push_direct-push_declarator-requires
push_direct-push_declarator-requires t c =
    let suffixes = suffixes_of c.args.declarator.now.suffixes.items in
    let e = ap (λ (core : DeclaratorCore). declared_depth (view_core core suffixes)) c.in-Inside.is ∙ ap declared_depth (view_inside c.in-Inside.line c.in-Inside.inner suffixes) in
    let one = ap (λ (d : Declarator). declared_depth (view_declarator d)) c.deref-in-Inside.ensures in
    omega (arith, e, one)

pub push_declarator-push_direct-requires : goal.push_declarator-push_direct-requires
push_declarator-push_direct-requires t c =
    let least = behind_least c.args.declarator.now.pointers.items (view_core c.args.declarator.now.core (suffixes_of c.args.declarator.now.suffixes.items)) in
    omega (arith, least)

pub push_declarator-returns : goal.push_declarator-returns
push_declarator-returns t c =
    c.in_ok-push_direct.ensures ∙ sym (behind_declared c.args.spots.now.items c.args.declarator.now.pointers.items (view_core c.args.declarator.now.core (suffixes_of c.args.declarator.now.suffixes.items)))

pub push_suffixes-push_suffix-requires : goal.push_suffixes-push_suffix-requires
push_suffixes-push_suffix-requires t c =
    let below = suffix_within c.args.suffixes.now c.loop-suffix.suffix-index c.suffix-item.result (omega arith) in
    let e = ap (λ (s : ArraySuffix). suffixes_depth (view_suffix s no_suffix)) c.suffix-item.is in
    omega (arith, below, e)

pub push_arguments-loop-expr-preserved : goal.push_arguments-loop-expr-preserved
push_arguments-loop-expr-preserved t c =
    one_more by_expr _ _ _ c.args.exprs.now c.loop-expr.expr-index c.expr-item.result (omega arith) c.loop-expr.invariant c.expr-item.is c.in_ok-push_expression.ensures

pub push_arguments-returns : goal.push_arguments-returns
push_arguments-returns t c = at_end by_expr _ _ _ c.args.exprs.now c.loop-expr.expr-index c.loop-expr-test.false c.loop-expr.invariant (exprs_in_turn _ c.args.exprs.now)

pub push_suffixes-loop-suffix-preserved : goal.push_suffixes-loop-suffix-preserved
push_suffixes-loop-suffix-preserved t c =
    one_more by_suffix _ _ _ c.args.suffixes.now c.loop-suffix.suffix-index c.suffix-item.result (omega arith) c.loop-suffix.invariant c.suffix-item.is c.in_ok-push_suffix.ensures

pub push_suffixes-returns : goal.push_suffixes-returns
push_suffixes-returns t c = at_end by_suffix _ _ _ c.args.suffixes.now c.loop-suffix.suffix-index c.loop-suffix-test.false c.loop-suffix.invariant (suffixes_in_turn _ c.args.suffixes.now)

pub push_expression-returns-in_ok-push_arguments-in-Call : goal.push_expression-returns-in_ok-push_arguments-in-Call
push_expression-returns-in_ok-push_arguments-in-Call t c =
    call_arm _ _ _ _ c.in-Call.function c.in-Call.arguments c.args.expr.now _ _ _ c.in-Call.is c.in_ok-push_called-in-Call.ensures c.deref-in-Call.ensures
    c.in_ok-push_expression-in-Call.ensures c.deref-in-Call-2.ensures c.in_ok-push_arguments-in-Call.ensures c.deref-in-Call-3.ensures.value

pub push_expression-returns-in_ok-push_expression-in-Cast : goal.push_expression-returns-in_ok-push_expression-in-Cast
push_expression-returns-in_ok-push_expression-in-Cast t c =
    cast_arm _ _ _ c.in-Cast.line c.in-Cast.type_name c.in-Cast.operand c.args.expr.now _ _ c.in-Cast.is c.in_ok-push_declarator-in-Cast.ensures c.deref-in-Cast.ensures
    c.in_ok-push_expression-in-Cast.ensures c.deref-in-Cast-2.ensures

pub push_expression-returns-in_ok-push_declarator-in-SizeofType : goal.push_expression-returns-in_ok-push_declarator-in-SizeofType
push_expression-returns-in_ok-push_declarator-in-SizeofType t c =
    sizeof_arm _ _ c.in-SizeofType.line c.in-SizeofType.type_name c.args.expr.now _ c.in-SizeofType.is c.in_ok-push_declarator-in-SizeofType.ensures c.deref-in-SizeofType.ensures

pub push_direct-returns-in_ok-push_suffixes-in-Inside : goal.push_direct-returns-in_ok-push_suffixes-in-Inside
push_direct-returns-in_ok-push_suffixes-in-Inside t c =
    inside_arm _ _ _ c.in-Inside.line c.in-Inside.inner c.args.declarator.now _ _ c.in-Inside.is c.in_ok-push_declarator-in-Inside.ensures c.deref-in-Inside.ensures
    c.in_ok-push_suffixes-in-Inside.ensures c.deref-in-Inside-2.ensures.value
