use Rattle.std.proofs.Common.{◌≡◌, ◌<◌, ℕ, List, ap, ◌∙◌, arith}
use Rattle.c_tree.specs.declared.expr.PointerMark.{PointerMark}
use Rattle.std.proofs.lemmas.List.{take_all}
use Rattle.c_tree.specs.declared.expr.Expr.{Expr}
use Rattle.c_tree.specs.declared.expr.TypeName.{TypeName}
use Rattle.c_tree.specs.declared.expr.Declarator.{Declarator}
use Rattle.c_tree.specs.declared.expr.DeclaratorCore.{DeclaratorCore}
use Rattle.c_tree.specs.declared.expr.ArraySuffix.{ArraySuffix}
use Rattle.c_tree.specs.Tree.{no_suffix, view, views_of, view_core, view_declarator, view_suffix, suffixes_of, pointed, depth, depth_of, declared_depth, suffixes_depth}
use Rattle.c_tree.proofs.Views.{view_call, view_cast, view_sizeof_type, view_inside, depth_within, depth_more, suffix_within, suffix_more, behind_least, behind_levels}
use Rattle.c_tree.proofs.levels.+expressions.Goals as goal

pub expression_depth-arguments_depth-requires : goal.expression_depth-arguments_depth-requires
expression_depth-arguments_depth-requires t c =
    let e = ap (λ (e : Expr). depth (view e)) c.in-Call.is ∙ ap depth (view_call c.in-Call.function c.in-Call.arguments) in
    let same = ap (λ (es : List Expr). depth_of (views_of es)) c.deref-in-Call-2.ensures.value in
    let small : depth (view c.args.expr.now) < 4294967296 = c.requires in
    (omega (arith, e, same), omega (arith, e, same))

pub expression_depth-overflow_add-result-in-Call : goal.expression_depth-overflow_add-result-in-Call
expression_depth-overflow_add-result-in-Call t c =
    let e = ap (λ (e : Expr). depth (view e)) c.in-Call.is ∙ ap depth (view_call c.in-Call.function c.in-Call.arguments) in
    let one = ap (λ (e : Expr). depth (view e)) c.deref-in-Call.ensures in
    let same = ap (λ (es : List Expr). depth_of (views_of es)) c.deref-in-Call-2.ensures.value in
    omega (arith, e, same, one)

pub expression_depth-returns-in-Call : goal.expression_depth-returns-in-Call
expression_depth-returns-in-Call t c =
    let e = ap (λ (e : Expr). depth (view e)) c.in-Call.is ∙ ap depth (view_call c.in-Call.function c.in-Call.arguments) in
    let one = ap (λ (e : Expr). depth (view e)) c.deref-in-Call.ensures in
    let same = ap (λ (es : List Expr). depth_of (views_of es)) c.deref-in-Call-2.ensures.value in
    omega (arith, e, same, one)

pub arguments_depth-expression_depth-requires : goal.arguments_depth-expression_depth-requires
arguments_depth-expression_depth-requires t c =
    let below = depth_within c.args.exprs.now c.loop-expr.expr-index c.expr-item.result (omega arith) in
    let e = ap (λ (e : Expr). depth (view e)) c.expr-item.is in
    (omega (arith, below, e), omega (arith, below, e))

pub arguments_depth-loop-expr-preserved : goal.arguments_depth-loop-expr-preserved
arguments_depth-loop-expr-preserved t c =
    let one = depth_more c.args.exprs.now c.loop-expr.expr-index c.expr-item.result (omega arith) in
    let e = ap (λ (e : Expr). depth (view e)) c.expr-item.is in
    omega (arith, one, e)

pub arguments_depth-returns : goal.arguments_depth-returns
arguments_depth-returns t c =
    let all = ap (λ (es : List Expr). depth_of (views_of es)) (take_all c.loop-expr.expr-index c.args.exprs.now c.loop-expr-test.false) in
    omega (arith, all)

pub expression_depth-declarator_depth-requires : goal.expression_depth-declarator_depth-requires
expression_depth-declarator_depth-requires t c =
    let e = ap (λ (e : Expr). depth (view e)) c.in-Cast.is ∙ ap depth (view_cast c.in-Cast.line c.in-Cast.type_name c.in-Cast.operand) in
    let one = ap (λ (t : TypeName). declared_depth (view_declarator t.declarator)) c.deref-in-Cast.ensures in
    let small : depth (view c.args.expr.now) < 4294967296 = c.requires in
    (omega (arith, e, one), omega (arith, e, one))

pub expression_depth-overflow_add-result-in-Cast : goal.expression_depth-overflow_add-result-in-Cast
expression_depth-overflow_add-result-in-Cast t c =
    let e = ap (λ (e : Expr). depth (view e)) c.in-Cast.is ∙ ap depth (view_cast c.in-Cast.line c.in-Cast.type_name c.in-Cast.operand) in
    let one = ap (λ (t : TypeName). declared_depth (view_declarator t.declarator)) c.deref-in-Cast.ensures in
    let two = ap (λ (e : Expr). depth (view e)) c.deref-in-Cast-2.ensures in
    omega (arith, e, one, two)

pub expression_depth-returns-in-Cast : goal.expression_depth-returns-in-Cast
expression_depth-returns-in-Cast t c =
    let e = ap (λ (e : Expr). depth (view e)) c.in-Cast.is ∙ ap depth (view_cast c.in-Cast.line c.in-Cast.type_name c.in-Cast.operand) in
    let one = ap (λ (t : TypeName). declared_depth (view_declarator t.declarator)) c.deref-in-Cast.ensures in
    let two = ap (λ (e : Expr). depth (view e)) c.deref-in-Cast-2.ensures in
    omega (arith, e, one, two)

pub expression_depth-declarator_depth-requires-in-SizeofType : goal.expression_depth-declarator_depth-requires-in-SizeofType
expression_depth-declarator_depth-requires-in-SizeofType t c =
    let e = ap (λ (e : Expr). depth (view e)) c.in-SizeofType.is ∙ ap depth (view_sizeof_type c.in-SizeofType.line c.in-SizeofType.type_name) in
    let one = ap (λ (t : TypeName). declared_depth (view_declarator t.declarator)) c.deref-in-SizeofType.ensures in
    let small : depth (view c.args.expr.now) < 4294967296 = c.requires in
    (omega (arith, e, one), omega (arith, e, one))

pub expression_depth-overflow_add-result-in-SizeofType : goal.expression_depth-overflow_add-result-in-SizeofType
expression_depth-overflow_add-result-in-SizeofType t c =
    let e = ap (λ (e : Expr). depth (view e)) c.in-SizeofType.is ∙ ap depth (view_sizeof_type c.in-SizeofType.line c.in-SizeofType.type_name) in
    let one = ap (λ (t : TypeName). declared_depth (view_declarator t.declarator)) c.deref-in-SizeofType.ensures in
    omega (arith, e, one)

pub expression_depth-returns-in-SizeofType : goal.expression_depth-returns-in-SizeofType
expression_depth-returns-in-SizeofType t c =
    let e = ap (λ (e : Expr). depth (view e)) c.in-SizeofType.is ∙ ap depth (view_sizeof_type c.in-SizeofType.line c.in-SizeofType.type_name) in
    let one = ap (λ (t : TypeName). declared_depth (view_declarator t.declarator)) c.deref-in-SizeofType.ensures in
    omega (arith, e, one)

pub direct_depth-declarator_depth-requires : goal.direct_depth-declarator_depth-requires
direct_depth-declarator_depth-requires t c =
    let suffixes = suffixes_of c.args.declarator.now.suffixes.items in
    let e = ap (λ (core : DeclaratorCore). declared_depth (view_core core suffixes)) c.in-Inside.is ∙ ap declared_depth (view_inside c.in-Inside.line c.in-Inside.inner suffixes) in
    let one = ap (λ (d : Declarator). declared_depth (view_declarator d)) c.deref-in-Inside.ensures in
    let small : declared_depth (view_core c.args.declarator.now.core (suffixes_of c.args.declarator.now.suffixes.items)) < 4294967296 = c.requires in
    (omega (arith, e, one), omega (arith, e, one))

pub direct_depth-overflow_add-result-in-Inside : goal.direct_depth-overflow_add-result-in-Inside
direct_depth-overflow_add-result-in-Inside t c =
    let suffixes = suffixes_of c.args.declarator.now.suffixes.items in
    let e = ap (λ (core : DeclaratorCore). declared_depth (view_core core suffixes)) c.in-Inside.is ∙ ap declared_depth (view_inside c.in-Inside.line c.in-Inside.inner suffixes) in
    let one = ap (λ (d : Declarator). declared_depth (view_declarator d)) c.deref-in-Inside.ensures in
    let same = ap (λ (ss : List ArraySuffix). suffixes_depth (suffixes_of ss)) c.deref-in-Inside-2.ensures.value in
    omega (arith, e, one, same)

pub direct_depth-returns-in-Inside : goal.direct_depth-returns-in-Inside
direct_depth-returns-in-Inside t c =
    let suffixes = suffixes_of c.args.declarator.now.suffixes.items in
    let e = ap (λ (core : DeclaratorCore). declared_depth (view_core core suffixes)) c.in-Inside.is ∙ ap declared_depth (view_inside c.in-Inside.line c.in-Inside.inner suffixes) in
    let one = ap (λ (d : Declarator). declared_depth (view_declarator d)) c.deref-in-Inside.ensures in
    let same = ap (λ (ss : List ArraySuffix). suffixes_depth (suffixes_of ss)) c.deref-in-Inside-2.ensures.value in
    omega (arith, e, one, same)

pub suffixes_depth-suffix_depth-requires : goal.suffixes_depth-suffix_depth-requires
suffixes_depth-suffix_depth-requires t c =
    let below = suffix_within c.args.suffixes.now c.loop-suffix.suffix-index c.suffix-item.result (omega arith) in
    let e = ap (λ (s : ArraySuffix). suffixes_depth (view_suffix s no_suffix)) c.suffix-item.is in
    (omega (arith, below, e), omega (arith, below, e))

pub suffixes_depth-loop-suffix-preserved : goal.suffixes_depth-loop-suffix-preserved
suffixes_depth-loop-suffix-preserved t c =
    let one = suffix_more c.args.suffixes.now c.loop-suffix.suffix-index c.suffix-item.result (omega arith) in
    let e = ap (λ (s : ArraySuffix). suffixes_depth (view_suffix s no_suffix)) c.suffix-item.is in
    omega (arith, one, e)

pub declarator_depth-direct_depth-requires : goal.declarator_depth-direct_depth-requires
declarator_depth-direct_depth-requires t c =
    let d = c.args.declarator.now in
    let least = behind_least d.pointers.items (view_core d.core (suffixes_of d.suffixes.items)) in
    let small : declared_depth (view_declarator d) < 4294967296 = c.requires in
    (omega (arith, least), omega (arith, least))

-- the levels are those behind the pointers that are there
at_pointers : (ps qs : List PointerMark) (levels result : ℕ) → ps ≡ qs → result ≡ pointed ps levels → result ≡ pointed qs levels
at_pointers ps qs levels result e f = f ∙ ap (λ (xs : List PointerMark). pointed xs levels) e

pub declarator_depth-returns : goal.declarator_depth-returns
declarator_depth-returns t c =
    let d = c.args.declarator.now in
    behind_levels d.pointers.items (view_core d.core (suffixes_of d.suffixes.items)) c.direct_depth.result c.pointed_depth.result (at_pointers c.deref.result.now d.pointers.items c.direct_depth.result c.pointed_depth.result c.deref.ensures.value c.pointed_depth.ensures) c.direct_depth.ensures
