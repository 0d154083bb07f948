use Rattle.std.proofs.Common.{map, ◌≡◌, ◌<◌, ◌+◌, ◌-◌, ◌++◌, List, [], ◌∷◌, length, ap, sym, ◌∙◌, arith}
use Rattle.std.proofs.lemmas.Result.{err_from_is_err_and}
use Rattle.c_tree.specs.declared.expr.Expr.{Expr}
use Rattle.c_tree.specs.declared.expr.ArraySuffix.{ArraySuffix}
use Rattle.c_tree.specs.Tree.{view, views_of, depth_of, suffixes_of, suffixes_depth}
use Rattle.c_tree.proofs.Views.{suffix_push}
use Rattle.c_parse_expr.specs.inner.Reading.{reader, suffixed, arguments_at, bracketed, bracket_at, bound_at, pair_of, suffixes_at}
use Rattle.c_parse_expr.specs.inner.Many.{many_at}
use Rattle.c_parse_expr.specs.inner.Findings.{trees_in}
use Rattle.c_parse_expr.proofs.Within.{has_depth}
use Rattle.c_parse_expr.proofs.Loops.{fails_on, first_closes, first_fails, first_goes, closes, neither, next_fails, one_more, depth_push, reader_begins, stops, too_deep, suffix_fails, goes_up}
use Rattle.c_parse_expr.proofs.Rows as rows
use Rattle.c_parse_expr.proofs.Made.{suffixes_made, suffixes_fail}
use Rattle.c_parse_expr.proofs.reading.+reading.Goals as goal

pub arguments-returns-in-Some-clause-exact : goal.arguments-returns-in-Some-clause-exact
arguments-returns-in-Some-clause-exact t c =
    first_closes (trees_in c.args.frame c.args.names.now) c.args.tokens.now c.in-Some.rest.now c.new-items.result.items c.new-items.ensures.items c.in-Some.ensures.value

pub arguments-returns-in_err-first-clause-exact : goal.arguments-returns-in_err-first-clause-exact
arguments-returns-in_err-first-clause-exact t c =
    let p = err_from_is_err_and c.from_residual.result c.from_residual.ensures.1 in
    let sub = trees_in c.args.frame c.args.names.now in
    rw (p.1, p.2) (fails_on c.in_err-first.field-0.0 (sub 2 c.args.tokens.now) (arguments_at sub c.args.tokens.now) (first_fails sub c.args.tokens.now c.in_default.ensures.value) c.in_err-first.ensures.exact)

pub arguments-items-init : goal.arguments-items-init
arguments-items-init t c =
    let items : c.put_argument.new.items.items ≡ c.in_ok-first.first.tree.value ∷ [] = c.in_ok-put_argument.ensures ∙ ap (λ (xs : List Expr). xs ++ c.in_ok-first.first.tree.value ∷ []) c.new-items.ensures.items in
    let deep = ap (λ (xs : List Expr). depth_of (views_of xs)) items in
    record {
      height = omega (arith, deep, c.in_ok-first.ensures.found.height);
      low = c.in_ok-first.ensures.found.low;
      shorter = c.in_ok-first.ensures.found.shorter;
      exact = (
        length c.args.tokens.now + 1,
        omega (arith, c.in_ok-first.ensures.found.shorter),
        first_goes (trees_in c.args.frame c.args.names.now) c.args.tokens.now c.in_ok-first.first.rest.now c.in_ok-first.first.tree.value c.put_argument.new.items.items c.in_default.ensures.value c.in_ok-first.ensures.exact items,
      );
    }

pub arguments-returns-in-Some-behind_mark-clause-exact : goal.arguments-returns-in-Some-behind_mark-clause-exact
arguments-returns-in-Some-behind_mark-clause-exact t c =
    let e = c.items.invariant.exact in
    closes e.0 (trees_in c.args.frame c.args.names.now) (views_of c.items.items.items) c.items.rest.now c.in-Some-behind_mark.behind.now (arguments_at (trees_in c.args.frame c.args.names.now) c.args.tokens.now) e.1 c.in-Some-behind_mark.ensures.value e.2

pub arguments-returns-in_default-behind_mark-2-clause-exact : goal.arguments-returns-in_default-behind_mark-2-clause-exact
arguments-returns-in_default-behind_mark-2-clause-exact t c =
    let e = c.items.invariant.exact in
    neither e.0 (trees_in c.args.frame c.args.names.now) (views_of c.items.items.items) c.items.rest.now (arguments_at (trees_in c.args.frame c.args.names.now) c.args.tokens.now) e.1 c.in_default-behind_mark.ensures.value c.in_default-behind_mark-2.ensures.value e.2

pub arguments-returns-in_err-next-clause-exact : goal.arguments-returns-in_err-next-clause-exact
arguments-returns-in_err-next-clause-exact t c =
    let p = err_from_is_err_and c.from_residual-in_err-next.result c.from_residual-in_err-next.ensures.1 in
    let sub = trees_in c.args.frame c.args.names.now in
    let e = c.items.invariant.exact in
    rw (p.1, p.2) (fails_on c.in_err-next.field-0.0 (sub 2 c.in-Some-behind_mark-2.behind.now) (arguments_at sub c.args.tokens.now)
    (next_fails e.0 sub (views_of c.items.items.items) c.items.rest.now c.in-Some-behind_mark-2.behind.now (arguments_at sub c.args.tokens.now) e.1 c.in_default-behind_mark.ensures.value c.in-Some-behind_mark-2.ensures.value e.2)
    c.in_err-next.ensures.exact)

pub arguments-items-preserved : goal.arguments-items-preserved
arguments-items-preserved t c =
    let sub = trees_in c.args.frame c.args.names.now in
    let e = c.items.invariant.exact in
    let items = c.in_ok-put_argument-2.ensures in
    let deep = ap (λ (xs : List Expr). depth_of (views_of xs)) items ∙ depth_push c.items.items.items c.in_ok-next.next.tree.value in
    record {
      height = omega (arith, deep, c.in_ok-next.ensures.found.height, c.items.invariant.height, c.larger-height.ensures);
      low = omega (arith, c.in_ok-next.ensures.found.low, c.items.invariant.low, c.larger-height.ensures);
      shorter = omega (arith, c.in_ok-next.ensures.found.shorter, c.items.invariant.shorter, c.in-Some-behind_mark-2.ensures.shorter);
      exact = one_more e.0 sub c.items.items.items c.put_argument-in-items.new.items.items c.in_ok-next.next.tree.value c.items.rest.now c.in-Some-behind_mark-2.behind.now c.in_ok-next.next.rest.now (arguments_at sub c.args.tokens.now)
          e.1 (omega (arith, c.in_ok-next.ensures.found.shorter, c.in-Some-behind_mark-2.ensures.shorter)) c.in_default-behind_mark.ensures.value c.in-Some-behind_mark-2.ensures.value e.2 c.in_ok-next.ensures.exact items;
    }

pub read-suffixes-init : goal.read-suffixes-init
read-suffixes-init t c =
    let one = has_depth (view c.in_ok-found.found.tree.value) in
    record {
      height = c.in_ok-found.ensures.found.height;
      low = omega (arith, c.in_ok-found.ensures.found.low);
      some = omega arith;
      shorter = c.in_ok-found.ensures.found.shorter;
      exact = (
        c.args.frame.levels,
        omega (arith, c.in_ok-found.ensures.found.height),
        reader_begins c.args.frame.bytes.now c.args.names.now (c.args.frame.levels - 1) c.args.frame.levels c.args.level c.level_found.result c.args.tokens.now c.in_ok-found.found.rest.now (view c.in_ok-found.found.tree.value) (omega arith) c.level_found.ensures (omega arith) c.in_ok-found.ensures.exact,
      );
    }

pub read-returns-then-found-frame-clause-exact : goal.read-returns-then-found-frame-clause-exact
read-returns-then-found-frame-clause-exact t c =
    let e = c.suffixes.invariant.exact in
    too_deep c.args.frame.bytes.now e.0 c.args.frame.levels c.args.level c.level_found-in-suffixes.result c.suffixes.found.height (reader c.args.frame.bytes.now c.args.names.now (c.args.frame.levels - 1)) (view c.suffixes.found.tree.value) c.suffixes.found.rest.now
    (c.in-Some.suffix, c.in-Some.line, c.in-Some.rest.now) (trees_in c.args.frame c.args.names.now c.args.level c.args.tokens.now)
    e.1 c.suffixes.invariant.low c.suffixes.invariant.height c.if-found-frame.true c.level_found-in-suffixes.ensures c.in-Some.ensures.value e.2

pub read-returns-in_err-found-2-clause-exact : goal.read-returns-in_err-found-2-clause-exact
read-returns-in_err-found-2-clause-exact t c =
    let p = err_from_is_err_and c.from_residual-in_err-found-2.result c.from_residual-in_err-found-2.ensures.1 in
    let sub = reader c.args.frame.bytes.now c.args.names.now (c.args.frame.levels - 1) in
    let e = c.suffixes.invariant.exact in
    let all = trees_in c.args.frame c.args.names.now c.args.level c.args.tokens.now in
    rw (p.1, p.2) (fails_on c.in_err-found-2.field-0.0 (suffixed c.args.frame.bytes.now sub c.in-Some.suffix c.in-Some.line (view c.suffixes.found.tree.value) c.in-Some.rest.now) all
    (suffix_fails c.args.frame.bytes.now e.0 c.args.frame.levels c.args.level c.level_found-in-suffixes.result c.suffixes.found.height sub (view c.suffixes.found.tree.value) c.suffixes.found.rest.now
    (c.in-Some.suffix, c.in-Some.line, c.in-Some.rest.now) all
    e.1 c.suffixes.invariant.height c.if-found-frame.false c.level_found-in-suffixes.ensures c.in-Some.ensures.value e.2)
    c.in_err-found-2.ensures.exact)

pub read-suffixes-preserved : goal.read-suffixes-preserved
read-suffixes-preserved t c =
    let e = c.suffixes.invariant.exact in
    record {
      height = c.in_ok-found-2.ensures.found.height;
      low = omega (arith, c.in_ok-found-2.ensures.found.low, c.suffixes.invariant.some);
      some = c.suffixes.invariant.some;
      shorter = omega (arith, c.in_ok-found-2.ensures.found.shorter, c.in-Some.ensures.shorter, c.suffixes.invariant.shorter);
      exact = goes_up c.args.frame.bytes.now e.0 c.args.frame.levels c.args.level c.level_found-in-suffixes.result c.suffixes.found.height c.in_ok-found-2.found.height (reader c.args.frame.bytes.now c.args.names.now (c.args.frame.levels - 1)) (view c.suffixes.found.tree.value) (view c.in_ok-found-2.found.tree.value) c.suffixes.found.rest.now c.in_ok-found-2.found.rest.now
          (c.in-Some.suffix, c.in-Some.line, c.in-Some.rest.now) (trees_in c.args.frame c.args.names.now c.args.level c.args.tokens.now)
          e.1 c.suffixes.invariant.height c.if-found-frame.false c.in_ok-found-2.ensures.higher c.level_found-in-suffixes.ensures c.in-Some.ensures.value e.2 c.in_ok-found-2.ensures.exact;
    }

pub read-returns-clause-exact : goal.read-returns-clause-exact
read-returns-clause-exact t c =
    let e = c.suffixes.invariant.exact in
    stops c.args.frame.bytes.now e.0 c.args.frame.levels c.args.level c.level_found-in-suffixes.result c.suffixes.found.height (reader c.args.frame.bytes.now c.args.names.now (c.args.frame.levels - 1)) (view c.suffixes.found.tree.value) c.suffixes.found.rest.now (trees_in c.args.frame c.args.names.now c.args.level c.args.tokens.now)
    e.1 c.suffixes.invariant.low c.level_found-in-suffixes.ensures c.in_default.ensures.value e.2

pub array_suffixes-returns-in_err-found-clause-exact : goal.array_suffixes-returns-in_err-found-clause-exact
array_suffixes-returns-in_err-found-clause-exact t c =
    let p = err_from_is_err_and c.from_residual.result c.from_residual.ensures.1 in
    let sub = trees_in c.args.frame c.args.names.now in
    let all = many_at (bracket_at sub) (length c.args.tokens.now + 1) tt c.args.tokens.now in
    let e = c.suffixes.invariant.exact in
    rw (p.1, p.2) (fails_on c.in_err-found.field-0.0 (bound_at sub c.in-Some.line c.in-Some.behind.now) (suffixes_at sub c.args.tokens.now)
    (λ none. suffixes_fail sub c.args.tokens.now
    (rows.fails (bracket_at sub) e.0 tt (map pair_of c.suffixes.suffixes.items) c.suffixes.rest.now all e.1 (ap (bracketed sub) (sym c.in-Some.ensures.value) ∙ none) e.2))
    c.in_err-found.ensures.exact)

pub array_suffixes-suffixes-preserved : goal.array_suffixes-suffixes-preserved
array_suffixes-suffixes-preserved t c =
    let sub = trees_in c.args.frame c.args.names.now in
    let all = many_at (bracket_at sub) (length c.args.tokens.now + 1) tt c.args.tokens.now in
    let e = c.suffixes.invariant.exact in
    let items = c.in_ok-push.ensures.items in
    let deep = ap (λ (ss : List ArraySuffix). suffixes_depth (suffixes_of ss)) items ∙ suffix_push c.suffixes.suffixes.items c.in_ok-found.found.suffix in
    let short : length c.in_ok-found.found.rest.now < length c.suffixes.rest.now = omega (arith, c.in_ok-found.ensures.shorter, c.in-Some.ensures.shorter) in
    record {
      height = omega (arith, deep, c.in_ok-found.ensures.found.height, c.suffixes.invariant.height, c.larger-height.ensures);
      low = omega (arith, c.in_ok-found.ensures.found.low, c.suffixes.invariant.low, c.larger-height.ensures);
      shorter = omega (arith, short, c.suffixes.invariant.shorter);
      exact = rows.pushed (bracket_at sub) pair_of e.0 tt tt c.suffixes.suffixes.items c.push.new.self.items c.in_ok-found.found.suffix c.suffixes.rest.now c.in_ok-found.found.rest.now all
          e.1 short (ap (bracketed sub) (sym c.in-Some.ensures.value) ∙ c.in_ok-found.ensures.exact) items e.2;
    }

pub array_suffixes-returns-clause-exact : goal.array_suffixes-returns-clause-exact
array_suffixes-returns-clause-exact t c =
    let sub = trees_in c.args.frame c.args.names.now in
    let all = many_at (bracket_at sub) (length c.args.tokens.now + 1) tt c.args.tokens.now in
    let e = c.suffixes.invariant.exact in
    suffixes_made sub c.args.tokens.now c.suffixes.rest.now c.suffixes.suffixes.items
    (rows.stops (bracket_at sub) e.0 tt (map pair_of c.suffixes.suffixes.items) c.suffixes.rest.now all e.1 (ap (bracketed sub) (sym c.in_default.ensures.value)) e.2)
