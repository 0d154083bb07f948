use Rattle.std.proofs.Common.{◌≡◌, ◌<◌, length, map, Some, ap, subst, ◌∙◌, arith}
use Rattle.std.specs.Prelude.{IfSome, option_map}
use Rattle.std.proofs.lemmas.Result.{err_from_is_err_and}
use Rattle.c_tree.specs.Tree.{view_type_part}
use Rattle.c_parse_expr.specs.inner.Reading.{type_part_at, type_parts_at}
use Rattle.c_parse_expr.proofs.Loops.{fails_on}
use Rattle.c_parse_expr.proofs.Rows.{stops, fails, pushed}
use Rattle.c_parse_expr.proofs.words.type_specifiers.Goals as goal

pub returns-in_err-specifier-clause-exact : goal.returns-in_err-specifier-clause-exact
returns-in_err-specifier-clause-exact c =
    let p = err_from_is_err_and c.from_residual.result c.from_residual.ensures.1 in
    let item = type_part_at c.args.bytes.now c.args.names.now in
    let all = type_parts_at c.args.bytes.now c.args.names.now c.args.tokens.now in
    let e = c.specifiers.invariant.exact in
    rw (p.1, p.2) (fails_on c.in_err-specifier.field-0.0 (item c.specifiers.before c.specifiers.rest.now) all
    (λ none. fails item e.0 c.specifiers.before (map view_type_part c.specifiers.specifiers.items) c.specifiers.rest.now all e.1 none e.2)
    c.in_err-specifier.ensures.exact)

pub specifiers-preserved : goal.specifiers-preserved
specifiers-preserved c =
    let item = type_part_at c.args.bytes.now c.args.names.now in
    let all = type_parts_at c.args.bytes.now c.args.names.now c.args.tokens.now in
    let e = c.specifiers.invariant.exact in
    let short : length c.in-Some.behind.now < length c.specifiers.rest.now =
    subst (λ o. IfSome o (λ x. length x.2.now < length c.specifiers.rest.now)) c.in-Some.is c.in_ok-specifier.ensures.shorter in
    let is : item c.specifiers.before c.specifiers.rest.now ≡ Some (Some (view_type_part c.in-Some.specifier, c.in-Some.known, c.in-Some.behind.now)) =
    c.in_ok-specifier.ensures.exact ∙ ap (λ o. Some (option_map (λ x. (view_type_part x.0, x.1, x.2.now)) o)) c.in-Some.is in
    record {
      shorter = omega (arith, short, c.specifiers.invariant.shorter);
      exact = pushed item view_type_part e.0 c.specifiers.before c.in-Some.known c.specifiers.specifiers.items c.push.new.self.items c.in-Some.specifier c.specifiers.rest.now c.in-Some.behind.now all e.1 short is c.in_ok-push.ensures.items e.2;
    }

pub returns-clause-exact : goal.returns-clause-exact
returns-clause-exact c =
    let item = type_part_at c.args.bytes.now c.args.names.now in
    let all = type_parts_at c.args.bytes.now c.args.names.now c.args.tokens.now in
    let e = c.specifiers.invariant.exact in
    let is = c.in_ok-specifier.ensures.exact ∙ ap (λ o. Some (option_map (λ x. (view_type_part x.0, x.1, x.2.now)) o)) c.in_default.is in
    stops item e.0 c.specifiers.before (map view_type_part c.specifiers.specifiers.items) c.specifiers.rest.now all e.1 is e.2
