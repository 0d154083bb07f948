use Rattle.std.proofs.Common.{◌≡◌, ◌+◌, ◌-◌, suc, length, false, refl, arith}
use Rattle.std.proofs.lemmas.Result.{err_from_is_err_and}
use Rattle.c_tree.specs.Tree.{view}
use Rattle.c_tree.specs.Declarations.{no_initial, view_initializer}
use Rattle.c_parse_expr.proofs.Loops.{fails_on}
use Rattle.c_parse_parts.specs.inner.Reading.{next_at, initial_at, initials_list, initials_at, initials_in}
use Rattle.c_parse_parts.proofs.Lists.{fails, goes}
use Rattle.c_parse_parts.proofs.Shorter.{reader_shorter}
use Rattle.c_parse_parts.proofs.Loops.{not_shut, initials_begin, initials_close, value_made, braces_fail, braces_made}
use Rattle.c_parse_parts.proofs.declarations.+initializers.Goals as goal

pub initial-returns-in_default-clause-exact : goal.initial-returns-in_default-clause-exact
initial-returns-in_default-clause-exact t c =
    let same : suc (c.args.frame.levels - 1) ≡ c.args.frame.levels = omega arith in
    value_made c.args.frame.bytes.now c.args.names.now (c.args.frame.levels - 1) c.args.frame.levels c.args.tokens.now c.in_ok-found.found.rest.now c.in_ok-found.found.tree same c.in_default.ensures.value c.in_ok-found.ensures.exact

pub initial-returns-in_default-clause-shorter : goal.initial-returns-in_default-clause-shorter
initial-returns-in_default-clause-shorter t c =
    reader_shorter c.args.frame.bytes.now c.args.names.now c.args.frame.levels 2 c.args.tokens.now (view c.in_ok-found.found.tree.value, c.in_ok-found.found.rest.now) (omega arith) c.in_ok-found.ensures.exact

pub initial-returns-in_err-items-clause-exact : goal.initial-returns-in_err-items-clause-exact
initial-returns-in_err-items-clause-exact t c =
    let same : suc (c.args.frame.levels - 1) ≡ c.args.frame.levels = omega arith in
    let p = err_from_is_err_and c.from_residual-in_err-items.result c.from_residual-in_err-items.ensures.1 in
    rw (p.1, p.2) (fails_on c.in_err-items.field-0.0 (initials_at (initial_at c.args.frame.bytes.now c.args.names.now (c.args.frame.levels - 1)) c.in-Some.rest.now) (initials_in c.args.frame c.args.names.now c.args.tokens.now)
    (braces_fail c.args.frame.bytes.now c.args.names.now (c.args.frame.levels - 1) c.args.frame.levels c.args.tokens.now (c.in-Some.token, c.in-Some.rest.now) same c.in-Some.ensures.value)
    c.in_err-items.ensures.exact)

pub initial-returns-clause-exact : goal.initial-returns-clause-exact
initial-returns-clause-exact t c =
    let same : suc (c.args.frame.levels - 1) ≡ c.args.frame.levels = omega arith in
    braces_made c.args.frame.bytes.now c.args.names.now (c.args.frame.levels - 1) c.args.frame.levels c.args.tokens.now c.in_ok-items.rest.now (c.in-Some.token, c.in-Some.rest.now) c.in_ok-items.items same c.in-Some.ensures.value c.in_ok-items.ensures.exact

pub initials-initials-init : goal.initials-initials-init
initials-initials-init t c = record {
  shorter = omega arith;
  exact = (
    length c.args.tokens.now + 1,
    omega arith,
    initials_begin (initials_in c.args.frame c.args.names.now) c.new-initials.result.items c.args.tokens.now c.new-initials.ensures.items,
  );
}

pub initials-returns-in-Some-clause-exact : goal.initials-returns-in-Some-clause-exact
initials-returns-in-Some-clause-exact t c =
    let e = c.initials.invariant.exact in
    let sub = initials_in c.args.frame c.args.names.now in
    initials_close sub e.0 c.initials.first c.initials.initials.items c.initials.rest.now c.in-Some.behind.now (initials_at sub c.args.tokens.now) e.1 c.in-Some.ensures.value e.2

pub initials-returns-in_err-next-clause-exact : goal.initials-returns-in_err-next-clause-exact
initials-returns-in_err-next-clause-exact t c =
    let p = err_from_is_err_and c.from_residual.result c.from_residual.ensures.1 in
    let e = c.initials.invariant.exact in
    let sub = initials_in c.args.frame c.args.names.now in
    let all = initials_at sub c.args.tokens.now in
    rw (p.1, p.2) (fails_on c.in_err-next.field-0.0 (next_at c.initials.first sub c.initials.rest.now) all
    (fails (initials_list sub) view_initializer e.0 c.initials.first c.initials.initials.items c.initials.rest.now all e.1 (not_shut no_initial c.initials.first c.initials.rest.now c.in_default.ensures.value) e.2)
    c.in_err-next.ensures.exact)

pub initials-initials-preserved : goal.initials-initials-preserved
initials-initials-preserved t c =
    let e = c.initials.invariant.exact in
    let sub = initials_in c.args.frame c.args.names.now in
    record {
      shorter = omega (arith, c.in_ok-next.ensures.shorter, c.initials.invariant.shorter);
      exact = goes (initials_list sub) view_initializer e.0 c.initials.first false c.initials.initials.items c.push.new.self.items c.in_ok-next.next c.initials.rest.now c.in_ok-next.behind.now (initials_at sub c.args.tokens.now)
          e.1 c.in_ok-next.ensures.shorter (not_shut no_initial c.initials.first c.initials.rest.now c.in_default.ensures.value) e.2 c.in_ok-next.ensures.exact c.in_ok-push.ensures.items refl;
    }
