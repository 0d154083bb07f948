use Rattle.std.proofs.Common.{◌+◌, List, length, false, ap, sym, arith}
use Rattle.std.proofs.lemmas.Result.{err_from_is_err_and}
use Rattle.c_token.specs.declared.token.Mark.TheVariants as marks
use Rattle.c_tree.specs.declared.declaration.InitDeclarator.{InitDeclarator}
use Rattle.c_tree.specs.Names.{Scope}
use Rattle.c_tree.specs.Declarations.{none_declared, declarators_of, with_declarators}
use Rattle.c_parse_expr.proofs.Loops.{fails_on}
use Rattle.c_parse_parts.specs.inner.Reading.{next_at, declarator_at, declarators_list, declarators_at}
use Rattle.c_parse_parts.proofs.Lists.{fails, goes}
use Rattle.c_parse_parts.proofs.Loops.{not_ended, init_of, declarators_begin, declarators_close, declarators_push}
use Rattle.c_parse_parts.proofs.declarations.declarators.Goals as goal

pub declarators-init : goal.declarators-init
declarators-init c = record {
  shorter = omega arith;
  exact = (
    length c.args.tokens.now + 1,
    omega arith,
    declarators_begin c.args.frame.bytes.now c.args.types c.args.frame.levels c.args.names.now c.args.begins c.new-declarators.result.items c.args.tokens.now c.new-declarators.ensures.items,
  );
  names = ap (λ (ds : List InitDeclarator). with_declarators c.args.names.now c.args.types (declarators_of ds)) (sym c.new-declarators.ensures.items);
}

pub returns-in-Some-clause-exact : goal.returns-in-Some-clause-exact
returns-in-Some-clause-exact c =
    let e = c.declarators.invariant.exact in
    declarators_close c.args.frame.bytes.now c.args.types c.args.frame.levels e.0 c.declarators.names c.declarators.first c.declarators.declarators.items c.declarators.rest.now _ (declarators_at c.args.frame.bytes.now c.args.names.now c.args.types c.args.frame.levels c.args.begins c.args.tokens.now)
    e.1 c.in-Some.ensures.value e.2

pub returns-in_err-next-clause-exact : goal.returns-in_err-next-clause-exact
returns-in_err-next-clause-exact c =
    let p = err_from_is_err_and c.from_residual.result c.from_residual.ensures.1 in
    let e = c.declarators.invariant.exact in
    let all = declarators_at c.args.frame.bytes.now c.args.names.now c.args.types c.args.frame.levels c.args.begins c.args.tokens.now in
    rw (p.1, p.2) (fails_on c.in_err-next.field-0.0 (next_at c.declarators.first (declarator_at c.args.frame.bytes.now c.declarators.names c.args.types c.args.frame.levels) c.declarators.rest.now) all
    (fails (declarators_list c.args.frame.bytes.now c.args.types c.args.frame.levels) init_of e.0 (c.declarators.names, c.declarators.first) c.declarators.declarators.items c.declarators.rest.now all e.1 (not_ended marks.Semicolon none_declared c.declarators.rest.now c.in_default.ensures.value) e.2)
    c.in_err-next.ensures.exact)

pub declarators-preserved : goal.declarators-preserved
declarators-preserved c =
    let e = c.declarators.invariant.exact in
    record {
      shorter = omega (arith, c.in_ok-next.ensures.shorter, c.declarators.invariant.shorter);
      exact = goes (declarators_list c.args.frame.bytes.now c.args.types c.args.frame.levels) init_of e.0 (c.declarators.names, c.declarators.first) (c.next_initialized.new.names, false) c.declarators.declarators.items c.push.new.self.items c.in_ok-next.next c.declarators.rest.now c.in_ok-next.behind.now (declarators_at c.args.frame.bytes.now c.args.names.now c.args.types c.args.frame.levels c.args.begins c.args.tokens.now)
          e.1 c.in_ok-next.ensures.shorter (not_ended marks.Semicolon none_declared c.declarators.rest.now c.in_default.ensures.value) e.2 c.in_ok-next.ensures.exact c.in_ok-push.ensures.items (ap (λ (x : Scope). (x, false)) c.in_ok-next.ensures.names);
      names = declarators_push c.args.names.now c.declarators.names c.next_initialized.new.names c.args.types c.declarators.declarators.items c.push.new.self.items c.in_ok-next.next c.in_ok-push.ensures.items c.declarators.invariant.names c.in_ok-next.ensures.names;
    }
