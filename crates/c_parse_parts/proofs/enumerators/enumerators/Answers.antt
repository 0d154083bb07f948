use Rattle.std.proofs.Common.{◌≡◌, ◌+◌, ℕ, List, [], ◌∷◌, length, map, false, ap, sym, ◌∙◌, arith}
use Rattle.std.proofs.lemmas.Result.{err_from_is_err_and}
use Rattle.c_tree.specs.declared.declaration.Enumerator.{Enumerator}
use Rattle.c_tree.specs.Declarations.{view_enumerator, with_enumerators}
use Rattle.c_tree.specs.Names.{Scope}
use Rattle.c_parse_parts.specs.inner.Reading.{next_at, enumerator_at, enumerators_list, enumerators_at}
use Rattle.c_parse_expr.proofs.Loops.{fails_on}
use Rattle.c_parse_parts.proofs.Lists.{fails, goes}
use Rattle.c_parse_parts.proofs.Loops.{not_shut, enumerators_begin, enumerators_close, enumerators_push}
use Rattle.c_parse_parts.proofs.enumerators.enumerators.Goals as goal

pub enumerators-init : goal.enumerators-init
enumerators-init c = record {
  shorter = omega arith;
  exact = (
    length c.args.tokens.now + 1,
    omega arith,
    enumerators_begin c.args.frame.bytes.now c.args.frame.levels c.args.names.now c.new-enumerators.result.items c.args.tokens.now c.new-enumerators.ensures.items,
  );
  names = ap (λ (es : List Enumerator). with_enumerators c.args.names.now (map view_enumerator es)) (sym c.new-enumerators.ensures.items);
}

pub returns-in-Some-clause-exact : goal.returns-in-Some-clause-exact
returns-in-Some-clause-exact c =
    let e = c.enumerators.invariant.exact in
    enumerators_close c.args.frame.bytes.now c.args.frame.levels e.0 c.enumerators.names c.enumerators.first c.enumerators.enumerators.items c.enumerators.rest.now c.in-Some.behind.now (enumerators_at c.args.frame.bytes.now c.args.names.now c.args.frame.levels c.args.tokens.now)
    e.1 c.in-Some.ensures.value e.2

pub returns-in_err-next-clause-exact : goal.returns-in_err-next-clause-exact
returns-in_err-next-clause-exact c =
    let p = err_from_is_err_and c.from_residual.result c.from_residual.ensures.1 in
    let e = c.enumerators.invariant.exact in
    let all = enumerators_at c.args.frame.bytes.now c.args.names.now c.args.frame.levels c.args.tokens.now in
    rw (p.1, p.2) (fails_on c.in_err-next.field-0.0 (next_at c.enumerators.first (enumerator_at c.args.frame.bytes.now c.enumerators.names c.args.frame.levels) c.enumerators.rest.now) all
    (fails (enumerators_list c.args.frame.bytes.now c.args.frame.levels) view_enumerator e.0 (c.enumerators.names, c.enumerators.first) c.enumerators.enumerators.items c.enumerators.rest.now all e.1 (not_shut [] c.enumerators.first c.enumerators.rest.now c.in_default.ensures.value) e.2)
    c.in_err-next.ensures.exact)

pub enumerators-preserved : goal.enumerators-preserved
enumerators-preserved c =
    let e = c.enumerators.invariant.exact in
    let now = c.enumerators.names in
    let new : c.declare.new.self ≡ ((view_enumerator c.in_ok-next.next).name, false) ∷ now =
    c.in_ok-declare.ensures.declared ∙ ap (λ (x : List ℕ). (x, false) ∷ now) c.deref.ensures.value in
    record {
      shorter = omega (arith, c.in_ok-next.ensures.shorter, c.enumerators.invariant.shorter);
      exact = goes (enumerators_list c.args.frame.bytes.now c.args.frame.levels) view_enumerator e.0 (now, c.enumerators.first) (c.declare.new.self, false) c.enumerators.enumerators.items c.push.new.self.items c.in_ok-next.next c.enumerators.rest.now c.in_ok-next.behind.now (enumerators_at c.args.frame.bytes.now c.args.names.now c.args.frame.levels c.args.tokens.now)
          e.1 c.in_ok-next.ensures.shorter (not_shut [] c.enumerators.first c.enumerators.rest.now c.in_default.ensures.value) e.2 c.in_ok-next.ensures.exact c.in_ok-push.ensures.items (ap (λ (x : Scope). (x, false)) new);
      names = enumerators_push c.args.names.now now c.declare.new.self c.enumerators.enumerators.items c.push.new.self.items c.in_ok-next.next c.in_ok-push.ensures.items c.enumerators.invariant.names new;
    }
