use Rattle.std.proofs.Common.{◌<◌, ◌+◌, List, length, false, Some, None, refl, ap, sym, ◌∙◌, arith}
use Rattle.std.proofs.lemmas.Result.{err_from_is_err_and}
use Rattle.c_token.specs.declared.token.Mark.TheVariants as marks
use Rattle.c_tree.specs.declared.declaration.MemberDeclaration.{MemberDeclaration}
use Rattle.c_tree.specs.declared.declaration.Specifier.{Specifier}
use Rattle.c_token.specs.declared.token.Token.{Token}
use Rattle.c_tree.specs.Names.{Scope}
use Rattle.c_tree.proofs.DeclarationViews.{view_record}
use Rattle.c_parse_parts.specs.declared.table.Start.{Start}
use Rattle.c_tree.specs.Declarations.{no_member, no_full, view_full, view_part, parts_of, members_of, with_part, with_parts, with_members, have_typedef}
use Rattle.c_parse_expr.proofs.Loops.{fails_on}
use Rattle.c_parse_parts.specs.inner.Reading.{start_at, part_from, parts_list, parts_at, next_at, fulls_list, fulls_at, member_at, members_list, members_at, full_from, opening_at, one_from, suffixes_list, suffixes_at, parameter_at, parameters_list, parameters_at, bodies_in, fulls_in}
use Rattle.c_parse_parts.specs.declared.slices.DeclaratorStart.{DeclaratorStart}
use Rattle.c_parse_parts.specs.declared.slices.Opening.{Opening}
use Rattle.c_parse_parts.specs.inner.Pieces.{suffix_of, parameter_of}
use Rattle.c_parse_parts.proofs.Shorter.{full_shorter, parts_shorter}
use Rattle.c_parse_parts.proofs.Lists.{fails, goes}
use Rattle.c_parse_parts.proofs.Loops.{not_ended, parts_begin, parts_go, parts_close, parts_push, part_reads, part_state, record_made, typedef_push, member_of, members_begin, members_close, members_push, fulls_begin, fulls_close, suffixes_begin, suffixes_go, suffixes_close, suffix_reads, parameters_begin, parameters_close, parameters_go, given_made, inside_made, unnamed_made, named_made, some_known, parameters_extend, pair, extends_here}
use Rattle.c_parse_parts.proofs.parts.+specifiers.Goals as goal

pub members-members-init : goal.members-members-init
members-members-init t c = record {
  shorter = omega arith;
  exact = (
    length c.args.tokens.now + 1,
    omega arith,
    members_begin c.args.frame.bytes.now c.args.frame.levels (bodies_in c.args.frame) (fulls_in c.args.frame) c.args.names.now c.new-members.result.items c.args.tokens.now c.new-members.ensures.items,
  );
  names = ap (λ (ms : List MemberDeclaration). with_members c.args.names.now (members_of ms)) (sym c.new-members.ensures.items);
}

pub members-returns-in-Some-clause-exact : goal.members-returns-in-Some-clause-exact
members-returns-in-Some-clause-exact t c =
    let e = c.members.invariant.exact in
    let body = bodies_in c.args.frame in
    let sub = fulls_in c.args.frame in
    members_close c.args.frame.bytes.now c.args.frame.levels e.0 body sub c.members.names c.members.members.items c.members.rest.now _ (members_at c.args.frame.bytes.now c.args.frame.levels body sub c.args.names.now c.args.tokens.now)
    e.1 c.in-Some.ensures.value e.2

pub members-returns-in_err-next-clause-exact : goal.members-returns-in_err-next-clause-exact
members-returns-in_err-next-clause-exact t c =
    let p = err_from_is_err_and c.from_residual.result c.from_residual.ensures.1 in
    let e = c.members.invariant.exact in
    let body = bodies_in c.args.frame in
    let sub = fulls_in c.args.frame in
    let all = members_at c.args.frame.bytes.now c.args.frame.levels body sub c.args.names.now c.args.tokens.now in
    rw (p.1, p.2) (fails_on c.in_err-next.field-0.0 (member_at c.args.frame.bytes.now c.args.frame.levels body sub c.members.names c.members.rest.now) all
    (fails (members_list c.args.frame.bytes.now c.args.frame.levels body sub) member_of e.0 c.members.names c.members.members.items c.members.rest.now all e.1 (not_ended marks.RightBrace no_member c.members.rest.now c.in_default.ensures.value) e.2)
    c.in_err-next.ensures.exact)

pub members-members-preserved : goal.members-members-preserved
members-members-preserved t c =
    let e = c.members.invariant.exact in
    let body = bodies_in c.args.frame in
    let sub = fulls_in c.args.frame in
    record {
      shorter = omega (arith, c.in_ok-next.ensures.shorter, c.members.invariant.shorter);
      exact = goes (members_list c.args.frame.bytes.now c.args.frame.levels body sub) member_of e.0 c.members.names c.member.new.names c.members.members.items c.push.new.self.items c.in_ok-next.next c.members.rest.now c.in_ok-next.behind.now (members_at c.args.frame.bytes.now c.args.frame.levels body sub c.args.names.now c.args.tokens.now)
          e.1 c.in_ok-next.ensures.shorter (not_ended marks.RightBrace no_member c.members.rest.now c.in_default.ensures.value) e.2 c.in_ok-next.ensures.exact c.in_ok-push.ensures.items c.in_ok-next.ensures.names;
      names = members_push c.args.names.now c.members.names c.member.new.names c.members.members.items c.push.new.self.items c.in_ok-next.next c.in_ok-push.ensures.items c.members.invariant.names c.in_ok-next.ensures.names;
    }

pub record-returns-clause-exact : goal.record-returns-clause-exact
record-returns-clause-exact t c =
    record_made c.args.frame.bytes.now (bodies_in c.args.frame) c.args.names.now c.args.line c.args.kind c.args.tokens.now _ _ c.in_ok-tag.tag c.in_ok-members.members c.in_ok-members.rest.now c.tag_at.ensures.value c.in-Some.ensures.value c.in_ok-members.ensures.exact c.in_ok-tag.ensures

pub record-returns-clause-names : goal.record-returns-clause-names
record-returns-clause-names t c =
    c.in_ok-members.ensures.names ∙ ap (with_part c.args.names.now) (sym (view_record c.args.line c.args.kind c.in_ok-tag.tag c.in_ok-members.members))

pub specifiers-specifiers-init : goal.specifiers-specifiers-init
specifiers-specifiers-init t c = record {
  shorter = omega arith;
  exact = (
    length c.args.tokens.now + 1,
    omega arith,
    parts_begin c.args.inner c.args.frame.bytes.now c.args.frame.levels (bodies_in c.args.frame) c.args.names.now c.new-items.result.items c.args.tokens.now c.new-items.ensures.items,
  );
  names = ap (λ (ss : List Specifier). with_parts c.args.names.now (parts_of ss)) (sym c.new-items.ensures.items);
  types = ap (λ (ss : List Specifier). have_typedef (parts_of ss)) (sym c.new-items.ensures.items);
}

pub specifiers-returns-in_default-clause-exact : goal.specifiers-returns-in_default-clause-exact
specifiers-returns-in_default-clause-exact t c =
    let e = c.specifiers.invariant.exact in
    let body = bodies_in c.args.frame in
    parts_close c.args.inner c.args.frame.bytes.now c.args.frame.levels e.0 body c.specifiers.names c.specifiers.before c.specifiers.items.items c.specifiers.rest.now (parts_at c.args.inner c.args.frame.bytes.now c.args.frame.levels body c.args.names.now c.args.tokens.now)
    e.1 c.in_default.ensures.value e.2

pub specifiers-returns-in_err-next-clause-exact : goal.specifiers-returns-in_err-next-clause-exact
specifiers-returns-in_err-next-clause-exact t c =
    let p = err_from_is_err_and c.from_residual.result c.from_residual.ensures.1 in
    let e = c.specifiers.invariant.exact in
    let body = bodies_in c.args.frame in
    let all = parts_at c.args.inner c.args.frame.bytes.now c.args.frame.levels body c.args.names.now c.args.tokens.now in
    let start = start_at c.args.inner c.args.frame.bytes.now (c.specifiers.names, c.specifiers.before) c.specifiers.rest.now in
    rw (p.1, p.2) (fails_on c.in_err-next.field-0.0 (part_from c.args.frame.bytes.now c.args.frame.levels body c.specifiers.names c.in-Some.start c.in-Some.token c.in-Some.behind.now) all
    (λ none. fails (parts_list c.args.inner c.args.frame.bytes.now c.args.frame.levels body) view_part e.0 (c.specifiers.names, c.specifiers.before) c.specifiers.items.items c.specifiers.rest.now all e.1 (parts_go c.specifiers.rest.now start (c.in-Some.start, c.in-Some.token, c.in-Some.behind.now) c.in-Some.ensures.value) e.2
    (part_reads c.args.frame.bytes.now c.args.frame.levels body c.specifiers.names start (c.in-Some.start, c.in-Some.token, c.in-Some.behind.now) None c.in-Some.ensures.value none))
    c.in_err-next.ensures.exact)

pub specifiers-specifiers-preserved : goal.specifiers-specifiers-preserved
specifiers-specifiers-preserved t c =
    let e = c.specifiers.invariant.exact in
    let body = bodies_in c.args.frame in
    let start = start_at c.args.inner c.args.frame.bytes.now (c.specifiers.names, c.specifiers.before) c.specifiers.rest.now in
    let x : Start × Token × List Token = (c.in-Some.start, c.in-Some.token, c.in-Some.behind.now) in
    let next = c.in_ok-next.next in
    let rest = c.in_ok-next.behind.now in
    let short : length rest < length c.specifiers.rest.now = omega (arith, c.in_ok-next.ensures.shorter, c.in-Some.ensures.shorter) in
    record {
      shorter = omega (arith, short, c.specifiers.invariant.shorter);
      exact = goes (parts_list c.args.inner c.args.frame.bytes.now c.args.frame.levels body) view_part e.0 (c.specifiers.names, c.specifiers.before) (c.specifier.new.names, c.either-before.result) c.specifiers.items.items c.push.new.self.items next c.specifiers.rest.now rest (parts_at c.args.inner c.args.frame.bytes.now c.args.frame.levels body c.args.names.now c.args.tokens.now)
          e.1 short (parts_go c.specifiers.rest.now start x c.in-Some.ensures.value) e.2
          (part_reads c.args.frame.bytes.now c.args.frame.levels body c.specifiers.names start x (Some (view_part next, rest)) c.in-Some.ensures.value c.in_ok-next.ensures.exact) c.in_ok-push.ensures.items
          (part_state c.specifiers.names c.specifier.new.names c.specifiers.before c.either-before.result c.specifies.result (view_part next) c.in_ok-next.ensures.names c.specifies.ensures c.either-before.ensures);
      names = parts_push c.args.names.now c.specifiers.names c.specifier.new.names c.specifiers.items.items c.push.new.self.items next c.in_ok-push.ensures.items c.specifiers.invariant.names c.in_ok-next.ensures.names;
      types = typedef_push c.specifiers.types c.either-types.result c.is_typedef.result c.specifiers.items.items c.push.new.self.items next c.in_ok-push.ensures.items c.specifiers.invariant.types c.is_typedef.ensures c.either-types.ensures;
    }

pub declarators-declarators-init : goal.declarators-declarators-init
declarators-declarators-init t c = record {
  shorter = omega arith;
  exact = (
    length c.args.tokens.now + 1,
    omega arith,
    fulls_begin (fulls_in c.args.frame false) c.args.names.now c.new-declarators.result.items c.args.tokens.now c.new-declarators.ensures.items,
  );
  names = refl;
}

pub declarators-returns-in-Some-clause-exact : goal.declarators-returns-in-Some-clause-exact
declarators-returns-in-Some-clause-exact t c =
    let e = c.declarators.invariant.exact in
    let item = fulls_in c.args.frame false in
    fulls_close item e.0 c.declarators.names c.declarators.first c.declarators.declarators.items c.declarators.rest.now _ (fulls_at item c.args.names.now c.args.tokens.now)
    e.1 c.in-Some.ensures.value e.2

pub declarators-returns-in_err-next-clause-exact : goal.declarators-returns-in_err-next-clause-exact
declarators-returns-in_err-next-clause-exact t c =
    let p = err_from_is_err_and c.from_residual.result c.from_residual.ensures.1 in
    let e = c.declarators.invariant.exact in
    let item = fulls_in c.args.frame false in
    let all = fulls_at item c.args.names.now c.args.tokens.now in
    rw (p.1, p.2) (fails_on c.in_err-next.field-0.0 (next_at c.declarators.first (item c.declarators.names) c.declarators.rest.now) all
    (fails (fulls_list item) view_full e.0 (c.declarators.names, c.declarators.first) c.declarators.declarators.items c.declarators.rest.now all e.1 (not_ended marks.Semicolon no_full c.declarators.rest.now c.in_default.ensures.value) e.2)
    c.in_err-next.ensures.exact)

pub declarators-declarators-preserved : goal.declarators-declarators-preserved
declarators-declarators-preserved t c =
    let e = c.declarators.invariant.exact in
    let item = fulls_in c.args.frame false in
    record {
      shorter = omega (arith, c.in_ok-next.ensures.shorter, c.declarators.invariant.shorter);
      exact = goes (fulls_list item) view_full e.0 (c.declarators.names, c.declarators.first) (c.next_declarator.new.names, false) c.declarators.declarators.items c.push.new.self.items c.in_ok-next.next c.declarators.rest.now c.in_ok-next.behind.now (fulls_at item c.args.names.now c.args.tokens.now)
          e.1 c.in_ok-next.ensures.shorter (not_ended marks.Semicolon no_full c.declarators.rest.now c.in_default.ensures.value) e.2 c.in_ok-next.ensures.exact c.in_ok-push.ensures.items (ap (λ (x : Scope). pair x false) c.in_ok-next.ensures.names);
      names = c.in_ok-next.ensures.names ∙ c.declarators.invariant.names;
    }

pub next_declarator-returns-clause-shorter : goal.next_declarator-returns-clause-shorter
next_declarator-returns-clause-shorter t c =
    let short = full_shorter c.args.frame.bytes.now c.args.names.now c.args.frame.levels c.in-Some.rest.now _ c.in_ok-declarator.ensures.exact in
    omega (arith, short, c.in-Some.ensures.shorter)

pub suffixes-suffixes-init : goal.suffixes-suffixes-init
suffixes-suffixes-init t c = record {
  shorter = omega arith;
  exact = (
    length c.args.tokens.now + 1,
    omega arith,
    suffixes_begin c.args.frame.bytes.now c.args.frame.levels (bodies_in c.args.frame) (fulls_in c.args.frame) c.args.names.now c.new-items.result.items c.args.tokens.now c.new-items.ensures.items,
  );
  names = refl;
}

pub suffixes-returns-in_default-clause-exact : goal.suffixes-returns-in_default-clause-exact
suffixes-returns-in_default-clause-exact t c =
    let e = c.suffixes.invariant.exact in
    let body = bodies_in c.args.frame in
    let sub = fulls_in c.args.frame in
    suffixes_close c.args.frame.bytes.now c.args.frame.levels e.0 body sub c.suffixes.names c.suffixes.items.items c.suffixes.rest.now (suffixes_at c.args.frame.bytes.now c.args.frame.levels body sub c.args.names.now c.args.tokens.now)
    e.1 c.in_default.ensures.value e.2

pub suffixes-returns-in_err-next-clause-exact : goal.suffixes-returns-in_err-next-clause-exact
suffixes-returns-in_err-next-clause-exact t c =
    let p = err_from_is_err_and c.from_residual.result c.from_residual.ensures.1 in
    let e = c.suffixes.invariant.exact in
    let body = bodies_in c.args.frame in
    let sub = fulls_in c.args.frame in
    let all = suffixes_at c.args.frame.bytes.now c.args.frame.levels body sub c.args.names.now c.args.tokens.now in
    let start = opening_at c.suffixes.rest.now in
    rw (p.1, p.2) (fails_on c.in_err-next.field-0.0 (one_from c.args.frame.bytes.now c.args.frame.levels body sub c.suffixes.names c.in-Some.opening c.in-Some.token c.in-Some.behind.now) all
    (λ none. fails (suffixes_list c.args.frame.bytes.now c.args.frame.levels body sub) suffix_of e.0 c.suffixes.names c.suffixes.items.items c.suffixes.rest.now all e.1 (suffixes_go c.suffixes.rest.now start (c.in-Some.opening, c.in-Some.token, c.in-Some.behind.now) c.in-Some.ensures.value) e.2
    (suffix_reads c.args.frame.bytes.now c.args.frame.levels body sub c.suffixes.names start (c.in-Some.opening, c.in-Some.token, c.in-Some.behind.now) None c.in-Some.ensures.value none))
    c.in_err-next.ensures.exact)

pub suffixes-suffixes-preserved : goal.suffixes-suffixes-preserved
suffixes-suffixes-preserved t c =
    let e = c.suffixes.invariant.exact in
    let body = bodies_in c.args.frame in
    let sub = fulls_in c.args.frame in
    let start = opening_at c.suffixes.rest.now in
    let x : Opening × Token × List Token = (c.in-Some.opening, c.in-Some.token, c.in-Some.behind.now) in
    let next = c.in_ok-next.next in
    let rest = c.in_ok-next.behind.now in
    let short : length rest < length c.suffixes.rest.now = omega (arith, c.in_ok-next.ensures.shorter, c.in-Some.ensures.shorter) in
    record {
      shorter = omega (arith, short, c.suffixes.invariant.shorter);
      exact = goes (suffixes_list c.args.frame.bytes.now c.args.frame.levels body sub) suffix_of e.0 c.suffixes.names c.suffix.new.names c.suffixes.items.items c.push.new.self.items next c.suffixes.rest.now rest (suffixes_at c.args.frame.bytes.now c.args.frame.levels body sub c.args.names.now c.args.tokens.now)
          e.1 short (suffixes_go c.suffixes.rest.now start x c.in-Some.ensures.value) e.2
          (suffix_reads c.args.frame.bytes.now c.args.frame.levels body sub c.suffixes.names start x (Some (suffix_of next, rest)) c.in-Some.ensures.value c.in_ok-next.ensures.exact) c.in_ok-push.ensures.items c.in_ok-next.ensures.names;
      names = c.in_ok-next.ensures.names ∙ c.suffixes.invariant.names;
    }

pub parameters-parameters-init : goal.parameters-parameters-init
parameters-parameters-init t c = record {
  shorter = omega arith;
  exact = (
    length c.args.tokens.now + 1,
    omega arith,
    parameters_begin c.args.frame.bytes.now c.args.frame.levels (bodies_in c.args.frame) (fulls_in c.args.frame) c.args.names.now c.new-items.result.items c.args.tokens.now c.new-items.ensures.items,
  );
  names = extends_here c.args.names.now;
}

pub parameters-returns-in-Some-clause-exact : goal.parameters-returns-in-Some-clause-exact
parameters-returns-in-Some-clause-exact t c =
    let e = c.parameters.invariant.exact in
    let body = bodies_in c.args.frame in
    let sub = fulls_in c.args.frame in
    parameters_close c.args.frame.bytes.now c.args.frame.levels e.0 body sub c.parameters.names c.parameters.first c.parameters.items.items c.parameters.rest.now _ (parameters_at c.args.frame.bytes.now c.args.frame.levels body sub c.args.names.now c.args.tokens.now)
    e.1 c.in-Some.ensures.value e.2

pub parameters-returns-in_err-next-clause-exact : goal.parameters-returns-in_err-next-clause-exact
parameters-returns-in_err-next-clause-exact t c =
    let p = err_from_is_err_and c.from_residual.result c.from_residual.ensures.1 in
    let e = c.parameters.invariant.exact in
    let body = bodies_in c.args.frame in
    let sub = fulls_in c.args.frame in
    let all = parameters_at c.args.frame.bytes.now c.args.frame.levels body sub c.args.names.now c.args.tokens.now in
    rw (p.1, p.2) (fails_on c.in_err-next.field-0.0 (next_at c.parameters.first (parameter_at c.args.frame.bytes.now c.args.frame.levels body sub c.parameters.names) c.parameters.rest.now) all
    (fails (parameters_list c.args.frame.bytes.now c.args.frame.levels body sub) parameter_of e.0 (c.parameters.names, c.parameters.first) c.parameters.items.items c.parameters.rest.now all e.1 (parameters_go c.parameters.first c.parameters.rest.now c.in_default.ensures.value) e.2)
    c.in_err-next.ensures.exact)

pub parameters-parameters-preserved : goal.parameters-parameters-preserved
parameters-parameters-preserved t c =
    let e = c.parameters.invariant.exact in
    let body = bodies_in c.args.frame in
    let sub = fulls_in c.args.frame in
    record {
      shorter = omega (arith, c.in_ok-next.ensures.shorter, c.parameters.invariant.shorter);
      exact = goes (parameters_list c.args.frame.bytes.now c.args.frame.levels body sub) parameter_of e.0 (c.parameters.names, c.parameters.first) (c.next_parameter.new.names, false) c.parameters.items.items c.push.new.self.items c.in_ok-next.next c.parameters.rest.now c.in_ok-next.behind.now (parameters_at c.args.frame.bytes.now c.args.frame.levels body sub c.args.names.now c.args.tokens.now)
          e.1 c.in_ok-next.ensures.shorter (parameters_go c.parameters.first c.parameters.rest.now c.in_default.ensures.value) e.2 c.in_ok-next.ensures.exact c.in_ok-push.ensures.items (ap (λ (x : Scope). pair x false) c.in_ok-next.ensures.names);
      names = parameters_extend c.args.names.now c.parameters.names c.next_parameter.new.names c.in_ok-next.next c.parameters.invariant.names c.in_ok-next.ensures.names;
    }

pub given-returns-clause-exact : goal.given-returns-clause-exact
given-returns-clause-exact t c =
    given_made c.args.frame.bytes.now c.args.frame.levels (bodies_in c.args.frame) (fulls_in c.args.frame) c.args.names.now c.args.line c.args.tokens.now _ c.in_ok-found.found.items c.in_ok-found.found.variadic c.in_default.ensures.value c.in_ok-found.ensures.exact

pub inside-returns-clause-exact : goal.inside-returns-clause-exact
inside-returns-clause-exact t c =
    inside_made c.args.frame.bytes.now c.args.frame.levels (bodies_in c.args.frame) (fulls_in c.args.frame) c.args.inner c.args.names.now c.full.new.names c.args.line c.args.tokens.now _ _ _ c.in_ok-inner.inner c.in_ok-declarator.declarator c.new-2.result c.in_ok-suffixes.suffixes c.new-2.ensures.items
    c.in_ok-declarator.ensures.exact c.in-Some.ensures.value c.in_ok-declarator.ensures.names c.in_ok-suffixes.ensures.exact c.in_ok-inner.ensures.ok

pub full_behind-returns-in_ok-suffixes-in-Suffixes-clause-exact : goal.full_behind-returns-in_ok-suffixes-in-Suffixes-clause-exact
full_behind-returns-in_ok-suffixes-in-Suffixes-clause-exact t c =
    ap (λ (h : DeclaratorStart). full_from c.args.frame.bytes.now c.args.frame.levels (bodies_in c.args.frame) (fulls_in c.args.frame) c.args.inner c.args.names.now h c.args.tokens.now) c.in-Suffixes.is
    ∙ unnamed_made c.args.frame.bytes.now c.args.frame.levels (bodies_in c.args.frame) (fulls_in c.args.frame) c.args.inner c.args.names.now c.args.tokens.now _ c.new-pointers.result c.in_ok-suffixes-in-Suffixes.suffixes c.new-pointers.ensures.items c.in_ok-suffixes-in-Suffixes.ensures.exact

pub full_behind-returns-in_ok-suffixes-in-Name-clause-exact : goal.full_behind-returns-in_ok-suffixes-in-Name-clause-exact
full_behind-returns-in_ok-suffixes-in-Name-clause-exact t c =
    ap (λ (h : DeclaratorStart). full_from c.args.frame.bytes.now c.args.frame.levels (bodies_in c.args.frame) (fulls_in c.args.frame) c.args.inner c.args.names.now h c.args.tokens.now) c.in-Name.is
    ∙ named_made c.args.frame.bytes.now c.args.frame.levels (bodies_in c.args.frame) (fulls_in c.args.frame) c.args.inner c.args.names.now c.args.tokens.now _ _ c.in-Some.token c.in_ok-name-in-Name.name c.new.result c.in_ok-suffixes-in-Name.suffixes c.new.ensures.items c.in-Some.ensures c.in_ok-name-in-Name.ensures c.in_ok-suffixes-in-Name.ensures.exact

pub parameter-returns-clause-shorter : goal.parameter-returns-clause-shorter
parameter-returns-clause-shorter t c =
    let short = parts_shorter false c.args.frame.bytes.now c.args.names.now c.args.frame.levels c.args.tokens.now _ c.in_ok-found.ensures.exact (some_known c.are_some.result _ c.in_ok-found.found.items.items c.if-not-are_some.false c.are_some.ensures c.deref.ensures.value) in
    omega (arith, short, c.in_ok-declarator.ensures.shorter)
