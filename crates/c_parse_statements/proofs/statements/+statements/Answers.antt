use Rattle.std.proofs.Common.{◌+◌, length, ◌∙◌, arith}
use Rattle.c_tree.specs.Declarations.{parts_of, declarators_of}
use Rattle.std.specs.Prelude.{Result, Ok, Err, IfOk}
use Rattle.c_parse_expr.specs.declared.fault.Refused.{Refused}
use Rattle.std.proofs.lemmas.Result.{err_from_is_err_and}
use Rattle.c_token.specs.declared.token.Mark.TheVariants as marks
use Rattle.c_tree.specs.Statements.{done}
use Rattle.c_parse_expr.proofs.Loops.{fails_on}
use Rattle.c_parse_statements.specs.inner.Reading.{item_at, items_list, items_at, statements_in}
use Rattle.c_parse_statements.specs.inner.Pieces.{piece_of}
use Rattle.c_parse_parts.proofs.Lists.{fails, goes}
use Rattle.c_parse_parts.proofs.Loops.{not_ended, extends_here, declaration_extends, fits_marked, left_marked}
use Rattle.c_parse_statements.proofs.Loops.{items_begin, items_close, block_made, extends_on}
use Rattle.c_parse_statements.proofs.statements.+statements.Goals as goal

pub block-returns-clause-exact : goal.block-returns-clause-exact
block-returns-clause-exact t c =
    rw (block_made c.args.frame.bytes.now c.args.frame.levels (statements_in c.args.frame) c.args.names.now c.args.line c.args.tokens.now c.in_ok-items.rest.now c.in_ok-items.items c.in_ok-items.ensures.exact) c.made.ensures.exact

pub items-items-init : goal.items-items-init
items-items-init t c = record {
  shorter = omega arith;
  exact = (
    length c.args.tokens.now + 1,
    omega arith,
    items_begin c.args.frame.bytes.now c.args.frame.levels (statements_in c.args.frame) c.args.names.now c.new-items.result.items c.args.tokens.now c.new-items.ensures.items,
  );
  names = extends_here c.args.names.now;
}

pub items-returns-in-Some-clause-exact : goal.items-returns-in-Some-clause-exact
items-returns-in-Some-clause-exact t c =
    let e = c.items.invariant.exact in
    let sub = statements_in c.args.frame in
    items_close c.args.frame.bytes.now c.args.frame.levels e.0 sub c.items.names c.items.items.items c.items.rest.now _ (items_at c.args.frame.bytes.now c.args.frame.levels sub c.args.names.now c.args.tokens.now) e.1 c.in-Some.ensures.value e.2

pub items-returns-in_err-next-clause-exact : goal.items-returns-in_err-next-clause-exact
items-returns-in_err-next-clause-exact t c =
    let p = err_from_is_err_and c.from_residual.result c.from_residual.ensures.1 in
    let e = c.items.invariant.exact in
    let sub = statements_in c.args.frame in
    let all = items_at c.args.frame.bytes.now c.args.frame.levels sub c.args.names.now c.args.tokens.now in
    rw (p.1, p.2) (fails_on c.in_err-next.field-0.0 (item_at c.args.frame.bytes.now c.args.frame.levels sub c.items.names c.items.rest.now) all
    (fails (items_list c.args.frame.bytes.now c.args.frame.levels sub) piece_of e.0 c.items.names c.items.items.items c.items.rest.now all e.1 (not_ended marks.RightBrace done c.items.rest.now c.in_default.ensures.value) e.2)
    c.in_err-next.ensures.exact)

pub items-items-preserved : goal.items-items-preserved
items-items-preserved t c =
    let e = c.items.invariant.exact in
    let sub = statements_in c.args.frame in
    record {
      shorter = omega (arith, c.in_ok-next.ensures.shorter, c.items.invariant.shorter);
      exact = goes (items_list c.args.frame.bytes.now c.args.frame.levels sub) piece_of e.0 c.items.names c.item.new.names c.items.items.items c.push.new.self.items c.in_ok-next.next c.items.rest.now c.in_ok-next.behind.now (items_at c.args.frame.bytes.now c.args.frame.levels sub c.args.names.now c.args.tokens.now)
          e.1 c.in_ok-next.ensures.shorter (not_ended marks.RightBrace done c.items.rest.now c.in_default.ensures.value) e.2 c.in_ok-next.ensures.exact c.in_ok-push.ensures.items c.in_ok-next.ensures.names;
      names = extends_on c.args.names.now c.items.names c.item.new.names c.in_ok-next.next c.items.invariant.names c.in_ok-next.ensures.names;
    }

-- what holds anyway holds of what a call returned
always : {T : Type 0} (r : Result T Refused) (P : Type 0) → P → IfOk r (λ _. P)
always (Ok x) P p = p
always (Err e) P p = tt

pub declared_for-leave-requires : goal.declared_for-leave-requires
declared_for-leave-requires t c =
    let d = c.in_ok-declaration.declaration.value in
    let e = declaration_extends c.args.names.now c.header.new.names (parts_of d.specifiers.items) (declarators_of d.declarators.items) (c.in_ok-found.ensures.names ∙ c.in_ok-declaration.ensures.names) in
    fits_marked c.args.names.now c.header.new.names c.mark-mark.result c.mark-mark.ensures e

pub declared_for-returns-clause-names : goal.declared_for-returns-clause-names
declared_for-returns-clause-names t c =
    let d = c.in_ok-declaration.declaration.value in
    let e = declaration_extends c.args.names.now c.header.new.names (parts_of d.specifiers.items) (declarators_of d.declarators.items) (c.in_ok-found.ensures.names ∙ c.in_ok-declaration.ensures.names) in
    always c.made.result _ (left_marked c.args.names.now c.header.new.names c.leave.new.self c.mark-mark.result c.mark-mark.ensures e c.leave.ensures)
