use Rattle.std.proofs.Common.{List, length, drop, Some, None, ap, sym, ◌∙◌}
use Rattle.c_token.specs.declared.token.Token.{Token}
use Rattle.c_tree.specs.Tree.{view}
use Rattle.c_parse_expr.specs.Standing.{number_of}
use Rattle.c_parse_expr.specs.inner.Reading.{reader}
use Rattle.c_parse_expr.proofs.Loops.{fails_none}
use Rattle.c_parse_expr.proofs.Complete.{no_tree}
use Rattle.c_parse_expr.proofs.Places.{same_reading, place_found}
use Rattle.c_parse_expr.proofs.place.expression.Goals as goal

pub returns-in-Ok-clause-found : goal.returns-in-Ok-clause-found
returns-in-Ok-clause-found c =
    let bytes = c.args.tokens.now.bytes.items in
    let items = c.args.tokens.now.tokens.items in
    place_found bytes c.args.names.now items c.args.at c.len.result c.args.level (view c.in-Ok.found.tree.value) c.in-Ok.found.rest.now
    (ap (λ (xs : List Token). length xs) (sym c.deref.ensures.value) ∙ c.deref.ensures.len ∙ sym c.len.ensures)
    (same_reading bytes c.deref-2.result.now c.args.names.now items c.deref.result.now c.split_at.result.1.now c.args.at (number_of c.args.level) c.number.result (Some (view c.in-Ok.found.tree.value, c.in-Ok.found.rest.now))
    c.deref-2.ensures.value c.deref.ensures.value c.split_at.ensures.back c.number.ensures c.in-Ok.ensures.exact)

pub returns-in-Err-Syntax-clause-none : goal.returns-in-Err-Syntax-clause-none
returns-in-Err-Syntax-clause-none c =
    let bytes = c.args.tokens.now.bytes.items in
    let items = c.args.tokens.now.tokens.items in
    λ no. no_tree bytes c.args.names.now 400 (number_of c.args.level) (drop c.args.at items)
    (same_reading bytes c.deref-2.result.now c.args.names.now items c.deref.result.now c.split_at.result.1.now c.args.at (number_of c.args.level) c.number.result None
    c.deref-2.ensures.value c.deref.ensures.value c.split_at.ensures.back c.number.ensures
    (fails_none c.in-Err-Syntax.field-0 (reader c.deref-2.result.now c.args.names.now 400 c.number.result c.split_at.result.1.now) c.in-Err-Syntax.field-0-is c.in-Err-Syntax.ensures.exact))
