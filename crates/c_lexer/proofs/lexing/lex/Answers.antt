use Rattle.std.proofs.Common.{arith, ◌∙◌, Ok, Err}
use Rattle.std.proofs.lemmas.Result.{err_from_is_err_and}
use Rattle.c_lexer.specs.Cutting.{bytes_of, lines_of, start}
use Rattle.c_lexer.proofs.Splices.{as_many, no_more}
use Rattle.c_lexer.proofs.One.{copy_once}
use Rattle.c_lexer.proofs.lexing.lex.Goals as goal

pub cut-requires-clause-lines : goal.cut-requires-clause-lines
cut-requires-clause-lines c =
    let text = c.in_ok-text.ensures in
    rw (c.deref.ensures.value, c.deref-2.ensures.value, text.bytes, text.lines) (as_many c.args.file.now)

pub cut-requires-clause-small : goal.cut-requires-clause-small
cut-requires-clause-small c =
    let text = c.in_ok-text.ensures in
    rw (c.deref.ensures.value, text.bytes) (omega (arith, no_more c.args.file.now, c.requires))

pub returns-in_err-tokens-clause-exact : goal.returns-in_err-tokens-clause-exact
returns-in_err-tokens-clause-exact c =
    let p = err_from_is_err_and c.from_residual-in_err-tokens.result c.from_residual-in_err-tokens.ensures.1 in
    let text = c.in_ok-text.ensures in
    rw (p.1, p.2) (λ found h no_memory.
    copy_once (bytes_of c.args.file.now) (lines_of c.args.file.now) c.deref.result.now c.deref-2.result.now start (Err c.in_err-tokens.field-0.0) found
    (c.deref.ensures.value ∙ text.bytes) (c.deref-2.ensures.value ∙ text.lines) (c.in_err-tokens.ensures.fault no_memory) h)

pub returns-clause-exact : goal.returns-clause-exact
returns-clause-exact c = λ found h.
    let text = c.in_ok-text.ensures in
    copy_once (bytes_of c.args.file.now) (lines_of c.args.file.now) c.deref.result.now c.deref-2.result.now start (Ok c.in_ok-tokens.tokens.items) found
    (c.deref.ensures.value ∙ text.bytes) (c.deref-2.ensures.value ∙ text.lines) c.in_ok-tokens.ensures.cut h
