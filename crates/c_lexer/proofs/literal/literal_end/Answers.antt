use Rattle.std.proofs.Common.{sym, ◌∙◌}
use Rattle.std.proofs.lemmas.Bool.{eq-eqb, ne_eqb}
use Rattle.c_lexer.proofs.Quotes.{to_start, to_more, to_newline, to_end, to_close}
use Rattle.c_lexer.proofs.literal.literal_end.Goals as goal

pub loop-end-init : goal.loop-end-init
loop-end-init c = to_start c.args.text.now c.requires

pub returns-then-byte-eq10 : goal.returns-then-byte-eq10
returns-then-byte-eq10 c =
    to_newline c.args.text.now c.loop-end.end c.loop-end.escaped c.requires c.loop-end-test.true (eq-eqb _ _ c.if-byte-eq10.true) c.loop-end.invariant

pub returns-then-is_plain : goal.returns-then-is_plain
returns-then-is_plain c =
    to_close c.args.text.now c.loop-end.end c.loop-end.escaped c.requires c.loop-end-test.true (ne_eqb _ _ c.if-byte-eq10.false)
    (sym c.is_plain.ensures ∙ c.if-is_plain.true) c.loop-end.invariant

pub returns : goal.returns
returns c = to_end c.args.text.now c.loop-end.end c.loop-end.escaped c.requires c.loop-end-test.false c.loop-end.invariant

pub loop-end-preserved : goal.loop-end-preserved
loop-end-preserved c =
    let s = to_more c.args.text.now c.loop-end.end c.loop-end.escaped c.loop-end-test.true (ne_eqb _ _ c.if-byte-eq10.false)
    (sym c.is_plain.ensures ∙ c.if-is_plain.false) c.loop-end.invariant in
    rw c.is_plain-escaped.ensures s
