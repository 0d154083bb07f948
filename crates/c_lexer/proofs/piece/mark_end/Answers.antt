use Rattle.std.proofs.Common.{sym, ◌∙◌}
use Rattle.c_lexer.proofs.Marks.{mark_ends, mark_never, fail_from_3, fail_more}
use Rattle.c_lexer.proofs.piece.mark_end.Goals as goal

pub returns-then-is_mark_of : goal.returns-then-is_mark_of
returns-then-is_mark_of c =
    let text = c.args.text.now in
    mark_ends text 3 (record { other = c.requires.class; no_number = c.requires.no_number }) (sym c.is_mark_of.ensures ∙ c.if-is_mark_of.true) (fail_from_3 text)

pub returns-then-is_mark_of-2 : goal.returns-then-is_mark_of-2
returns-then-is_mark_of-2 c =
    let text = c.args.text.now in
    let three = fail_more text 2 (sym c.is_mark_of.ensures ∙ c.if-is_mark_of.false) (fail_from_3 text) in
    mark_ends text 2 (record { other = c.requires.class; no_number = c.requires.no_number }) (sym c.is_mark_of-else-is_mark_of.ensures ∙ c.if-is_mark_of-2.true) three

pub returns-then-is_mark_of-3 : goal.returns-then-is_mark_of-3
returns-then-is_mark_of-3 c =
    let text = c.args.text.now in
    let three = fail_more text 2 (sym c.is_mark_of.ensures ∙ c.if-is_mark_of.false) (fail_from_3 text) in
    let two = fail_more text 1 (sym c.is_mark_of-else-is_mark_of.ensures ∙ c.if-is_mark_of-2.false) three in
    mark_ends text 1 (record { other = c.requires.class; no_number = c.requires.no_number }) (sym c.is_mark_of-else-is_mark_of-2.ensures ∙ c.if-is_mark_of-3.true) two

pub returns-else-is_mark_of-3 : goal.returns-else-is_mark_of-3
returns-else-is_mark_of-3 c =
    let text = c.args.text.now in
    let three = fail_more text 2 (sym c.is_mark_of.ensures ∙ c.if-is_mark_of.false) (fail_from_3 text) in
    let two = fail_more text 1 (sym c.is_mark_of-else-is_mark_of.ensures ∙ c.if-is_mark_of-2.false) three in
    let one = fail_more text 0 (sym c.is_mark_of-else-is_mark_of-2.ensures ∙ c.if-is_mark_of-3.false) two in
    mark_never text (record { other = c.requires.class; no_number = c.requires.no_number }) one
