use Rattle.std.proofs.Common.{arith, ◌+◌, ◌==◌, ◌&&◌, ◌≡◌, get_or, false}
use Rattle.std.proofs.lemmas.Bool.{eq-eqb, ne_eqb, and_from, and_left, and_right}
use Rattle.c_lexer.proofs.Comments.{block_start, open_start, open_more, open_ends}
use Rattle.c_lexer.proofs.piece.block_comment_end.Goals as goal
use Rattle.c_lexer.proofs.piece.block_comment_end.Goals.{else-text-at-eq42-via-then-text-at-eq42+else-text-at-eq47, else-text-at-eq42-via-else-text-at-eq42}

pub loop-at-init : goal.loop-at-init
loop-at-init c = (omega arith, (block_start c.args.text.now c.requires).0, open_start c.args.text.now)

pub returns-then-text-at-eq47 : goal.returns-then-text-at-eq47
returns-then-text-at-eq47 c =
    let text = c.args.text.now in
    let i = c.loop-at.invariant in
    open_ends text c.loop-at.at (block_start text c.requires).1 i.0 c.loop-at-test.true (and_from _ _ (eq-eqb _ _ c.if-text-at-eq42.true) (eq-eqb _ _ c.if-text-at-eq47.true)) i.2

pub loop-at-preserved : goal.loop-at-preserved
loop-at-preserved c =
    let text = c.args.text.now in
    let i = c.loop-at.invariant in
    let other : (get_or text c.loop-at.at 0 == 42 && get_or text (c.loop-at.at + 1) 0 == 47) ≡ false =
    elim c.else-text-at-eq42.branch [
      | else-text-at-eq42-via-then-text-at-eq42+else-text-at-eq47 w ↦ and_right _ _ (ne_eqb _ _ w.if-text-at-eq47.false)
      | else-text-at-eq42-via-else-text-at-eq42 w ↦ and_left _ _ (ne_eqb _ _ w.if-text-at-eq42.false)
    ] in
    (omega arith, omega arith, open_more text c.loop-at.at (block_start text c.requires).1 i.0 c.loop-at-test.true other i.2)
