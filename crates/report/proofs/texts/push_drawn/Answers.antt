use Rattle.std.proofs.Common.{◌++◌, length, string_bytes, sym, ap, ◌∙◌}
use Rattle.std.proofs.lemmas.List.{append-nil}
use Rattle.report.proofs.Drawing.{emptied, filled, no_line, one_line}
use Rattle.report.proofs.texts.push_drawn.Goals as goal

pub returns-then-is_empty : goal.returns-then-is_empty
returns-then-is_empty c =
    let text = string_bytes c.args.text.now in
    let words = c.args.words.now in
    sym (append-nil text) ∙ ap (λ z. text ++ z) (sym (no_line c.args.thread words (emptied (length words) (sym c.is_empty.ensures ∙ c.if-is_empty.true))))

pub returns : goal.returns
returns c =
    let words = c.args.words.now in
    c.in_ok-push_thread.ensures
    ∙ ap (λ z. string_bytes c.args.text.now ++ z) (sym (one_line c.args.thread words (filled (length words) (sym c.is_empty.ensures ∙ c.if-is_empty.false))))
