use Rattle.std.proofs.Common.{List, map, take, drop, sym, ap, ◌∙◌}
use Rattle.std.proofs.lemmas.List.{take-map, drop-map}
use Rattle.c_pre.specs.declared.header.Header.{Header}
use Rattle.c_pre.specs.declared.lines.Line.{Line}
use Rattle.c_pre.specs.Headers.{rows_of}
use Rattle.c_pre.specs.Views.{tokens_of}
use Rattle.c_pre.proofs.header.rows_of.Goals as goal

pub returns-in-Limits : goal.returns-in-Limits
returns-in-Limits c =
    let rows = c.args.rows.now in
    ap (λ (ls : List Line). map tokens_of ls) c.part-in-Limits.ensures
    ∙ sym (ap (take 18) (drop-map tokens_of 7 rows) ∙ take-map tokens_of 18 (drop 7 rows))
    ∙ ap (λ (h : Header). rows_of h (map tokens_of rows)) (sym c.in-Limits.is)
