use Rattle.std.proofs.Common.{ℕ, List, ◌∷◌, [], ◌++◌, map, ap, sym, ◌∙◌}
use Rattle.std.specs.Prelude.{codes, string_bytes}
use Rattle.report.specs.Report.{spaced_row, spaced_rows}
use Rattle.report.specs.Failing.{row_of}
use Rattle.report.proofs.Joining.{flat_map_over, three_pieces}
use Rattle.report.proofs.texts.push_schedule.Goals as goal

pub returns : goal.returns
returns c =
    three_pieces (string_bytes c.args.text.now) (codes "schedule") (spaced_rows (map row_of c.args.rows.now)) (10 ∷ []) _ _ _
    c.in_ok-push_str.ensures.bytes
    (c.in_ok-push_rows.ensures ∙ ap (λ (x : List ℕ). string_bytes c.push_str.new.self ++ x) (sym (flat_map_over spaced_row row_of c.args.rows.now)))
    c.in_ok-push_str-2.ensures.bytes
