use Rattle.c_lexer.specs.Cutting.{bytes_of}
use Rattle.told_lines.proofs.laws.told_lines.Goals as goal

pub returns : goal.returns
returns c file bytes cutting tokens tree core limits inputs schedule check cut expanded is_tree typed replays =
    let cut_lines = c.token_lines.ensures file cutting cut in
    let found_lines = c.expanded_lines.ensures (bytes_of file) cutting tokens expanded cut_lines in
    let lined = c.tree_lines.ensures bytes tokens tree is_tree found_lines in
    c.run_lines.ensures core limits inputs schedule check (c.typed_lines.ensures tree core typed lined) replays
