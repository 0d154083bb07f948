use Rattle.std.proofs.Common.{◌∙◌, ap, codes, ℕ, Vec}
use Rattle.std.specs.Global.{Global}
use Rattle.generator.specs.Program.{each, creates, joins, first_lines, line_of}
use Rattle.generator.proofs.Lines.{four_pieces}
use Rattle.generator.proofs.program.generated.Goals as goal

pub returns : goal.returns
returns c =
    ap (λ (v : Vec ℕ Global). v.items) c.into_bytes.ensures.value
    ∙ four_pieces first_lines (each creates c.args.n) (each joins c.args.n) (line_of (codes "assert(s==e);return 0;}")) _ _ _ _
    c.in_ok-text.ensures.ok c.in_ok-push_creations.ensures c.in_ok-push_joins.ensures c.in_ok-push_str.ensures.bytes
