use Rattle.std.proofs.Common.{ap, ◌∙◌}
use Rattle.c_lexer.specs.Cutting.{bytes_of}
use Rattle.c_pre.proofs.Cut.{no_splices}
use Rattle.c_pre.proofs.expanding.own_tokens.Goals as goal

pub returns-in-Ok-clause-bytes : goal.returns-in-Ok-clause-bytes
returns-in-Ok-clause-bytes c = c.in-Ok.ensures.bytes ∙ ap bytes_of c.text.ensures ∙ no_splices
