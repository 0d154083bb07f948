use Rattle.std.proofs.Common.{arith}
use Rattle.c_parse_parts.proofs.DeclaredNames.{some_pointers, no_pointers}
use Rattle.c_parse_parts.proofs.declared.behind_pointers.Goals as goal

pub returns-in-len1-up : goal.returns-in-len1-up
returns-in-len1-up c = λ d. some_pointers c.args.pointers.now d c.args.outer c.in-len1-up.len_at_least

pub returns-in-empty : goal.returns-in-empty
returns-in-empty c = λ d. no_pointers c.args.pointers.now d c.args.outer (omega arith)
