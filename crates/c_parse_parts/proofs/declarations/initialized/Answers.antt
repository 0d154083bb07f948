use Rattle.std.proofs.Common.{arith}
use Rattle.c_parse_parts.proofs.Shorter.{full_shorter}
use Rattle.c_parse_parts.proofs.declarations.initialized.Goals as goal

pub returns-clause-shorter : goal.returns-clause-shorter
returns-clause-shorter c =
    let short = full_shorter c.args.frame.bytes.now c.args.names.now c.args.frame.levels c.args.tokens.now _ c.in_ok-declarator.ensures.exact in
    omega (arith, short, c.in_ok-initializer.ensures.shorter)
