use Rattle.c_parse_expr.proofs.Loops.{fails_none}
use Rattle.c_parse_statements.specs.Standing.{outer_of}
use Rattle.c_parse_statements.specs.inner.Reading.{outer_at}
use Rattle.c_parse_decl.proofs.Externals.{outer_takes, none_stands}
use Rattle.c_parse_decl.proofs.file.next_external.Goals as goal

pub returns-in-Ok-clause-found : goal.returns-in-Ok-clause-found
returns-in-Ok-clause-found c =
    outer_takes c.args.bytes.now c.args.names.now c.args.tokens.now (outer_of c.in-Ok.external, c.in-Ok.rest.now) c.in-Ok.ensures.exact

pub returns-in-Err-Syntax-clause-none : goal.returns-in-Err-Syntax-clause-none
returns-in-Err-Syntax-clause-none c =
    λ not. none_stands c.args.bytes.now c.args.names.now c.args.tokens.now (fails_none c.in-Err-Syntax.field-0 (outer_at c.args.bytes.now c.args.names.now c.args.tokens.now) c.in-Err-Syntax.field-0-is c.in-Err-Syntax.ensures.exact)
