use Rattle.std.proofs.Common.{arith}
use Rattle.c_tree.specs.Declarations.{full_suffixes_of}
use Rattle.c_parse_parts.proofs.DeclaredNames.{inner_first}
use Rattle.c_parse_parts.proofs.declared.or_suffixes.Goals as goal

pub returns-in-len1-up : goal.returns-in-len1-up
returns-in-len1-up c = inner_first c.args.inner.now (full_suffixes_of c.args.outer.now) (omega arith)
