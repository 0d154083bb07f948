use Rattle.std.proofs.Common.{◌≡◌, ◌++◌, string_bytes}
use Rattle.generator.specs.Program.{each, joins}
use Rattle.generator.proofs.program.push_joins.Given as goal

abbrev pub invariant-loop-earlier : goal.invariant-loop-earlier
invariant-loop-earlier l = string_bytes l.text ≡ string_bytes l.fn.text ++ each joins l.earlier
