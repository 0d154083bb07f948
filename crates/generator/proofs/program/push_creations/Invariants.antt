use Rattle.std.proofs.Common.{◌≡◌, ◌++◌, string_bytes}
use Rattle.generator.specs.Program.{each, creates}
use Rattle.generator.proofs.program.push_creations.Given as goal

abbrev pub invariant-loop-earlier : goal.invariant-loop-earlier
invariant-loop-earlier l = string_bytes l.text ≡ string_bytes l.fn.text ++ each creates l.earlier
