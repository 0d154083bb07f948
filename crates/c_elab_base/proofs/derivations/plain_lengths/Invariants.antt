use Rattle.std.proofs.Common.{◌≡◌, ◌++◌, drop, option_map}
use Rattle.c_elab_base.specs.Derivations.{plain_lengths, view_deriveds}
use Rattle.c_elab_base.proofs.derivations.plain_lengths.Given as goal

abbrev pub invariant-loop-suffix : goal.invariant-loop-suffix
invariant-loop-suffix l = option_map (λ ns. l.lengths.items ++ ns) (plain_lengths (view_deriveds (drop l.suffix-index l.suffixes))) ≡ plain_lengths (view_deriveds l.suffixes)
