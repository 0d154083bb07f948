use Rattle.std.proofs.Common.{◌≡◌, ◌∷◌, [], true}
use Rattle.std.specs.List.{list_all}
use Rattle.c_types.specs.declared.integers.IntegerType.TheVariants as types
use Rattle.goto_prog.specs.declared.code.Instruction.{Instruction}
use Rattle.goto_prog.specs.Fitting.{code_fits}
use Rattle.goto_prog.specs.Static.{is_static_code}
use Rattle.goto_prog.specs.UnrolledCode.{is_flat}
use Rattle.formula_tests.proofs.equation_tests.drawn_first.Given as goal

abbrev pub invariant-loop-word : goal.invariant-loop-word
invariant-loop-word l =
    (code_fits (types.UnsignedLong ∷ types.Int ∷ types.Int ∷ types.Int ∷ []) (4096 ∷ []) l.code.items ≡ true)
    × (list_all (λ (i : Instruction). is_flat i.operation) l.code.items ≡ true)
    × (is_static_code l.code.items ≡ true)
