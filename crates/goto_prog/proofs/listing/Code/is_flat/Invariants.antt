use Rattle.std.proofs.Common.{◌≡◌, drop}
use Rattle.std.specs.List.{list_all}
use Rattle.goto_prog.specs.declared.code.Instruction.{Instruction}
use Rattle.goto_prog.specs.UnrolledCode.{is_flat}
use Rattle.goto_prog.proofs.listing.Code.is_flat.Given as goal

abbrev pub invariant-loop-instruction : goal.invariant-loop-instruction
invariant-loop-instruction l =
    list_all (λ (i : Instruction). is_flat i.operation) (drop l.instruction-index l.self.instructions) ≡ list_all (λ (i : Instruction). is_flat i.operation) l.self.instructions
