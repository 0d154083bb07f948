-- Code without calls and returns, and without what bounds decide.
use Rattle.std.specs.Prelude.{Bool, true, false}
use Rattle.std.specs.List.{list_all}
use Rattle.goto_prog.specs.declared.code.Instruction.{Instruction}
use Rattle.goto_prog.specs.declared.code.Operation.{Operation}
use Rattle.goto_prog.specs.declared.code.Operation.TheVariants as operations
use Rattle.goto_prog.specs.CodeThread.{Listing}

-- an operation of unrolled code: it neither calls a function nor returns, nor asks for bounds
abbrev pub is_flat : Operation → Bool
is_flat (operations.Call f first count into r) = false
is_flat (operations.Return v) = false
is_flat (operations.MayFail r) = false
is_flat (operations.Limit a b) = false
is_flat _ = true

abbrev pub is_flat_code : Listing → Bool
is_flat_code code = list_all (λ (i : Instruction). is_flat i.operation) code.instructions
