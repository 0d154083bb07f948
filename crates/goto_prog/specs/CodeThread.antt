-- A thread that runs flat code, and why it is one that a thread may be.
use Rattle.std.specs.Prelude.{ℕ, Bool, false, List, [], Option, Some, None, map, drop, slice_get}
use Rattle.c_types.specs.declared.integers.IntegerType.{IntegerType}
use Rattle.c_values.specs.Variables.{first_variables}
use Rattle.actions.specs.declared.action.Next.TheVariants.{Blocked}
use Rattle.actions.specs.Behaviour.{Behaviour, Program, Thread, IsBehaviour, IsThread}
use Rattle.goto_prog.specs.declared.code.Instruction.{Instruction}
use Rattle.goto_prog.specs.Meaning.{Memory, Given, places, does}
use Rattle.goto_prog.specs.Threads.{behaving, final}
use Rattle.goto_prog.specs.Fine.{final_behaves, AreFineCalls, at_fine, places_fine}

-- ---- threads

-- what contracts see of the code of a function; the blocks are their sizes
pub record Listing : Type 0 where
  pub registers : List IntegerType
  pub blocks : List ℕ
  pub instructions : List Instruction
  pub startable : Bool

-- each register is 0, and so is each byte
abbrev pub first_memory : Listing → Memory
first_memory code = record { registers = map (λ t. 0) code.registers; blocks = first_variables code.blocks }

-- what code does from a place with a memory; in strict code an operation that is undefined breaks by itself
abbrev pub runs : Bool → Listing → ℕ → Memory → Behaviour
runs strict code place m = does behaving strict place (drop place code.instructions) m

abbrev pub starts : Bool → Option Listing → Behaviour
starts strict None = final Blocked
starts strict (Some code) = runs strict code 0 (first_memory code)

abbrev pub is_startable : Option Listing → Bool
is_startable None = false
is_startable (Some code) = code.startable

abbrev pub code_program : Bool → List Listing → Program
code_program strict functions = record { can_start = λ f. is_startable (slice_get functions f); behaves = λ f v. starts strict (slice_get functions f) }

abbrev pub code_thread : Bool → List Listing → Listing → ℕ → Memory → Thread
code_thread strict functions code place m = record { behaves = runs strict code place m; program = code_program strict functions }

-- ---- it is a thread

module _ (program : Program) where
  pub no_calls : AreFineCalls program (λ caller f line arguments follows. final Blocked)
  no_calls caller f line arguments follows fine = final_behaves program Blocked tt

  pub nothing_over : (given : Given) → IsBehaviour program (final Blocked)
  nothing_over given = final_behaves program Blocked tt

  does_fine : (strict : Bool) (place : ℕ) (code : List Instruction) (m : Memory) → IsBehaviour program (does behaving strict place code m)
  does_fine strict place code m =
      at_fine program _ _ no_calls nothing_over (places behaving strict place code) 0 m (places_fine program _ _ no_calls nothing_over strict place code [] tt)

  starts_fine : (strict : Bool) (code : Option Listing) → IsBehaviour program (starts strict code)
  starts_fine strict None = final_behaves program Blocked tt
  starts_fine strict (Some code) = does_fine strict 0 (drop 0 code.instructions) (first_memory code)

pub is_thread : (strict : Bool) (functions : List Listing) (code : Listing) (place : ℕ) (m : Memory) → IsThread (code_thread strict functions code place m)
is_thread strict functions code place m = record {
  itself = does_fine (code_program strict functions) strict place (drop place code.instructions) m;
  others = λ f v h k. starts_fine (code_program strict functions) strict (slice_get functions f);
}
