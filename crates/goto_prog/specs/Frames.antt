-- The registers' words and the blocks' bytes of code that runs, and what is true of them.
use Rattle.std.specs.Prelude.{◌≡◌, ℕ, ◌^◌, Bool, true, false, ◌&&◌, nat_lt, List, [], ◌∷◌, length, map}
use Rattle.c_types.specs.declared.integers.IntegerType.{IntegerType}
use Rattle.c_types.specs.Integers.{width}
use Rattle.c_values.specs.Variables.{first_variables}
use Rattle.goto_prog.specs.Meaning.{Memory}

-- with the registers' types and the blocks' sizes
pub record Working : Type 0 where
  pub types : List IntegerType
  pub sizes : List ℕ
  pub memory : Memory

-- each register is 0, and so is each byte
abbrev pub zero_memory : List IntegerType → List ℕ → Memory
zero_memory types sizes = record { registers = map (λ t. 0) types; blocks = first_variables sizes }

abbrev pub first_space : List IntegerType → List ℕ → Working
first_space types sizes = record { types = types; sizes = sizes; memory = zero_memory types sizes }

-- each register has a word of its type
abbrev pub registers_fit : List IntegerType → List ℕ → Bool
registers_fit [] [] = true
registers_fit [] (x ∷ xs) = false
registers_fit (t ∷ ts) [] = false
registers_fit (t ∷ ts) (x ∷ xs) = nat_lt x (2 ^ width t) && registers_fit ts xs

pub record IsWorking (s : Working) : Type 0 where
  pub registers : registers_fit s.types s.memory.registers ≡ true
  pub blocks : map length s.memory.blocks ≡ s.sizes
