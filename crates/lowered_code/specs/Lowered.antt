-- A file as structured code.
use Rattle.std.specs.Prelude.{ℕ, ◌+◌, false, Option, Some, None, List, [], ◌∷◌, ◌++◌, length, if◌then◌else◌}
use Rattle.actions.specs.Objects.{Objects}
use Rattle.c_types.specs.declared.integers.IntegerType.TheVariants.{Int}
use Rattle.core_tree.specs.declared.functions.PassedType.{PassedType}
use Rattle.core_tree.specs.Typed.{passed_size, sizes_of_variables}
use Rattle.core_tree.specs.declared.functions.Variable.{Variable}
use Rattle.core_tree.specs.Trees.{Statement, Procedure, TypedFile}
use Rattle.c_meaning.specs.Source.{main_number, first_objects, are_storable}
use Rattle.goto_prog.specs.declared.code.Operation.TheVariants as operations
use Rattle.goto_prog.specs.Nodes.{Routine, plain, view_procedures}
use Rattle.goto_prog.specs.GotoThreads.{GotoFile}
use Rattle.lowered_code.specs.Lowering.{Frame, at_line, ends, body_code}
use Rattle.lowered_code.specs.Registers.{death_types, statement_types, parameters_types}
use Rattle.c_temporaries.specs.Temporaries.{Temporaries, statement_temporaries}

-- how many bytes a function hands over
abbrev pub given_size : Option PassedType → ℕ
given_size None = 0
given_size (Some p) = passed_size p

-- the blocks of a function: its variables, one whose bytes stay 0, one for what it hands over, those for values on the way, and one in which objects are made
abbrev pub blocks_of : List ℕ → (given : ℕ) → Temporaries → List ℕ
blocks_of variables given needed = variables ++ needed.zeros ∷ given ∷ (needed.sizes ++ needed.heap ∷ [])

-- over the number of the first literal's object
abbrev pub first_frame : (literals number : ℕ) → List Variable → (temporaries : ℕ) → Frame
first_frame literals number variables temporaries = record {
  function = number;
  variables = variables;
  zeros = length variables;
  result = length variables + 1;
  free = length variables + 2;
  heap = length variables + 2 + temporaries;
  literals = literals;
}

-- a function that is only declared breaks an assertion; none that is admitted is called
abbrev pub undefined_code : (literals number : ℕ) → Procedure → Routine
undefined_code literals number f = record {
  name = f.name;
  line = f.line;
  registers = Int ∷ [];
  blocks = [];
  nodes = plain (at_line (first_frame literals number [] 0) f.line (operations.Assert 0)) ends;
  startable = false;
}

-- the code of a function with this number and body; no thread is started in one yet
abbrev pub defined_code : (literals number : ℕ) → Procedure → Statement → Routine
defined_code literals number f body =
    let needed = statement_temporaries f.variables body in
    record {
      name = f.name;
      line = f.line;
      registers = Int ∷ (death_types f.variables ++ (statement_types f.variables body ++ parameters_types f.variables (length f.parameters)));
      blocks = blocks_of (sizes_of_variables f.variables) (given_size f.gives) needed;
      nodes = body_code (first_frame literals number f.variables (length needed.sizes)) f.line (length f.parameters) body;
      startable = false;
    }

abbrev pub code_by : (literals number : ℕ) → Procedure → Option Statement → Routine
code_by literals number f None = undefined_code literals number f
code_by literals number f (Some body) = defined_code literals number f body

abbrev pub function_code : (literals number : ℕ) → Procedure → Routine
function_code literals number f = code_by literals number f f.body

-- the codes of functions, the first of which has this number
abbrev pub function_codes : (literals number : ℕ) → List Procedure → List Routine
function_codes literals number [] = []
function_codes literals number (f ∷ functions) = function_code literals number f ∷ function_codes literals (number + 1) functions

-- the literals' objects come behind the static ones, the first of which has the number 1
abbrev pub first_literal : TypedFile → ℕ
first_literal file = length file.objects + 1

-- the codes of the functions by their numbers, the one that thread 0 calls, and the store at the start
pub record LoweredFile : Type 0 where
  pub functions : List Routine
  pub main : ℕ
  pub store : Objects

-- code without where it lies in memory
abbrev pub view_goto : GotoFile → LoweredFile
view_goto g = record { functions = view_procedures g.functions; main = g.main; store = g.store }

-- the static objects and the literals are there at the start, unless they alone pass a limit
abbrev pub lowered : TypedFile → LoweredFile
lowered file = record {
  functions = function_codes (first_literal file) 0 file.functions;
  main = main_number file.functions;
  store = if are_storable file then first_objects file else [];
}
