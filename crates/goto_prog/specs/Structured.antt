-- What code of functions does under the bounds of a command: loops are run again, and functions call functions.
use Rattle.std.specs.Prelude.{ℕ, zero, suc, ◌+◌, ◌-◌, ◌*◌, ◌==◌, Bool, true, false, ◌&&◌, List, [], ◌∷◌, take, drop, replicate, length, map, Option, Some, None, slice_get, slice_index, slice_set, if◌then◌else◌}
use Rattle.std.specs.Str.{bytes_eq}
use Rattle.words.specs.declared.check.Class.{Class}
use Rattle.words.specs.declared.check.Class.TheVariants.{Unwind, Recursion}
use Rattle.c_types.specs.declared.integers.IntegerType.TheVariants.{UnsignedLong}
use Rattle.core_tree.specs.Ranges.{Limits, LoopLimit}
use Rattle.c_values.specs.Variables.{Variables, zeros, put_at, first_variables, number_of}
use Rattle.actions.specs.declared.action.Action.TheVariants.{End, Exit}
use Rattle.actions.specs.declared.action.Next.TheVariants.{Ended, Blocked, Broken}
use Rattle.actions.specs.Behaviour.{Behaviour, Program, Thread, word_64}
use Rattle.goto_prog.specs.declared.code.Condition.TheVariants as checks
use Rattle.goto_prog.specs.declared.code.Instruction.{Instruction}
use Rattle.goto_prog.specs.declared.code.Operation.{Operation}
use Rattle.goto_prog.specs.declared.code.Operation.TheVariants as operations
use Rattle.goto_prog.specs.Meaning.{Memory, Given, Reading, at, operates}
use Rattle.goto_prog.specs.Threads.{Calls, acting, ask, final}
use Rattle.goto_prog.specs.Nodes.{Nodes, done, plain, repeats, Routine}

-- ---- bounds

-- how many times a test may be evaluated at an arrival, by the loops of a command's set, and for the others
abbrev pub tests_in : List LoopLimit → (others : ℕ) → (function : List ℕ) → (loop : ℕ) → ℕ
tests_in [] others function loop = others
tests_in (b ∷ bounds) others function loop = if bytes_eq b.function function && b.number == loop then b.unwind else tests_in bounds others function loop

abbrev pub name_of : Option Routine → List ℕ
name_of None = []
name_of (Some f) = f.name

-- functions by their numbers under a command's bounds; where `strict` stands, an operation that is undefined breaks by itself
pub record Bounded : Type 0 where
  pub strict : Bool
  pub functions : List Routine
  pub limits : Limits

abbrev pub tests : Bounded → (function loop : ℕ) → ℕ
tests b f n = tests_in b.limits.set b.limits.unwind (name_of (slice_get b.functions f)) n

-- how many rounds a loop has whose test may be evaluated so many times: one fewer where the first test stands before it
abbrev pub round_count : Bool → ℕ → ℕ
round_count rotated k = if rotated then k - 1 else k

-- passing a bound breaks a check of this class, or blocks the thread for good
abbrev pub passed : Bool → Class → (line function : ℕ) → Behaviour
passed assertions class line function = if assertions then final (Broken class line function) else final Blocked

-- what an instruction that asks for the bounds does under them: whether an allocation fails is drawn where it may, and no more bytes are allocated at once than the limit
abbrev pub resolved : Limits → Operation → Operation
resolved limits (operations.MayFail r) = if limits.malloc_may_fail then operations.Draw r 1 else operations.Constant r 0
resolved limits (operations.Limit a b) = operations.Check (checks.AtMost a b limits.malloc_limit)
resolved limits o = o

abbrev pub resolved_in : Bounded → Instruction → Instruction
resolved_in b i = record i { operation = resolved b.limits i.operation }

-- ---- nodes

-- a loop of at most so many rounds: `round again` does one, and where the loop goes on, it goes on with `again`; a further round passes the loop's bound
abbrev pub rounds : Bool → (line function : ℕ) → ((Memory → Behaviour) → Memory → Behaviour) → ℕ → Memory → Behaviour
rounds assertions line function round zero m = passed assertions Unwind line function
rounds assertions line function round (suc n) m = round (rounds assertions line function round n) m

module _ (b : Bounded) (o : Reading Behaviour) where
  -- the meanings of the places of nodes and of later places; behind the nodes of a loop comes its next round
  abbrev pub nodes_before : Nodes → (later : List (Memory → Behaviour)) → List (Memory → Behaviour)
  nodes_before done later = later
  nodes_before (plain i rest) later = let behind = nodes_before rest later in operates o b.strict 0 i.line i.function (resolved b.limits i.operation) behind ∷ behind
  nodes_before (repeats line f n rotated body rest) later =
      let behind = nodes_before rest later in
      rounds b.limits.assertions line f (λ again. at o (nodes_before body (again ∷ behind)) 0) (round_count rotated (tests b f n)) ∷ behind

  -- a function's nodes; at its end it hands over nothing
  abbrev pub does_nodes : Nodes → Memory → Behaviour
  does_nodes nodes m = at o (nodes_before nodes ((λ last. o.hand None) ∷ [])) 0 m

-- ---- functions

-- blocks of these sizes: the first take the bytes of the arguments, as many as they have, and the other bytes are 0
abbrev pub with_arguments : List ℕ → List (List ℕ) → Variables
with_arguments [] arguments = []
with_arguments (size ∷ sizes) [] = first_variables (size ∷ sizes)
with_arguments (size ∷ sizes) (a ∷ arguments) = put_at 0 (take size a) (zeros size) ∷ with_arguments sizes arguments

-- the memory of a function at its start
abbrev pub entry_memory : Routine → List (List ℕ) → Memory
entry_memory p arguments = record { registers = map (λ t. 0) p.registers; blocks = with_arguments p.blocks arguments }

-- a function with these arguments; what it hands over then goes to what follows
abbrev pub enters : Bounded → Option Routine → Calls → List (List ℕ) → (Given → Behaviour) → Behaviour
enters b None calls arguments follows = final Blocked
enters b (Some p) calls arguments follows = does_nodes b (acting calls follows) p.nodes (entry_memory p arguments)

-- one activation of a function fewer is left
abbrev pub opened : List ℕ → ℕ → List ℕ
opened left f = slice_set left f (slice_index left f - 1)

-- what calls do, where so many activations of each function may still be opened: one more passes the bound, at the call. `fuel` is more than may be opened of all together
abbrev pub activation : Bounded → (fuel : ℕ) (left : List ℕ) → Calls
activation b zero left caller f line arguments follows = passed b.limits.assertions Recursion line caller
activation b (suc fuel) left caller f line arguments follows =
    if slice_index left f == 0 then passed b.limits.assertions Recursion line caller
    else enters b (slice_get b.functions f) (activation b fuel (opened left f)) arguments follows

-- of each function as many activations may be open
abbrev pub first_left : Bounded → List ℕ
first_left b = replicate (length b.functions) b.limits.unwind

-- more than can be open of all functions together
abbrev pub first_fuel : Bounded → ℕ
first_fuel b = length b.functions * b.limits.unwind + 1

-- what a call does while no activation is open
abbrev pub first_call : Bounded → Calls
first_call b = activation b (first_fuel b) (first_left b)

-- ---- threads

-- the value that a thread ends with: the number that the bytes are, and 0 where nothing is handed over
abbrev pub value_of : Given → ℕ
value_of None = 0
value_of (Some bytes) = number_of UnsignedLong bytes

-- thread 0 ends the process, another thread ends itself with its value, at a line in a function
abbrev pub leaves_with : (first : Bool) (function line value : ℕ) → Behaviour
leaves_with first function line value =
    ask (if first then Exit else End value) line function (λ a. final (Ended (word_64 (if first then 0 else value))))

-- the end of a thread's first call, at the line of the function's name (C11 5.1.2.2.3)
abbrev pub leaves : (first : Bool) (function line : ℕ) → Given → Behaviour
leaves first function line given = leaves_with first function line (value_of given)

-- a thread that calls a function without arguments
abbrev pub runs_at : Bounded → (first : Bool) (number : ℕ) → Option Routine → Behaviour
runs_at b first number None = final Blocked
runs_at b first number (Some p) = first_call b number number p.line [] (leaves first number p.line)

-- what a thread does that runs the function with this number
abbrev pub function_behaviour : Bounded → Bool → ℕ → Behaviour
function_behaviour b first number = runs_at b first number (slice_get b.functions number)

abbrev pub can_start : Option Routine → Bool
can_start None = false
can_start (Some p) = p.startable

abbrev pub bounded_program : Bounded → Program
bounded_program b = record { can_start = λ f. can_start (slice_get b.functions f); behaves = λ f v. function_behaviour b false f }

-- a thread of these functions that runs the function with this number
abbrev pub function_thread : Bounded → Bool → ℕ → Thread
function_thread b first number = record { behaves = function_behaviour b first number; program = bounded_program b }
