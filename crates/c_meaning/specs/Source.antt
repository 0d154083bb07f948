-- The threads of a file under the bounds of a command: thread 0 calls the function named `main` (C11 5.1.2.2.1). Its runs.
use Rattle.std.specs.Prelude.{ℕ, suc, ◌+◌, ◌-◌, ◌==◌, Bool, true, false, ◌&&◌, replicate, nat_lt, nat_le, List, [], ◌∷◌, ◌++◌, length, map, Option, Some, None, slice_get, if◌then◌else◌}
use Rattle.std.specs.List.{list_all}
use Rattle.std.specs.Str.{bytes_eq}
use Rattle.core_tree.specs.Trees.{Procedure, Static, TypedFile}
use Rattle.core_tree.specs.declared.functions.Address.{Address}
use Rattle.core_tree.specs.declared.functions.Target.{Target}
use Rattle.core_tree.specs.declared.functions.Target.TheVariants.{Object, Literal}
use Rattle.c_profile.specs.Rules.{is_main}
use Rattle.core_tree.specs.Ranges.{Limits, LoopLimit}
use Rattle.actions.specs.declared.action.Action.TheVariants.{End, Exit}
use Rattle.words.specs.declared.check.Class.TheVariants.{Assertion}
use Rattle.actions.specs.declared.action.Next.TheVariants.{Broken, Ended}
use Rattle.actions.specs.Behaviour.{Behaviour, Program, Thread, word_64}
use Rattle.actions.specs.StoredObject.{StoredObject, stored}
use Rattle.actions.specs.Objects.{Objects}
use Rattle.interleave.specs.declared.turn.Outcome.{Outcome}
use Rattle.interleave.specs.Inputs.{InputLists}
use Rattle.interleave.specs.World.{World, first_world}
use Rattle.interleave.specs.Run.{run}
use Rattle.c_values.specs.Variables.{zeros, put_at, low_bytes, pointer_to}
use Rattle.c_meaning.specs.Meaning.{Given, value_of, Code, ask_in, final, total, activation}

-- how many times a test may be evaluated, by the loops of a command's set, and for the others
abbrev pub tests_in : List LoopLimit → (others : ℕ) → (function : List ℕ) → (loop : ℕ) → ℕ
tests_in [] others function loop = others
tests_in (b ∷ bounds) others function loop = if bytes_eq b.function function && b.number == loop then b.unwind else tests_in bounds others function loop

abbrev pub name_of : Option Procedure → List ℕ
name_of None = []
name_of (Some f) = f.name

-- the functions under a command's bounds; the literals' objects have the numbers behind those of the static objects
abbrev pub code_of : TypedFile → Limits → Code
code_of file limits = record {
  functions = file.functions;
  tests = λ f n. tests_in limits.set limits.unwind (name_of (slice_get file.functions f)) n;
  assertions = limits.assertions;
  literals = length file.objects + 1;
  malloc_limit = limits.malloc_limit;
  malloc_may_fail = limits.malloc_may_fail;
}

-- of each function as many activations may be open
abbrev pub first_left : List Procedure → Limits → List ℕ
first_left functions limits = replicate (length functions) limits.unwind

-- what a call does while no activation is open; the fuel is more than can be open of all functions together
abbrev pub first_call : TypedFile → Limits → (caller function line : ℕ) → List (List ℕ) → (Given → Behaviour) → Behaviour
first_call file limits = activation (code_of file limits) (suc (total (first_left file.functions limits))) (first_left file.functions limits)

-- the end of a thread's first call: thread 0 ends the process, another thread ends itself with its value, at the line of the function's name (C11 5.1.2.2.3)
abbrev pub leaves : (first : Bool) (function line : ℕ) → Given → Behaviour
leaves first function line given =
    ask_in function (if first then Exit else End (value_of given)) line (λ a. final (Ended (word_64 (if first then 0 else value_of given))))

-- a thread that calls a function without arguments; one that isn't there breaks a check, and no file that is checked lacks its `main`
abbrev pub runs_at : TypedFile → Limits → (first : Bool) (number : ℕ) → Option Procedure → Behaviour
runs_at file limits first number None = final (Broken Assertion 1 number)
runs_at file limits first number (Some f) = first_call file limits number number f.line [] (leaves first number f.line)

-- what a thread does that runs the function with this number
abbrev pub function_behaviour : TypedFile → Limits → Bool → ℕ → Behaviour
function_behaviour file limits first number = runs_at file limits first number (slice_get file.functions number)

-- the number of the first function named `main`
abbrev pub main_number : List Procedure → ℕ
main_number [] = 0
main_number (f ∷ functions) = if is_main f then 0 else main_number functions + 1

-- a thread can be started in the functions with numbers below `startable`
abbrev pub source_program : TypedFile → Limits → ℕ → Program
source_program file limits startable = record { can_start = λ f. nat_lt f startable; behaves = λ f v. function_behaviour file limits false f }

-- thread 0; nothing starts a thread yet
abbrev pub source_thread : TypedFile → Limits → Thread
source_thread file limits = record { behaves = function_behaviour file limits true (main_number file.functions); program = source_program file limits 0 }

-- ---- the store at the start of a run: each static object is there, live, with its first bytes, under the numbers of thread 0's objects from 1 on, and behind them each string literal (C11 6.2.4p3, 6.4.5p6, 6.7.9p10); they have no cells, since there is one thread alone

-- the number of the object that an address points into
abbrev pub target_number : (literals : ℕ) → Target → ℕ
target_number literals (Object k) = k
target_number literals (Literal k) = literals + k

-- the bytes with the pointers over them
abbrev pub with_addresses : (literals : ℕ) → List Address → List ℕ → List ℕ
with_addresses literals [] bytes = bytes
with_addresses literals (a ∷ addresses) bytes = with_addresses literals addresses (put_at a.at (low_bytes 8 (pointer_to (target_number literals a.target) a.offset)) bytes)

abbrev pub first_bytes : (literals : ℕ) → Static → List ℕ
first_bytes literals o = with_addresses literals o.addresses (o.bytes ++ zeros (o.size - length o.bytes))

abbrev pub first_object : (literals : ℕ) → Static → StoredObject
first_object literals o = stored o.size [] true o.readonly false (first_bytes literals o)

-- a literal can't be written, and has a 0 behind its bytes
abbrev pub literal_object : List ℕ → StoredObject
literal_object text = stored (length text + 1) [] true true false (text ++ 0 ∷ [])

-- objects under the numbers from this one on
abbrev pub numbered : ℕ → List StoredObject → Objects
numbered number [] = []
numbered number (o ∷ objects) = (number, o) ∷ numbered (number + 1) objects

abbrev pub first_objects : TypedFile → Objects
first_objects file = numbered 1 (map (first_object (length file.objects + 1)) file.objects ++ map literal_object file.literals)

-- no object has more than 65,536 bytes, of which a literal has one behind those of its text
abbrev pub are_small_objects : List Static → Bool
are_small_objects objects = list_all (λ (o : Static). nat_le o.size 65536) objects

abbrev pub are_small_literals : List (List ℕ) → Bool
are_small_literals literals = list_all (λ (text : List ℕ). nat_lt (length text) 65536) literals

-- the static objects and the literals alone pass neither the limit on objects nor that on the bytes of one
abbrev pub are_storable : TypedFile → Bool
are_storable file = nat_le (length file.objects + length file.literals) 8192 && are_small_objects file.objects && are_small_literals file.literals

-- ---- runs

abbrev pub source_world : TypedFile → Limits → World
source_world file limits = first_world (source_thread file limits) (first_objects file)

-- how the run of a file under these bounds, on these inputs by this schedule, ends
abbrev pub source_run : TypedFile → Limits → InputLists → List ℕ → Outcome
source_run file limits inputs schedule = (run (source_world file limits) inputs schedule).0
