-- How many places and objects a file unrolls to under the bounds of a command.
use Rattle.std.specs.Option.{option_and_then}
use Rattle.std.specs.Prelude.{ℕ, zero, suc, ◌+◌, ◌-◌, ◌*◌, ◌==◌, replicate, slice_get, slice_index, length, List, [], ◌∷◌, Option, Some, None, if◌then◌else◌}
use Rattle.core_tree.specs.declared.functions.Variable.{Variable}
use Rattle.core_tree.specs.declared.functions.PassedType.{PassedType}
use Rattle.core_tree.specs.Ranges.{Limits}
use Rattle.core_tree.specs.Trees.{call, function_name, give, Arguments, no_argument, number_argument, structure_argument, returns_structure, returns_nothing, for_loop, do_loop, switch, breaks, continues, jumps, stray, label, case_at, default_at, Place, variable_at, object_at, literal_at, pointed, arrow, member, element, subscript, Expression, constant, read, convert, sign, is_zero, arithmetic, compare, logical, choice, assign, update, step, comma, assertion, assumption, draw, part, discard, discard_structure, size_of_value, size_of_structure, address, sum, distance, relation, pointer_update, pointer_step, allocate, allocate_zeroed, release, exit, abort, Structure, copy, choose, put, follow, section, list, string, Parts, no_part, number_part, structure_part, Statement, block, if_then, if_else, evaluate, returns, Items, done, declares, initializes, initializes_structure, does, Procedure}
use Rattle.c_profile.specs.Rules.{is_main}
use Rattle.goto_prog.specs.Structured.{tests_in, opened}

-- ---- what is counted

-- how many each node counts, and how many each object that is made: the places are the nodes, and the objects the objects
pub record Weights : Type 0 where
  pub node : ℕ
  pub object : ℕ

abbrev pub place_weights : Weights
place_weights = record { node = 1; object = 0 }

abbrev pub object_weights : Weights
object_weights = record { node = 0; object = 1 }

-- ---- places: each node of the typed tree is one, a conversion too, and so is each place, with the pointers, places and indexes in it, and each label, case and default; the braces of an initializer, the operand of `sizeof`, and a structure value that isn't used further add none. Objects are made by each call of malloc and calloc, and for each variable with an address where its block is entered, a parameter's where its function is. A loop's test counts as often as it may be evaluated, its body once less, that of a `do` as often; a call counts the body of its function where a further activation may be opened

abbrev pub optional : (Expression → ℕ) → (missing : ℕ) → Option Expression → ℕ
optional count missing None = missing
optional count missing (Some e) = count e

-- a variable is an object where it has an address
abbrev pub home_count : Weights → Option ℕ → ℕ
home_count w None = 0
home_count w (Some h) = w.object

abbrev pub home_at : List Variable → ℕ → Option ℕ
home_at variables v = option_and_then (λ (x : Variable). x.home) (slice_get variables v)

-- so are the first of these variables, as many as there are parameters
abbrev pub parameters_count : Weights → List PassedType → List Variable → ℕ
parameters_count w [] vs = 0
parameters_count w (p ∷ ps) [] = 0
parameters_count w (p ∷ ps) (v ∷ vs) = home_count w v.home + parameters_count w ps vs

-- by how many times the test of each loop of the function may be evaluated, and how many a call of each function adds
module _ (w : Weights) (tests : ℕ → ℕ) (calls : ℕ → ℕ) where
  abbrev mutual
    pub place_count : Place → ℕ
    place_count (variable_at line v offset) = w.node
    place_count (object_at line k offset) = w.node
    place_count (literal_at line k) = w.node
    place_count (pointed line e) = w.node + expression_count e
    place_count (arrow line e offset) = w.node + expression_count e
    place_count (member line x offset) = w.node + place_count x
    place_count (element line x e size whole swapped) = w.node + (place_count x + expression_count e)
    place_count (subscript line a e size swapped) = w.node + (expression_count a + expression_count e)

    pub expression_count : Expression → ℕ
    expression_count (constant line t bits) = w.node
    expression_count (read t x) = w.node + place_count x
    expression_count (convert to e) = w.node + expression_count e
    expression_count (sign line op e) = w.node + expression_count e
    expression_count (is_zero line e) = w.node + expression_count e
    expression_count (arithmetic line op a b) = w.node + (expression_count a + expression_count b)
    expression_count (compare line op a b) = w.node + (expression_count a + expression_count b)
    expression_count (logical line op a b) = w.node + (expression_count a + expression_count b)
    expression_count (choice line test a b) = w.node + (expression_count test + (expression_count a + expression_count b))
    expression_count (assign line t x e) = w.node + (place_count x + expression_count e)
    expression_count (update line t x op u e) = w.node + (place_count x + expression_count e)
    expression_count (step line t x op before) = w.node + place_count x
    expression_count (comma line a b) = w.node + (expression_count a + expression_count b)
    expression_count (assertion line e) = w.node + expression_count e
    expression_count (assumption line e) = w.node + expression_count e
    expression_count (draw line t) = w.node
    expression_count (part line t offset a) = w.node + structure_count a
    expression_count (discard line e) = w.node + expression_count e
    expression_count (discard_structure a) = structure_count a
    expression_count (call line f used t args) = w.node + (argument_count args + calls f)
    expression_count (function_name line) = w.node
    expression_count (size_of_value line bits e) = w.node
    expression_count (size_of_structure line bits a) = w.node
    expression_count (address line x) = w.node + place_count x
    expression_count (sum line a e i swapped) = w.node + (expression_count a + expression_count e)
    expression_count (distance line a b i) = w.node + (expression_count a + expression_count b)
    expression_count (relation line op a b) = w.node + (expression_count a + expression_count b)
    expression_count (pointer_update line x i e) = w.node + (place_count x + expression_count e)
    expression_count (pointer_step line x i before) = w.node + place_count x
    expression_count (allocate line e) = w.node + (w.object + expression_count e)
    expression_count (allocate_zeroed line a b) = w.node + (w.object + (expression_count a + expression_count b))
    expression_count (release line e) = w.node + expression_count e
    expression_count (exit line e) = w.node + expression_count e
    expression_count (abort line) = w.node

    pub structure_count : Structure → ℕ
    structure_count (copy x size) = w.node + place_count x
    structure_count (choose line test a b) = w.node + (expression_count test + (structure_count a + structure_count b))
    structure_count (put line x a) = w.node + (place_count x + structure_count a)
    structure_count (follow line e a) = w.node + (expression_count e + structure_count a)
    structure_count (section line offset size a) = w.node + structure_count a
    structure_count (list line size ps) = parts_count ps
    structure_count (string line size text) = w.node
    structure_count (give line f used size args) = w.node + (argument_count args + calls f)

    pub parts_count : Parts → ℕ
    parts_count no_part = 0
    parts_count (number_part offset e rest) = expression_count e + parts_count rest
    parts_count (structure_part offset a rest) = structure_count a + parts_count rest

    pub argument_count : Arguments → ℕ
    argument_count no_argument = 0
    argument_count (number_argument e rest) = expression_count e + argument_count rest
    argument_count (structure_argument a rest) = structure_count a + argument_count rest

  -- in a function with these variables
  module _ (variables : List Variable) where
    abbrev mutual
      pub statement_count : Statement → ℕ
      statement_count (block items) = w.node + items_count items
      statement_count (if_then line test s) = w.node + (expression_count test + statement_count s)
      statement_count (if_else line test s t) = w.node + (expression_count test + (statement_count s + statement_count t))
      statement_count (evaluate e) = w.node + expression_count e
      statement_count (returns line e) = w.node + expression_count e
      statement_count (returns_structure line a) = w.node + structure_count a
      statement_count (returns_nothing line) = w.node
      statement_count (for_loop line n first test last s) =
          w.node + (optional expression_count 0 first + (tests n * optional expression_count w.node test + (tests n - 1) * (statement_count s + optional expression_count 0 last)))
      statement_count (do_loop line n s test) = w.node + (tests n * statement_count s + tests n * expression_count test)
      statement_count (switch line e items) = w.node + (expression_count e + items_count items)
      statement_count (breaks line) = w.node
      statement_count (continues line) = w.node
      statement_count (jumps line n) = w.node
      statement_count (stray line s) = w.node + statement_count s

      pub items_count : Items → ℕ
      items_count done = 0
      items_count (declares line v rest) = (w.node + home_count w (home_at variables v)) + items_count rest
      items_count (initializes line v drawn e rest) = (w.node + (home_count w (home_at variables v) + expression_count e)) + items_count rest
      items_count (initializes_structure line v drawn a rest) = (w.node + (home_count w (home_at variables v) + structure_count a)) + items_count rest
      items_count (does s rest) = statement_count s + items_count rest
      items_count (label n rest) = w.node + items_count rest
      items_count (case_at line t bits rest) = w.node + items_count rest
      items_count (default_at line rest) = w.node + items_count rest

-- ---- calls

abbrev pub name_of : Option Procedure → List ℕ
name_of None = []
name_of (Some f) = f.name

-- how many times the test of a loop of a function may be evaluated at an arrival
abbrev pub tests : List Procedure → Limits → (function loop : ℕ) → ℕ
tests functions bounds f n = tests_in bounds.set bounds.unwind (name_of (slice_get functions f)) n

-- what the body of a function counts, where there is one, with its parameters
abbrev pub body_count : Weights → (tests calls : ℕ → ℕ) → Procedure → Option Statement → ℕ
body_count w tests calls p None = 0
body_count w tests calls p (Some s) = parameters_count w p.parameters p.variables + statement_count w tests calls p.variables s

abbrev pub function_count : Weights → (tests calls : ℕ → ℕ) → Option Procedure → ℕ
function_count w tests calls None = 0
function_count w tests calls (Some p) = body_count w tests calls p p.body

-- what a call of each function adds, where so many activations of each may still be opened: nothing where none. `fuel` is more than may be opened of all together. Each node adds at least one place, so that all are visited in a number of steps that the limit bounds, if a loop's body that counts zero times is left out and counting ends where the limit is passed
abbrev pub call_count : Weights → List Procedure → Limits → (fuel : ℕ) (left : List ℕ) → ℕ → ℕ
call_count w functions bounds zero left f = 0
call_count w functions bounds (suc fuel) left f =
    if slice_index left f == 0 then 0
    else function_count w (tests functions bounds f) (call_count w functions bounds fuel (opened left f)) (slice_get functions f)

-- the number of the first function named `main`
abbrev pub main_number : List Procedure → ℕ
main_number [] = 0
main_number (f ∷ functions) = if is_main f then 0 else main_number functions + 1

-- the file's count: what a call of `main` adds while no activation is open
abbrev pub file_count : Weights → List Procedure → Limits → ℕ
file_count w functions bounds =
    call_count w functions bounds (length functions * bounds.unwind + 1) (replicate (length functions) bounds.unwind) (main_number functions)

abbrev pub places : List Procedure → Limits → ℕ
places functions bounds = file_count place_weights functions bounds

-- the objects that are made, beside the static ones and the literals
abbrev pub objects : List Procedure → Limits → ℕ
objects functions bounds = file_count object_weights functions bounds
