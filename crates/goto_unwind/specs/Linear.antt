-- How many places or objects a function has, as a sum that is linear in what a call of each function adds; the numbers are cut behind the limit of places.
use Rattle.std.specs.Prelude.{ℕ, zero, suc, ◌+◌, ◌*◌, ◌-◌, ◌==◌, min, ◌≡◌, ◌||◌, replicate, length, slice_get, List, [], ◌∷◌, ◌++◌, drop, Option, Some, None, slice_index, slice_set, if◌then◌else◌}
use Rattle.core_tree.specs.declared.functions.Variable.{Variable}
use Rattle.core_tree.specs.declared.functions.PassedType.{PassedType}
use Rattle.core_tree.specs.Ranges.{Limits}
use Rattle.core_tree.specs.Trees.{call, function_name, give, Arguments, no_argument, number_argument, structure_argument, returns_structure, returns_nothing, for_loop, do_loop, switch, breaks, continues, jumps, stray, label, case_at, default_at, Place, variable_at, object_at, literal_at, pointed, arrow, member, element, subscript, Expression, constant, read, convert, sign, is_zero, arithmetic, compare, logical, choice, assign, update, step, comma, assertion, assumption, draw, part, discard, discard_structure, size_of_value, size_of_structure, address, sum, distance, relation, pointer_update, pointer_step, allocate, allocate_zeroed, release, exit, abort, Structure, copy, choose, put, follow, section, list, string, Parts, no_part, number_part, structure_part, Statement, block, if_then, if_else, evaluate, returns, Items, done, declares, initializes, initializes_structure, does, Procedure}
use Rattle.goto_prog.specs.Structured.{tests_in, opened}
use Rattle.goto_prog.specs.Walks.{total}
use Rattle.goto_unwind.specs.Places.{Weights, place_weights, home_at}
use Rattle.goto_unwind.specs.declared.linear_count.Called.{Called}
use Rattle.goto_unwind.specs.declared.walk.Visit.{Visit}

-- one more than the limit stands for all greater numbers
abbrev pub cut : ℕ → ℕ
cut n = min n 2000001

-- what is counted, so much of that, and the calls of functions with how many times each of them counts
pub record Linear : Type 0 where
  pub weights : Weights
  pub own : ℕ
  pub calls : List Called

abbrev pub nothing : Weights → Linear
nothing w = record { weights = w; own = 0; calls = [] }

-- so many nodes more
abbrev pub counted : ℕ → Linear → Linear
counted n s = record { weights = s.weights; own = cut (s.own + cut (n * s.weights.node)); calls = s.calls }

-- so many objects more that are made
abbrev pub made : ℕ → Linear → Linear
made n s = record { weights = s.weights; own = cut (s.own + cut (n * s.weights.object)); calls = s.calls }

-- a variable that is one where it has an address
abbrev pub home_made : ℕ → Option ℕ → Linear → Linear
home_made n None s = s
home_made n (Some h) s = made n s

-- the first of these variables, as many as there are parameters
abbrev pub parameters_made : ℕ → List PassedType → List Variable → Linear → Linear
parameters_made n [] vs s = s
parameters_made n (p ∷ ps) [] s = s
parameters_made n (p ∷ ps) (v ∷ vs) s = parameters_made n ps vs (home_made n v.home s)

-- a call more that counts so many times; one that counts 0 times is left out
abbrev pub called : (function times : ℕ) → Linear → Linear
called f n s = if n == 0 then s else record { weights = s.weights; own = s.own; calls = s.calls ++ record { callee = f; times = n } ∷ [] }

-- ---- what a tree that counts so many times adds

abbrev mutual
  pub place_linear : (times : ℕ) → Place → Linear → Linear
  place_linear n (variable_at line v offset) s = counted n s
  place_linear n (object_at line k offset) s = counted n s
  place_linear n (literal_at line k) s = counted n s
  place_linear n (pointed line e) s = expression_linear n e (counted n s)
  place_linear n (arrow line e offset) s = expression_linear n e (counted n s)
  place_linear n (member line x offset) s = place_linear n x (counted n s)
  place_linear n (element line x e size whole swapped) s = expression_linear n e (place_linear n x (counted n s))
  place_linear n (subscript line a e size swapped) s = expression_linear n e (expression_linear n a (counted n s))

  pub expression_linear : (times : ℕ) → Expression → Linear → Linear
  expression_linear n (constant line t bits) s = counted n s
  expression_linear n (read t x) s = place_linear n x (counted n s)
  expression_linear n (convert to e) s = expression_linear n e (counted n s)
  expression_linear n (sign line op e) s = expression_linear n e (counted n s)
  expression_linear n (is_zero line e) s = expression_linear n e (counted n s)
  expression_linear n (arithmetic line op a b) s = expression_linear n b (expression_linear n a (counted n s))
  expression_linear n (compare line op a b) s = expression_linear n b (expression_linear n a (counted n s))
  expression_linear n (logical line op a b) s = expression_linear n b (expression_linear n a (counted n s))
  expression_linear n (choice line test a b) s = expression_linear n b (expression_linear n a (expression_linear n test (counted n s)))
  expression_linear n (assign line t x e) s = expression_linear n e (place_linear n x (counted n s))
  expression_linear n (update line t x op u e) s = expression_linear n e (place_linear n x (counted n s))
  expression_linear n (step line t x op before) s = place_linear n x (counted n s)
  expression_linear n (comma line a b) s = expression_linear n b (expression_linear n a (counted n s))
  expression_linear n (assertion line e) s = expression_linear n e (counted n s)
  expression_linear n (assumption line e) s = expression_linear n e (counted n s)
  expression_linear n (draw line t) s = counted n s
  expression_linear n (part line t offset a) s = structure_linear n a (counted n s)
  expression_linear n (discard line e) s = expression_linear n e (counted n s)
  expression_linear n (discard_structure a) s = structure_linear n a s
  expression_linear n (call line f used t args) s = called f n (arguments_linear n args (counted n s))
  expression_linear n (function_name line) s = counted n s
  expression_linear n (size_of_value line bits e) s = counted n s
  expression_linear n (size_of_structure line bits a) s = counted n s
  expression_linear n (address line x) s = place_linear n x (counted n s)
  expression_linear n (sum line a e i swapped) s = expression_linear n e (expression_linear n a (counted n s))
  expression_linear n (distance line a b i) s = expression_linear n b (expression_linear n a (counted n s))
  expression_linear n (relation line op a b) s = expression_linear n b (expression_linear n a (counted n s))
  expression_linear n (pointer_update line x i e) s = expression_linear n e (place_linear n x (counted n s))
  expression_linear n (pointer_step line x i before) s = place_linear n x (counted n s)
  expression_linear n (allocate line e) s = expression_linear n e (made n (counted n s))
  expression_linear n (allocate_zeroed line a b) s = expression_linear n b (expression_linear n a (made n (counted n s)))
  expression_linear n (release line e) s = expression_linear n e (counted n s)
  expression_linear n (exit line e) s = expression_linear n e (counted n s)
  expression_linear n (abort line) s = counted n s

  pub structure_linear : (times : ℕ) → Structure → Linear → Linear
  structure_linear n (copy x size) s = place_linear n x (counted n s)
  structure_linear n (choose line test a b) s = structure_linear n b (structure_linear n a (expression_linear n test (counted n s)))
  structure_linear n (put line x a) s = structure_linear n a (place_linear n x (counted n s))
  structure_linear n (follow line e a) s = structure_linear n a (expression_linear n e (counted n s))
  structure_linear n (section line offset size a) s = structure_linear n a (counted n s)
  structure_linear n (list line size ps) s = parts_linear n ps s
  structure_linear n (string line size text) s = counted n s
  structure_linear n (give line f used size args) s = called f n (arguments_linear n args (counted n s))

  pub parts_linear : (times : ℕ) → Parts → Linear → Linear
  parts_linear n no_part s = s
  parts_linear n (number_part offset e rest) s = parts_linear n rest (expression_linear n e s)
  parts_linear n (structure_part offset a rest) s = parts_linear n rest (structure_linear n a s)

  pub arguments_linear : (times : ℕ) → Arguments → Linear → Linear
  arguments_linear n no_argument s = s
  arguments_linear n (number_argument e rest) s = arguments_linear n rest (expression_linear n e s)
  arguments_linear n (structure_argument a rest) s = arguments_linear n rest (structure_linear n a s)

-- an expression that may be missing, and then counts as so many nodes
abbrev pub optional_linear : (times missing : ℕ) → Option Expression → Linear → Linear
optional_linear n missing None s = counted missing s
optional_linear n missing (Some e) s = expression_linear n e s

-- by how many times the test of each loop of the function may be evaluated, and its variables
module _ (tests : ℕ → ℕ) (variables : List Variable) where
  abbrev mutual
    pub statement_linear : (times : ℕ) → Statement → Linear → Linear
    statement_linear n (block items) s = items_linear n items (counted n s)
    statement_linear n (if_then line test a) s = statement_linear n a (expression_linear n test (counted n s))
    statement_linear n (if_else line test a b) s = statement_linear n b (statement_linear n a (expression_linear n test (counted n s)))
    statement_linear n (evaluate e) s = expression_linear n e (counted n s)
    statement_linear n (returns line e) s = expression_linear n e (counted n s)
    statement_linear n (returns_structure line a) s = structure_linear n a (counted n s)
    statement_linear n (returns_nothing line) s = counted n s
    statement_linear n (for_loop line l first test last a) s =
        optional_linear (cut (n * (tests l - 1))) 0 last
        (statement_linear (cut (n * (tests l - 1))) a
        (optional_linear (cut (n * tests l)) (cut (n * tests l)) test
        (optional_linear n 0 first (counted n s))))
    statement_linear n (do_loop line l a test) s = expression_linear (cut (n * tests l)) test (statement_linear (cut (n * tests l)) a (counted n s))
    statement_linear n (switch line e items) s = items_linear n items (expression_linear n e (counted n s))
    statement_linear n (breaks line) s = counted n s
    statement_linear n (continues line) s = counted n s
    statement_linear n (jumps line k) s = counted n s
    statement_linear n (stray line a) s = statement_linear n a (counted n s)

    pub items_linear : (times : ℕ) → Items → Linear → Linear
    items_linear n done s = s
    items_linear n (declares line v rest) s = items_linear n rest (home_made n (home_at variables v) (counted n s))
    items_linear n (initializes line v drawn e rest) s = items_linear n rest (expression_linear n e (home_made n (home_at variables v) (counted n s)))
    items_linear n (initializes_structure line v drawn a rest) s = items_linear n rest (structure_linear n a (home_made n (home_at variables v) (counted n s)))
    items_linear n (does a rest) s = items_linear n rest (statement_linear n a s)
    items_linear n (label k rest) s = items_linear n rest (counted n s)
    items_linear n (case_at line t bits rest) s = items_linear n rest (counted n s)
    items_linear n (default_at line rest) s = items_linear n rest (counted n s)

abbrev pub body_linear : Weights → (tests : ℕ → ℕ) → Procedure → Option Statement → Linear
body_linear w tests p None = nothing w
body_linear w tests p (Some a) = statement_linear tests p.variables 1 a (parameters_made 1 p.parameters p.variables (nothing w))

-- what a function counts
abbrev pub function_linear : Weights → Limits → Procedure → Linear
function_linear w bounds f = body_linear w (tests_in bounds.set bounds.unwind f.name) f f.body

-- ---- their sums

-- what calls add
abbrev pub calls_value : (ℕ → ℕ) → List Called → ℕ
calls_value calls [] = 0
calls_value calls (c ∷ cs) = c.times * calls c.callee + calls_value calls cs

-- the sum, where a call of each function adds so much
abbrev pub value : (ℕ → ℕ) → Linear → ℕ
value calls s = s.own + calls_value calls s.calls

-- ---- over the sums of all functions

abbrev pub or_nothing : Option Linear → Linear
or_nothing None = nothing place_weights
or_nothing (Some s) = s

abbrev pub linear_of : List Linear → ℕ → Linear
linear_of table f = or_nothing (slice_get table f)

module _ (table : List Linear) where
  -- what a call of each function adds, where so many activations of each may still be opened
  abbrev pub linear_sum : (fuel : ℕ) (left : List ℕ) → ℕ → ℕ
  linear_sum zero left f = 0
  linear_sum (suc fuel) left f = if slice_index left f == 0 then 0 else value (linear_sum fuel (opened left f)) (linear_of table f)

  abbrev pub added : (left : List ℕ) → ℕ → ℕ
  added left f = linear_sum (suc (total left)) left f

  -- what is still to be added in activations, the innermost first: each has seen so many of its calls, and when it ends so many activations of its function may be opened again
  abbrev pub pending : (left : List ℕ) → List Visit → ℕ
  pending left [] = 0
  pending left (v ∷ below) = v.times * calls_value (added left) (drop v.next (linear_of table v.function).calls) + pending (slice_set left v.function v.left) below

  -- in how many steps that is done
  abbrev pub calls_steps : (ℕ → ℕ) → List Called → ℕ
  calls_steps steps [] = 0
  calls_steps steps (c ∷ cs) = (1 + steps c.callee) + calls_steps steps cs

  abbrev pub linear_steps : (fuel : ℕ) (left : List ℕ) → ℕ → ℕ
  linear_steps zero left f = 0
  linear_steps (suc fuel) left f = if slice_index left f == 0 then 0 else 1 + calls_steps (linear_steps fuel (opened left f)) (linear_of table f).calls

  abbrev pub steps_added : (left : List ℕ) → ℕ → ℕ
  steps_added left f = linear_steps (suc (total left)) left f

  abbrev pub pending_steps : (left : List ℕ) → List Visit → ℕ
  pending_steps left [] = 0
  pending_steps left (v ∷ below) = (1 + calls_steps (steps_added left) (drop v.next (linear_of table v.function).calls)) + pending_steps (slice_set left v.function v.left) below

-- ---- a walk through the calls: how many activations of each function may still be opened, those that are open, the innermost first, and what is counted
pub record Walking : Type 0 where
  pub table : List Linear
  pub left : List ℕ
  pub visits : List Visit
  pub counted : ℕ

-- what it comes to
abbrev pub outcome : Walking → ℕ
outcome w = cut (w.counted + pending w.table w.left w.visits)

-- in how many steps
abbrev pub steps_left : Walking → ℕ
steps_left w = pending_steps w.table w.left w.visits

-- an activation that counts so many times
abbrev pub opens : (function times : ℕ) → Walking → Walking
opens f n w = record {
  table = w.table;
  left = opened w.left f;
  visits = record { function = f; left = slice_index w.left f; times = n; next = 0 } ∷ w.visits;
  counted = cut (w.counted + cut (n * (linear_of w.table f).own));
}

-- where one may be opened
abbrev pub arrives : (function times : ℕ) → Walking → Walking
arrives f n w = if (slice_index w.left f == 0) || (n == 0) then w else opens f n w

-- a step of an activation that was the innermost: it ends, or its next call is seen
abbrev pub walked_by : Visit → Option Called → Walking → Walking
walked_by v None w = record w { left = slice_set w.left v.function v.left }
walked_by v (Some c) w = arrives c.callee (cut (v.times * c.times)) (record w { visits = record v { next = v.next + 1 } ∷ w.visits })

abbrev pub walked : Visit → Walking → Walking
walked v w = walked_by v (slice_get (linear_of w.table v.function).calls v.next) w

-- the innermost activation, and the others
abbrev pub Pops : Walking → Walking → Option Visit → Type 0
Pops old new None = (old.visits ≡ []) × (new ≡ old)
Pops old new (Some v) = (old.visits ≡ v ∷ new.visits) × (new ≡ record old { visits = new.visits })

-- before the first call
abbrev pub starting : List Linear → (activations : ℕ) → Walking
starting table k = record { table = table; left = replicate (length table) k; visits = []; counted = 0 }
