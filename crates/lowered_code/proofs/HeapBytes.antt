-- The block in which objects are made has no more bytes than may be allocated at once.
use Rattle.std.proofs.Common.{ℕ, ◌≤◌, max, List, Option, Some, None, arith}
use Rattle.core_tree.specs.declared.functions.Variable.{Variable}
use Rattle.core_tree.specs.Trees.{Place, variable_at, object_at, literal_at, pointed, arrow, member, element, subscript, Expression, constant, read, convert, sign, is_zero, arithmetic, compare, logical, choice, assign, update, step, comma, assertion, assumption, draw, part, discard, discard_structure, call, function_name, size_of_value, size_of_structure, address, sum, distance, relation, pointer_update, pointer_step, allocate, allocate_zeroed, release, exit, abort, Structure, copy, choose, put, follow, section, list, string, give, Parts, no_part, number_part, structure_part, Arguments, no_argument, number_argument, structure_argument, Statement, block, if_then, if_else, evaluate, returns, returns_structure, returns_nothing, for_loop, do_loop, switch, breaks, continues, jumps, stray, Items, done, declares, initializes, initializes_structure, does, label, case_at, default_at}
use Rattle.c_temporaries.specs.declared.accesses.Access.{Access}
use Rattle.c_temporaries.specs.declared.accesses.Access.TheVariants as accesses
use Rattle.c_temporaries.specs.Accesses.{access, home_in}
use Rattle.c_temporaries.specs.Temporaries.{Temporaries, heap_bytes, access_temporaries, initial_temporaries, way_temporaries, temporaries, structure_temporaries, parts_temporaries, arguments_temporaries, part_temporaries, statement_temporaries, items_temporaries}

abbrev Few : Temporaries → Type 0
Few a = a.heap ≤ heap_bytes

few_both : {a b : ℕ} → a ≤ heap_bytes → b ≤ heap_bytes → max a b ≤ heap_bytes
few_both h k = omega (arith, h, k)

few_making : {a : ℕ} → a ≤ heap_bytes → max heap_bytes a ≤ heap_bytes
few_making h = omega (arith, h)

few_access : (size : ℕ) (way : Access) → Few (access_temporaries size way)
few_access size (accesses.Variable v offset) = omega arith
few_access size (accesses.Object k offset) = omega arith
few_access size (accesses.Within v) = omega arith
few_access size accesses.Pointed = omega arith

few_initial : (size : ℕ) (home : Option ℕ) → Few (initial_temporaries size home)
few_initial size None = omega arith
few_initial size (Some h) = omega arith

-- over the variables of the function
module _ (variables : List Variable) where
  mutual
    few_way : (x : Place) → Few (way_temporaries variables x)
    few_way (variable_at line v offset) = omega arith
    few_way (object_at line k offset) = omega arith
    few_way (literal_at line k) = omega arith
    few_way (pointed line e) = few_temporaries e
    few_way (arrow line e offset) = few_temporaries e
    few_way (member line x offset) = few_way x
    few_way (element line x e size whole swapped) = few_both (few_way x) (few_temporaries e)
    few_way (subscript line a e size swapped) = few_both (few_temporaries a) (few_temporaries e)

    few_temporaries : (e : Expression) → Few (temporaries variables e)
    few_temporaries (constant line t bits) = omega arith
    few_temporaries (read t x) = few_both (few_way x) (few_access _ (access variables x))
    few_temporaries (convert to e) = few_temporaries e
    few_temporaries (sign line op e) = few_temporaries e
    few_temporaries (is_zero line e) = few_temporaries e
    few_temporaries (arithmetic line op a b) = few_both (few_temporaries a) (few_temporaries b)
    few_temporaries (compare line op a b) = few_both (few_temporaries a) (few_temporaries b)
    few_temporaries (logical line op a b) = few_both (few_temporaries a) (few_temporaries b)
    few_temporaries (choice line test a b) = few_both (few_temporaries test) (few_both (few_temporaries a) (few_temporaries b))
    few_temporaries (assign line t x e) = few_both (few_temporaries e) (few_both (few_way x) (few_access _ (access variables x)))
    few_temporaries (update line t x op u e) = few_both (few_temporaries e) (few_both (few_way x) (few_access _ (access variables x)))
    few_temporaries (step line t x op before) = few_both (few_way x) (few_access _ (access variables x))
    few_temporaries (comma line a b) = few_both (few_temporaries a) (few_temporaries b)
    few_temporaries (assertion line e) = few_temporaries e
    few_temporaries (assumption line e) = few_temporaries e
    few_temporaries (draw line t) = omega arith
    few_temporaries (part line t offset a) = few_structure a
    few_temporaries (discard line e) = few_temporaries e
    few_temporaries (discard_structure a) = few_structure a
    few_temporaries (call line f used t args) = few_arguments args
    few_temporaries (function_name line) = omega arith
    few_temporaries (size_of_value line bits e) = omega arith
    few_temporaries (size_of_structure line bits a) = omega arith
    few_temporaries (address line x) = few_way x
    few_temporaries (sum line a e n swapped) = few_both (few_temporaries a) (few_temporaries e)
    few_temporaries (distance line a b n) = few_both (few_temporaries a) (few_temporaries b)
    few_temporaries (relation line op a b) = few_both (few_temporaries a) (few_temporaries b)
    few_temporaries (pointer_update line x n e) = few_both (few_temporaries e) (few_both (few_way x) (few_access _ (access variables x)))
    few_temporaries (pointer_step line x n before) = few_both (few_way x) (few_access _ (access variables x))
    few_temporaries (allocate line e) = few_making (few_temporaries e)
    few_temporaries (allocate_zeroed line a b) = few_making (few_both (few_temporaries a) (few_temporaries b))
    few_temporaries (release line e) = few_temporaries e
    few_temporaries (exit line e) = few_temporaries e
    few_temporaries (abort line) = omega arith

    few_structure : (a : Structure) → Few (structure_temporaries variables a)
    few_structure (copy x size) = few_way x
    few_structure (choose line test a b) = few_both (few_temporaries test) (few_both (few_structure a) (few_structure b))
    few_structure (put line x a) = few_both (few_structure a) (few_way x)
    few_structure (follow line e a) = few_both (few_temporaries e) (few_structure a)
    few_structure (section line offset size a) = few_structure a
    few_structure (list line size ps) = few_parts ps
    few_structure (string line size text) = omega arith
    few_structure (give line f used size args) = few_arguments args

    few_parts : (ps : Parts) → Few (parts_temporaries variables ps)
    few_parts no_part = omega arith
    few_parts (number_part offset e rest) = few_both (few_temporaries e) (few_parts rest)
    few_parts (structure_part offset a rest) = few_both (few_structure a) (few_parts rest)

    few_arguments : (args : Arguments) → Few (arguments_temporaries variables args)
    few_arguments no_argument = omega arith
    few_arguments (number_argument e rest) = few_both (few_temporaries e) (few_arguments rest)
    few_arguments (structure_argument a rest) = few_both (few_structure a) (few_arguments rest)

  few_part : (e : Option Expression) → Few (part_temporaries variables e)
  few_part None = omega arith
  few_part (Some e) = few_temporaries e

  mutual
    pub few_statement : (s : Statement) → (statement_temporaries variables s).heap ≤ heap_bytes
    few_statement (block items) = few_items items
    few_statement (if_then line test s) = few_both (few_temporaries test) (few_statement s)
    few_statement (if_else line test s t) = few_both (few_temporaries test) (few_both (few_statement s) (few_statement t))
    few_statement (evaluate e) = few_temporaries e
    few_statement (returns line e) = few_temporaries e
    few_statement (returns_structure line a) = few_structure a
    few_statement (returns_nothing line) = omega arith
    few_statement (for_loop line l first test last s) = few_both (few_part first) (few_both (few_part test) (few_both (few_part last) (few_statement s)))
    few_statement (do_loop line l s test) = few_both (few_statement s) (few_temporaries test)
    few_statement (switch line e items) = few_both (few_temporaries e) (few_items items)
    few_statement (breaks line) = omega arith
    few_statement (continues line) = omega arith
    few_statement (jumps line l) = omega arith
    few_statement (stray line s) = few_statement s

    few_items : (items : Items) → Few (items_temporaries variables items)
    few_items done = omega arith
    few_items (declares line v rest) = few_items rest
    few_items (initializes line v drawn e rest) = few_both (few_both (few_temporaries e) (few_initial _ (home_in variables v))) (few_items rest)
    few_items (initializes_structure line v drawn a rest) = few_both (few_structure a) (few_items rest)
    few_items (does s rest) = few_both (few_statement s) (few_items rest)
    few_items (label l rest) = few_items rest
    few_items (case_at line t bits rest) = few_items rest
    few_items (default_at line rest) = few_items rest
