-- The blocks that the code of a tree uses for values on the way: structure values, numbers of objects, and the bytes of what is allocated.
use Rattle.std.specs.Prelude.{ℕ, max, Option, Some, None, List, [], ◌∷◌, ◌++◌}
use Rattle.c_types.specs.declared.integers.IntegerType.{IntegerType}
use Rattle.c_types.specs.declared.integers.IntegerType.TheVariants.{UnsignedLong}
use Rattle.c_types.specs.declared.types.ValueType.{ValueType}
use Rattle.c_types.specs.declared.types.ValueType.TheVariants.{Void, Integer}
use Rattle.c_types.specs.Integers.{bytes}
use Rattle.core_tree.specs.Trees.{Place, variable_at, object_at, literal_at, pointed, arrow, member, element, subscript, Expression, constant, read, convert, sign, is_zero, arithmetic, compare, logical, choice, assign, update, step, comma, assertion, assumption, draw, part, discard, discard_structure, call, function_name, size_of_value, size_of_structure, address, sum, distance, relation, pointer_update, pointer_step, allocate, allocate_zeroed, release, exit, abort, Structure, copy, choose, put, follow, section, list, string, give, Parts, no_part, number_part, structure_part, Arguments, no_argument, number_argument, structure_argument, Statement, block, if_then, if_else, evaluate, returns, returns_structure, returns_nothing, for_loop, do_loop, switch, breaks, continues, jumps, stray, Items, done, declares, initializes, initializes_structure, does, label, case_at, default_at}
use Rattle.core_tree.specs.declared.functions.Variable.{Variable}
use Rattle.c_meaning.specs.Meaning.{number_type}
use Rattle.core_tree.specs.Typed.{size_of}
use Rattle.c_temporaries.specs.declared.accesses.Access.{Access}
use Rattle.c_temporaries.specs.declared.accesses.Access.TheVariants as accesses
use Rattle.c_temporaries.specs.Accesses.{access, home_in}

-- how many bytes that stay 0, the sizes of the blocks that are free, the first of which is used first, and how many bytes the block has in which objects are made
pub record Temporaries : Type 0 where
  pub zeros : ℕ
  pub sizes : List ℕ
  pub heap : ℕ

-- how many bytes a value of a type has
abbrev pub value_size : ValueType → ℕ
value_size Void = 0
value_size (Integer t) = bytes t

-- the greater size at each place
abbrev pub greater : List ℕ → List ℕ → List ℕ
greater [] ys = ys
greater (x ∷ xs) [] = x ∷ xs
greater (x ∷ xs) (y ∷ ys) = max x y ∷ greater xs ys

abbrev pub no_temporaries : Temporaries
no_temporaries = record { zeros = 0; sizes = []; heap = 0 }

-- one after the other, in the same blocks
abbrev pub both : Temporaries → Temporaries → Temporaries
both a b = record { zeros = max a.zeros b.zeros; sizes = greater a.sizes b.sizes; heap = max a.heap b.heap }

-- while a block of this size is in use
abbrev pub under : ℕ → Temporaries → Temporaries
under size a = record a { sizes = size ∷ a.sizes }

-- while blocks of these sizes are in use
abbrev pub under_all : List ℕ → Temporaries → Temporaries
under_all sizes a = record a { sizes = sizes ++ a.sizes }

-- behind a clear of so many bytes
abbrev pub clearing : ℕ → Temporaries → Temporaries
clearing size a = record a { zeros = max size a.zeros }

-- as many as may be allocated at once
abbrev pub heap_bytes : ℕ
heap_bytes = 4096

-- where an object is made
abbrev pub making : Temporaries → Temporaries
making a = record a { heap = max heap_bytes a.heap }

-- all but a variable without an address is read and written by a block
abbrev pub access_temporaries : ℕ → Access → Temporaries
access_temporaries size (accesses.Variable v offset) = no_temporaries
access_temporaries size (accesses.Object k offset) = under size no_temporaries
access_temporaries size (accesses.Within v) = under size no_temporaries
access_temporaries size accesses.Pointed = under size no_temporaries

-- so an initializer's number
abbrev pub initial_temporaries : ℕ → Option ℕ → Temporaries
initial_temporaries size None = no_temporaries
initial_temporaries size (Some h) = under size no_temporaries

-- how many bytes each argument has
abbrev pub argument_sizes : Arguments → List ℕ
argument_sizes no_argument = []
argument_sizes (number_argument e rest) = bytes (number_type e) ∷ argument_sizes rest
argument_sizes (structure_argument a rest) = size_of a ∷ argument_sizes rest

-- of a call that hands over so many bytes, with these arguments, whose blocks and the one for what is handed over are in use meanwhile
abbrev pub call_needs : ℕ → Arguments → Temporaries → Temporaries
call_needs size args needed = clearing size (under_all (argument_sizes args) (under size needed))

-- over the variables of the function
module _ (variables : List Variable) where
  -- a number at a place
  abbrev pub number_temporaries : IntegerType → Place → Temporaries
  number_temporaries t x = access_temporaries (bytes t) (access variables x)

  abbrev mutual
    -- on the way to where a place is
    pub way_temporaries : Place → Temporaries
    way_temporaries (variable_at line v offset) = no_temporaries
    way_temporaries (object_at line k offset) = no_temporaries
    way_temporaries (literal_at line k) = no_temporaries
    way_temporaries (pointed line e) = temporaries e
    way_temporaries (arrow line e offset) = temporaries e
    way_temporaries (member line x offset) = way_temporaries x
    way_temporaries (element line x e size whole swapped) = both (way_temporaries x) (temporaries e)
    way_temporaries (subscript line a e size swapped) = both (temporaries a) (temporaries e)

    pub temporaries : Expression → Temporaries
    temporaries (constant line t bits) = no_temporaries
    temporaries (read t x) = both (way_temporaries x) (number_temporaries t x)
    temporaries (convert to e) = temporaries e
    temporaries (sign line op e) = temporaries e
    temporaries (is_zero line e) = temporaries e
    temporaries (arithmetic line op a b) = both (temporaries a) (temporaries b)
    temporaries (compare line op a b) = both (temporaries a) (temporaries b)
    temporaries (logical line op a b) = both (temporaries a) (temporaries b)
    temporaries (choice line test a b) = both (temporaries test) (both (temporaries a) (temporaries b))
    temporaries (assign line t x e) = both (temporaries e) (both (way_temporaries x) (number_temporaries t x))
    temporaries (update line t x op u e) = both (temporaries e) (both (way_temporaries x) (number_temporaries t x))
    temporaries (step line t x op before) = both (way_temporaries x) (number_temporaries t x)
    temporaries (comma line a b) = both (temporaries a) (temporaries b)
    temporaries (assertion line e) = temporaries e
    temporaries (assumption line e) = temporaries e
    temporaries (draw line t) = no_temporaries
    temporaries (part line t offset a) = under (size_of a) (structure_temporaries a)
    temporaries (discard line e) = temporaries e
    temporaries (discard_structure a) = under (size_of a) (structure_temporaries a)
    temporaries (call line f used t args) = clearing (value_size t) (under_all (argument_sizes args) (under (value_size t) (arguments_temporaries args)))
    temporaries (function_name line) = no_temporaries
    temporaries (size_of_value line bits e) = no_temporaries
    temporaries (size_of_structure line bits a) = no_temporaries
    temporaries (address line x) = way_temporaries x
    temporaries (sum line a e n swapped) = both (temporaries a) (temporaries e)
    temporaries (distance line a b n) = both (temporaries a) (temporaries b)
    temporaries (relation line op a b) = both (temporaries a) (temporaries b)
    temporaries (pointer_update line x n e) = both (temporaries e) (both (way_temporaries x) (number_temporaries UnsignedLong x))
    temporaries (pointer_step line x n before) = both (way_temporaries x) (number_temporaries UnsignedLong x)
    temporaries (allocate line e) = making (temporaries e)
    temporaries (allocate_zeroed line a b) = making (both (temporaries a) (temporaries b))
    temporaries (release line e) = temporaries e
    temporaries (exit line e) = temporaries e
    temporaries (abort line) = no_temporaries

    pub structure_temporaries : Structure → Temporaries
    structure_temporaries (copy x size) = way_temporaries x
    structure_temporaries (choose line test a b) = both (temporaries test) (both (structure_temporaries a) (structure_temporaries b))
    structure_temporaries (put line x a) = both (structure_temporaries a) (way_temporaries x)
    structure_temporaries (follow line e a) = both (temporaries e) (structure_temporaries a)
    structure_temporaries (section line offset size a) = under (size_of a) (structure_temporaries a)
    structure_temporaries (list line size ps) = clearing size (parts_temporaries ps)
    structure_temporaries (string line size text) = clearing size no_temporaries
    structure_temporaries (give line f used size args) = clearing size (under_all (argument_sizes args) (under size (arguments_temporaries args)))

    pub parts_temporaries : Parts → Temporaries
    parts_temporaries no_part = no_temporaries
    parts_temporaries (number_part offset e rest) = both (temporaries e) (parts_temporaries rest)
    parts_temporaries (structure_part offset a rest) = both (structure_temporaries a) (parts_temporaries rest)

    pub arguments_temporaries : Arguments → Temporaries
    arguments_temporaries no_argument = no_temporaries
    arguments_temporaries (number_argument e rest) = both (temporaries e) (arguments_temporaries rest)
    arguments_temporaries (structure_argument a rest) = both (structure_temporaries a) (arguments_temporaries rest)

  abbrev pub part_temporaries : Option Expression → Temporaries
  part_temporaries None = no_temporaries
  part_temporaries (Some e) = temporaries e

  abbrev mutual
    pub statement_temporaries : Statement → Temporaries
    statement_temporaries (block items) = items_temporaries items
    statement_temporaries (if_then line test s) = both (temporaries test) (statement_temporaries s)
    statement_temporaries (if_else line test s t) = both (temporaries test) (both (statement_temporaries s) (statement_temporaries t))
    statement_temporaries (evaluate e) = temporaries e
    statement_temporaries (returns line e) = temporaries e
    statement_temporaries (returns_structure line a) = structure_temporaries a
    statement_temporaries (returns_nothing line) = no_temporaries
    statement_temporaries (for_loop line l first test last s) = both (part_temporaries first) (both (part_temporaries test) (both (part_temporaries last) (statement_temporaries s)))
    statement_temporaries (do_loop line l s test) = both (statement_temporaries s) (temporaries test)
    statement_temporaries (switch line e items) = both (temporaries e) (items_temporaries items)
    statement_temporaries (breaks line) = no_temporaries
    statement_temporaries (continues line) = no_temporaries
    statement_temporaries (jumps line l) = no_temporaries
    statement_temporaries (stray line s) = statement_temporaries s

    pub items_temporaries : Items → Temporaries
    items_temporaries done = no_temporaries
    items_temporaries (declares line v rest) = items_temporaries rest
    items_temporaries (initializes line v drawn e rest) = both (both (temporaries e) (initial_temporaries (bytes (number_type e)) (home_in variables v))) (items_temporaries rest)
    items_temporaries (initializes_structure line v drawn a rest) = both (under (size_of a) (structure_temporaries a)) (items_temporaries rest)
    items_temporaries (does s rest) = both (statement_temporaries s) (items_temporaries rest)
    items_temporaries (label l rest) = items_temporaries rest
    items_temporaries (case_at line t bits rest) = items_temporaries rest
    items_temporaries (default_at line rest) = items_temporaries rest
