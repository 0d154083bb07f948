-- The types of the registers of a tree, in the order of their numbers.
use Rattle.std.specs.Prelude.{ℕ, Bool, true, false, Option, Some, None, List, [], ◌∷◌, ◌++◌, replicate, if◌then◌else◌}
use Rattle.c_types.specs.declared.integers.IntegerType.{IntegerType}
use Rattle.c_types.specs.declared.integers.IntegerType.TheVariants.{Int, Long, UnsignedChar, UnsignedLong}
use Rattle.c_types.specs.Integers.{promoted}
use Rattle.core_tree.specs.declared.functions.Variable.{Variable}
use Rattle.core_tree.specs.Trees.{Place, variable_at, object_at, literal_at, pointed, arrow, member, element, subscript, Expression, constant, read, convert, sign, is_zero, arithmetic, compare, logical, choice, assign, update, step, comma, assertion, assumption, draw, part, discard, discard_structure, call, function_name, size_of_value, size_of_structure, address, sum, distance, relation, pointer_update, pointer_step, allocate, allocate_zeroed, release, exit, abort, Structure, copy, choose, put, follow, section, list, string, give, Parts, no_part, number_part, structure_part, Arguments, no_argument, number_argument, structure_argument, Statement, block, if_then, if_else, evaluate, returns, returns_structure, returns_nothing, for_loop, do_loop, switch, breaks, continues, jumps, stray, Items, done, declares, initializes, initializes_structure, does, label, case_at, default_at}
use Rattle.c_meaning.specs.Meaning.{integer_of, number_type}
use Rattle.c_temporaries.specs.declared.accesses.Access.{Access}
use Rattle.c_temporaries.specs.Accesses.{access, is_evaluated, home_in}
use Rattle.lowered_code.specs.Lowering.{first_registers, initial_registers, death_registers, parameters_registers}

-- of an operation of type u on a place of type t
abbrev pub update_types : IntegerType → IntegerType → List IntegerType
update_types t u = t ∷ u ∷ u ∷ t ∷ []

-- where a place is evaluated
abbrev pub held_types : Access → List IntegerType → List IntegerType
held_types way ts = if is_evaluated way then ts else []

-- over the variables of the function
module _ (variables : List Variable) where
  abbrev mutual
    -- of where a place is
    pub place_types : Place → List IntegerType
    place_types (variable_at line v offset) = UnsignedLong ∷ UnsignedLong ∷ []
    place_types (object_at line k offset) = UnsignedLong ∷ []
    place_types (literal_at line k) = UnsignedLong ∷ []
    place_types (pointed line e) = types e
    place_types (arrow line e offset) = types e ++ UnsignedLong ∷ []
    place_types (member line x offset) = place_types x ++ UnsignedLong ∷ []
    place_types (element line x e size whole false) = place_types x ++ (types e ++ UnsignedLong ∷ UnsignedLong ∷ [])
    place_types (element line x e size whole true) = types e ++ (place_types x ++ UnsignedLong ∷ UnsignedLong ∷ [])
    place_types (subscript line a e size false) = types a ++ (types e ++ UnsignedLong ∷ UnsignedLong ∷ [])
    place_types (subscript line a e size true) = types e ++ (types a ++ UnsignedLong ∷ UnsignedLong ∷ [])

    pub types : Expression → List IntegerType
    types (constant line t bits) = t ∷ []
    types (read t x) = held_types (access variables x) (place_types x) ++ t ∷ []
    types (convert to e) = types e ++ to ∷ []
    types (sign line op e) = types e ++ number_type e ∷ []
    types (is_zero line e) = types e ++ Int ∷ []
    types (arithmetic line op a b) = types a ++ (types b ++ number_type a ∷ [])
    types (compare line op a b) = types a ++ (types b ++ Int ∷ [])
    types (logical line op a b) = types a ++ (types b ++ Int ∷ Int ∷ [])
    types (choice line test a b) = types test ++ (types a ++ (types b ++ number_type a ∷ []))
    types (assign line t x e) = held_types (access variables x) (place_types x) ++ types e
    types (update line t x op u e) = held_types (access variables x) (place_types x) ++ (types e ++ update_types t u)
    types (step line t x op before) = held_types (access variables x) (place_types x) ++ promoted t ∷ (update_types t (promoted t) ++ t ∷ [])
    types (comma line a b) = types a ++ types b
    types (assertion line e) = types e ++ Int ∷ []
    types (assumption line e) = types e ++ Int ∷ []
    types (draw line t) = t ∷ []
    types (part line t offset a) = structure_types a ++ t ∷ []
    types (discard line e) = types e ++ Int ∷ []
    types (discard_structure a) = structure_types a ++ Int ∷ []
    types (call line f used t args) = arguments_types args ++ Int ∷ integer_of t ∷ []
    types (function_name line) = Int ∷ []
    types (size_of_value line bits e) = UnsignedLong ∷ []
    types (size_of_structure line bits a) = UnsignedLong ∷ []
    types (address line x) = place_types x
    types (sum line a e i false) = types a ++ (types e ++ UnsignedLong ∷ UnsignedLong ∷ [])
    types (sum line a e i true) = types e ++ (types a ++ UnsignedLong ∷ UnsignedLong ∷ [])
    types (distance line a b i) = types a ++ (types b ++ Long ∷ [])
    types (relation line op a b) = types a ++ (types b ++ Int ∷ [])
    types (pointer_update line x i e) = held_types (access variables x) (place_types x) ++ (types e ++ UnsignedLong ∷ UnsignedLong ∷ UnsignedLong ∷ [])
    types (pointer_step line x i before) = held_types (access variables x) (place_types x) ++ Int ∷ UnsignedLong ∷ UnsignedLong ∷ UnsignedLong ∷ UnsignedLong ∷ []
    types (allocate line e) = types e ++ Int ∷ UnsignedLong ∷ UnsignedLong ∷ []
    types (allocate_zeroed line a b) = types a ++ (types b ++ Int ∷ UnsignedLong ∷ UnsignedLong ∷ [])
    types (release line e) = types e ++ Int ∷ []
    types (exit line e) = types e ++ Int ∷ []
    types (abort line) = Int ∷ []

    pub structure_types : Structure → List IntegerType
    structure_types (copy x size) = held_types (access variables x) (place_types x)
    structure_types (choose line test a b) = types test ++ (structure_types a ++ structure_types b)
    structure_types (put line x a) = held_types (access variables x) (place_types x) ++ structure_types a
    structure_types (follow line e a) = types e ++ structure_types a
    structure_types (section line offset size a) = structure_types a
    structure_types (list line size ps) = parts_types ps
    structure_types (string line size text) = UnsignedChar ∷ []
    structure_types (give line f used size args) = arguments_types args ++ Int ∷ []

    pub parts_types : Parts → List IntegerType
    parts_types no_part = []
    parts_types (number_part offset e rest) = types e ++ parts_types rest
    parts_types (structure_part offset a rest) = structure_types a ++ parts_types rest

    pub arguments_types : Arguments → List IntegerType
    arguments_types no_argument = []
    arguments_types (number_argument e rest) = types e ++ arguments_types rest
    arguments_types (structure_argument a rest) = structure_types a ++ arguments_types rest

  abbrev pub part_types : Option Expression → List IntegerType
  part_types None = []
  part_types (Some e) = types e

-- of the tests of cases
abbrev pub case_types : Items → List IntegerType
case_types done = []
case_types (declares line v rest) = case_types rest
case_types (initializes line v drawn e rest) = case_types rest
case_types (initializes_structure line v drawn a rest) = case_types rest
case_types (does s rest) = case_types rest
case_types (label l rest) = case_types rest
case_types (case_at line t bits rest) = t ∷ Int ∷ Int ∷ t ∷ Int ∷ case_types rest
case_types (default_at line rest) = case_types rest

module _ (variables : List Variable) where
  -- a drawn word has 8 bytes at most
  abbrev pub first_types : ℕ → Bool → List IntegerType
  first_types v drawn = replicate (first_registers variables v drawn) UnsignedLong

  -- of the pointer to a variable's object, where an initializer writes it
  abbrev pub initial_types : ℕ → List IntegerType
  initial_types v = replicate (initial_registers variables (home_in variables v)) UnsignedLong

  -- of the pointers to objects that die
  abbrev pub death_types : List IntegerType
  death_types = replicate (death_registers variables) UnsignedLong

  abbrev pub entry_types : Items → List IntegerType
  entry_types done = []
  entry_types (declares line v rest) = first_types v true ++ entry_types rest
  entry_types (initializes line v drawn e rest) = first_types v drawn ++ entry_types rest
  entry_types (initializes_structure line v drawn a rest) = first_types v drawn ++ entry_types rest
  entry_types (does s rest) = entry_types rest
  entry_types (label l rest) = entry_types rest
  entry_types (case_at line t bits rest) = entry_types rest
  entry_types (default_at line rest) = entry_types rest

  abbrev mutual
    pub statement_types : Statement → List IntegerType
    statement_types (block items) = death_types ++ (items_types items ++ entry_types items)
    statement_types (if_then line test s) = statement_types s ++ types variables test
    statement_types (if_else line test s t) = statement_types t ++ (statement_types s ++ types variables test)
    statement_types (evaluate e) = types variables e
    statement_types (returns line e) = types variables e ++ death_types
    statement_types (returns_structure line a) = structure_types variables a ++ death_types
    statement_types (returns_nothing line) = death_types
    statement_types (for_loop line l first test last s) = part_types variables test ++ (part_types variables last ++ (statement_types s ++ (part_types variables test ++ part_types variables first)))
    statement_types (do_loop line l s test) = types variables test ++ statement_types s
    statement_types (switch line e items) = death_types ++ (items_types items ++ (Int ∷ number_type e ∷ (case_types items ++ (entry_types items ++ types variables e))))
    statement_types (breaks line) = death_types
    statement_types (continues line) = death_types
    statement_types (jumps line l) = death_types
    statement_types (stray line s) = statement_types s

    pub items_types : Items → List IntegerType
    items_types done = []
    items_types (declares line v rest) = items_types rest
    items_types (initializes line v drawn e rest) = items_types rest ++ (types variables e ++ initial_types v)
    items_types (initializes_structure line v drawn a rest) = items_types rest ++ (structure_types variables a ++ initial_types v)
    items_types (does s rest) = items_types rest ++ statement_types s
    items_types (label l rest) = items_types rest
    items_types (case_at line t bits rest) = items_types rest
    items_types (default_at line rest) = items_types rest

  -- of a function's parameters from the first on, whose objects are made before its body
  abbrev pub parameters_types : (count : ℕ) → List IntegerType
  parameters_types count = replicate (parameters_registers variables count 0) UnsignedLong
