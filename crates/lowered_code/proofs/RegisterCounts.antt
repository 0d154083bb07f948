-- How many registers trees have.
use Rattle.std.proofs.Common.{◌≡◌, ℕ, ◌+◌, Bool, true, false, List, [], ◌∷◌, ◌++◌, length, Option, Some, None, refl, arith, length-append}
use Rattle.std.proofs.lemmas.List.{length-replicate}
use Rattle.std.specs.Prelude.{if◌then◌else◌}
use Rattle.c_types.specs.declared.integers.IntegerType.{IntegerType}
use Rattle.c_types.specs.declared.integers.IntegerType.TheVariants.{Int, Long, UnsignedLong}
use Rattle.c_types.specs.Integers.{promoted}
use Rattle.core_tree.specs.declared.functions.Variable.{Variable}
use Rattle.core_tree.specs.Trees.{Place, variable_at, object_at, literal_at, pointed, arrow, member, element, subscript, Expression, constant, read, convert, sign, is_zero, arithmetic, compare, logical, choice, assign, update, step, comma, assertion, assumption, draw, part, discard, discard_structure, call, function_name, size_of_value, size_of_structure, address, sum, distance, relation, pointer_update, pointer_step, allocate, allocate_zeroed, release, exit, abort, Structure, copy, choose, put, follow, section, list, string, give, Parts, no_part, number_part, structure_part, Arguments, no_argument, number_argument, structure_argument, Statement, block, if_then, if_else, evaluate, returns, returns_structure, returns_nothing, for_loop, do_loop, switch, breaks, continues, jumps, stray, Items, done, declares, initializes, initializes_structure, does, label, case_at, default_at}
use Rattle.c_meaning.specs.Meaning.{integer_of, number_type}
use Rattle.c_temporaries.specs.Accesses.{access, is_evaluated, home_in}
use Rattle.lowered_code.specs.Lowering as lowering
use Rattle.lowered_code.specs.Lowering.{case_registers, death_registers, initial_registers, parameters_registers}
use Rattle.lowered_code.specs.Registers as kinds
use Rattle.lowered_code.specs.Registers.{update_types, case_types}

-- two registers for each move, with two more
abbrev behind_move : List IntegerType
behind_move = UnsignedLong ∷ UnsignedLong ∷ []

-- over the variables of the function
module _ (variables : List Variable) where
  abbrev types : Expression → List IntegerType
  types e = kinds.types variables e

  abbrev place_types : Place → List IntegerType
  place_types x = kinds.place_types variables x

  abbrev structure_types : Structure → List IntegerType
  structure_types a = kinds.structure_types variables a

  abbrev parts_types : Parts → List IntegerType
  parts_types ps = kinds.parts_types variables ps

  abbrev arguments_types : Arguments → List IntegerType
  arguments_types args = kinds.arguments_types variables args

  -- of where a place is, where that is evaluated
  abbrev pub held_types : Place → List IntegerType
  held_types x = kinds.held_types (access variables x) (place_types x)

  abbrev top : Expression → ℕ
  top e = lowering.top variables e

  abbrev held : Place → ℕ
  held x = lowering.held variables x

  held_length : (z : Bool) (ts : List IntegerType) (last : ℕ) → length ts ≡ last + 1 → length (if z then ts else []) ≡ (if z then last + 1 else 0)
  held_length true ts last h = h
  held_length false ts last h = refl

  -- none where it is reached directly
  way_from : (x : Place) → length (place_types x) ≡ lowering.place_top variables x + 1 → length (held_types x) ≡ held x
  way_from x h = held_length (is_evaluated (access variables x)) (place_types x) (lowering.place_top variables x) h

  -- two trees, and more behind them
  two_length : (xs ys zs : List IntegerType) → length (xs ++ (ys ++ zs)) ≡ length xs + (length ys + length zs)
  two_length xs ys zs = omega (arith, length-append xs (ys ++ zs), length-append ys zs)

  mutual
    pub place_length : (x : Place) → length (kinds.place_types variables x) ≡ lowering.place_top variables x + 1
    place_length (variable_at line v offset) = refl
    place_length (object_at line k offset) = refl
    place_length (literal_at line k) = refl
    place_length (pointed line e) = types_length e
    place_length (arrow line e offset) = omega (arith, length-append (types e) (UnsignedLong ∷ []), types_length e)
    place_length (member line x offset) = omega (arith, length-append (place_types x) (UnsignedLong ∷ []), place_length x)
    place_length (element line x e size whole false) = omega (arith, two_length (place_types x) (types e) behind_move, place_length x, types_length e)
    place_length (element line x e size whole true) = omega (arith, two_length (types e) (place_types x) behind_move, place_length x, types_length e)
    place_length (subscript line a e size false) = omega (arith, two_length (types a) (types e) behind_move, types_length a, types_length e)
    place_length (subscript line a e size true) = omega (arith, two_length (types e) (types a) behind_move, types_length a, types_length e)

    pub types_length : (e : Expression) → length (kinds.types variables e) ≡ lowering.top variables e + 1
    types_length (constant line t bits) = refl
    types_length (read t x) = omega (arith, length-append (held_types x) (t ∷ []), way_from x (place_length x))
    types_length (convert to e) = omega (arith, length-append (types e) (to ∷ []), types_length e)
    types_length (sign line op e) = omega (arith, length-append (types e) (number_type e ∷ []), types_length e)
    types_length (is_zero line e) = omega (arith, length-append (types e) (Int ∷ []), types_length e)
    types_length (arithmetic line op a b) = omega (arith, two_length (types a) (types b) (number_type a ∷ []), types_length a, types_length b)
    types_length (compare line op a b) = omega (arith, two_length (types a) (types b) (Int ∷ []), types_length a, types_length b)
    types_length (logical line op a b) = omega (arith, two_length (types a) (types b) (Int ∷ Int ∷ []), types_length a, types_length b)
    types_length (choice line test a b) =
        omega (arith, length-append (types test) (types a ++ (types b ++ number_type a ∷ [])), two_length (types a) (types b) (number_type a ∷ []), types_length test, types_length a, types_length b)
    types_length (assign line t x e) = omega (arith, length-append (held_types x) (types e), way_from x (place_length x), types_length e)
    types_length (update line t x op u e) = omega (arith, two_length (held_types x) (types e) (update_types t u), way_from x (place_length x), types_length e)
    types_length (step line t x op before) = omega (arith, length-append (held_types x) (promoted t ∷ (update_types t (promoted t) ++ t ∷ [])), way_from x (place_length x))
    types_length (comma line a b) = omega (arith, length-append (types a) (types b), types_length a, types_length b)
    types_length (assertion line e) = omega (arith, length-append (types e) (Int ∷ []), types_length e)
    types_length (assumption line e) = omega (arith, length-append (types e) (Int ∷ []), types_length e)
    types_length (draw line t) = refl
    types_length (part line t offset a) = omega (arith, length-append (structure_types a) (t ∷ []), structure_length a)
    types_length (discard line e) = omega (arith, length-append (types e) (Int ∷ []), types_length e)
    types_length (discard_structure a) = omega (arith, length-append (structure_types a) (Int ∷ []), structure_length a)
    types_length (call line f used t args) = omega (arith, length-append (arguments_types args) (Int ∷ integer_of t ∷ []), arguments_length args)
    types_length (function_name line) = refl
    types_length (size_of_value line bits e) = refl
    types_length (size_of_structure line bits a) = refl
    types_length (address line x) = place_length x
    types_length (sum line a e i false) = omega (arith, two_length (types a) (types e) behind_move, types_length a, types_length e)
    types_length (sum line a e i true) = omega (arith, two_length (types e) (types a) behind_move, types_length a, types_length e)
    types_length (distance line a b i) = omega (arith, two_length (types a) (types b) (Long ∷ []), types_length a, types_length b)
    types_length (relation line op a b) = omega (arith, two_length (types a) (types b) (Int ∷ []), types_length a, types_length b)
    types_length (pointer_update line x i e) = omega (arith, two_length (held_types x) (types e) (UnsignedLong ∷ UnsignedLong ∷ UnsignedLong ∷ []), way_from x (place_length x), types_length e)
    types_length (pointer_step line x i before) =
        omega (arith, length-append (held_types x) (Int ∷ UnsignedLong ∷ UnsignedLong ∷ UnsignedLong ∷ UnsignedLong ∷ []), way_from x (place_length x))
    types_length (allocate line e) = omega (arith, length-append (types e) (Int ∷ UnsignedLong ∷ UnsignedLong ∷ []), types_length e)
    types_length (allocate_zeroed line a b) = omega (arith, two_length (types a) (types b) (Int ∷ UnsignedLong ∷ UnsignedLong ∷ []), types_length a, types_length b)
    types_length (release line e) = omega (arith, length-append (types e) (Int ∷ []), types_length e)
    types_length (exit line e) = omega (arith, length-append (types e) (Int ∷ []), types_length e)
    types_length (abort line) = refl

    pub structure_length : (a : Structure) → length (kinds.structure_types variables a) ≡ lowering.structure_registers variables a
    structure_length (copy x size) = way_from x (place_length x)
    structure_length (choose line test a b) = omega (arith, two_length (types test) (structure_types a) (structure_types b), types_length test, structure_length a, structure_length b)
    structure_length (put line x a) = omega (arith, length-append (held_types x) (structure_types a), way_from x (place_length x), structure_length a)
    structure_length (follow line e a) = omega (arith, length-append (types e) (structure_types a), types_length e, structure_length a)
    structure_length (section line offset size a) = structure_length a
    structure_length (list line size ps) = parts_length ps
    structure_length (string line size text) = refl
    structure_length (give line f used size args) = omega (arith, length-append (arguments_types args) (Int ∷ []), arguments_length args)

    pub parts_length : (ps : Parts) → length (kinds.parts_types variables ps) ≡ lowering.parts_registers variables ps
    parts_length no_part = refl
    parts_length (number_part offset e rest) = omega (arith, length-append (types e) (parts_types rest), types_length e, parts_length rest)
    parts_length (structure_part offset a rest) = omega (arith, length-append (structure_types a) (parts_types rest), structure_length a, parts_length rest)

    pub arguments_length : (args : Arguments) → length (kinds.arguments_types variables args) ≡ lowering.arguments_registers variables args
    arguments_length no_argument = refl
    arguments_length (number_argument e rest) = omega (arith, length-append (types e) (arguments_types rest), types_length e, arguments_length rest)
    arguments_length (structure_argument a rest) = omega (arith, length-append (structure_types a) (arguments_types rest), structure_length a, arguments_length rest)

  pub way_length : (x : Place) → length (kinds.held_types (access variables x) (kinds.place_types variables x)) ≡ lowering.held variables x
  way_length x = way_from x (place_length x)

  pub case_length : (items : Items) → length (case_types items) ≡ case_registers variables items
  case_length done = refl
  case_length (declares line v rest) = case_length rest
  case_length (initializes line v drawn e rest) = case_length rest
  case_length (initializes_structure line v drawn a rest) = case_length rest
  case_length (does s rest) = case_length rest
  case_length (label l rest) = case_length rest
  case_length (case_at line t bits rest) = omega (arith, case_length rest)
  case_length (default_at line rest) = case_length rest

  abbrev part_types : Option Expression → List IntegerType
  part_types e = kinds.part_types variables e

  abbrev first_types : ℕ → Bool → List IntegerType
  first_types v drawn = kinds.first_types variables v drawn

  abbrev initial_types : ℕ → List IntegerType
  initial_types v = kinds.initial_types variables v

  abbrev death_types : List IntegerType
  death_types = kinds.death_types variables

  abbrev entry_types : Items → List IntegerType
  entry_types items = kinds.entry_types variables items

  abbrev statement_types : Statement → List IntegerType
  statement_types s = kinds.statement_types variables s

  abbrev items_types : Items → List IntegerType
  items_types items = kinds.items_types variables items

  pub part_length : (e : Option Expression) → length (kinds.part_types variables e) ≡ lowering.part_registers variables e
  part_length None = refl
  part_length (Some e) = types_length e

  pub first_length : (v : ℕ) (drawn : Bool) → length (kinds.first_types variables v drawn) ≡ lowering.first_registers variables v drawn
  first_length v drawn = length-replicate (lowering.first_registers variables v drawn) UnsignedLong

  pub initial_length : (v : ℕ) → length (kinds.initial_types variables v) ≡ initial_registers variables (home_in variables v)
  initial_length v = length-replicate (initial_registers variables (home_in variables v)) UnsignedLong

  pub death_length : length (kinds.death_types variables) ≡ death_registers variables
  death_length = length-replicate (death_registers variables) UnsignedLong

  pub parameters_length : (count : ℕ) → length (kinds.parameters_types variables count) ≡ parameters_registers variables count 0
  parameters_length count = length-replicate (parameters_registers variables count 0) UnsignedLong

  pub entry_length : (items : Items) → length (kinds.entry_types variables items) ≡ lowering.entry_registers variables items
  entry_length done = refl
  entry_length (declares line v rest) = omega (arith, length-append (first_types v true) (entry_types rest), first_length v true, entry_length rest)
  entry_length (initializes line v drawn e rest) = omega (arith, length-append (first_types v drawn) (entry_types rest), first_length v drawn, entry_length rest)
  entry_length (initializes_structure line v drawn a rest) = omega (arith, length-append (first_types v drawn) (entry_types rest), first_length v drawn, entry_length rest)
  entry_length (does s rest) = entry_length rest
  entry_length (label l rest) = entry_length rest
  entry_length (case_at line t bits rest) = entry_length rest
  entry_length (default_at line rest) = entry_length rest

  mutual
    pub statement_length : (s : Statement) → length (kinds.statement_types variables s) ≡ lowering.statement_registers variables s
    statement_length (block items) = omega (arith, two_length death_types (items_types items) (entry_types items), death_length, items_length items, entry_length items)
    statement_length (if_then line test s) = omega (arith, length-append (statement_types s) (types test), statement_length s, types_length test)
    statement_length (if_else line test s t) = omega (arith, two_length (statement_types t) (statement_types s) (types test), statement_length t, statement_length s, types_length test)
    statement_length (evaluate e) = types_length e
    statement_length (returns line e) = omega (arith, length-append (types e) death_types, types_length e, death_length)
    statement_length (returns_structure line a) = omega (arith, length-append (structure_types a) death_types, structure_length a, death_length)
    statement_length (returns_nothing line) = death_length
    statement_length (for_loop line l first test last s) =
        omega (
          arith,
          two_length (part_types test) (part_types last) (statement_types s ++ (part_types test ++ part_types first)),
          two_length (statement_types s) (part_types test) (part_types first),
          part_length test,
          part_length last,
          part_length first,
          statement_length s,
        )
    statement_length (do_loop line l s test) = omega (arith, length-append (types test) (statement_types s), types_length test, statement_length s)
    statement_length (switch line e items) =
        omega (
          arith,
          two_length death_types (items_types items) (Int ∷ number_type e ∷ (case_types items ++ (entry_types items ++ types e))),
          two_length (case_types items) (entry_types items) (types e),
          death_length,
          items_length items,
          case_length items,
          entry_length items,
          types_length e,
        )
    statement_length (breaks line) = death_length
    statement_length (continues line) = death_length
    statement_length (jumps line l) = death_length
    statement_length (stray line s) = statement_length s

    pub items_length : (items : Items) → length (kinds.items_types variables items) ≡ lowering.items_registers variables items
    items_length done = refl
    items_length (declares line v rest) = items_length rest
    items_length (initializes line v drawn e rest) = omega (arith, two_length (items_types rest) (types e) (initial_types v), items_length rest, types_length e, initial_length v)
    items_length (initializes_structure line v drawn a rest) = omega (arith, two_length (items_types rest) (structure_types a) (initial_types v), items_length rest, structure_length a, initial_length v)
    items_length (does s rest) = omega (arith, length-append (items_types rest) (statement_types s), items_length rest, statement_length s)
    items_length (label l rest) = items_length rest
    items_length (case_at line t bits rest) = items_length rest
    items_length (default_at line rest) = items_length rest
