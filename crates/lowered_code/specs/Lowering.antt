-- The flat code of typed trees. Each node has a register of its own, which the code of the node sets last; the code of a tree uses registers from n on. Where a place is evaluated, a register tells where it is. A structure value is written where it is wanted: into a block from an offset on. A number in an object is read and written by a block on the way.
use Rattle.std.specs.Prelude.{ℕ, zero, suc, ◌+◌, ◌-◌, ◌*◌, ◌==◌, ℤ, pos, Bool, true, false, ◌||◌, Option, Some, None, List, [], ◌∷◌, ◌++◌, length, slice_get, slice_index, is_some, if◌then◌else◌}
use Rattle.std.specs.List.{list_any}
use Rattle.c_types.specs.declared.integers.IntegerType.{IntegerType}
use Rattle.c_types.specs.declared.integers.IntegerType.TheVariants.{Int, UnsignedLong}
use Rattle.c_types.specs.declared.types.ValueType.{ValueType}
use Rattle.c_types.specs.declared.types.ValueType.TheVariants.{Void, Integer}
use Rattle.c_types.specs.Integers.{bytes, promoted}
use Rattle.core_tree.specs.declared.operators.ArithmeticOperator.{ArithmeticOperator}
use Rattle.core_tree.specs.declared.operators.ArithmeticOperator.TheVariants as arithmetics
use Rattle.core_tree.specs.declared.operators.Comparison.TheVariants as comparisons
use Rattle.core_tree.specs.declared.operators.LogicalOperator.{LogicalOperator}
use Rattle.core_tree.specs.declared.operators.LogicalOperator.TheVariants as logicals
use Rattle.core_tree.specs.Trees.{Place, variable_at, object_at, literal_at, pointed, arrow, member, element, subscript, Expression, constant, read, convert, sign, is_zero, arithmetic, compare, logical, choice, assign, update, step, comma, assertion, assumption, draw, part, discard, discard_structure, call, function_name, size_of_value, size_of_structure, address, sum, distance, relation, pointer_update, pointer_step, allocate, allocate_zeroed, release, exit, abort, Structure, copy, choose, put, follow, section, list, string, give, Parts, no_part, number_part, structure_part, Arguments, no_argument, number_argument, structure_argument, Statement, block, if_then, if_else, evaluate, returns, returns_structure, returns_nothing, for_loop, do_loop, switch, breaks, continues, jumps, stray, Items, done, declares, initializes, initializes_structure, does, label, case_at, default_at}
use Rattle.core_tree.specs.Operations.{drawn_width, step_operation}
use Rattle.core_tree.specs.declared.functions.Variable.{Variable}
use Rattle.core_tree.specs.Typed as typed
use Rattle.core_tree.specs.Typed.{sizes_of_variables}
use Rattle.c_values.specs.Variables.{pointer_to, word_count, drawn_count}
use Rattle.words.specs.declared.check.Class.TheVariants.{Bounds}
use Rattle.c_meaning.specs.Meaning.{number_type, place_line, is_readonly, range_class, has_default}
use Rattle.c_temporaries.specs.declared.accesses.Access.{Access}
use Rattle.c_temporaries.specs.declared.accesses.Access.TheVariants as accesses
use Rattle.c_temporaries.specs.Accesses.{access, is_evaluated, home_in}
use Rattle.c_temporaries.specs.Temporaries.{heap_bytes, value_size}
use Rattle.goto_prog.specs.declared.code.Operation.{Operation}
use Rattle.goto_prog.specs.declared.code.Operation.TheVariants as operations
use Rattle.goto_prog.specs.declared.code.Instruction.{Instruction}
use Rattle.goto_prog.specs.Nodes.{Nodes, plain, repeats, node_count}
use Rattle.goto_prog.specs.Nodes as nodes

-- ---- the registers of a tree: its value's comes this many behind the first

-- over the variables of the function
module _ (variables : List Variable) where
  -- how many registers stand for where a place is, where its last one comes this many behind the first
  abbrev pub held_by : Access → ℕ → ℕ
  held_by way last = if is_evaluated way then last + 1 else 0

  abbrev mutual
    -- the register that tells where a place is
    pub place_top : Place → ℕ
    place_top (variable_at line v offset) = 1
    place_top (object_at line k offset) = 0
    place_top (literal_at line k) = 0
    place_top (pointed line e) = top e
    place_top (arrow line e offset) = top e + 1
    place_top (member line x offset) = place_top x + 1
    place_top (element line x e size whole swapped) = place_top x + (top e + 3)
    place_top (subscript line a e size swapped) = top a + (top e + 3)

    pub top : Expression → ℕ
    top (constant line t bits) = 0
    top (read t x) = held_by (access variables x) (place_top x)
    top (convert to e) = top e + 1
    top (sign line op e) = top e + 1
    top (is_zero line e) = top e + 1
    top (arithmetic line op a b) = top a + (top b + 2)
    top (compare line op a b) = top a + (top b + 2)
    top (logical line op a b) = top a + (top b + 3)
    top (choice line test a b) = top test + (top a + (top b + 3))
    top (assign line t x e) = held_by (access variables x) (place_top x) + top e
    top (update line t x op u e) = held_by (access variables x) (place_top x) + (top e + 4)
    top (step line t x op before) = held_by (access variables x) (place_top x) + 5
    top (comma line a b) = top a + (top b + 1)
    top (assertion line e) = top e + 1
    top (assumption line e) = top e + 1
    top (draw line t) = 0
    top (part line t offset a) = structure_registers a
    top (discard line e) = top e + 1
    top (discard_structure a) = structure_registers a
    top (call line fn used t args) = arguments_registers args + 1
    top (function_name line) = 0
    top (size_of_value line bits e) = 0
    top (size_of_structure line bits a) = 0
    top (address line x) = place_top x
    top (sum line a e i swapped) = top a + (top e + 3)
    top (distance line a b i) = top a + (top b + 2)
    top (relation line op a b) = top a + (top b + 2)
    top (pointer_update line x i e) = held_by (access variables x) (place_top x) + (top e + 3)
    top (pointer_step line x i before) = held_by (access variables x) (place_top x) + 4
    top (allocate line e) = top e + 3
    top (allocate_zeroed line a b) = top a + (top b + 4)
    top (release line e) = top e + 1
    top (exit line e) = top e + 1
    top (abort line) = 0

    -- how many registers a structure value needs
    pub structure_registers : Structure → ℕ
    structure_registers (copy x size) = held_by (access variables x) (place_top x)
    structure_registers (choose line test a b) = top test + (structure_registers a + (structure_registers b + 1))
    structure_registers (put line x a) = held_by (access variables x) (place_top x) + structure_registers a
    structure_registers (follow line e a) = top e + (structure_registers a + 1)
    structure_registers (section line offset size a) = structure_registers a
    structure_registers (list line size ps) = parts_registers ps
    structure_registers (string line size text) = 1
    structure_registers (give line fn used size args) = arguments_registers args + 1

    pub parts_registers : Parts → ℕ
    parts_registers no_part = 0
    parts_registers (number_part offset e rest) = top e + (parts_registers rest + 1)
    parts_registers (structure_part offset a rest) = structure_registers a + parts_registers rest

    pub arguments_registers : Arguments → ℕ
    arguments_registers no_argument = 0
    arguments_registers (number_argument e rest) = top e + (arguments_registers rest + 1)
    arguments_registers (structure_argument a rest) = structure_registers a + arguments_registers rest

  -- how many registers tell where a place is, before what is done there; none where it is reached directly
  abbrev pub held : Place → ℕ
  held x = held_by (access variables x) (place_top x)

abbrev pub argument_count : Arguments → ℕ
argument_count no_argument = 0
argument_count (number_argument e rest) = argument_count rest + 1
argument_count (structure_argument a rest) = argument_count rest + 1

abbrev pub structure_line : Structure → ℕ
structure_line (copy x size) = place_line x
structure_line (choose line test a b) = line
structure_line (put line x a) = line
structure_line (follow line e a) = line
structure_line (section line offset size a) = line
structure_line (list line size ps) = line
structure_line (string line size text) = line
structure_line (give line fn used size args) = line

-- the line of the node's own token; a conversion has its operand's
abbrev pub line_of : Expression → ℕ
line_of (constant line t bits) = line
line_of (read t x) = place_line x
line_of (convert to e) = line_of e
line_of (sign line op e) = line
line_of (is_zero line e) = line
line_of (arithmetic line op a b) = line
line_of (compare line op a b) = line
line_of (logical line op a b) = line
line_of (choice line test a b) = line
line_of (assign line t x e) = line
line_of (update line t x op u e) = line
line_of (step line t x op before) = line
line_of (comma line a b) = line
line_of (assertion line e) = line
line_of (assumption line e) = line
line_of (draw line t) = line
line_of (part line t offset a) = line
line_of (discard line e) = line
line_of (discard_structure a) = structure_line a
line_of (call line fn used t args) = line
line_of (function_name line) = line
line_of (size_of_value line bits e) = line
line_of (size_of_structure line bits a) = line
line_of (address line x) = line
line_of (sum line a e i swapped) = line
line_of (distance line a b i) = line
line_of (relation line op a b) = line
line_of (pointer_update line x i e) = line
line_of (pointer_step line x i before) = line
line_of (allocate line e) = line
line_of (allocate_zeroed line a b) = line
line_of (release line e) = line
line_of (exit line e) = line
line_of (abort line) = line

-- where code stands: its function, that one's variables, a block whose bytes stay 0, one for what the function hands over, the first of the blocks that it may use for values on the way, and one in which objects are made; and the number of the first string literal's object
pub record Frame : Type 0 where
  pub function : ℕ
  pub variables : List Variable
  pub zeros : ℕ
  pub result : ℕ
  pub free : ℕ
  pub heap : ℕ
  pub literals : ℕ

-- one of these blocks is in use
abbrev pub deeper : Frame → Frame
deeper f = record f { free = f.free + 1 }

-- so many of them are
abbrev pub deeper_by : ℕ → Frame → Frame
deeper_by count f = record f { free = f.free + count }

module _ (frame : Frame) where
  abbrev pub at_line : ℕ → Operation → Instruction
  at_line line o = record { line = line; function = frame.function; operation = o }

  -- the size of a variable
  abbrev pub whole_of : ℕ → ℕ
  whole_of v = slice_index (sizes_of_variables frame.variables) v

  -- how a place is reached
  abbrev pub reach : Place → Access
  reach x = access frame.variables x

  -- the number of type t at a place, where the register p tells where it is evaluated, into the register r
  abbrev pub read_code : (line r : ℕ) → IntegerType → Access → (p : ℕ) → List Instruction
  read_code line r t (accesses.Variable v offset) p = at_line line (operations.Load r t v offset) ∷ []
  read_code line r t (accesses.Object k offset) p =
      at_line line (operations.ReadObject frame.free 0 k offset (bytes t)) ∷ at_line line (operations.Load r t frame.free 0) ∷ []
  read_code line r t (accesses.Within v) p =
      at_line line (operations.Take frame.free 0 v p (bytes t) (whole_of v)) ∷ at_line line (operations.Load r t frame.free 0) ∷ []
  read_code line r t accesses.Pointed p =
      at_line line (operations.Read frame.free 0 p (bytes t)) ∷ at_line line (operations.Load r t frame.free 0) ∷ []

  -- the bytes of type t of the register a, into a place
  abbrev pub write_code : ℕ → IntegerType → Access → (p a : ℕ) → List Instruction
  write_code line t (accesses.Variable v offset) p a = at_line line (operations.Store v offset (bytes t) a) ∷ []
  write_code line t (accesses.Object k offset) p a =
      at_line line (operations.Store frame.free 0 (bytes t) a) ∷ at_line line (operations.WriteObject k offset frame.free 0 (bytes t)) ∷ []
  write_code line t (accesses.Within v) p a =
      at_line line (operations.Store frame.free 0 (bytes t) a) ∷ at_line line (operations.Put v p frame.free 0 (bytes t) (whole_of v)) ∷ []
  write_code line t accesses.Pointed p a =
      at_line line (operations.Store frame.free 0 (bytes t) a) ∷ at_line line (operations.Write p frame.free 0 (bytes t) false) ∷ []

  -- the number of type t at a place, an operation of type u with another of type w on it, and the result back into the place: registers from n on
  abbrev pub update_code : (at line : ℕ) → IntegerType → Access → (p : ℕ) → ArithmeticOperator → IntegerType → IntegerType → ℕ → ℕ → List Instruction
  update_code at line t way p op u w y n =
      read_code at n t way p
      ++ at_line line (operations.Convert (n + 1) t u n)
      ∷ at_line line (operations.Arithmetic (n + 2) op u w (n + 1) y)
      ∷ at_line line (operations.Convert (n + 3) u t (n + 2))
      ∷ write_code line t way p (n + 3)

  -- so many bytes of a place, into a block from an offset on
  abbrev pub fetch_code : ℕ → Access → (p size into at : ℕ) → List Instruction
  fetch_code line (accesses.Variable v offset) p size into to = at_line line (operations.CopyBytes into to v offset size) ∷ []
  fetch_code line (accesses.Object k offset) p size into to = at_line line (operations.ReadObject into to k offset size) ∷ []
  fetch_code line (accesses.Within v) p size into to = at_line line (operations.Take into to v p size (whole_of v)) ∷ []
  fetch_code line accesses.Pointed p size into to = at_line line (operations.Read into to p size) ∷ []

  -- so many bytes of a block from an offset on, into a place
  abbrev pub put_code : ℕ → Access → (p size from at : ℕ) → List Instruction
  put_code line (accesses.Variable v offset) p size from to = at_line line (operations.CopyBytes v offset from to size) ∷ []
  put_code line (accesses.Object k offset) p size from to = at_line line (operations.WriteObject k offset from to size) ∷ []
  put_code line (accesses.Within v) p size from to = at_line line (operations.Put v p from to size (whole_of v)) ∷ []
  put_code line accesses.Pointed p size from to = at_line line (operations.Write p from to size false) ∷ []

  -- the pointer to an offset of a variable, or that offset, where it has no address: registers from n on
  abbrev pub base_code : (line : ℕ) → Option ℕ → (offset n : ℕ) → List Instruction
  base_code line None offset n = at_line line (operations.Constant (n + 1) offset) ∷ []
  base_code line (Some h) offset n = at_line line (operations.Load n UnsignedLong h 0) ∷ at_line line (operations.Offset (n + 1) n offset) ∷ []

  -- the pointer in the register p, moved by the index in the register i, where the whole object has so many bytes
  abbrev pub element_code : (line p i : ℕ) → IntegerType → (size whole n : ℕ) → List Instruction
  element_code line p i t size whole n =
      at_line line (operations.Constant n whole) ∷ at_line line (operations.Move (n + 1) p i t (pos size) n Bounds) ∷ []

  -- so, where its object is looked at
  abbrev pub move_code : (is_element : Bool) → (line p i : ℕ) → IntegerType → (stride : ℤ) → (n : ℕ) → List Instruction
  move_code is_element line p i t stride n =
      at_line line (operations.Look n p is_element) ∷ at_line line (operations.Move (n + 1) p i t stride n (range_class is_element)) ∷ []

  -- an allocation behind what it wants: where it fails, the register r is 0, and else set by the code that grants it
  abbrev pub grant_code : (line b r : ℕ) → List Instruction → List Instruction
  grant_code line b r granted =
      at_line line (operations.MayFail b)
      ∷ at_line line (operations.SkipIfZero b 2)
      ∷ at_line line (operations.Constant r 0)
      ∷ at_line line (operations.Skip (length granted))
      ∷ granted

  -- the object of a variable is made of its bytes, and its pointer is kept: the registers n and n + 1 have its size and the pointer
  abbrev pub home_code : (line v : ℕ) → Option ℕ → (n : ℕ) → List Instruction
  home_code line v None n = []
  home_code line v (Some h) n =
      at_line line (operations.Constant n (whole_of v))
      ∷ at_line line (operations.Alloc (n + 1) v n (is_readonly (slice_get frame.variables v)) false)
      ∷ at_line line (operations.Store h 0 8 (n + 1))
      ∷ []

  -- it dies; the register r has its pointer
  abbrev pub death_code : (line : ℕ) → Option ℕ → (r : ℕ) → List Instruction
  death_code line None r = []
  death_code line (Some h) r = at_line line (operations.Load r UnsignedLong h 0) ∷ at_line line (operations.Die r) ∷ []

  -- 1 or 0 in the register behind n, whether the register y is other than 0
  abbrev pub truth_code : ℕ → ℕ → ℕ → List Instruction
  truth_code line y n = at_line line (operations.IsZero n y) ∷ at_line line (operations.IsZero (n + 1) n) ∷ []

  -- && and || behind their left operand, whose value the register x has: the code b of the right one ends with its value in y (C11 6.5.13p4, 6.5.14p4)
  abbrev pub logical_code : ℕ → LogicalOperator → ℕ → List Instruction → ℕ → List Instruction
  logical_code line logicals.And x b y =
      at_line line (operations.SkipIfZero x (length b + 3))
      ∷ (b
      ++ at_line line (operations.IsZero (y + 1) y)
      ∷ at_line line (operations.IsZero (y + 2) (y + 1))
      ∷ at_line line (operations.Skip 1)
      ∷ at_line line (operations.Constant (y + 2) 0)
      ∷ [])
  logical_code line logicals.Or x b y =
      at_line line (operations.SkipIfZero x 2)
      ∷ at_line line (operations.Constant (y + 2) 1)
      ∷ at_line line (operations.Skip (length b + 2))
      ∷ (b
      ++ at_line line (operations.IsZero (y + 1) y)
      ∷ at_line line (operations.IsZero (y + 2) (y + 1))
      ∷ [])

-- the bytes of a string, each by the register n
abbrev pub text_code : Frame → ℕ → List ℕ → (n into at : ℕ) → List Instruction
text_code f line [] n into to = []
text_code f line (c ∷ cs) n into to = at_line f line (operations.Constant n c) ∷ at_line f line (operations.Store into to 1 n) ∷ text_code f line cs n into (to + 1)

-- ---- calls: the free blocks hold the arguments, and the one behind them what is handed over

-- where the value of a call is used, the register r tells whether one is handed over
abbrev pub use_code : Frame → ℕ → Bool → ℕ → List Instruction
use_code f line used r = if used then at_line f line (operations.Use r) ∷ [] else []

-- a call with so many arguments of a function that hands over so many bytes; where it hands over none they are 0
abbrev pub call_code : Frame → (line callee : ℕ) → Bool → (size count r : ℕ) → List Instruction
call_code f line callee used size count r =
    at_line f line (operations.CopyBytes (f.free + count) 0 f.zeros 0 size)
    ∷ at_line f line (operations.Call callee f.free count (f.free + count) r)
    ∷ use_code f line used r

-- the value of a call, whose bytes a block has, into the register r
abbrev pub taken_code : Frame → ℕ → ValueType → (block r : ℕ) → Instruction
taken_code f line Void b r = at_line f line (operations.Constant r 0)
taken_code f line (Integer t) b r = at_line f line (operations.Load r t b 0)

-- the code of a place stands where it is evaluated
abbrev pub if_evaluated : Access → List Instruction → List Instruction
if_evaluated way xs = if is_evaluated way then xs else []

abbrev mutual
  -- where a place is, into its last register
  pub place_code : Frame → Place → ℕ → List Instruction
  place_code f (variable_at line v offset) n = base_code f line (home_in f.variables v) offset n
  place_code f (object_at line k offset) n = at_line f line (operations.Constant n (pointer_to k offset)) ∷ []
  place_code f (literal_at line k) n = at_line f line (operations.Constant n (pointer_to (f.literals + k) 0)) ∷ []
  place_code f (pointed line e) n = code f e n
  place_code f (arrow line e offset) n = code f e n ++ at_line f line (operations.Offset (n + (top f.variables e + 1)) (n + top f.variables e) offset) ∷ []
  place_code f (member line x offset) n =
      place_code f x n ++ at_line f line (operations.Offset (n + (place_top f.variables x + 1)) (n + place_top f.variables x) offset) ∷ []
  place_code f (element line x e size whole false) n =
      let second = n + (place_top f.variables x + 1) in
      place_code f x n
      ++ (code f e second ++ element_code f line (n + place_top f.variables x) (second + top f.variables e) (number_type e) size whole (second + (top f.variables e + 1)))
  place_code f (element line x e size whole true) n =
      let second = n + (top f.variables e + 1) in
      code f e n
      ++ (place_code f x second ++ element_code f line (second + place_top f.variables x) (n + top f.variables e) (number_type e) size whole (second + (place_top f.variables x + 1)))
  place_code f (subscript line a e size false) n =
      let second = n + (top f.variables a + 1) in
      code f a n
      ++ (code f e second ++ move_code f true line (n + top f.variables a) (second + top f.variables e) (number_type e) (pos size) (second + (top f.variables e + 1)))
  place_code f (subscript line a e size true) n =
      let second = n + (top f.variables e + 1) in
      code f e n
      ++ (code f a second ++ move_code f true line (second + top f.variables a) (n + top f.variables e) (number_type e) (pos size) (second + (top f.variables a + 1)))

  pub code : Frame → Expression → ℕ → List Instruction
  code f (constant line t bits) n = at_line f line (operations.Constant n bits) ∷ []
  code f (read t x) n = if_evaluated (reach f x) (place_code f x n) ++ read_code f (place_line x) (n + held f.variables x) t (reach f x) (n + place_top f.variables x)
  code f (convert to e) n = code f e n ++ at_line f (line_of e) (operations.Convert (n + (top f.variables e + 1)) (number_type e) to (n + top f.variables e)) ∷ []
  code f (sign line op e) n = code f e n ++ at_line f line (operations.Sign (n + (top f.variables e + 1)) op (number_type e) (n + top f.variables e)) ∷ []
  code f (is_zero line e) n = code f e n ++ at_line f line (operations.IsZero (n + (top f.variables e + 1)) (n + top f.variables e)) ∷ []
  code f (arithmetic line op a b) n =
      code f a n
      ++ (code f b (n + (top f.variables a + 1))
      ++ at_line f line (operations.Arithmetic (n + (top f.variables a + (top f.variables b + 2))) op (number_type a) (number_type b) (n + top f.variables a) (n + (top f.variables a + 1) + top f.variables b)) ∷ [])
  code f (compare line op a b) n =
      code f a n
      ++ (code f b (n + (top f.variables a + 1))
      ++ at_line f line (operations.Compare (n + (top f.variables a + (top f.variables b + 2))) op (number_type a) (n + top f.variables a) (n + (top f.variables a + 1) + top f.variables b)) ∷ [])
  code f (logical line op a b) n = code f a n ++ logical_code f line op (n + top f.variables a) (code f b (n + (top f.variables a + 1))) (n + (top f.variables a + 1) + top f.variables b)
  code f (choice line test a b) n =
      let first = n + (top f.variables test + 1) in
      let second = first + (top f.variables a + 1) in
      let result = second + (top f.variables b + 1) in
      code f test n
      ++ at_line f line (operations.SkipIfZero (n + top f.variables test) (length (code f a first) + 2))
      ∷ (code f a first
      ++ at_line f line (operations.Copy result (first + top f.variables a))
      ∷ at_line f line (operations.Skip (length (code f b second) + 1))
      ∷ (code f b second ++ at_line f line (operations.Copy result (second + top f.variables b)) ∷ []))
  code f (assign line t x e) n =
      let m = n + held f.variables x in
      if_evaluated (reach f x) (place_code f x n) ++ (code f e m ++ write_code f line t (reach f x) (n + place_top f.variables x) (m + top f.variables e))
  code f (update line t x op u e) n =
      let m = n + held f.variables x in
      if_evaluated (reach f x) (place_code f x n)
      ++ (code f e m
      ++ update_code f (place_line x) line t (reach f x) (n + place_top f.variables x) op u (number_type e) (m + top f.variables e) (m + (top f.variables e + 1)))
  code f (step line t x op before) n =
      let m = n + held f.variables x in
      if_evaluated (reach f x) (place_code f x n)
      ++ at_line f line (operations.Constant m 1)
      ∷ (update_code f (place_line x) line t (reach f x) (n + place_top f.variables x) (step_operation op) (promoted t) (promoted t) m (m + 1)
      ++ at_line f line (operations.Copy (m + 5) (if before then m + 4 else m + 1)) ∷ [])
  code f (comma line a b) n = code f a n ++ code f b (n + (top f.variables a + 1))
  code f (assertion line e) n = code f e n ++ at_line f line (operations.Assert (n + top f.variables e)) ∷ at_line f line (operations.Constant (n + (top f.variables e + 1)) 0) ∷ []
  code f (assumption line e) n = code f e n ++ at_line f line (operations.Assume (n + top f.variables e)) ∷ at_line f line (operations.Constant (n + (top f.variables e + 1)) 0) ∷ []
  code f (draw line t) n = at_line f line (operations.Draw n (drawn_width t)) ∷ []
  code f (part line t offset a) n = structure_code (deeper f) a n f.free 0 ++ at_line f line (operations.Load (n + structure_registers f.variables a) t f.free offset) ∷ []
  code f (discard line e) n = code f e n ++ at_line f line (operations.Constant (n + (top f.variables e + 1)) 0) ∷ []
  code f (discard_structure a) n = structure_code (deeper f) a n f.free 0 ++ at_line f (structure_line a) (operations.Constant (n + structure_registers f.variables a) 0) ∷ []
  code f (call line callee used t args) n =
      let count = argument_count args in
      let r = n + arguments_registers f.variables args in
      arguments_code (deeper_by (count + 1) f) args n f.free
      ++ (call_code f line callee used (value_size t) count r ++ taken_code f line t (f.free + count) (r + 1) ∷ [])
  code f (function_name line) n = at_line f line (operations.Constant n 0) ∷ []
  code f (size_of_value line bits e) n = at_line f line (operations.Constant n bits) ∷ []
  code f (size_of_structure line bits a) n = at_line f line (operations.Constant n bits) ∷ []
  code f (address line x) n = place_code f x n
  code f (sum line a e i false) n =
      let second = n + (top f.variables a + 1) in
      code f a n
      ++ (code f e second ++ move_code f false line (n + top f.variables a) (second + top f.variables e) (number_type e) i (second + (top f.variables e + 1)))
  code f (sum line a e i true) n =
      let second = n + (top f.variables e + 1) in
      code f e n
      ++ (code f a second ++ move_code f false line (second + top f.variables a) (n + top f.variables e) (number_type e) i (second + (top f.variables a + 1)))
  code f (distance line a b i) n =
      let p = n + top f.variables a in
      let second = n + (top f.variables a + 1) in
      let q = second + top f.variables b in
      code f a n ++ (code f b second ++ at_line f line (operations.Same p q) ∷ at_line f line (operations.Distance (q + 1) p q i) ∷ [])
  code f (relation line op a b) n =
      let p = n + top f.variables a in
      let second = n + (top f.variables a + 1) in
      let q = second + top f.variables b in
      code f a n ++ (code f b second ++ at_line f line (operations.Same p q) ∷ at_line f line (operations.Relate (q + 1) op p q) ∷ [])
  code f (pointer_update line x i e) n =
      let m = n + held f.variables x in
      let p = m + (top f.variables e + 1) in
      if_evaluated (reach f x) (place_code f x n)
      ++ (code f e m
      ++ (read_code f (place_line x) p UnsignedLong (reach f x) (n + place_top f.variables x)
      ++ (move_code f false line p (m + top f.variables e) (number_type e) i (p + 1) ++ write_code f line UnsignedLong (reach f x) (n + place_top f.variables x) (p + 2))))
  code f (pointer_step line x i before) n =
      let m = n + held f.variables x in
      if_evaluated (reach f x) (place_code f x n)
      ++ at_line f line (operations.Constant m 1)
      ∷ (read_code f (place_line x) (m + 1) UnsignedLong (reach f x) (n + place_top f.variables x)
      ++ (move_code f false line (m + 1) m Int i (m + 2)
      ++ (write_code f line UnsignedLong (reach f x) (n + place_top f.variables x) (m + 3) ++ at_line f line (operations.Copy (m + 4) (if before then m + 3 else m + 1)) ∷ [])))
  code f (allocate line e) n =
      let size = n + top f.variables e in
      code f e n
      ++ grant_code f line (size + 1) (size + 3)
      (at_line f line (operations.Constant (size + 2) 1)
      ∷ at_line f line (operations.Limit size (size + 2))
      ∷ at_line f line (operations.Fill f.heap size)
      ∷ at_line f line (operations.Alloc (size + 3) f.heap size false true)
      ∷ [])
  code f (allocate_zeroed line a b) n =
      let count = n + top f.variables a in
      let second = n + (top f.variables a + 1) in
      let size = second + top f.variables b in
      code f a n
      ++ (code f b second
      ++ grant_code f line (size + 1) (size + 3)
      (at_line f line (operations.Limit count size)
      ∷ at_line f line (operations.Arithmetic (size + 2) arithmetics.Multiply UnsignedLong UnsignedLong count size)
      ∷ at_line f line (operations.Clear f.heap heap_bytes)
      ∷ at_line f line (operations.Alloc (size + 3) f.heap (size + 2) false true)
      ∷ []))
  code f (release line e) n =
      let p = n + top f.variables e in
      code f e n ++ at_line f line (operations.SkipIfZero p 1) ∷ at_line f line (operations.Free p) ∷ at_line f line (operations.Constant (p + 1) 0) ∷ []
  code f (exit line e) n = code f e n ++ at_line f line operations.Exit ∷ []
  code f (abort line) n = at_line f line operations.Exit ∷ []

  -- the bytes of a structure value, into a block from an offset on
  pub structure_code : Frame → Structure → (n into at : ℕ) → List Instruction
  structure_code f (copy x size) n into to = if_evaluated (reach f x) (place_code f x n) ++ fetch_code f (place_line x) (reach f x) (n + place_top f.variables x) size into to
  structure_code f (choose line test a b) n into to =
      let first = n + (top f.variables test + 1) in
      let yes = structure_code f a first into to in
      let no = structure_code f b (first + structure_registers f.variables a) into to in
      code f test n ++ at_line f line (operations.SkipIfZero (n + top f.variables test) (length yes + 1)) ∷ (yes ++ at_line f line (operations.Skip (length no)) ∷ no)
  structure_code f (put line x a) n into to =
      if_evaluated (reach f x) (place_code f x n)
      ++ (structure_code f a (n + held f.variables x) into to ++ put_code f line (reach f x) (n + place_top f.variables x) (typed.size_of a) into to)
  structure_code f (follow line e a) n into to = code f e n ++ structure_code f a (n + (top f.variables e + 1)) into to
  structure_code f (section line offset size a) n into to = structure_code (deeper f) a n f.free 0 ++ at_line f line (operations.CopyBytes into to f.free offset size) ∷ []
  structure_code f (list line size ps) n into to = at_line f line (operations.CopyBytes into to f.zeros 0 size) ∷ parts_code f line ps n into to
  structure_code f (string line size text) n into to = at_line f line (operations.CopyBytes into to f.zeros 0 size) ∷ text_code f line text n into to
  structure_code f (give line callee used size args) n into to =
      let count = argument_count args in
      arguments_code (deeper_by (count + 1) f) args n f.free
      ++ (call_code f line callee used size count (n + arguments_registers f.variables args) ++ at_line f line (operations.CopyBytes into to (f.free + count) 0 size) ∷ [])

  -- the parts of an initializer's list
  pub parts_code : Frame → ℕ → Parts → (n into at : ℕ) → List Instruction
  parts_code f line no_part n into to = []
  parts_code f line (number_part offset e rest) n into to =
      code f e n ++ at_line f line (operations.Store into (to + offset) (bytes (number_type e)) (n + top f.variables e)) ∷ parts_code f line rest (n + (top f.variables e + 1)) into to
  parts_code f line (structure_part offset a rest) n into to = structure_code f a n into (to + offset) ++ parts_code f line rest (n + structure_registers f.variables a) into to

  -- the arguments of a call, each into a block of its own, the first into this one
  pub arguments_code : Frame → Arguments → (n block : ℕ) → List Instruction
  arguments_code f no_argument n b = []
  arguments_code f (number_argument e rest) n b =
      code f e n ++ at_line f (line_of e) (operations.Store b 0 (bytes (number_type e)) (n + top f.variables e)) ∷ arguments_code f rest (n + (top f.variables e + 1)) (b + 1)
  arguments_code f (structure_argument a rest) n b = structure_code f a n b 0 ++ arguments_code f rest (n + structure_registers f.variables a) (b + 1)

-- ---- statements: the code of a statement stands in front of what comes behind it, and its registers are numbered behind those of that

abbrev pub is_homed : Variable → Bool
is_homed x = is_some x.home

-- some of the variables have addresses
abbrev pub have_homes : List Variable → Bool
have_homes variables = list_any is_homed variables

module _ (variables : List Variable) where
  abbrev pub size_of : ℕ → ℕ
  size_of v = slice_index (sizes_of_variables variables) v

  -- how many registers the first value of a variable needs: one for each word that is drawn
  abbrev pub drawn_registers : ℕ → Bool → ℕ
  drawn_registers v drawn = if drawn then word_count (size_of v) else 0

  -- and two where its object is made
  abbrev pub home_registers : Option ℕ → ℕ
  home_registers None = 0
  home_registers (Some h) = 2

  abbrev pub first_registers : ℕ → Bool → ℕ
  first_registers v drawn = drawn_registers v drawn + home_registers (home_in variables v)

  -- an initializer needs one for the pointer to the variable's object
  abbrev pub initial_registers : Option ℕ → ℕ
  initial_registers None = 0
  initial_registers (Some h) = 1

  -- and so does a way on which objects die, in a function some of whose variables have addresses
  abbrev pub death_registers : ℕ
  death_registers = if have_homes variables then 1 else 0

  -- how many registers so many parameters from a number on need
  abbrev pub parameters_registers : (count v : ℕ) → ℕ
  parameters_registers zero v = 0
  parameters_registers (suc count) v = home_registers (home_in variables v) + parameters_registers count (suc v)

  -- the registers for the first values of a block's own variables
  abbrev pub entry_registers : Items → ℕ
  entry_registers done = 0
  entry_registers (declares line v rest) = first_registers v true + entry_registers rest
  entry_registers (initializes line v drawn e rest) = first_registers v drawn + entry_registers rest
  entry_registers (initializes_structure line v drawn a rest) = first_registers v drawn + entry_registers rest
  entry_registers (does s rest) = entry_registers rest
  entry_registers (label l rest) = entry_registers rest
  entry_registers (case_at line t bits rest) = entry_registers rest
  entry_registers (default_at line rest) = entry_registers rest

  -- a part of a loop, which may be missing
  abbrev pub part_registers : Option Expression → ℕ
  part_registers None = 0
  part_registers (Some e) = top variables e + 1

  -- for each case its value, whether it is met, and whether it or one before it is; its value and whether it is met once more, for the jump to it
  abbrev pub case_registers : Items → ℕ
  case_registers done = 0
  case_registers (declares line v rest) = case_registers rest
  case_registers (initializes line v drawn e rest) = case_registers rest
  case_registers (initializes_structure line v drawn a rest) = case_registers rest
  case_registers (does s rest) = case_registers rest
  case_registers (label l rest) = case_registers rest
  case_registers (case_at line t bits rest) = case_registers rest + 5
  case_registers (default_at line rest) = case_registers rest

  abbrev mutual
    pub statement_registers : Statement → ℕ
    statement_registers (block items) = death_registers + (items_registers items + entry_registers items)
    statement_registers (if_then line test s) = statement_registers s + (top variables test + 1)
    statement_registers (if_else line test s t) = statement_registers t + (statement_registers s + (top variables test + 1))
    statement_registers (evaluate e) = top variables e + 1
    statement_registers (returns line e) = top variables e + 1 + death_registers
    statement_registers (returns_structure line a) = structure_registers variables a + death_registers
    statement_registers (returns_nothing line) = death_registers
    statement_registers (for_loop line l first test last s) =
        part_registers test + (part_registers last + (statement_registers s + (part_registers test + part_registers first)))
    statement_registers (do_loop line l s test) = (top variables test + 1) + statement_registers s
    statement_registers (switch line e items) = death_registers + (items_registers items + (2 + (case_registers items + (entry_registers items + (top variables e + 1)))))
    statement_registers (breaks line) = death_registers
    statement_registers (continues line) = death_registers
    statement_registers (jumps line l) = death_registers
    statement_registers (stray line s) = statement_registers s

    pub items_registers : Items → ℕ
    items_registers done = 0
    items_registers (declares line v rest) = items_registers rest
    items_registers (initializes line v drawn e rest) = items_registers rest + (top variables e + 1 + initial_registers (home_in variables v))
    items_registers (initializes_structure line v drawn a rest) = items_registers rest + (structure_registers variables a + initial_registers (home_in variables v))
    items_registers (does s rest) = items_registers rest + statement_registers s
    items_registers (label l rest) = items_registers rest
    items_registers (case_at line t bits rest) = items_registers rest
    items_registers (default_at line rest) = items_registers rest

-- what lets objects die on a way, by a register for their pointers
abbrev pub Deaths : Type 0
Deaths = ℕ → List Instruction

abbrev pub no_deaths : Deaths
no_deaths r = []

-- where `break`, `continue` and `goto` by a label's number lead: as many places lie behind that place, up to the end of the function; and what lets the objects of the variables die that are left on these ways, and on that out of the function
pub record Ways : Type 0 where
  pub break_at : ℕ
  pub break_out : Deaths
  pub continue_at : ℕ
  pub continue_out : Deaths
  pub return_out : Deaths
  pub label_at : ℕ → ℕ
  pub label_out : ℕ → Deaths

-- all to the place in front of the end of a function, which breaks an assertion
abbrev pub no_ways : Ways
no_ways = record { break_at = 2; break_out = no_deaths; continue_at = 2; continue_out = no_deaths; return_out = no_deaths; label_at = λ l. 2; label_out = λ l. no_deaths }

abbrev pub within_loop : Ways → (behind end : ℕ) → Ways
within_loop ways behind end = record ways { break_at = behind; break_out = no_deaths; continue_at = end; continue_out = no_deaths }

abbrev pub within_switch : Ways → (behind : ℕ) → Ways
within_switch ways behind = record ways { break_at = behind; break_out = no_deaths }

abbrev pub with_label : Ways → (l place : ℕ) → Ways
with_label ways l place = record ways { label_at = λ m. if l == m then place else ways.label_at m; label_out = λ m. if l == m then no_deaths else ways.label_out m }

-- within a block, whose variables' objects die first
abbrev pub leaving : Deaths → Ways → Ways
leaving out ways = record ways {
  break_out = λ r. out r ++ ways.break_out r;
  continue_out = λ r. out r ++ ways.continue_out r;
  return_out = λ r. out r ++ ways.return_out r;
  label_out = λ m r. out r ++ ways.label_out m r;
}

-- whether a block has no variables of its own, so that nothing is done on entry
abbrev pub declares_none : Items → Bool
declares_none done = true
declares_none (declares line v rest) = false
declares_none (initializes line v drawn e rest) = false
declares_none (initializes_structure line v drawn a rest) = false
declares_none (does s rest) = declares_none rest
declares_none (label l rest) = declares_none rest
declares_none (case_at line t bits rest) = declares_none rest
declares_none (default_at line rest) = declares_none rest

abbrev pub ends : Nodes
ends = nodes.done

-- instructions in front of nodes
abbrev pub plains : List Instruction → Nodes → Nodes
plains [] rest = rest
plains (i ∷ is) rest = plain i (plains is rest)

module _ (frame : Frame) where
  abbrev variables : List Variable
  variables = frame.variables

  -- a drawn word of a variable, from an offset on
  abbrev pub word_code : (line v offset n : ℕ) → List Instruction
  word_code line v offset n =
      let count = drawn_count (size_of variables v) offset in
      at_line frame line (operations.Draw n (8 * count)) ∷ at_line frame line (operations.Store v offset count n) ∷ []

  -- so many words, from an offset on
  abbrev pub words_code : (words line v offset n : ℕ) → List Instruction
  words_code zero line v offset n = []
  words_code (suc k) line v offset n = word_code line v offset n ++ words_code k line v (offset + 8) (n + 1)

  -- the first value of a variable: drawn, or each byte 0
  abbrev pub first_code : ℕ → ℕ → Bool → ℕ → List Instruction
  first_code line v drawn n =
      if drawn then words_code (word_count (size_of variables v)) line v 0 n else at_line frame line (operations.Clear v (size_of variables v)) ∷ []

  -- and then, where it has an address, its object
  abbrev pub made_code : ℕ → ℕ → Bool → ℕ → List Instruction
  made_code line v drawn n = first_code line v drawn n ++ home_code frame line v (home_in variables v) (n + drawn_registers variables v drawn)

  -- the first values of a block's own variables
  abbrev pub entry_code : Items → ℕ → List Instruction
  entry_code done n = []
  entry_code (declares line v rest) n = made_code line v true n ++ entry_code rest (n + first_registers variables v true)
  entry_code (initializes line v drawn e rest) n = made_code line v drawn n ++ entry_code rest (n + first_registers variables v drawn)
  entry_code (initializes_structure line v drawn a rest) n = made_code line v drawn n ++ entry_code rest (n + first_registers variables v drawn)
  entry_code (does s rest) n = entry_code rest n
  entry_code (label l rest) n = entry_code rest n
  entry_code (case_at line t bits rest) n = entry_code rest n
  entry_code (default_at line rest) n = entry_code rest n

  -- on the way out of a block the objects of its variables die, the last one first
  abbrev pub leave_code : Items → Deaths
  leave_code done r = []
  leave_code (declares line v rest) r = leave_code rest r ++ death_code frame line (home_in variables v) r
  leave_code (initializes line v drawn e rest) r = leave_code rest r ++ death_code frame line (home_in variables v) r
  leave_code (initializes_structure line v drawn a rest) r = leave_code rest r ++ death_code frame line (home_in variables v) r
  leave_code (does s rest) r = leave_code rest r
  leave_code (label l rest) r = leave_code rest r
  leave_code (case_at line t bits rest) r = leave_code rest r
  leave_code (default_at line rest) r = leave_code rest r

  -- the objects of so many parameters from a number on are made, and die
  abbrev pub parameters_code : (line count v n : ℕ) → List Instruction
  parameters_code line zero v n = []
  parameters_code line (suc count) v n = home_code frame line v (home_in variables v) n ++ parameters_code line count (suc v) (n + home_registers variables (home_in variables v))

  abbrev pub leave_parameters_code : (line count v : ℕ) → Deaths
  leave_parameters_code line zero v r = []
  leave_parameters_code line (suc count) v r = leave_parameters_code line count (suc v) r ++ death_code frame line (home_in variables v) r

  -- so many bytes of a block that is free are the first ones of a variable, which an initializer says; the register n has the pointer to its object
  abbrev pub initial_put : (line v : ℕ) → Option ℕ → (size n : ℕ) → List Instruction
  initial_put line v None size n = at_line frame line (operations.CopyBytes v 0 frame.free 0 size) ∷ []
  initial_put line v (Some h) size n = at_line frame line (operations.Load n UnsignedLong h 0) ∷ at_line frame line (operations.Write n frame.free 0 size true) ∷ []

  -- the value of an initializer, which the register a has
  abbrev pub initial_store : (line v : ℕ) → Option ℕ → IntegerType → (a n : ℕ) → List Instruction
  initial_store line v None t a n = at_line frame line (operations.Store v 0 (bytes t) a) ∷ []
  initial_store line v (Some h) t a n = at_line frame line (operations.Store frame.free 0 (bytes t) a) ∷ initial_put line v (Some h) (bytes t) n

  -- the structure value of an initializer, by a block that is free
  abbrev pub initial_code : (line v : ℕ) → Structure → ℕ → List Instruction
  initial_code line v a n =
      structure_code (deeper frame) a n frame.free 0 ++ initial_put line v (home_in variables v) (typed.size_of a) (n + structure_registers variables a)

  -- a part of a loop, which may be missing
  abbrev pub part_code : Option Expression → ℕ → List Instruction
  part_code None n = []
  part_code (Some e) n = code frame e n

  -- a test behind which one place is passed over where it fails; a missing one is true
  abbrev pub test_code : (line : ℕ) → Option Expression → ℕ → List Instruction
  test_code line None n = []
  test_code line (Some e) n = code frame e n ++ at_line frame line (operations.SkipIfZero (n + top variables e) 1) ∷ []

  -- a jump from in front of nodes, behind which so many places lie, to a place
  abbrev pub to_place : (line base place : ℕ) → Nodes → Nodes
  to_place line base place rest = plain (at_line frame line (operations.Skip (base + node_count rest - place))) rest

  -- whether the register x has the value of a case, for each case: registers from n on, and in the last whether it or one before it has, which the register `before` tells of those before
  abbrev pub case_tests : (line x before : ℕ) → Items → ℕ → List Instruction
  case_tests line x before done n = []
  case_tests line x before (declares at v rest) n = case_tests line x before rest n
  case_tests line x before (initializes at v drawn e rest) n = case_tests line x before rest n
  case_tests line x before (initializes_structure at v drawn a rest) n = case_tests line x before rest n
  case_tests line x before (does s rest) n = case_tests line x before rest n
  case_tests line x before (label l rest) n = case_tests line x before rest n
  case_tests line x before (case_at at t bits rest) n =
      at_line frame at (operations.Constant n bits)
      ∷ at_line frame at (operations.Compare (n + 1) comparisons.Equal t n x)
      ∷ at_line frame at (operations.Arithmetic (n + 2) arithmetics.Or Int Int before (n + 1))
      ∷ case_tests line x (n + 2) rest (n + 5)
  case_tests line x before (default_at at rest) n = case_tests line x before rest n

  -- the register that tells whether one of the cases is met
  abbrev pub last_case : (before : ℕ) → Items → ℕ → ℕ
  last_case before done n = before
  last_case before (declares at v rest) n = last_case before rest n
  last_case before (initializes at v drawn e rest) n = last_case before rest n
  last_case before (initializes_structure at v drawn a rest) n = last_case before rest n
  last_case before (does s rest) n = last_case before rest n
  last_case before (label l rest) n = last_case before rest n
  last_case before (case_at at t bits rest) n = last_case (n + 2) rest (n + 5)
  last_case before (default_at at rest) n = last_case before rest n

  -- in front of nodes, all but the last so many of which are passed over where none of the cases has the value in the register x
  abbrev pub guarded : (line before x : ℕ) → Items → (n count : ℕ) → Nodes → Nodes
  guarded line before x items n count entered =
      plain (at_line frame line (operations.Constant before 0))
      (plains (case_tests line x before items n)
      (plain (at_line frame line (operations.SkipIfZero (last_case before items n) (node_count entered - count))) entered))

  abbrev mutual
    -- the code of a statement in front of nodes, behind which so many places lie; registers from n on
    pub statement_code : (base : ℕ) → Ways → Statement → (n : ℕ) → Nodes → Nodes
    statement_code base ways (block items) n rest =
        let inside = n + death_registers variables in
        let out = leave_code items in
        plains (entry_code items (inside + items_registers variables items)) (items_code base (leaving out ways) items inside (plains (out n) rest))
    statement_code base ways (if_then line test s) n rest =
        let yes = statement_code base ways s n rest in
        let m = n + statement_registers variables s in
        plains (code frame test m) (plain (at_line frame line (operations.SkipIfZero (m + top variables test) (node_count yes - node_count rest))) yes)
    statement_code base ways (if_else line test s t) n rest =
        let no = statement_code base ways t n rest in
        let second = n + statement_registers variables t in
        let yes = statement_code base ways s second (to_place line base (base + node_count rest) no) in
        let m = second + statement_registers variables s in
        plains (code frame test m) (plain (at_line frame line (operations.SkipIfZero (m + top variables test) (node_count yes - node_count no))) yes)
    statement_code base ways (evaluate e) n rest = plains (code frame e n) rest
    statement_code base ways (returns line e) n rest =
        plains (code frame e n)
        (plain (at_line frame line (operations.Store frame.result 0 (bytes (number_type e)) (n + top variables e)))
        (plains (ways.return_out (n + (top variables e + 1))) (plain (at_line frame line (operations.Return (Some frame.result))) rest)))
    statement_code base ways (returns_structure line a) n rest =
        plains (structure_code frame a n frame.result 0) (plains (ways.return_out (n + structure_registers variables a)) (plain (at_line frame line (operations.Return (Some frame.result))) rest))
    statement_code base ways (returns_nothing line) n rest = plains (ways.return_out n) (plain (at_line frame line (operations.Return None)) rest)
    statement_code base ways (for_loop line l first test last s) n rest =
        let behind = base + node_count rest in
        let in_last = n + part_registers variables test in
        let in_body = in_last + part_registers variables last in
        let in_test = in_body + statement_registers variables s in
        let end = plains (part_code last in_last) (plains (test_code line test n) ends) in
        let body = statement_code (behind + 1) (within_loop ways behind (behind + 1 + node_count end)) s in_body end in
        plains (part_code first (in_test + part_registers variables test)) (plains (test_code line test in_test) (repeats line frame.function l true body rest))
    statement_code base ways (do_loop line l s test) n rest =
        let behind = base + node_count rest in
        let end = plains (test_code line (Some test) n) ends in
        let body = statement_code (behind + 1) (within_loop ways behind (behind + 1 + node_count end)) s (n + (top variables test + 1)) end in
        repeats line frame.function l false body rest
    statement_code base ways (switch line e items) n rest =
        let behind = base + node_count rest in
        let out = leave_code items in
        let inner = leaving out (within_switch ways behind) in
        let inside = n + death_registers variables in
        let before = inside + items_registers variables items in
        let value = before + 1 in
        let in_cases = value + 1 in
        let in_entry = in_cases + case_registers variables items in
        let x = in_entry + entry_registers variables items in
        let left = plains (out n) rest in
        let body = items_code base inner items inside left in
        let last = to_place line base (if has_default items then default_place base inner items inside left else behind) body in
        let entered = plains (entry_code items in_entry) (case_jumps base inner value items in_cases inside left last) in
        plains (code frame e x)
        (plain (at_line frame line (operations.Copy value (x + top variables e)))
        (if has_default items || declares_none items then entered else guarded line before value items in_cases (node_count rest) entered))
    statement_code base ways (breaks line) n rest = plains (ways.break_out n) (to_place line base ways.break_at rest)
    statement_code base ways (continues line) n rest = plains (ways.continue_out n) (to_place line base ways.continue_at rest)
    statement_code base ways (jumps line l) n rest = plains (ways.label_out l n) (to_place line base (ways.label_at l) rest)
    statement_code base ways (stray line s) n rest = statement_code base ways s n rest

    pub items_code : (base : ℕ) → Ways → Items → (n : ℕ) → Nodes → Nodes
    items_code base ways done n rest = rest
    items_code base ways (declares line v more) n rest = items_code base ways more n rest
    items_code base ways (initializes line v drawn e more) n rest =
        let m = n + items_registers variables more in
        plains (code frame e m) (plains (initial_store line v (home_in variables v) (number_type e) (m + top variables e) (m + (top variables e + 1))) (items_code base ways more n rest))
    items_code base ways (initializes_structure line v drawn a more) n rest =
        plains (initial_code line v a (n + items_registers variables more)) (items_code base ways more n rest)
    items_code base ways (does s more) n rest =
        statement_code base (labels_of base ways more n rest) s (n + items_registers variables more) (items_code base ways more n rest)
    items_code base ways (label l more) n rest = items_code base ways more n rest
    items_code base ways (case_at line t bits more) n rest = items_code base ways more n rest
    items_code base ways (default_at line more) n rest = items_code base ways more n rest

    -- with the labels that stand among these items
    pub labels_of : (base : ℕ) → Ways → Items → (n : ℕ) → Nodes → Ways
    labels_of base ways done n rest = ways
    labels_of base ways (declares line v more) n rest = labels_of base ways more n rest
    labels_of base ways (initializes line v drawn e more) n rest = labels_of base ways more n rest
    labels_of base ways (initializes_structure line v drawn a more) n rest = labels_of base ways more n rest
    labels_of base ways (does s more) n rest = labels_of base ways more n rest
    labels_of base ways (label l more) n rest = with_label (labels_of base ways more n rest) l (base + node_count (items_code base ways more n rest))
    labels_of base ways (case_at line t bits more) n rest = labels_of base ways more n rest
    labels_of base ways (default_at line more) n rest = labels_of base ways more n rest

    -- the tests of the cases for the value in the register x, each with the jump to it behind it, in front of other nodes; registers from k on; the code of all these items stands in front of `rest`
    pub case_jumps : (base : ℕ) → Ways → (x : ℕ) → Items → (k n : ℕ) → (rest others : Nodes) → Nodes
    case_jumps base ways x done k n rest others = others
    case_jumps base ways x (declares at v more) k n rest others = case_jumps base ways x more k n rest others
    case_jumps base ways x (initializes at v drawn e more) k n rest others = case_jumps base ways x more k n rest others
    case_jumps base ways x (initializes_structure at v drawn a more) k n rest others = case_jumps base ways x more k n rest others
    case_jumps base ways x (does s more) k n rest others = case_jumps base ways x more k n rest others
    case_jumps base ways x (label l more) k n rest others = case_jumps base ways x more k n rest others
    case_jumps base ways x (case_at at t bits more) k n rest others =
        plain (at_line frame at (operations.Constant (k + 3) bits))
        (plain (at_line frame at (operations.Compare (k + 4) comparisons.Equal t (k + 3) x))
        (plain (at_line frame at (operations.SkipIfZero (k + 4) 1))
        (to_place at base (base + node_count (items_code base ways more n rest)) (case_jumps base ways x more (k + 5) n rest others))))
    case_jumps base ways x (default_at at more) k n rest others = case_jumps base ways x more k n rest others

    -- how many places lie behind the default among these items
    pub default_place : (base : ℕ) → Ways → Items → (n : ℕ) → Nodes → ℕ
    default_place base ways done n rest = base + node_count rest
    default_place base ways (declares line v more) n rest = default_place base ways more n rest
    default_place base ways (initializes line v drawn e more) n rest = default_place base ways more n rest
    default_place base ways (initializes_structure line v drawn a more) n rest = default_place base ways more n rest
    default_place base ways (does s more) n rest = default_place base ways more n rest
    default_place base ways (label l more) n rest = default_place base ways more n rest
    default_place base ways (case_at line t bits more) n rest = default_place base ways more n rest
    default_place base ways (default_at line more) n rest = base + node_count (items_code base ways more n rest)

  -- a body, around which the objects of so many parameters live, and behind which the function ends; then a place that breaks an assertion, by a register that stays 0: no way leads there in what is admitted
  abbrev pub body_code : (line count : ℕ) → Statement → Nodes
  body_code line count body =
      let out = leave_parameters_code line count 0 in
      let inside = 1 + death_registers variables in
      plains (parameters_code line count 0 (inside + statement_registers variables body))
      (statement_code 1 (leaving out no_ways) body inside
      (plains (out 1) (plain (at_line frame line (operations.Return None)) (plain (at_line frame line (operations.Assert 0)) ends))))
