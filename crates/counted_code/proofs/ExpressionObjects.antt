-- The code of expressions makes as many objects as these count.
use Rattle.std.proofs.Common.{◌≡◌, ℕ, ◌+◌, Bool, true, false, List, [], ◌∷◌, ◌++◌, Option, Some, None, refl, ◌∙◌, arith}
use Rattle.c_types.specs.declared.integers.IntegerType.{IntegerType}
use Rattle.c_types.specs.declared.integers.IntegerType.TheVariants.{UnsignedLong}
use Rattle.c_types.specs.declared.types.ValueType.{ValueType}
use Rattle.c_types.specs.declared.types.ValueType.TheVariants.{Void, Integer}
use Rattle.c_types.specs.Integers.{promoted}
use Rattle.core_tree.specs.declared.operators.ArithmeticOperator.{ArithmeticOperator}
use Rattle.core_tree.specs.declared.operators.LogicalOperator.{LogicalOperator}
use Rattle.core_tree.specs.declared.operators.LogicalOperator.TheVariants as logicals
use Rattle.core_tree.specs.Trees.{Place, variable_at, object_at, literal_at, pointed, arrow, member, element, subscript, Expression, constant, read, convert, sign, is_zero, arithmetic, compare, logical, choice, assign, update, step, comma, assertion, assumption, draw, part, discard, discard_structure, call, function_name, size_of_value, size_of_structure, address, sum, distance, relation, pointer_update, pointer_step, allocate, allocate_zeroed, release, exit, abort, Structure, copy, choose, put, follow, section, list, string, give, Parts, no_part, number_part, structure_part, Arguments, no_argument, number_argument, structure_argument}
use Rattle.core_tree.specs.Operations.{step_operation}
use Rattle.core_tree.specs.Typed.{size_of}
use Rattle.c_meaning.specs.Meaning.{number_type, place_line}
use Rattle.c_temporaries.specs.declared.accesses.Access.{Access}
use Rattle.c_temporaries.specs.declared.accesses.Access.TheVariants as accesses
use Rattle.c_temporaries.specs.Temporaries.{value_size}
use Rattle.c_temporaries.specs.Accesses.{home_in, holder_in, variable_access, evaluated_access}
use Rattle.goto_prog.specs.declared.code.Instruction.{Instruction}
use Rattle.goto_unwind.specs.Places as counts
use Rattle.goto_unwind.specs.Places.{Weights, object_weights}
use Rattle.lowered_code.specs.Lowering as lowering
use Rattle.lowered_code.specs.Lowering.{Frame, deeper, deeper_by, reach, read_code, write_code, update_code, fetch_code, put_code, base_code, logical_code, text_code, use_code, call_code, taken_code, if_evaluated, place_code, code, structure_code, parts_code, arguments_code}
use Rattle.counted_code.proofs.Making as making
use Rattle.counted_code.proofs.Making.{node, one_first}

-- by how many times the test of each loop may be evaluated, and how many a call of each function makes
module _ (tests calls : ℕ → ℕ) where
  abbrev made : List Instruction → ℕ
  made is = making.made calls is

  abbrev place_count : Place → ℕ
  place_count x = counts.place_count object_weights tests calls x

  abbrev expression_count : Expression → ℕ
  expression_count e = counts.expression_count object_weights tests calls e

  abbrev structure_count : Structure → ℕ
  structure_count a = counts.structure_count object_weights tests calls a

  abbrev parts_count : Parts → ℕ
  parts_count ps = counts.parts_count object_weights tests calls ps

  abbrev argument_count : Arguments → ℕ
  argument_count args = counts.argument_count object_weights tests calls args

  joined : (xs ys : List Instruction) {a b : ℕ} → made xs ≡ a → made ys ≡ b → made (xs ++ ys) ≡ a + b
  joined = making.joined calls

  before_none : (xs ys : List Instruction) {a : ℕ} → made xs ≡ a → made ys ≡ 0 → made (xs ++ ys) ≡ a
  before_none = making.before_none calls

  behind_none : (xs ys : List Instruction) {b : ℕ} → made xs ≡ 0 → made ys ≡ b → made (xs ++ ys) ≡ b
  behind_none = making.behind_none calls

  swapped : (xs ys : List Instruction) {a b : ℕ} → made xs ≡ a → made ys ≡ b → made (xs ++ ys) ≡ b + a
  swapped = making.swapped calls

  -- ---- code that makes none

  base_none : (f : Frame) (line : ℕ) (o : Option ℕ) (offset n : ℕ) → made (base_code f line o offset n) ≡ 0
  base_none f line None offset n = refl
  base_none f line (Some h) offset n = refl

  read_none : (f : Frame) (line r : ℕ) (t : IntegerType) (way : Access) (p : ℕ) → made (read_code f line r t way p) ≡ 0
  read_none f line r t (accesses.Variable v offset) p = refl
  read_none f line r t (accesses.Object k offset) p = refl
  read_none f line r t (accesses.Within v) p = refl
  read_none f line r t accesses.Pointed p = refl

  write_none : (f : Frame) (line : ℕ) (t : IntegerType) (way : Access) (p a : ℕ) → made (write_code f line t way p a) ≡ 0
  write_none f line t (accesses.Variable v offset) p a = refl
  write_none f line t (accesses.Object k offset) p a = refl
  write_none f line t (accesses.Within v) p a = refl
  write_none f line t accesses.Pointed p a = refl

  update_none : (f : Frame) (at line : ℕ) (t : IntegerType) (way : Access) (p : ℕ) (op : ArithmeticOperator) (u w : IntegerType) (y n : ℕ) → made (update_code f at line t way p op u w y n) ≡ 0
  update_none f at line t way p op u w y n = before_none (read_code f at n t way p) _ (read_none f at n t way p) (write_none f line t way p (n + 3))

  fetch_none : (f : Frame) (line : ℕ) (way : Access) (p size into to : ℕ) → made (fetch_code f line way p size into to) ≡ 0
  fetch_none f line (accesses.Variable v offset) p size into to = refl
  fetch_none f line (accesses.Object k offset) p size into to = refl
  fetch_none f line (accesses.Within v) p size into to = refl
  fetch_none f line accesses.Pointed p size into to = refl

  put_none : (f : Frame) (line : ℕ) (way : Access) (p size from to : ℕ) → made (put_code f line way p size from to) ≡ 0
  put_none f line (accesses.Variable v offset) p size from to = refl
  put_none f line (accesses.Object k offset) p size from to = refl
  put_none f line (accesses.Within v) p size from to = refl
  put_none f line accesses.Pointed p size from to = refl

  text_none : (f : Frame) (line : ℕ) (text : List ℕ) (n into to : ℕ) → made (text_code f line text n into to) ≡ 0
  text_none f line [] n into to = refl
  text_none f line (c ∷ cs) n into to = text_none f line cs n into (to + 1)

  taken_none : (f : Frame) (line : ℕ) (t : ValueType) (b r : ℕ) → made (taken_code f line t b r ∷ []) ≡ 0
  taken_none f line Void b r = refl
  taken_none f line (Integer t) b r = refl

  use_none : (f : Frame) (line : ℕ) (used : Bool) (r : ℕ) → made (use_code f line used r) ≡ 0
  use_none f line true r = refl
  use_none f line false r = refl

  -- ---- where a place is: nothing is counted of one that is reached directly

  variable_makes : (f : Frame) (line : ℕ) (o : Option ℕ) (v offset n : ℕ) → made (if_evaluated (variable_access o v offset) (base_code f line o offset n)) ≡ 0
  variable_makes f line None v offset n = refl
  variable_makes f line (Some h) v offset n = refl

  evaluated_makes : (o : Option ℕ) (xs : List Instruction) → made (if_evaluated (evaluated_access o) xs) ≡ made xs
  evaluated_makes None xs = refl
  evaluated_makes (Some v) xs = refl

  abbrev way : Frame → Place → ℕ → List Instruction
  way f x n = if_evaluated (reach f x) (place_code f x n)

  way_makes : (x : Place) (f : Frame) (n : ℕ) → made (place_code f x n) ≡ place_count x → made (way f x n) ≡ place_count x
  way_makes (variable_at line v offset) f n h = variable_makes f line (home_in f.variables v) v offset n
  way_makes (object_at line k offset) f n h = refl
  way_makes (literal_at line k) f n h = h
  way_makes (pointed line e) f n h = h
  way_makes (arrow line e offset) f n h = h
  way_makes (member line x offset) f n h = evaluated_makes (holder_in f.variables x) (place_code f (member line x offset) n) ∙ h
  way_makes (element line x e size whole other) f n h = evaluated_makes (holder_in f.variables x) (place_code f (element line x e size whole other) n) ∙ h
  way_makes (subscript line a e size other) f n h = h

  -- ---- trees

  logical_makes : (f : Frame) (line : ℕ) (op : LogicalOperator) (x : ℕ) (b : List Instruction) (y : ℕ) → made (logical_code f line op x b y) ≡ made b
  logical_makes f line logicals.And x b y = before_none b _ refl refl
  logical_makes f line logicals.Or x b y = before_none b _ refl refl

  -- a call makes what its function makes
  call_makes : (f : Frame) (line callee : ℕ) (used : Bool) (size count r : ℕ) → made (call_code f line callee used size count r) ≡ calls callee
  call_makes f line callee used size count r = let none = use_none f line used r in omega (arith, none)

  mutual
    place_makes : (x : Place) (f : Frame) (n : ℕ) → made (place_code f x n) ≡ place_count x
    place_makes (variable_at line v offset) f n = node (base_none f line (home_in f.variables v) offset n)
    place_makes (object_at line k offset) f n = refl
    place_makes (literal_at line k) f n = refl
    place_makes (pointed line e) f n = node (code_makes e f n)
    place_makes (arrow line e offset) f n = node (before_none (code f e n) _ (code_makes e f n) refl)
    place_makes (member line x offset) f n = node (before_none (place_code f x n) _ (place_makes x f n) refl)
    place_makes (element line x e size whole false) f n = node (joined (place_code f x n) _ (place_makes x f n) (before_none (code f e _) _ (code_makes e f _) refl))
    place_makes (element line x e size whole true) f n = node (swapped (code f e n) _ (code_makes e f n) (before_none (place_code f x _) _ (place_makes x f _) refl))
    place_makes (subscript line a e size false) f n = node (joined (code f a n) _ (code_makes a f n) (before_none (code f e _) _ (code_makes e f _) refl))
    place_makes (subscript line a e size true) f n = node (swapped (code f e n) _ (code_makes e f n) (before_none (code f a _) _ (code_makes a f _) refl))

    pub code_makes : (e : Expression) (f : Frame) (n : ℕ) → making.made calls (code f e n) ≡ counts.expression_count object_weights tests calls e
    code_makes (constant line t bits) f n = refl
    code_makes (read t x) f n = node (before_none (way f x n) _ (way_makes x f n (place_makes x f n)) (read_none f (place_line x) _ t (reach f x) _))
    code_makes (convert to e) f n = node (before_none (code f e n) _ (code_makes e f n) refl)
    code_makes (sign line op e) f n = node (before_none (code f e n) _ (code_makes e f n) refl)
    code_makes (is_zero line e) f n = node (before_none (code f e n) _ (code_makes e f n) refl)
    code_makes (arithmetic line op a b) f n = node (joined (code f a n) _ (code_makes a f n) (before_none (code f b _) _ (code_makes b f _) refl))
    code_makes (compare line op a b) f n = node (joined (code f a n) _ (code_makes a f n) (before_none (code f b _) _ (code_makes b f _) refl))
    code_makes (logical line op a b) f n = node (joined (code f a n) _ (code_makes a f n) (logical_makes f line op _ (code f b _) _ ∙ code_makes b f _))
    code_makes (choice line test a b) f n =
        node
        (joined (code f test n) _ (code_makes test f n) (joined (code f a _) _ (code_makes a f _) (before_none (code f b _) _ (code_makes b f _) refl)))
    code_makes (assign line t x e) f n = node (joined (way f x n) _ (way_makes x f n (place_makes x f n)) (before_none (code f e _) _ (code_makes e f _) (write_none f line t (reach f x) _ _)))
    code_makes (update line t x op u e) f n =
        node
        (joined (way f x n) _ (way_makes x f n (place_makes x f n)) (before_none (code f e _) _ (code_makes e f _) (update_none f (place_line x) line t (reach f x) _ op u (number_type e) _ _)))
    code_makes (step line t x op before) f n =
        node
        (before_none (way f x n) _ (way_makes x f n (place_makes x f n))
        (before_none (update_code f (place_line x) line t (reach f x) _ (step_operation op) (promoted t) (promoted t) _ _) _ (update_none f (place_line x) line t (reach f x) _ (step_operation op) (promoted t) (promoted t) _ _) refl))
    code_makes (comma line a b) f n = node (joined (code f a n) _ (code_makes a f n) (code_makes b f _))
    code_makes (assertion line e) f n = node (before_none (code f e n) _ (code_makes e f n) refl)
    code_makes (assumption line e) f n = node (before_none (code f e n) _ (code_makes e f n) refl)
    code_makes (draw line t) f n = refl
    code_makes (part line t offset a) f n = node (before_none (structure_code (deeper f) a n f.free 0) _ (structure_makes a (deeper f) n f.free 0) refl)
    code_makes (discard line e) f n = node (before_none (code f e n) _ (code_makes e f n) refl)
    code_makes (discard_structure a) f n = before_none (structure_code (deeper f) a n f.free 0) _ (structure_makes a (deeper f) n f.free 0) refl
    code_makes (call line callee used t args) f n =
        let count = lowering.argument_count args in
        let r = n + lowering.arguments_registers f.variables args in
        node
        (joined (arguments_code _ args n f.free) _ (arguments_make args _ n f.free)
        (before_none (call_code f line callee used (value_size t) count r) _ (call_makes f line callee used (value_size t) count r) (taken_none f line t _ _)))
    code_makes (function_name line) f n = refl
    code_makes (size_of_value line bits e) f n = refl
    code_makes (size_of_structure line bits a) f n = refl
    code_makes (address line x) f n = node (place_makes x f n)
    code_makes (sum line a e i false) f n = node (joined (code f a n) _ (code_makes a f n) (before_none (code f e _) _ (code_makes e f _) refl))
    code_makes (sum line a e i true) f n = node (swapped (code f e n) _ (code_makes e f n) (before_none (code f a _) _ (code_makes a f _) refl))
    code_makes (distance line a b i) f n = node (joined (code f a n) _ (code_makes a f n) (before_none (code f b _) _ (code_makes b f _) refl))
    code_makes (relation line op a b) f n = node (joined (code f a n) _ (code_makes a f n) (before_none (code f b _) _ (code_makes b f _) refl))
    code_makes (pointer_update line x i e) f n =
        node
        (joined (way f x n) _ (way_makes x f n (place_makes x f n))
        (before_none (code f e _) _ (code_makes e f _)
        (behind_none (read_code f (place_line x) _ UnsignedLong (reach f x) _) _ (read_none f (place_line x) _ UnsignedLong (reach f x) _) (write_none f line UnsignedLong (reach f x) _ _))))
    code_makes (pointer_step line x i before) f n =
        node
        (before_none (way f x n) _ (way_makes x f n (place_makes x f n))
        (behind_none (read_code f (place_line x) _ UnsignedLong (reach f x) _) _ (read_none f (place_line x) _ UnsignedLong (reach f x) _)
        (before_none (write_code f line UnsignedLong (reach f x) _ _) _ (write_none f line UnsignedLong (reach f x) _ _) refl)))
    code_makes (allocate line e) f n = node (swapped (code f e n) _ (code_makes e f n) refl)
    code_makes (allocate_zeroed line a b) f n =
        node
        (one_first (expression_count a) (expression_count b) (joined (code f a n) _ (code_makes a f n) (joined (code f b _) _ (code_makes b f _) refl)))
    code_makes (release line e) f n = node (before_none (code f e n) _ (code_makes e f n) refl)
    code_makes (exit line e) f n = node (before_none (code f e n) _ (code_makes e f n) refl)
    code_makes (abort line) f n = refl

    pub structure_makes : (a : Structure) (f : Frame) (n into to : ℕ) → making.made calls (structure_code f a n into to) ≡ counts.structure_count object_weights tests calls a
    structure_makes (copy x size) f n into to = node (before_none (way f x n) _ (way_makes x f n (place_makes x f n)) (fetch_none f (place_line x) (reach f x) _ size into to))
    structure_makes (choose line test a b) f n into to =
        node
        (joined (code f test n) _ (code_makes test f n) (joined (structure_code f a _ into to) _ (structure_makes a f _ into to) (structure_makes b f _ into to)))
    structure_makes (put line x a) f n into to =
        node
        (joined (way f x n) _ (way_makes x f n (place_makes x f n)) (before_none (structure_code f a _ into to) _ (structure_makes a f _ into to) (put_none f line (reach f x) _ (size_of a) into to)))
    structure_makes (follow line e a) f n into to = node (joined (code f e n) _ (code_makes e f n) (structure_makes a f _ into to))
    structure_makes (section line offset size a) f n into to = node (before_none (structure_code (deeper f) a n f.free 0) _ (structure_makes a (deeper f) n f.free 0) refl)
    structure_makes (list line size ps) f n into to = parts_make ps f line n into to
    structure_makes (string line size text) f n into to = node (text_none f line text n into to)
    structure_makes (give line callee used size args) f n into to =
        let count = lowering.argument_count args in
        let r = n + lowering.arguments_registers f.variables args in
        node
        (joined (arguments_code _ args n f.free) _ (arguments_make args _ n f.free)
        (before_none (call_code f line callee used size count r) _ (call_makes f line callee used size count r) refl))

    parts_make : (ps : Parts) (f : Frame) (line n into to : ℕ) → made (parts_code f line ps n into to) ≡ parts_count ps
    parts_make no_part f line n into to = refl
    parts_make (number_part offset e rest) f line n into to = joined (code f e n) _ (code_makes e f n) (parts_make rest f line _ into to)
    parts_make (structure_part offset a rest) f line n into to = joined (structure_code f a n into _) _ (structure_makes a f n into _) (parts_make rest f line _ into to)

    arguments_make : (args : Arguments) (f : Frame) (n b : ℕ) → made (arguments_code f args n b) ≡ argument_count args
    arguments_make no_argument f n b = refl
    arguments_make (number_argument e rest) f n b = joined (code f e n) _ (code_makes e f n) (arguments_make rest f _ _)
    arguments_make (structure_argument a rest) f n b = joined (structure_code f a n b 0) _ (structure_makes a f n b 0) (arguments_make rest f _ _)
