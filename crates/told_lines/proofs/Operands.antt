-- The lines of typed expressions are those of their trees.
use Rattle.std.proofs.Common.{ℕ, Bool, true, false, List, [], ◌∷◌, Option, Some, None, Result, Ok}
use Rattle.std.specs.Prelude.{not, ◌||◌, ◌&&◌, slice_get}
use Rattle.c_tree.specs.declared.expr.BinaryOp.{BinaryOp}
use Rattle.c_tree.specs.declared.expr.BinaryOp.TheVariants as binaries
use Rattle.c_tree.specs.declared.expr.UnaryOp.{UnaryOp}
use Rattle.c_tree.specs.declared.expr.UnaryOp.TheVariants as unaries
use Rattle.c_tree.specs.declared.expr.StepOp.{StepOp}
use Rattle.c_tree.specs.declared.expr.StepOp.TheVariants as postfixes
use Rattle.c_tree.specs.Tree.{Tree, Trees, constant, character, strings, name, parens, unary, cast, sizeof_expr, sizeof_type, step, member, binary, choice, assign, comma, call, address, dereference, arrow, subscript, none, more, first_line}
use Rattle.c_types.specs.declared.integers.IntegerType.{IntegerType}
use Rattle.c_types.specs.declared.types.ValueType.{ValueType}
use Rattle.c_types.specs.declared.types.ValueType.TheVariants.{Void, Integer}
use Rattle.c_types.specs.Types.{CType, Completed}
use Rattle.c_types.specs.Types as ctypes
use Rattle.c_types.specs.Layouts.{size_of}
use Rattle.c_types.specs.Integers.{same_type, promoted}
use Rattle.core_tree.specs.declared.operators.ArithmeticOperator.{ArithmeticOperator}
use Rattle.core_tree.specs.declared.operators.Comparison.{Comparison}
use Rattle.core_tree.specs.declared.operators.LogicalOperator.{LogicalOperator}
use Rattle.core_tree.specs.declared.operators.SignOperator.{SignOperator}
use Rattle.core_tree.specs.declared.operators.StepOperator.{StepOperator}
use Rattle.core_tree.specs.Trees.{Expression, Structure, Arguments, no_argument}
use Rattle.core_tree.specs.Trees as cores
use Rattle.core_tree.specs.Typed.{type_of}
use Rattle.c_scope.specs.declared.meaning.Meaning.{Meaning}
use Rattle.c_scope.specs.declared.meaning.Meaning.TheVariants.{Variable, Object, Incomplete, Assert, Assume, Draw, BuiltIn, Function, Typedef, Enumerator, Record, Enumeration}
use Rattle.c_scope.specs.Members.{found, members_in, part_at}
use Rattle.c_scope.specs.Scopes.{Named, ObjectEntry, FunctionType, Callable, Scoped, object_at, is_incomplete, meaning_of}
use Rattle.c_scope.specs.Faults.{◌>>=◌, required, Fault, on_line}
use Rattle.c_scope.specs.Types.{type_size}
use Rattle.c_operands.specs.declared.operands.Home.{Home}
use Rattle.c_operands.specs.declared.operands.Home.TheVariants as homes
use Rattle.c_elab_expr.specs.Strings.{strings_of}
use Rattle.c_operands.specs.Nodes.{Node, integer, as_type, place_of, target_of, discarded, cast_node, sign_node, step_node, unary_node, postfix_node, arithmetic_node, compare_node, logical_node, binary_node, chosen, choice_node, operator_of, assignment_node}
use Rattle.c_operands.specs.Operands.{Operand, value, object, structure, home_place, held_value, put_value, computed, valued, number, same_record, record_value, dropped, is_array, used, place_operand, variable_node, object_entry_node, function_node, name_node, part_operand, member_node, operand_bytes, sized_operand, cast_record, cast_operand, unary_operand, postfix_operand, binary_operand, choice_record, choice_value, choice_operand, assign_value, assign_operand, comma_operand, one_integer, no_arguments, argument_in, arguments_in, extra_arguments, given_size, given_operand, behind_extra, function_call, drawn_or_called, callable_call, call_node}
use Rattle.c_elab_expr.specs.Typing.{bare_line, used_on, callee, is_used, called, is_wanted, type_name, operand_size, typed, typed_arguments, lengths, operand_by, operand}
use Rattle.told_lines.specs.TypedLines.{InPlace, InExpression, InStructure, InArguments}
use Rattle.told_lines.specs.TreeLines.{InTree, InTrees}
use Rattle.told_lines.proofs.Results.{Good, ok, fails, bind, pass, on, Holds, needs, either, good_either}

module _ (P : ℕ → Type 0) where
  -- ---- nodes

  abbrev InE : Expression → Type 0
  InE e = InExpression P e

  as_type_lined : (t : IntegerType) (e : Expression) → InE e → InE (as_type t e)
  as_type_lined t e h = either (λ (x : Expression). InExpression P x) (same_type (type_of e) (Integer t)) e (cores.convert t e) h h

  place_lined : (e : Expression) → InE e → Holds (InPlace P) (place_of e)
  place_lined (cores.constant line t bits) h = tt
  place_lined (cores.read t p) h = h
  place_lined (cores.convert to e) h = tt
  place_lined (cores.sign line op e) h = tt
  place_lined (cores.is_zero line e) h = tt
  place_lined (cores.arithmetic line op a b) h = tt
  place_lined (cores.compare line op a b) h = tt
  place_lined (cores.logical line op a b) h = tt
  place_lined (cores.choice line test a b) h = tt
  place_lined (cores.assign line t p e) h = tt
  place_lined (cores.update line t p op u e) h = tt
  place_lined (cores.step line t p op before) h = tt
  place_lined (cores.comma line a b) h = tt
  place_lined (cores.assertion line e) h = tt
  place_lined (cores.assumption line e) h = tt
  place_lined (cores.draw line t) h = tt
  place_lined (cores.part line t offset a) h = tt
  place_lined (cores.discard line e) h = tt
  place_lined (cores.discard_structure a) h = tt
  place_lined (cores.call line f w t args) h = tt
  place_lined (cores.function_name line) h = tt
  place_lined (cores.size_of_value line bits e) h = tt
  place_lined (cores.size_of_structure line bits a) h = tt
  place_lined (cores.address line p) h = tt
  place_lined (cores.sum line a e n swapped) h = tt
  place_lined (cores.distance line a b n) h = tt
  place_lined (cores.relation line op a b) h = tt
  place_lined (cores.pointer_update line p n e) h = tt
  place_lined (cores.pointer_step line p n before) h = tt
  place_lined (cores.allocate line e) h = tt
  place_lined (cores.allocate_zeroed line a b) h = tt
  place_lined (cores.release line e) h = tt
  place_lined (cores.exit line e) h = tt
  place_lined (cores.abort line) h = tt

  target_lined : (is_const : Bool) (e : Expression) → InE e → Holds (InPlace P) (target_of is_const e)
  target_lined true e h = tt
  target_lined false e h = place_lined e h

  discarded_lined : (line : ℕ) (t : ValueType) (e : Expression) → P line → InE e → InE (discarded line t e)
  discarded_lined line Void e k h = h
  discarded_lined line (Integer t) e k h = (k, h)

  cast_good : (line : ℕ) (t : CType) (e : Expression) → P line → InE e → Good (InExpression P) (cast_node line t e)
  cast_good line ctypes.void e k h = ok _ _ (discarded_lined line (type_of e) e k h)
  cast_good line (ctypes.integer t) e k h = pass _ (integer 7 e) _ (λ u. ok _ _ h)
  cast_good line (ctypes.aggregate p) e k h = fails _ _
  cast_good line (ctypes.array element n) e k h = fails _ _
  cast_good line (ctypes.pointer t c) e k h = pass _ (integer 7 e) _ (λ u. ok _ _ h)
  cast_good line (ctypes.function f) e k h = fails _ _

  sign_good : (line : ℕ) (op : SignOperator) (e : Expression) → P line → InE e → Good (InExpression P) (sign_node line op e)
  sign_good line op e k h = pass _ (integer 7 e) _ (λ t. ok _ _ (k, as_type_lined (promoted t) e h))

  step_good : (is_const : Bool) (line : ℕ) (op : StepOperator) (before : Bool) (e : Expression) → P line → InE e → Good (InExpression P) (step_node is_const line op before e)
  step_good is_const line op before e k h = pass _ (integer 7 e) _ (λ t. bind (InPlace P) _ (required 9 (target_of is_const e)) _ (needs (InPlace P) 9 (target_of is_const e) (target_lined is_const e h)) (λ p g. ok _ _ (k, g)))

  unary_good : (is_const : Bool) (line : ℕ) (op : UnaryOp) (e : Expression) → P line → InE e → Good (InExpression P) (unary_node is_const line op e)
  unary_good is_const line unaries.Increment e k h = step_good is_const line _ true e k h
  unary_good is_const line unaries.Decrement e k h = step_good is_const line _ true e k h
  unary_good is_const line unaries.Plus e k h = sign_good line _ e k h
  unary_good is_const line unaries.Minus e k h = sign_good line _ e k h
  unary_good is_const line unaries.Complement e k h = sign_good line _ e k h
  unary_good is_const line unaries.Not e k h = pass _ (integer 7 e) _ (λ t. ok _ _ (k, h))

  postfix_good : (is_const : Bool) (line : ℕ) (op : StepOp) (e : Expression) → P line → InE e → Good (InExpression P) (postfix_node is_const line op e)
  postfix_good is_const line postfixes.Increment e k h = step_good is_const line _ false e k h
  postfix_good is_const line postfixes.Decrement e k h = step_good is_const line _ false e k h

  arithmetic_good : (line : ℕ) (op : ArithmeticOperator) (a b : Expression) → P line → InE a → InE b → Good (InExpression P) (arithmetic_node line op a b)
  arithmetic_good line op a b k h g = pass _ (integer 7 a) _ (λ t. pass _ (integer 7 b) _ (λ u. ok _ _ (k, as_type_lined _ a h, as_type_lined _ b g)))

  compare_good : (line : ℕ) (op : Comparison) (a b : Expression) → P line → InE a → InE b → Good (InExpression P) (compare_node line op a b)
  compare_good line op a b k h g = pass _ (integer 7 a) _ (λ t. pass _ (integer 7 b) _ (λ u. ok _ _ (k, as_type_lined _ a h, as_type_lined _ b g)))

  logical_good : (line : ℕ) (op : LogicalOperator) (a b : Expression) → P line → InE a → InE b → Good (InExpression P) (logical_node line op a b)
  logical_good line op a b k h g = pass _ (integer 7 a) _ (λ t. pass _ (integer 7 b) _ (λ u. ok _ _ (k, h, g)))

  binary_good : (line : ℕ) (op : BinaryOp) (a b : Expression) → P line → InE a → InE b → Good (InExpression P) (binary_node line op a b)
  binary_good line binaries.LogicalOr a b k h g = logical_good line _ a b k h g
  binary_good line binaries.LogicalAnd a b k h g = logical_good line _ a b k h g
  binary_good line binaries.Or a b k h g = arithmetic_good line _ a b k h g
  binary_good line binaries.Xor a b k h g = arithmetic_good line _ a b k h g
  binary_good line binaries.And a b k h g = arithmetic_good line _ a b k h g
  binary_good line binaries.Equal a b k h g = compare_good line _ a b k h g
  binary_good line binaries.NotEqual a b k h g = compare_good line _ a b k h g
  binary_good line binaries.Less a b k h g = compare_good line _ a b k h g
  binary_good line binaries.Greater a b k h g = compare_good line _ a b k h g
  binary_good line binaries.LessEqual a b k h g = compare_good line _ a b k h g
  binary_good line binaries.GreaterEqual a b k h g = compare_good line _ a b k h g
  binary_good line binaries.ShiftLeft a b k h g = arithmetic_good line _ a b k h g
  binary_good line binaries.ShiftRight a b k h g = arithmetic_good line _ a b k h g
  binary_good line binaries.Add a b k h g = arithmetic_good line _ a b k h g
  binary_good line binaries.Subtract a b k h g = arithmetic_good line _ a b k h g
  binary_good line binaries.Multiply a b k h g = arithmetic_good line _ a b k h g
  binary_good line binaries.Divide a b k h g = arithmetic_good line _ a b k h g
  binary_good line binaries.Remainder a b k h g = arithmetic_good line _ a b k h g

  chosen_good : (line : ℕ) (test : Expression) (t u : ValueType) (a b : Expression) → P line → InE test → InE a → InE b → Good (InExpression P) (chosen line test t u a b)
  chosen_good line test (Integer t) (Integer u) a b k c h g = ok _ _ (k, c, as_type_lined _ a h, as_type_lined _ b g)
  chosen_good line test Void Void a b k c h g = ok _ _ (k, c, h, g)
  chosen_good line test (Integer t) Void a b k c h g = fails _ _
  chosen_good line test Void (Integer u) a b k c h g = fails _ _

  choice_good : (line : ℕ) (test a b : Expression) → P line → InE test → InE a → InE b → Good (InExpression P) (choice_node line test a b)
  choice_good line test a b k c h g = pass _ (integer 7 test) _ (λ t. chosen_good line test (type_of a) (type_of b) a b k c h g)

  assignment_good : (is_const : Bool) (line : ℕ) (op : Option BinaryOp) (p e : Expression) → P line → InE p → InE e → Good (InExpression P) (assignment_node is_const line op p e)
  assignment_good is_const line None p e k h g =
      pass _ (integer 8 p) _ (λ t. pass _ (integer 8 e) _ (λ u. bind (InPlace P) _ (required 9 (target_of is_const p)) _ (needs (InPlace P) 9 (target_of is_const p) (target_lined is_const p h)) (λ q l. ok _ _ (k, l, as_type_lined _ e g))))
  assignment_good is_const line (Some op) p e k h g =
      pass _ (required 7 (operator_of op)) _ (λ o. pass _ (integer 7 p) _ (λ t. pass _ (integer 7 e) _ (λ u. bind (InPlace P) _ (required 9 (target_of is_const p)) _ (needs (InPlace P) 9 (target_of is_const p) (target_lined is_const p h)) (λ q l. ok _ _ (k, l, as_type_lined _ e g)))))

  -- ---- operands

  abbrev pub InOperand : Operand → Type 0
  InOperand (value e readonly) = InExpression P e
  InOperand (object line v offset t readonly) = P line
  InOperand (structure t a) = InStructure P a

  place_is : (v : Home) (line offset : ℕ) → P line → InPlace P (home_place v line offset)
  place_is (homes.Variable v) line offset k = k
  place_is (homes.Object n) line offset k = k

  held_lined : (v : Home) (line offset size : ℕ) → P line → InStructure P (held_value v line offset size)
  held_lined v line offset size k = place_is v line offset k

  put_lined : (line at : ℕ) (v : Home) (offset : ℕ) (a : Structure) → P line → P at → InStructure P a → InStructure P (put_value line at v offset a)
  put_lined line at v offset a k l h = (k, place_is v at offset l, h)

  computed_good : (node : Node) → Good (InExpression P) node → Good InOperand (computed node)
  computed_good node h = bind (InExpression P) InOperand node _ h (λ e g. ok _ _ g)

  valued_good : (rule : ℕ) (x : Operand) → InOperand x → Good (InExpression P) (valued rule x)
  valued_good rule (value e readonly) h = ok _ _ h
  valued_good rule (object line v offset t readonly) h = fails _ _
  valued_good rule (structure t a) h = fails _ _

  pub number_good : (rule : ℕ) (x : Operand) → InOperand x → Good (InExpression P) (number rule x)
  number_good rule x h = bind (InExpression P) _ (valued rule x) _ (valued_good rule x h) (λ e g. pass _ (integer rule e) _ (λ t. ok _ _ g))

  pub record_lined : (done : List Completed) (t : CType) (x : Operand) → InOperand x → Holds (InStructure P) (record_value done t x)
  record_lined done t (value e readonly) h = tt
  record_lined done t (object line v offset u readonly) h = either (Holds (InStructure P)) (same_record t u) _ _ (held_lined v line offset (size_of done u) h) tt
  record_lined done t (structure u a) h = either (Holds (InStructure P)) (same_record t u) _ _ h tt

  pub dropped_lined : (done : List Completed) (x : Operand) → InOperand x → InExpression P (dropped done x)
  dropped_lined done (value e readonly) h = h
  dropped_lined done (object line v offset t readonly) h = held_lined v line offset (size_of done t) h
  dropped_lined done (structure t a) h = h

  used_good : (m w : Bool) (x : Operand) → InOperand x → Good InOperand (used m w x)
  used_good m w (value e readonly) h = ok _ _ h
  used_good m w (object line v offset t readonly) h = good_either _ ((not m || w) && is_array t) _ _ (fails _ _) (ok _ _ h)
  used_good m w (structure t a) h = good_either _ ((not m || w) && is_array t) _ _ (fails _ _) (ok _ _ h)

  place_operand_lined : (line : ℕ) (v : Home) (offset : ℕ) (t : CType) (readonly : Bool) → P line → InOperand (place_operand line v offset t readonly)
  place_operand_lined line v offset ctypes.void readonly k = k
  place_operand_lined line v offset (ctypes.integer t) readonly k = place_is v line offset k
  place_operand_lined line v offset (ctypes.aggregate p) readonly k = k
  place_operand_lined line v offset (ctypes.array element n) readonly k = k
  place_operand_lined line v offset (ctypes.pointer t c) readonly k = place_is v line offset k
  place_operand_lined line v offset (ctypes.function f) readonly k = k

  variable_good : (line v : ℕ) (o : Option Named) → P line → Good InOperand (variable_node line v o)
  variable_good line v None k = fails _ _
  variable_good line v (Some n) k = ok _ _ (place_operand_lined line (homes.Variable v) 0 n.type n.constant k)

  object_entry_good : (done : List Completed) (line n : ℕ) (o : Option ObjectEntry) → P line → Good InOperand (object_entry_node done line n o)
  object_entry_good done line n None k = fails _ _
  object_entry_good done line n (Some o) k = good_either _ (is_incomplete done o) _ _ (fails _ _) (ok _ _ (place_operand_lined line (homes.Object n) 0 o.named.type o.named.constant k))

  function_good : (line f : ℕ) (o : Option Callable) → P line → Good InOperand (function_node line f o)
  function_good line f None k = fails _ _
  function_good line f (Some c) k = ok _ _ k

  name_good : (s : Scoped) (line : ℕ) (m : Option Meaning) → P line → Good InOperand (name_node s line m)
  name_good s line None k = fails _ _
  name_good s line (Some (Variable v)) k = variable_good line v (slice_get s.variables v) k
  name_good s line (Some (Object n)) k = object_entry_good s.records.done line n (object_at s n) k
  name_good s line (Some Incomplete) k = fails _ _
  name_good s line (Some Assert) k = ok _ _ k
  name_good s line (Some Assume) k = ok _ _ k
  name_good s line (Some (Draw t)) k = ok _ _ k
  name_good s line (Some (BuiltIn b)) k = ok _ _ k
  name_good s line (Some (Function f)) k = function_good line f (slice_get s.functions.all f) k
  name_good s line (Some (Typedef n)) k = fails _ _
  name_good s line (Some (Enumerator bits)) k = ok _ _ k
  name_good s line (Some (Record p)) k = fails _ _
  name_good s line (Some Enumeration) k = fails _ _

  part_operand_lined : (done : List Completed) (line offset : ℕ) (t : CType) (a : Structure) → P line → InStructure P a → InOperand (part_operand done line offset t a)
  part_operand_lined done line offset ctypes.void a k h = (k, h)
  part_operand_lined done line offset (ctypes.integer t) a k h = (k, h)
  part_operand_lined done line offset (ctypes.aggregate p) a k h = (k, h)
  part_operand_lined done line offset (ctypes.array element n) a k h = (k, h)
  part_operand_lined done line offset (ctypes.pointer t c) a k h = (k, h)
  part_operand_lined done line offset (ctypes.function f) a k h = (k, h)

  member_good : (s : Scoped) (line : ℕ) (x : Operand) (n : List ℕ) → P line → InOperand x → Good InOperand (member_node s line x n)
  member_good s line (value e readonly) n k h = fails _ _
  member_good s line (object at v offset t readonly) n k h =
      pass _ (required 11 (found (members_in s.members t).named n)) _ (λ way. pass _ (required 11 (part_at s.records.done offset t way.0)) _ (λ part. ok _ _ (place_operand_lined line v part.0 part.1 (readonly || way.1) k)))
  member_good s line (structure t a) n k h =
      pass _ (required 11 (found (members_in s.members t).named n)) _ (λ way. pass _ (required 11 (part_at s.records.done 0 t way.0)) _ (λ part. ok _ _ (part_operand_lined s.records.done line part.0 part.1 a k h)))

  cast_record_good : (done : List Completed) (t : CType) (x : Operand) → InOperand x → Good InOperand (cast_record done t x)
  cast_record_good done ctypes.void x h = ok _ _ (dropped_lined done x h)
  cast_record_good done (ctypes.integer t) x h = fails _ _
  cast_record_good done (ctypes.aggregate p) x h = fails _ _
  cast_record_good done (ctypes.array element n) x h = fails _ _
  cast_record_good done (ctypes.pointer t c) x h = fails _ _
  cast_record_good done (ctypes.function f) x h = fails _ _

  cast_operand_good : (done : List Completed) (line : ℕ) (t : CType) (x : Operand) → P line → InOperand x → Good InOperand (cast_operand done line t x)
  cast_operand_good done line t (value e readonly) k h = computed_good _ (cast_good line t e k h)
  cast_operand_good done line t (object at v offset u readonly) k h = cast_record_good done t (object at v offset u readonly) h
  cast_operand_good done line t (structure u a) k h = cast_record_good done t (structure u a) h

  unary_operand_good : (line : ℕ) (op : UnaryOp) (x : Operand) → P line → InOperand x → Good InOperand (unary_operand line op x)
  unary_operand_good line op (value e readonly) k h = computed_good _ (unary_good readonly line op e k h)
  unary_operand_good line op (object at v offset t readonly) k h = fails _ _
  unary_operand_good line op (structure t a) k h = fails _ _

  postfix_operand_good : (line : ℕ) (op : StepOp) (x : Operand) → P line → InOperand x → Good InOperand (postfix_operand line op x)
  postfix_operand_good line op (value e readonly) k h = computed_good _ (postfix_good readonly line op e k h)
  postfix_operand_good line op (object at v offset t readonly) k h = fails _ _
  postfix_operand_good line op (structure t a) k h = fails _ _

  binary_operand_good : (line : ℕ) (op : BinaryOp) (x y : Operand) → P line → InOperand x → InOperand y → Good InOperand (binary_operand line op x y)
  binary_operand_good line op x y k h g = bind (InExpression P) _ (valued 7 x) _ (valued_good 7 x h) (λ a l. bind (InExpression P) _ (valued 7 y) _ (valued_good 7 y g) (λ b m. computed_good _ (binary_good line op a b k l m)))

  choice_record_good : (done : List Completed) (line : ℕ) (x : Operand) (t : CType) (a : Structure) (z : Operand) → P line → InOperand x → InStructure P a → InOperand z → Good InOperand (choice_record done line x t a z)
  choice_record_good done line x t a z k c h g =
      bind (InExpression P) _ (number 7 x) _ (number_good 7 x c) (λ test l. bind (InStructure P) _ (required 7 (record_value done t z)) _ (needs (InStructure P) 7 (record_value done t z) (record_lined done t z g)) (λ b m. ok _ _ (k, l, h, m)))

  choice_value_good : (line : ℕ) (x : Operand) (a : Expression) (z : Operand) → P line → InOperand x → InE a → InOperand z → Good InOperand (choice_value line x a z)
  choice_value_good line x a (value b readonly) k c h g = bind (InExpression P) _ (valued 7 x) _ (valued_good 7 x c) (λ test l. computed_good _ (choice_good line test a b k l h g))
  choice_value_good line x a (object at v offset t readonly) k c h g = fails _ _
  choice_value_good line x a (structure t b) k c h g = fails _ _

  choice_operand_good : (done : List Completed) (line : ℕ) (x y z : Operand) → P line → InOperand x → InOperand y → InOperand z → Good InOperand (choice_operand done line x y z)
  choice_operand_good done line x (value a readonly) z k c h g = choice_value_good line x a z k c h g
  choice_operand_good done line x (object at v offset t readonly) z k c h g = choice_record_good done line x t _ z k c (held_lined v at offset (size_of done t) h) g
  choice_operand_good done line x (structure t a) z k c h g = choice_record_good done line x t a z k c h g

  assign_value_good : (is_const : Bool) (line : ℕ) (op : Option BinaryOp) (p : Expression) (y : Operand) → P line → InE p → InOperand y → Good InOperand (assign_value is_const line op p y)
  assign_value_good is_const line op p (value e readonly) k h g = computed_good _ (assignment_good is_const line op p e k h g)
  assign_value_good is_const line None p (object at v offset t readonly) k h g = fails _ _
  assign_value_good is_const line None p (structure t a) k h g = fails _ _
  assign_value_good is_const line (Some op) p (object at v offset t readonly) k h g = fails _ _
  assign_value_good is_const line (Some op) p (structure t a) k h g = fails _ _

  assign_operand_good : (s : Scoped) (line : ℕ) (op : Option BinaryOp) (x y : Operand) → P line → InOperand x → InOperand y → Good InOperand (assign_operand s line op x y)
  assign_operand_good s line op (value p readonly) y k h g = assign_value_good readonly line op p y k h g
  assign_operand_good s line None (object at v offset t readonly) y k h g =
      bind (InStructure P) _ (required 8 (record_value s.records.done t y)) _ (needs (InStructure P) 8 (record_value s.records.done t y) (record_lined s.records.done t y g)) (λ a l.
      good_either InOperand (readonly || (members_in s.members t).constant) _ _ (fails _ _) (ok _ _ (put_lined line at v offset a k h l)))
  assign_operand_good s line None (structure t a) y k h g = pass _ (required 8 (record_value s.records.done t y)) _ (λ b. fails _ _)
  assign_operand_good s line (Some op) (object at v offset t readonly) y k h g = fails _ _
  assign_operand_good s line (Some op) (structure t a) y k h g = fails _ _

  comma_lined : (done : List Completed) (line : ℕ) (x y : Operand) → P line → InOperand x → InOperand y → InOperand (comma_operand done line x y)
  comma_lined done line x (value b readonly) k h g = (k, dropped_lined done x h, g)
  comma_lined done line x (object at v offset t readonly) k h g = (k, dropped_lined done x h, held_lined v at offset (size_of done t) g)
  comma_lined done line x (structure t b) k h g = (k, dropped_lined done x h, g)

  -- ---- calls

  abbrev InOperands : List Operand → Type 0
  InOperands [] = Unit {0}
  InOperands (x ∷ xs) = InOperand x × InOperands xs

  abbrev InExpressions : List Expression → Type 0
  InExpressions [] = Unit {0}
  InExpressions (e ∷ es) = InExpression P e × InExpressions es

  one_good : (xs : List Operand) → InOperands xs → Good (InExpression P) (one_integer xs)
  one_good [] h = fails _ _
  one_good (x ∷ []) h = number_good 8 x h.0
  one_good (x ∷ y ∷ rest) h = pass _ (number 8 x) _ (λ a. fails _ _)

  none_good : (xs : List Operand) (e : Expression) → InE e → Good (InExpression P) (no_arguments xs e)
  none_good [] e h = ok _ _ h
  none_good (x ∷ rest) e h = fails _ _

  abbrev Leads : (Arguments → Arguments) → Type 0
  Leads f = (rest : Arguments) → InArguments P rest → InArguments P (f rest)

  argument_good : (done : List Completed) (t : CType) (x : Operand) → InOperand x → Good Leads (argument_in done t x)
  argument_good done ctypes.void x h = fails _ _
  argument_good done (ctypes.integer t) x h = bind (InExpression P) _ (number 8 x) _ (number_good 8 x h) (λ e g. ok Leads _ (λ rest l. (as_type_lined t e g, l)))
  argument_good done (ctypes.aggregate p) x h =
      bind (InStructure P) _ (required 8 (record_value done (ctypes.aggregate p) x)) _ (needs (InStructure P) 8 (record_value done (ctypes.aggregate p) x) (record_lined done (ctypes.aggregate p) x h)) (λ a g. ok Leads _ (λ rest l. (g, l)))
  argument_good done (ctypes.array element n) x h = fails _ _
  argument_good done (ctypes.pointer t c) x h = fails _ _
  argument_good done (ctypes.function f) x h = fails _ _

  abbrev Passed : Arguments × List Operand → Type 0
  Passed r = InArguments P r.0 × InOperands r.1

  arguments_in_good : (done : List Completed) (ts : List CType) (xs : List Operand) → InOperands xs → Good Passed (arguments_in done ts xs)
  arguments_in_good done [] xs h = ok Passed _ (tt, h)
  arguments_in_good done (t ∷ ts) [] h = fails _ _
  arguments_in_good done (t ∷ ts) (x ∷ xs) h = bind Leads _ (argument_in done t x) _ (argument_good done t x h.0) (λ a g. bind Passed Passed (arguments_in done ts xs) _ (arguments_in_good done ts xs h.1) (λ rest l. ok Passed _ (g rest.0 l.0, l.1)))

  extra_good : (ellipsis : Bool) (xs : List Operand) → InOperands xs → Good InExpressions (extra_arguments ellipsis xs)
  extra_good ellipsis [] h = ok _ _ tt
  extra_good false (x ∷ xs) h = fails _ _
  extra_good true (x ∷ xs) h = bind (InExpression P) _ (number 8 x) _ (number_good 8 x h.0) (λ e g. bind InExpressions _ (extra_arguments true xs) _ (extra_good true xs h.1) (λ es l. ok InExpressions _ (g, l)))

  given_lined : (done : List Completed) (line f : ℕ) (wanted : Bool) (t : CType) (args : Arguments) → P line → InArguments P args → InOperand (given_operand done line f wanted t args)
  given_lined done line f wanted ctypes.void args k h = (k, h)
  given_lined done line f wanted (ctypes.integer t) args k h = (k, h)
  given_lined done line f wanted (ctypes.aggregate p) args k h = (k, h)
  given_lined done line f wanted (ctypes.array element n) args k h = (k, h)
  given_lined done line f wanted (ctypes.pointer t c) args k h = (k, h)
  given_lined done line f wanted (ctypes.function g) args k h = (k, h)

  behind_lined : (done : List Completed) (line : ℕ) (es : List Expression) (x : Operand) → P line → InExpressions es → InOperand x → InOperand (behind_extra done line es x)
  behind_lined done line [] x k h g = g
  behind_lined done line (e ∷ es) x k h g = comma_lined done line (value e false) (behind_extra done line es x) k h.0 (behind_lined done line es x k h.1 g)

  function_call_good : (done : List Completed) (line f : ℕ) (wanted : Bool) (t : FunctionType) (xs : List Operand) → P line → InOperands xs → Good InOperand (function_call done line f wanted t xs)
  function_call_good done line f wanted t xs k h =
      pass _ (given_size done t.gives.type) _ (λ size. bind Passed _ (arguments_in done t.parameters xs) _ (arguments_in_good done t.parameters xs h) (λ args g.
      bind InExpressions _ (extra_arguments t.ellipsis args.1) _ (extra_good t.ellipsis args.1 g.1) (λ es l.
      ok InOperand _ (behind_lined done line es (given_operand done line f wanted t.gives.type args.0) k l (given_lined done line f wanted t.gives.type args.0 k g.0)))))

  drawn_good : (done : List Completed) (line f : ℕ) (wanted : Bool) (o : Option IntegerType) (t : FunctionType) (xs : List Operand) → P line → InOperands xs → Good InOperand (drawn_or_called done line f wanted o t xs)
  drawn_good done line f wanted None t xs k h = function_call_good done line f wanted t xs k h
  drawn_good done line f wanted (Some u) t xs k h = computed_good _ (none_good xs _ k)

  callable_good : (done : List Completed) (line f : ℕ) (wanted : Bool) (o : Option Callable) (xs : List Operand) → P line → InOperands xs → Good InOperand (callable_call done line f wanted o xs)
  callable_good done line f wanted None xs k h = fails _ _
  callable_good done line f wanted (Some c) xs k h = drawn_good done line f wanted c.draws c.type xs k h

  call_node_good : (s : Scoped) (line : ℕ) (wanted : Bool) (m : Meaning) (xs : List Operand) → P line → InOperands xs → Good InOperand (call_node s line wanted m xs)
  call_node_good s line wanted (Variable v) xs k h = fails _ _
  call_node_good s line wanted (Object n) xs k h = fails _ _
  call_node_good s line wanted Incomplete xs k h = fails _ _
  call_node_good s line wanted Assert xs k h = computed_good _ (bind (InExpression P) _ (one_integer xs) _ (one_good xs h) (λ a g. ok _ _ (k, g)))
  call_node_good s line wanted Assume xs k h = computed_good _ (bind (InExpression P) _ (one_integer xs) _ (one_good xs h) (λ a g. ok _ _ (k, g)))
  call_node_good s line wanted (Draw t) xs k h = computed_good _ (none_good xs _ k)
  call_node_good s line wanted (BuiltIn b) xs k h = fails _ _
  call_node_good s line wanted (Function f) xs k h = callable_good s.records.done line f wanted (slice_get s.functions.all f) xs k h
  call_node_good s line wanted (Typedef n) xs k h = fails _ _
  call_node_good s line wanted (Enumerator bits) xs k h = fails _ _
  call_node_good s line wanted (Record p) xs k h = fails _ _
  call_node_good s line wanted Enumeration xs k h = fails _ _

  -- ---- expressions

  used_on_good : (m w : Bool) (line : ℕ) (typing : Result Operand Fault) → Good InOperand typing → Good InOperand (used_on m w line typing)
  used_on_good m w line typing h = bind InOperand InOperand typing _ h (λ x g. on InOperand line (used m w x) (used_good m w x g))

  abbrev Called : Option (ℕ × Meaning) → Type 0
  Called None = Unit {0}
  Called (Some m) = P m.0

  no_function_good : (typing : Result Operand Fault) → Good Called (typing >>= λ x. Ok None)
  no_function_good typing = pass Called typing _ (λ x. ok Called None tt)

  callee_good : (s : Scoped) (f : Tree) (typing : Result Operand Fault) → InTree P f → Good Called (callee s f typing)
  callee_good s (name line n) typing h = pass Called (on_line line (required 1 (meaning_of s.bindings n))) _ (λ m. ok Called _ h)
  callee_good s (parens line e) typing h = callee_good s e typing h.1
  callee_good s (constant line c) typing h = no_function_good typing
  callee_good s (character line c) typing h = no_function_good typing
  callee_good s (strings line c) typing h = no_function_good typing
  callee_good s (unary line op e) typing h = no_function_good typing
  callee_good s (address line e) typing h = no_function_good typing
  callee_good s (dereference line e) typing h = no_function_good typing
  callee_good s (cast line parts d e) typing h = no_function_good typing
  callee_good s (sizeof_expr line e) typing h = no_function_good typing
  callee_good s (sizeof_type line parts d) typing h = no_function_good typing
  callee_good s (step line op e) typing h = no_function_good typing
  callee_good s (member line e n) typing h = no_function_good typing
  callee_good s (arrow line e n) typing h = no_function_good typing
  callee_good s (subscript line a b) typing h = no_function_good typing
  callee_good s (binary line op a b) typing h = no_function_good typing
  callee_good s (choice line test a b) typing h = no_function_good typing
  callee_good s (assign line op a b) typing h = no_function_good typing
  callee_good s (comma line a b) typing h = no_function_good typing
  callee_good s (call f arguments) typing h = no_function_good typing

  called_good : (s : Scoped) (wanted : Bool) (m : Option (ℕ × Meaning)) (xs : List Operand) → Called m → InOperands xs → Good InOperand (called s wanted m xs)
  called_good s wanted None xs k h = fails _ _
  called_good s wanted (Some m) xs k h = call_node_good s m.0 wanted m.1 xs k h

  -- the operand of `sizeof` stays
  sized_lined : (done : List Completed) (line n : ℕ) (x : Operand) → P line → InOperand x → InOperand (sized_operand done line n x)
  sized_lined done line n (value e readonly) k h = (k, h)
  sized_lined done line n (object at v offset t readonly) k h = (k, held_lined v at offset (size_of done t) h)
  sized_lined done line n (structure t a) k h = (k, h)

  operand_size_good : (line : ℕ) (done : List Completed) (o : Option (List (List ℕ))) (typing : Result Operand Fault) → P line → Good InOperand typing → Good InOperand (operand_size line done o typing)
  operand_size_good line done (Some parts) typing k h = ok _ _ k
  operand_size_good line done None typing k h = bind InOperand InOperand typing _ h (λ x g. pass InOperand (on_line line (operand_bytes done x)) _ (λ n. ok InOperand _ (sized_lined done line n x k g)))

  mutual
    typed_good : (s : Scoped) (m w : Bool) (e : Tree) → InTree P e → Good InOperand (typed s m w e)
    typed_good s m w (constant line c) h = ok _ _ h
    typed_good s m w (character line bits) h = ok _ _ h
    typed_good s m w (strings line parts) h = fails _ _
    typed_good s m w (name line n) h = on InOperand line (name_node s line (meaning_of s.bindings n)) (name_good s line (meaning_of s.bindings n) h)
    typed_good s m w (parens line e) h = typed_good s m w e h.1
    typed_good s m w (unary line op e) h = bind InOperand InOperand (used_on m true (bare_line e) (typed s m true e)) _ (used_on_good m true (bare_line e) (typed s m true e) (typed_good s m true e h.1)) (λ x g. on InOperand line (unary_operand line op x) (unary_operand_good line op x h.0 g))
    typed_good s m w (address line e) h = fails _ _
    typed_good s m w (dereference line e) h = fails _ _
    typed_good s m w (cast line parts d e) h =
        pass InOperand (type_name s parts d (lengths s m d)) _ (λ t.
        bind InOperand InOperand (used_on m (is_wanted t) (bare_line e) (typed s m (is_wanted t) e)) _ (used_on_good m (is_wanted t) (bare_line e) (typed s m (is_wanted t) e) (typed_good s m (is_wanted t) e h.1)) (λ x g. on InOperand line (cast_operand s.records.done line t x) (cast_operand_good s.records.done line t x h.0 g)))
    typed_good s m w (sizeof_expr line e) h = operand_size_good line s.records.done (strings_of e) (typed s true true e) h.0 (typed_good s true true e h.1)
    typed_good s m w (sizeof_type line parts d) h = pass InOperand (type_name s parts d (lengths s true d)) _ (λ t. pass InOperand (on_line line (type_size s.records.done t)) _ (λ n. ok InOperand _ h))
    typed_good s m w (step line op e) h = bind InOperand InOperand (used_on m true (bare_line e) (typed s m true e)) _ (used_on_good m true (bare_line e) (typed s m true e) (typed_good s m true e h.1)) (λ x g. on InOperand (first_line e) (postfix_operand line op x) (postfix_operand_good line op x h.0 g))
    typed_good s m w (member line e n) h = bind InOperand InOperand (used_on m true (bare_line e) (typed s m true e)) _ (used_on_good m true (bare_line e) (typed s m true e) (typed_good s m true e h.1)) (λ x g. on InOperand (first_line e) (member_node s line x n) (member_good s line x n h.0 g))
    typed_good s m w (arrow line e n) h = fails _ _
    typed_good s m w (subscript line a b) h = fails _ _
    typed_good s m w (binary line op a b) h =
        bind InOperand InOperand (used_on m true (bare_line a) (typed s m true a)) _ (used_on_good m true (bare_line a) (typed s m true a) (typed_good s m true a h.1)) (λ x g.
        bind InOperand InOperand (used_on m true (bare_line b) (typed s m true b)) _ (used_on_good m true (bare_line b) (typed s m true b) (typed_good s m true b h.2)) (λ y l. on InOperand (first_line a) (binary_operand line op x y) (binary_operand_good line op x y h.0 g l)))
    typed_good s m w (choice line test a b) h =
        bind InOperand InOperand (used_on m true (bare_line test) (typed s m true test)) _ (used_on_good m true (bare_line test) (typed s m true test) (typed_good s m true test h.1)) (λ x g.
        bind InOperand InOperand (used_on m w (bare_line a) (typed s m w a)) _ (used_on_good m w (bare_line a) (typed s m w a) (typed_good s m w a h.2)) (λ y l.
        bind InOperand InOperand (used_on m w (bare_line b) (typed s m w b)) _ (used_on_good m w (bare_line b) (typed s m w b) (typed_good s m w b h.3)) (λ z k. on InOperand (first_line test) (choice_operand s.records.done line x y z) (choice_operand_good s.records.done line x y z h.0 g l k))))
    typed_good s m w (assign line op a b) h =
        bind InOperand InOperand (used_on m true (bare_line a) (typed s m true a)) _ (used_on_good m true (bare_line a) (typed s m true a) (typed_good s m true a h.1)) (λ x g.
        bind InOperand InOperand (used_on m true (bare_line b) (typed s m true b)) _ (used_on_good m true (bare_line b) (typed s m true b) (typed_good s m true b h.2)) (λ y l. on InOperand (first_line a) (assign_operand s line op x y) (assign_operand_good s line op x y h.0 g l)))
    typed_good s m w (comma line a b) h =
        bind InOperand InOperand (used_on m false (bare_line a) (typed s m false a)) _ (used_on_good m false (bare_line a) (typed s m false a) (typed_good s m false a h.1)) (λ x g.
        bind InOperand InOperand (used_on m w (bare_line b) (typed s m w b)) _ (used_on_good m w (bare_line b) (typed s m w b) (typed_good s m w b h.2)) (λ y l. ok InOperand _ (comma_lined s.records.done line x y h.0 g l)))
    typed_good s m w (call f arguments) h =
        bind Called InOperand (callee s f (used_on m true (bare_line f) (typed s m true f))) _ (callee_good s f (used_on m true (bare_line f) (typed s m true f)) h.0) (λ meaning g.
        bind InOperands InOperand (typed_arguments s m arguments) _ (arguments_good s m arguments h.1) (λ xs l. on InOperand (first_line f) (called s (is_used f w) meaning xs) (called_good s (is_used f w) meaning xs g l)))

    arguments_good : (s : Scoped) (m : Bool) (es : Trees) → InTrees P es → Good InOperands (typed_arguments s m es)
    arguments_good s m none h = ok InOperands _ tt
    arguments_good s m (more first rest) h =
        bind InOperand InOperands (used_on m true (bare_line first) (typed s m true first)) _ (used_on_good m true (bare_line first) (typed s m true first) (typed_good s m true first h.0)) (λ x g.
        bind InOperands InOperands (typed_arguments s m rest) _ (arguments_good s m rest h.1) (λ xs l. ok InOperands _ (g, l)))

  pub operand_by_good : (s : Scoped) (w : Bool) (e : Tree) → InTree P e → Good InOperand (operand_by s w e)
  operand_by_good s w e h = used_on_good false w (bare_line e) (typed s false w e) (typed_good s false w e h)

  pub operand_good : (s : Scoped) (e : Tree) → InTree P e → Good InOperand (operand s e)
  operand_good s e h = operand_by_good s true e h

  pub as_type_in : (t : IntegerType) (e : Expression) → InExpression P e → InExpression P (as_type t e)
  as_type_in t e h = as_type_lined t e h
