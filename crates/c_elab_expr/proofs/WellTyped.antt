-- What typing gives is well typed.
use Rattle.std.proofs.Common.{◌≡◌, ◌≤◌, ◌+◌, ◌-◌, ◌^◌, ◌%◌, ℕ, zero, suc, Bool, true, false, List, [], ◌∷◌, length, map, Option, Some, None, Result, Ok, Err, refl, ap, sym, subst, ◌∙◌, arith, eq-eqb, eqb-true}
use Rattle.std.specs.Prelude.{not, ◌||◌, ◌&&◌, ◌==◌, if◌then◌else◌, nat_lt, nat_le, slice_get, slice_index}
use Rattle.std.specs.List.{list_all}
use borrow.Author.Tests.{lt-ltb, le-leb, ltb-true, leb-true}
use Rattle.c_token.specs.declared.token.Constant.{Constant}
use Rattle.c_token.specs.declared.token.ConstantType.{ConstantType}
use Rattle.c_token.specs.declared.token.ConstantType.TheVariants as constants
use Rattle.c_tree.specs.declared.expr.BinaryOp.{BinaryOp}
use Rattle.c_tree.specs.declared.expr.BinaryOp.TheVariants as binaries
use Rattle.c_tree.specs.declared.expr.UnaryOp.{UnaryOp}
use Rattle.c_tree.specs.declared.expr.UnaryOp.TheVariants as unaries
use Rattle.c_tree.specs.declared.expr.StepOp.{StepOp}
use Rattle.c_tree.specs.declared.expr.StepOp.TheVariants as postfixes
use Rattle.c_tree.specs.Tree.{Tree, Trees, constant, character, strings, name, parens, unary, cast, sizeof_expr, sizeof_type, step, member, binary, choice, assign, comma, call, none, more, first_line, address, dereference, arrow, subscript}
use Rattle.c_types.specs.declared.integers.IntegerType.{IntegerType}
use Rattle.c_types.specs.declared.types.ValueType.{ValueType}
use Rattle.c_types.specs.declared.types.ValueType.TheVariants.{Void, Integer}
use Rattle.c_types.specs.declared.integers.IntegerType.TheVariants as types
use Rattle.c_types.specs.Integers.{width, bytes, promoted, common_type, same_type}
use Rattle.core_tree.specs.declared.operators.ArithmeticOperator.{ArithmeticOperator}
use Rattle.core_tree.specs.declared.operators.Comparison.{Comparison}
use Rattle.core_tree.specs.declared.operators.LogicalOperator.{LogicalOperator}
use Rattle.core_tree.specs.declared.operators.SignOperator.{SignOperator}
use Rattle.core_tree.specs.declared.operators.StepOperator.{StepOperator}
use Rattle.c_types.specs.Types.{CType, Completed}
use Rattle.c_types.specs.Types as ctypes
use Rattle.c_types.specs.Layouts.{IsBuilt, is_complete, is_sized, size_of}
use Rattle.c_types.proofs.CellLists.{small_sized}
use Rattle.core_tree.specs.declared.functions.PassedType.{PassedType}
use Rattle.core_tree.specs.declared.functions.PassedType.TheVariants as passed
use Rattle.core_tree.specs.Trees.{Place, Expression, Structure, Arguments}
use Rattle.core_tree.specs.Trees as cores
use Rattle.core_tree.specs.Typed.{Sizes, Signature, type_of, is_integer, is_promoted, are_operands, is_within, is_place, is_typed, is_structure, are_arguments, same_given, given_as, gives_this}
use Rattle.core_tree.specs.Typed as typed_trees
use Rattle.c_scope.specs.declared.meaning.Meaning.{Meaning}
use Rattle.c_scope.specs.declared.meaning.Meaning.TheVariants.{Variable, Object, Incomplete, Assert, Assume, Draw, BuiltIn, Function, Typedef, Enumerator, Record, Enumeration}
use Rattle.c_operands.specs.declared.operands.Home.{Home}
use Rattle.c_operands.specs.declared.operands.Home.TheVariants as homes
use Rattle.c_scope.specs.Members.{found, members_in, part_at}
use Rattle.c_scope.specs.Scopes.{Named, ObjectEntry, Callable, Scoped, meaning_of, sizes_of, object_at, is_incomplete, object_entry_size, passed_as, given_by, signature_of, all_sizes}
use Rattle.c_scope.specs.Faults.{◌>>=◌, required, Fault, on_line}
use Rattle.c_operands.specs.Nodes.{Node, integer_of, integer, as_type, place_of, target_of, constant_type, constant_node, character_node, size_node, discarded, cast_node, sign_node, not_node, step_node, unary_node, postfix_node, left_type, right_type, arithmetic_node, compare_node, logical_node, binary_node, chosen, choice_node, assign_node, operator_of, update_node, assignment_node}
use Rattle.c_operands.specs.Operands.{Operand, value, object, structure, home_place, held_value, put_value, is_home, computed, valued, number, same_record, record_value, dropped, is_array, used, place_operand, variable_node, object_entry_node, function_node, name_node, part_operand, member_node, operand_bytes, sized_operand, cast_record, cast_operand, unary_operand, postfix_operand, binary_operand, choice_record, choice_value, choice_operand, assign_record, assign_value, assign_operand, comma_operand, one_integer, no_arguments, argument_in, arguments_in, extra_arguments, given_size, given_operand, behind_extra, function_call, drawn_or_called, callable_call, assertion_call, assumption_call, call_node, is_typed_operand}
use Rattle.c_scope.specs.Types.{type_size}
use Rattle.c_elab_expr.specs.Strings.{strings_of, strings_length}
use Rattle.c_elab_expr.specs.Typing.{bare_line, sized, used_on, callee, is_used, called, is_wanted, type_name, operand_size, typed, typed_arguments, operand_in, operand_by, lengths}
use Rattle.c_scope.proofs.Variables.{both, and}
use Rattle.c_elab_expr.proofs.Types.{same_integer_refl, same_type_refl, promoted_is, common_promoted, operands_fit, type_as, typed_as}
use Rattle.c_scope.proofs.Parted.{part_within}

-- what is given, if it is given, has a property
abbrev pub Holds : {A E : Type 0} → (A → Type 0) → Result A E → Type 0
Holds {A} P r = (x : A) → r ≡ Ok x → P x

pub bind : {A B E : Type 0} (P : A → Type 0) (Q : B → Type 0) (r : Result A E) (f : A → Result B E) → Holds P r → ((x : A) → P x → Holds Q (f x)) → Holds Q (r >>= f)
bind P Q (Ok x) f h g = g x (h x refl)
bind P Q (Err e) f h g = λ y same. let none : ⊥ = cc in absurd none

pub given : {A E : Type 0} (P : A → Type 0) (y : A) → P y → Holds {A = A} {E = E} P (Ok y)
given P y h = λ x e. let same : y ≡ x = cc in subst P same h

pub refused : {A E : Type 0} (P : A → Type 0) (e : E) → Holds {A = A} {E = E} P (Err e)
refused P e = λ x same. let none : ⊥ = cc in absurd none

pub on_same_line : {A : Type 0} (P : A → Type 0) (line : ℕ) (r : Result A ℕ) → Holds P r → Holds P (on_line line r)
on_same_line P line (Ok x) h = λ y e. let same : x ≡ y = cc in subst P same (h x refl)
on_same_line P line (Err rule) h = λ y e. let none : ⊥ = cc in absurd none

-- ---- what rules ask for

integer_is_by : (rule : ℕ) (a : ValueType) → Holds (λ t. a ≡ Integer t) (required rule (integer_of a))
integer_is_by rule Void = refused (λ t. Void ≡ Integer t) rule
integer_is_by rule (Integer t) = given (λ u. Integer t ≡ Integer u) t refl

pub integer_is : (rule : ℕ) (e : Expression) → Holds (λ t. type_of e ≡ Integer t) (integer rule e)
integer_is rule e = integer_is_by rule (type_of e)

abbrev Is : IntegerType → Expression → Place → Type 0
Is t e p = e ≡ cores.read t p

read_is : (u t : IntegerType) (p : Place) → Integer u ≡ Integer t → cores.read u p ≡ cores.read t p
read_is u t p e = let same : u ≡ t = cc in ap (λ (x : IntegerType). cores.read x p) same

-- the place of a number of this type
place_is : (t : IntegerType) (e : Expression) → type_of e ≡ Integer t → Holds (Is t e) (required 9 (place_of e))
place_is t (cores.read u p) e = given (Is t (cores.read u p)) p (read_is u t p e)
place_is t (cores.constant line u bits) e = refused (Is t _) 9
place_is t (cores.convert to x) e = refused (Is t _) 9
place_is t (cores.sign line op x) e = refused (Is t _) 9
place_is t (cores.is_zero line x) e = refused (Is t _) 9
place_is t (cores.arithmetic line op a b) e = refused (Is t _) 9
place_is t (cores.compare line op a b) e = refused (Is t _) 9
place_is t (cores.logical line op a b) e = refused (Is t _) 9
place_is t (cores.choice line test a b) e = refused (Is t _) 9
place_is t (cores.assign line u p x) e = refused (Is t _) 9
place_is t (cores.update line u p op v x) e = refused (Is t _) 9
place_is t (cores.step line u p op before) e = refused (Is t _) 9
place_is t (cores.comma line a b) e = refused (Is t _) 9
place_is t (cores.assertion line x) e = refused (Is t _) 9
place_is t (cores.assumption line x) e = refused (Is t _) 9
place_is t (cores.draw line u) e = refused (Is t _) 9
place_is t (cores.part line u offset a) e = refused (Is t _) 9
place_is t (cores.discard line x) e = refused (Is t _) 9
place_is t (cores.discard_structure a) e = refused (Is t _) 9
place_is t (cores.call line f used u args) e = refused (Is t _) 9
place_is t (cores.function_name line) e = refused (Is t _) 9
place_is t (cores.size_of_value line bits x) e = refused (Is t _) 9
place_is t (cores.size_of_structure line bits a) e = refused (Is t _) 9
place_is t (cores.address line p) e = refused (Is t _) 9
place_is t (cores.sum line a x n swapped) e = refused (Is t _) 9
place_is t (cores.distance line a b n) e = refused (Is t _) 9
place_is t (cores.relation line op a b) e = refused (Is t _) 9
place_is t (cores.pointer_update line p n x) e = refused (Is t _) 9
place_is t (cores.pointer_step line p n before) e = refused (Is t _) 9
place_is t (cores.allocate line x) e = refused (Is t _) 9
place_is t (cores.allocate_zeroed line a b) e = refused (Is t _) 9
place_is t (cores.release line x) e = refused (Is t _) 9
place_is t (cores.exit line x) e = refused (Is t _) 9
place_is t (cores.abort line) e = refused (Is t _) 9

-- a place that may be changed is a place
target_is : (is_const : Bool) (t : IntegerType) (e : Expression) → type_of e ≡ Integer t → Holds (Is t e) (required 9 (target_of is_const e))
target_is true t e is = refused (Is t e) 9
target_is false t e is = place_is t e is

-- struct and union types are one where they have one place
one_record : (t u : CType) → same_record t u ≡ true → t ≡ u
one_record ctypes.void u h = let none : ⊥ = cc in absurd none
one_record (ctypes.integer t) u h = let none : ⊥ = cc in absurd none
one_record (ctypes.aggregate p) ctypes.void h = let none : ⊥ = cc in absurd none
one_record (ctypes.aggregate p) (ctypes.integer t) h = let none : ⊥ = cc in absurd none
one_record (ctypes.aggregate p) (ctypes.aggregate q) h = ap ctypes.aggregate (eqb-true p q h)
one_record (ctypes.aggregate p) (ctypes.array element n) h = let none : ⊥ = cc in absurd none
one_record (ctypes.aggregate p) (ctypes.pointer t c) h = let none : ⊥ = cc in absurd none
one_record (ctypes.aggregate p) (ctypes.function f) h = let none : ⊥ = cc in absurd none
one_record (ctypes.array element n) u h = let none : ⊥ = cc in absurd none
one_record (ctypes.pointer t c) u h = let none : ⊥ = cc in absurd none
one_record (ctypes.function f) u h = let none : ⊥ = cc in absurd none

-- what lies in a part lies in the whole
part_in : (xs : List ℕ) (v offset at n m : ℕ) → at + m ≤ offset + n → is_within xs v offset n ≡ true → is_within xs v at m ≡ true
part_in xs v offset at n m inner h =
    let parts = both (nat_lt v (length xs)) (nat_le (offset + n) (slice_index xs v)) h in
    let all = leb-true (offset + n) (slice_index xs v) parts.1 in
    and _ _ parts.0 (le-leb (at + m) (slice_index xs v) (omega (arith, all, inner)))

home_part : (sizes : Sizes) (v : Home) (offset at n m : ℕ) → at + m ≤ offset + n → is_home sizes v offset n ≡ true → is_home sizes v at m ≡ true
home_part sizes (homes.Variable v) offset at n m inner h = part_in sizes.variables v offset at n m inner h
home_part sizes (homes.Object k) offset at n m inner h =
    let parts = both (nat_le 1 k) (is_within sizes.objects (k - 1) offset n) h in
    and _ _ parts.0 (part_in sizes.objects (k - 1) offset at n m inner parts.1)

-- a type with so many bytes is sized
sized_by : (done : List Completed) (t : CType) (n : ℕ) → type_size done t ≡ Ok n → is_sized done t ≡ true
sized_by done t n e = by (is_complete done t) (is_sized done t) refl e where
  size : Result ℕ ℕ
  size = Ok (size_of done t)

  by : (b c : Bool) → is_sized done t ≡ c → (if b then (if c then size else Err 4) else Err 3) ≡ Ok n → is_sized done t ≡ true
  by true true is h = is
  by true false is h = let none : ⊥ = cc in absurd none
  by false c is h = let none : ⊥ = cc in absurd none

module _ (scope : Scoped) where
  abbrev Good : Expression → Type 0
  Good e = is_typed (all_sizes scope) e ≡ true

  abbrev Fits : Operand → Type 0
  Fits x = is_typed_operand scope x ≡ true

  -- ---- constants and names

  constant_good : (line : ℕ) (c : Constant) → Good (constant_node line c)
  constant_good line c = by_type c.type_ where
    by_type : (t : ConstantType) → Good (let u = constant_type t in cores.constant line u (c.value % 2 ^ width u))
    by_type constants.Int = lt-ltb _ _ (omega arith)
    by_type constants.UnsignedInt = lt-ltb _ _ (omega arith)
    by_type constants.Long = lt-ltb _ _ (omega arith)
    by_type constants.UnsignedLong = lt-ltb _ _ (omega arith)
    by_type constants.LongLong = lt-ltb _ _ (omega arith)
    by_type constants.UnsignedLongLong = lt-ltb _ _ (omega arith)

  character_good : (line bits : ℕ) → Good (character_node line bits)
  character_good line bits = lt-ltb (bits % 2 ^ 32) (2 ^ 32) (omega arith)

  -- ---- sizes and casts

  size_good : (line n : ℕ) → Good (size_node line n)
  size_good line n = lt-ltb (n % 2 ^ 64) (2 ^ 64) (omega arith)

  discarded_good : (line : ℕ) (t : ValueType) (e : Expression) → type_of e ≡ t → Good e → Good (discarded line t e)
  discarded_good line Void e is h = h
  discarded_good line (Integer t) e is h = and _ _ (ap is_integer is) h

  cast_good : (line : ℕ) (t : CType) (e : Expression) → Good e → Holds Good (cast_node line t e)
  cast_good line ctypes.void e h = given Good _ (discarded_good line (type_of e) e refl h)
  cast_good line (ctypes.integer t) e h = bind (λ u. type_of e ≡ Integer u) Good (integer 7 e) _ (integer_is 7 e) (λ u is. given Good _ (and _ _ (ap is_integer is) h))
  cast_good line (ctypes.aggregate p) e h = refused Good 7
  cast_good line (ctypes.array element n) e h = refused Good 7
  cast_good line (ctypes.pointer t c) e h = bind (λ u. type_of e ≡ Integer u) Good (integer 7 e) _ (integer_is 7 e) (λ u is. given Good _ (and _ _ (ap is_integer is) h))
  cast_good line (ctypes.function f) e h = refused Good 7

  -- ---- operators

  sign_good : (line : ℕ) (op : SignOperator) (e : Expression) → Good e → Holds Good (sign_node line op e)
  sign_good line op e h = bind (λ t. type_of e ≡ Integer t) Good (integer 7 e) _ (integer_is 7 e) (λ t is.
      given Good _ (and _ _ (ap is_promoted (type_as (promoted t) e) ∙ promoted_is t) (typed_as (all_sizes scope) (promoted t) t e is h)))

  not_good : (line : ℕ) (e : Expression) → Good e → Holds Good (not_node line e)
  not_good line e h = bind (λ t. type_of e ≡ Integer t) Good (integer 7 e) _ (integer_is 7 e) (λ t is. given Good _ (and _ _ (ap is_integer is) h))

  step_good : (is_const : Bool) (line : ℕ) (op : StepOperator) (before : Bool) (e : Expression) → Good e → Holds Good (step_node is_const line op before e)
  step_good is_const line op before e h = bind (λ t. type_of e ≡ Integer t) Good (integer 7 e) _ (integer_is 7 e) (λ t is.
      bind (Is t e) Good (required 9 (target_of is_const e)) _ (target_is is_const t e is) (λ p place. given Good _ (ap (is_typed (all_sizes scope)) (sym place) ∙ h)))

  unary_good : (is_const : Bool) (line : ℕ) (op : UnaryOp) (e : Expression) → Good e → Holds Good (unary_node is_const line op e)
  unary_good is_const line unaries.Increment e h = step_good is_const line _ true e h
  unary_good is_const line unaries.Decrement e h = step_good is_const line _ true e h
  unary_good is_const line unaries.Plus e h = sign_good line _ e h
  unary_good is_const line unaries.Minus e h = sign_good line _ e h
  unary_good is_const line unaries.Complement e h = sign_good line _ e h
  unary_good is_const line unaries.Not e h = not_good line e h

  postfix_good : (is_const : Bool) (line : ℕ) (op : StepOp) (e : Expression) → Good e → Holds Good (postfix_node is_const line op e)
  postfix_good is_const line postfixes.Increment e h = step_good is_const line _ false e h
  postfix_good is_const line postfixes.Decrement e h = step_good is_const line _ false e h

  -- two operands of integer types
  pair : (Q : Expression → Type 0) (rule : ℕ) (a b : Expression) (f : IntegerType → IntegerType → Node)
      → ((t u : IntegerType) → type_of a ≡ Integer t → type_of b ≡ Integer u → Holds Q (f t u)) → Holds Q (integer rule a >>= λ t. integer rule b >>= λ u. f t u)
  pair Q rule a b f h = bind (λ t. type_of a ≡ Integer t) Q (integer rule a) _ (integer_is rule a) (λ t is.
      bind (λ u. type_of b ≡ Integer u) Q (integer rule b) _ (integer_is rule b) (λ u is_b. h t u is is_b))

  arithmetic_good : (line : ℕ) (op : ArithmeticOperator) (a b : Expression) → Good a → Good b → Holds Good (arithmetic_node line op a b)
  arithmetic_good line op a b h g = pair Good 7 a b _ (λ t u is is_b.
      given Good _ (and _ _ (and _ _
      (ap (λ (x : ValueType). are_operands op x (type_of (as_type (right_type op t u) b))) (type_as (left_type op t u) a)
      ∙ ap (are_operands op (Integer (left_type op t u))) (type_as (right_type op t u) b) ∙ operands_fit op t u)
      (typed_as (all_sizes scope) (left_type op t u) t a is h)) (typed_as (all_sizes scope) (right_type op t u) u b is_b g)))

  compare_good : (line : ℕ) (op : Comparison) (a b : Expression) → Good a → Good b → Holds Good (compare_node line op a b)
  compare_good line op a b h g = pair Good 7 a b _ (λ t u is is_b.
      let c = common_type t u in
      given Good _ (and _ _ (and _ _ (and _ _
      (ap is_promoted (type_as c a) ∙ common_promoted t u)
      (ap (λ (x : ValueType). same_type x (type_of (as_type c b))) (type_as c a) ∙ ap (same_type (Integer c)) (type_as c b) ∙ same_type_refl (Integer c)))
      (typed_as (all_sizes scope) c t a is h)) (typed_as (all_sizes scope) c u b is_b g)))

  logical_good : (line : ℕ) (op : LogicalOperator) (a b : Expression) → Good a → Good b → Holds Good (logical_node line op a b)
  logical_good line op a b h g = pair Good 7 a b _ (λ t u is is_b. given Good _ (and _ _ (and _ _ (and _ _ (ap is_integer is) (ap is_integer is_b)) h) g))

  binary_good : (line : ℕ) (op : BinaryOp) (a b : Expression) → Good a → Good b → Holds Good (binary_node line op a b)
  binary_good line binaries.LogicalOr a b h g = logical_good line _ a b h g
  binary_good line binaries.LogicalAnd a b h g = logical_good line _ a b h g
  binary_good line binaries.Or a b h g = arithmetic_good line _ a b h g
  binary_good line binaries.Xor a b h g = arithmetic_good line _ a b h g
  binary_good line binaries.And a b h g = arithmetic_good line _ a b h g
  binary_good line binaries.Equal a b h g = compare_good line _ a b h g
  binary_good line binaries.NotEqual a b h g = compare_good line _ a b h g
  binary_good line binaries.Less a b h g = compare_good line _ a b h g
  binary_good line binaries.Greater a b h g = compare_good line _ a b h g
  binary_good line binaries.LessEqual a b h g = compare_good line _ a b h g
  binary_good line binaries.GreaterEqual a b h g = compare_good line _ a b h g
  binary_good line binaries.ShiftLeft a b h g = arithmetic_good line _ a b h g
  binary_good line binaries.ShiftRight a b h g = arithmetic_good line _ a b h g
  binary_good line binaries.Add a b h g = arithmetic_good line _ a b h g
  binary_good line binaries.Subtract a b h g = arithmetic_good line _ a b h g
  binary_good line binaries.Multiply a b h g = arithmetic_good line _ a b h g
  binary_good line binaries.Divide a b h g = arithmetic_good line _ a b h g
  binary_good line binaries.Remainder a b h g = arithmetic_good line _ a b h g

  chosen_good : (line : ℕ) (test : Expression) (x y : ValueType) (a b : Expression) → is_integer (type_of test) ≡ true → type_of a ≡ x → type_of b ≡ y → Good test → Good a → Good b → Holds Good (chosen line test x y a b)
  chosen_good line test Void Void a b i p q h g k =
      given Good _ (and _ _ (and _ _ (and _ _ (and _ _ i (ap (λ (x : ValueType). same_type x (type_of b)) p ∙ ap (same_type Void) q)) h) g) k)
  chosen_good line test Void (Integer u) a b i p q h g k = refused Good 7
  chosen_good line test (Integer t) Void a b i p q h g k = refused Good 7
  chosen_good line test (Integer t) (Integer u) a b i p q h g k =
      let c = common_type t u in
      given Good _ (and _ _ (and _ _ (and _ _ (and _ _ i
      (ap (λ (x : ValueType). same_type x (type_of (as_type c b))) (type_as c a) ∙ ap (same_type (Integer c)) (type_as c b) ∙ same_type_refl (Integer c)))
      h) (typed_as (all_sizes scope) c t a p g)) (typed_as (all_sizes scope) c u b q k))

  choice_good : (line : ℕ) (test a b : Expression) → Good test → Good a → Good b → Holds Good (choice_node line test a b)
  choice_good line test a b h g k = bind (λ t. type_of test ≡ Integer t) Good (integer 7 test) _ (integer_is 7 test) (λ t is.
      chosen_good line test (type_of a) (type_of b) a b (ap is_integer is) refl refl h g k)

  assign_good : (is_const : Bool) (line : ℕ) (place v : Expression) → Good place → Good v → Holds Good (assign_node is_const line place v)
  assign_good is_const line place v h g = pair Good 8 place v _ (λ t u is is_b.
      bind (Is t place) Good (required 9 (target_of is_const place)) _ (target_is is_const t place is) (λ p read.
      given Good _ (and _ _ (and _ _ (ap (is_typed (all_sizes scope)) (sym read) ∙ h)
      (ap (λ (x : ValueType). same_type x (Integer t)) (type_as t v) ∙ same_type_refl (Integer t)))
      (typed_as (all_sizes scope) t u v is_b g))))

  update_good : (is_const : Bool) (line : ℕ) (op : BinaryOp) (place v : Expression) → Good place → Good v → Holds Good (update_node is_const line op place v)
  update_good is_const line op place v h g =
      bind (λ (o : ArithmeticOperator). Unit {0}) Good (required 7 (operator_of op)) _ (λ o e. tt) (λ o _.
      pair Good 7 place v _ (λ t u is is_b.
      bind (Is t place) Good (required 9 (target_of is_const place)) _ (target_is is_const t place is) (λ p read.
      given Good _ (and _ _ (and _ _ (ap (is_typed (all_sizes scope)) (sym read) ∙ h)
      (ap (are_operands o (Integer (left_type o t u))) (type_as (right_type o t u) v) ∙ operands_fit o t u))
      (typed_as (all_sizes scope) (right_type o t u) u v is_b g)))))

  assignment_good : (is_const : Bool) (line : ℕ) (op : Option BinaryOp) (place v : Expression) → Good place → Good v → Holds Good (assignment_node is_const line op place v)
  assignment_good is_const line None place v h g = assign_good is_const line place v h g
  assignment_good is_const line (Some op) place v h g = update_good is_const line op place v h g

  -- ---- operands

  computed_fits : (node : Node) → Holds Good node → Holds Fits (computed node)
  computed_fits node h = bind Good Fits node _ h (λ e good. given Fits (value e false) good)

  value_good : (rule : ℕ) (x : Operand) → Fits x → Holds Good (valued rule x)
  value_good rule (value e k) h = given Good e h
  value_good rule (object line v offset t k) h = refused Good rule
  value_good rule (structure t a) h = refused Good rule

  -- a value of an integer type
  record GoodNumber (e : Expression) : Type 0 where
    integral : is_integer (type_of e) ≡ true
    good : Good e

  number_good : (rule : ℕ) (x : Operand) → Fits x → Holds GoodNumber (number rule x)
  number_good rule x h =
      bind Good GoodNumber (valued rule x) _ (value_good rule x h) (λ e good.
      bind (λ t. type_of e ≡ Integer t) GoodNumber (integer rule e) _ (integer_is rule e) (λ t is.
      given GoodNumber e (record { integral = ap is_integer is; good = good })))

  -- so many bytes of a home are a place
  home_is : (v : Home) (line offset n : ℕ) → is_place (all_sizes scope) n (home_place v line offset) ≡ is_home (all_sizes scope) v offset n
  home_is (homes.Variable v) line offset n = refl
  home_is (homes.Object k) line offset n = refl

  put_good : (line at : ℕ) (v : Home) (offset : ℕ) (a : Structure) → is_home (all_sizes scope) v offset (typed_trees.size_of a) ≡ true → is_structure (all_sizes scope) a ≡ true
      → is_structure (all_sizes scope) (put_value line at v offset a) ≡ true
  put_good line at v offset a h g = and _ _ (home_is v at offset (typed_trees.size_of a) ∙ h) g

  -- a value that has as many bytes as a type
  record GoodStructure (t : CType) (a : Structure) : Type 0 where
    good : is_structure (all_sizes scope) a ≡ true
    size : typed_trees.size_of a ≡ size_of scope.records.done t

  good_structure : (t : CType) (a : Structure) → Fits (structure t a) → GoodStructure t a
  good_structure t a h =
      let parts = both (is_structure (all_sizes scope) a) (typed_trees.size_of a == size_of scope.records.done t) h in
      record { good = parts.0; size = eqb-true (typed_trees.size_of a) (size_of scope.records.done t) parts.1 }

  held : (line : ℕ) (v : Home) (offset : ℕ) (t : CType) → is_home (all_sizes scope) v offset (size_of scope.records.done t) ≡ true → GoodStructure t (held_value v line offset (size_of scope.records.done t))
  held line v offset t h = record { good = home_is v line offset (size_of scope.records.done t) ∙ h; size = refl }

  structure_fits : (t : CType) (a : Structure) → GoodStructure t a → Fits (structure t a)
  structure_fits t a g = and _ _ g.good (eq-eqb (typed_trees.size_of a) (size_of scope.records.done t) g.size)

  record_by : (rule : ℕ) (t u : CType) (a : Structure) (b : Bool) → same_record t u ≡ b → GoodStructure u a → Holds (GoodStructure t) (required rule (if b then Some a else None))
  record_by rule t u a true e g = given (GoodStructure t) a (record { good = g.good; size = g.size ∙ ap (size_of scope.records.done) (sym (one_record t u e)) })
  record_by rule t u a false e g = refused (GoodStructure t) rule

  record_good : (rule : ℕ) (t : CType) (x : Operand) → Fits x → Holds (GoodStructure t) (required rule (record_value scope.records.done t x))
  record_good rule t (value e k) h = refused (GoodStructure t) rule
  record_good rule t (object line v offset u k) h = record_by rule t u (held_value v line offset (size_of scope.records.done u)) (same_record t u) refl (held line v offset u h)
  record_good rule t (structure u a) h = record_by rule t u a (same_record t u) refl (good_structure u a h)

  dropped_good : (x : Operand) → Fits x → Good (dropped scope.records.done x)
  dropped_good (value e k) h = h
  dropped_good (object line v offset t k) h = (held line v offset t h).good
  dropped_good (structure t a) h = (good_structure t a h).good

  used_by : (line : ℕ) (v : Home) (offset : ℕ) (t : CType) (k b : Bool) → Fits (object line v offset t k) → Holds {E = ℕ} Fits (if b then Err 7 else Ok (object line v offset t k))
  used_by line v offset t k true h = refused Fits 7
  used_by line v offset t k false h = given Fits _ h

  used_value : (t : CType) (a : Structure) (b : Bool) → Fits (structure t a) → Holds {E = ℕ} Fits (if b then Err 9 else Ok (structure t a))
  used_value t a true h = refused Fits 9
  used_value t a false h = given Fits _ h

  used_fits : (m w : Bool) (x : Operand) → Fits x → Holds Fits (used m w x)
  used_fits m w (value e k) h = given Fits _ h
  used_fits m w (object line v offset t k) h = used_by line v offset t k ((not m || w) && is_array t) h
  used_fits m w (structure t a) h = used_value t a ((not m || w) && is_array t) h

  -- ---- names and members

  place_fits : (line : ℕ) (v : Home) (offset : ℕ) (t : CType) (k : Bool) → is_home (all_sizes scope) v offset (size_of scope.records.done t) ≡ true → Fits (place_operand line v offset t k)
  place_fits line v offset ctypes.void k h = h
  place_fits line v offset (ctypes.integer t) k h = home_is v line offset (bytes t) ∙ h
  place_fits line v offset (ctypes.aggregate p) k h = h
  place_fits line v offset (ctypes.array element n) k h = h
  place_fits line v offset (ctypes.pointer t c) k h = home_is v line offset 8 ∙ h
  place_fits line v offset (ctypes.function f) k h = h

  -- a whole variable
  variable_within : (done : List Completed) (variables : List Named) (v : ℕ) (n : Named) → slice_get variables v ≡ Some n → is_within (sizes_of done variables) v 0 (size_of done n.type) ≡ true
  variable_within done [] v n e = let no : ⊥ = cc in absurd no
  variable_within done (m ∷ ms) zero n e =
      let same : m ≡ n = cc in
      let long = ap (λ (x : Named). size_of done x.type) same in
      and _ _ (lt-ltb 0 (suc (length (sizes_of done ms))) (omega arith)) (le-leb (0 + size_of done n.type) (size_of done m.type) (omega (arith, long)))
  variable_within done (m ∷ ms) (suc v) n e =
      let rest = variable_within done ms v n e in
      let parts = both (nat_lt v (length (sizes_of done ms))) (nat_le (0 + size_of done n.type) (slice_index (sizes_of done ms) v)) rest in
      let below = ltb-true v (length (sizes_of done ms)) parts.0 in
      and _ _ (lt-ltb (suc v) (suc (length (sizes_of done ms))) (omega (arith, below))) parts.1

  variable_fits : (line v : ℕ) (o : Option Named) → slice_get scope.variables v ≡ o → Holds Fits (variable_node line v o)
  variable_fits line v None e = refused Fits 1
  variable_fits line v (Some n) e = given Fits _ (place_fits line (homes.Variable v) 0 n.type n.constant (variable_within scope.records.done scope.variables v n e))

  -- a whole object, whose type is complete
  object_whole : (done : List Completed) (objects : List ObjectEntry) (i : ℕ) (o : ObjectEntry) → slice_get objects i ≡ Some o → is_incomplete done o ≡ false
      → is_within (map (object_entry_size done) objects) i 0 (size_of done o.named.type) ≡ true
  object_whole done [] i o e c = let no : ⊥ = cc in absurd no
  object_whole done (m ∷ ms) zero o e c =
      let same : m ≡ o = cc in
      let long = ap (object_entry_size done) same ∙ ap (λ (b : Bool). if b then 0 else size_of done o.named.type) c in
      and _ _ (lt-ltb 0 (suc (length (map (object_entry_size done) ms))) (omega arith)) (le-leb (0 + size_of done o.named.type) (object_entry_size done m) (omega (arith, long)))
  object_whole done (m ∷ ms) (suc i) o e c =
      let rest = object_whole done ms i o e c in
      let parts = both (nat_lt i (length (map (object_entry_size done) ms))) (nat_le (0 + size_of done o.named.type) (slice_index (map (object_entry_size done) ms) i)) rest in
      let below = ltb-true i (length (map (object_entry_size done) ms)) parts.0 in
      and _ _ (lt-ltb (suc i) (suc (length (map (object_entry_size done) ms))) (omega (arith, below))) parts.1

  positive : (k : ℕ) → (k == 0) ≡ false → nat_le 1 k ≡ true
  positive zero e = let no : ⊥ = cc in absurd no
  positive (suc k) e = le-leb 1 (suc k) (omega arith)

  object_by : (k : ℕ) (o : ObjectEntry) (none : Bool) → (k == 0) ≡ none → (if none then None else slice_get scope.objects (k - 1)) ≡ Some o → is_incomplete scope.records.done o ≡ false
      → is_home (all_sizes scope) (homes.Object k) 0 (size_of scope.records.done o.named.type) ≡ true
  object_by k o true e found c = let no : ⊥ = cc in absurd no
  object_by k o false e found c = and _ _ (positive k e) (object_whole scope.records.done scope.objects (k - 1) o found c)

  object_entry_by : (line k : ℕ) (o : ObjectEntry) (b : Bool) → object_at scope k ≡ Some o → is_incomplete scope.records.done o ≡ b
      → Holds {E = ℕ} Fits (if b then Err 3 else Ok (place_operand line (homes.Object k) 0 o.named.type o.named.constant))
  object_entry_by line k o true e c = refused Fits 3
  object_entry_by line k o false e c = given Fits _ (place_fits line (homes.Object k) 0 o.named.type o.named.constant (object_by k o (k == 0) refl e c))

  object_entry_fits : (line k : ℕ) (o : Option ObjectEntry) → object_at scope k ≡ o → Holds Fits (object_entry_node scope.records.done line k o)
  object_entry_fits line k None e = refused Fits 1
  object_entry_fits line k (Some o) e = object_entry_by line k o (is_incomplete scope.records.done o) e refl

  function_fits : (line f : ℕ) (o : Option Callable) → Holds Fits (function_node line f o)
  function_fits line f None = refused Fits 1
  function_fits line f (Some c) = given Fits _ refl

  name_fits : (line : ℕ) (o : Option Meaning) → Holds Fits (name_node scope line o)
  name_fits line None = refused Fits 1
  name_fits line (Some (Variable v)) = variable_fits line v (slice_get scope.variables v) refl
  name_fits line (Some (Object k)) = object_entry_fits line k (object_at scope k) refl
  name_fits line (Some Incomplete) = refused Fits 3
  name_fits line (Some Assert) = given Fits _ refl
  name_fits line (Some Assume) = given Fits _ refl
  name_fits line (Some (Draw t)) = given Fits _ refl
  name_fits line (Some (BuiltIn b)) = given Fits _ refl
  name_fits line (Some (Function f)) = function_fits line f (slice_get scope.functions.all f)
  name_fits line (Some (Typedef n)) = refused Fits 7
  name_fits line (Some (Enumerator bits)) = given Fits _ (character_good line bits)
  name_fits line (Some (Record p)) = refused Fits 7
  name_fits line (Some Enumeration) = refused Fits 7

  -- ---- operators

  record_cast_fits : (t : CType) (x : Operand) → Fits x → Holds Fits (cast_record scope.records.done t x)
  record_cast_fits ctypes.void x h = given Fits _ (dropped_good x h)
  record_cast_fits (ctypes.integer t) x h = refused Fits 7
  record_cast_fits (ctypes.aggregate p) x h = refused Fits 7
  record_cast_fits (ctypes.array element n) x h = refused Fits 7
  record_cast_fits (ctypes.pointer t c) x h = refused Fits 7
  record_cast_fits (ctypes.function f) x h = refused Fits 7

  cast_fits : (line : ℕ) (t : CType) (x : Operand) → Fits x → Holds Fits (cast_operand scope.records.done line t x)
  cast_fits line t (value e k) h = computed_fits (cast_node line t e) (cast_good line t e h)
  cast_fits line t (object at v offset u k) h = record_cast_fits t (object at v offset u k) h
  cast_fits line t (structure u a) h = record_cast_fits t (structure u a) h

  unary_fits : (line : ℕ) (op : UnaryOp) (x : Operand) → Fits x → Holds Fits (unary_operand line op x)
  unary_fits line op (value e k) h = computed_fits (unary_node k line op e) (unary_good k line op e h)
  unary_fits line op (object at v offset t k) h = refused Fits 7
  unary_fits line op (structure t a) h = refused Fits 7

  postfix_fits : (line : ℕ) (op : StepOp) (x : Operand) → Fits x → Holds Fits (postfix_operand line op x)
  postfix_fits line op (value e k) h = computed_fits (postfix_node k line op e) (postfix_good k line op e h)
  postfix_fits line op (object at v offset t k) h = refused Fits 7
  postfix_fits line op (structure t a) h = refused Fits 7

  binary_fits : (line : ℕ) (op : BinaryOp) (x y : Operand) → Fits x → Fits y → Holds Fits (binary_operand line op x y)
  binary_fits line op x y h g =
      bind Good Fits (valued 7 x) _ (value_good 7 x h) (λ a good. bind Good Fits (valued 7 y) _ (value_good 7 y g) (λ b fine.
      computed_fits (binary_node line op a b) (binary_good line op a b good fine)))

  choice_record_fits : (line : ℕ) (x : Operand) (t : CType) (a : Structure) (z : Operand) → Fits x → GoodStructure t a → Fits z → Holds Fits (choice_record scope.records.done line x t a z)
  choice_record_fits line x t a z h g f =
      bind GoodNumber Fits (number 7 x) _ (number_good 7 x h) (λ test n.
      bind (GoodStructure t) Fits (required 7 (record_value scope.records.done t z)) _ (record_good 7 t z f) (λ b s.
      given Fits _ (structure_fits t (cores.choose line test a b) (record {
        good = and _ _ (and _ _ (and _ _ (and _ _ n.integral (eq-eqb (typed_trees.size_of a) (typed_trees.size_of b) (g.size ∙ sym s.size))) n.good) g.good) s.good;
        size = g.size;
      }))))

  choice_value_fits : (line : ℕ) (x : Operand) (a : Expression) (z : Operand) → Fits x → Good a → Fits z → Holds Fits (choice_value line x a z)
  choice_value_fits line x a (value b k) h g f =
      bind Good Fits (valued 7 x) _ (value_good 7 x h) (λ test good. computed_fits (choice_node line test a b) (choice_good line test a b good g f))
  choice_value_fits line x a (object at v offset t k) h g f = refused Fits 7
  choice_value_fits line x a (structure t b) h g f = refused Fits 7

  choice_fits : (line : ℕ) (x y z : Operand) → Fits x → Fits y → Fits z → Holds Fits (choice_operand scope.records.done line x y z)
  choice_fits line x (value a k) z h g f = choice_value_fits line x a z h g f
  choice_fits line x (object at v offset t k) z h g f =
      choice_record_fits line x t (held_value v at offset (size_of scope.records.done t)) z h (held at v offset t g) f
  choice_fits line x (structure t a) z h g f = choice_record_fits line x t a z h (good_structure t a g) f

  value_fits : (k : Bool) (line : ℕ) (op : Option BinaryOp) (p : Expression) (y : Operand) → Good p → Fits y → Holds Fits (assign_value k line op p y)
  value_fits k line op p (value e l) h g = computed_fits (assignment_node k line op p e) (assignment_good k line op p e h g)
  value_fits k line None p (object at v offset t l) h g = refused Fits 8
  value_fits k line None p (structure t a) h g = refused Fits 8
  value_fits k line (Some op) p (object at v offset t l) h g = refused Fits 7
  value_fits k line (Some op) p (structure t a) h g = refused Fits 7

  put_by : (line at : ℕ) (v : Home) (offset : ℕ) (t : CType) (a : Structure) (b : Bool) → is_home (all_sizes scope) v offset (size_of scope.records.done t) ≡ true → GoodStructure t a
      → Holds {E = ℕ} Fits (if b then Err 9 else Ok (structure t (put_value line at v offset a)))
  put_by line at v offset t a true h g = refused Fits 9
  put_by line at v offset t a false h g = given Fits _ (structure_fits t (put_value line at v offset a) (record {
    good = put_good line at v offset a (ap (is_home (all_sizes scope) v offset) g.size ∙ h) g.good;
    size = g.size;
  }))

  assign_record_fits : (line at : ℕ) (v : Home) (offset : ℕ) (t : CType) (k : Bool) (y : Operand) → is_home (all_sizes scope) v offset (size_of scope.records.done t) ≡ true → Fits y
      → Holds Fits (assign_record scope line at v offset t k y)
  assign_record_fits line at v offset t k y h f =
      bind (GoodStructure t) Fits (required 8 (record_value scope.records.done t y)) _ (record_good 8 t y f) (λ a g.
      put_by line at v offset t a (k || (members_in scope.members t).constant) h g)

  assign_fits : (line : ℕ) (op : Option BinaryOp) (x y : Operand) → Fits x → Fits y → Holds Fits (assign_operand scope line op x y)
  assign_fits line op (value p k) y h g = value_fits k line op p y h g
  assign_fits line None (object at v offset t k) y h g = assign_record_fits line at v offset t k y h g
  assign_fits line None (structure t a) y h g =
      bind (GoodStructure t) Fits (required 8 (record_value scope.records.done t y)) _ (record_good 8 t y g) (λ b _. refused Fits 9)
  assign_fits line (Some op) (object at v offset t k) y h g = refused Fits 7
  assign_fits line (Some op) (structure t a) y h g = refused Fits 7

  comma_fits : (line : ℕ) (x y : Operand) → Fits x → Fits y → Fits (comma_operand scope.records.done line x y)
  comma_fits line x (value b k) h g = and _ _ (dropped_good x h) g
  comma_fits line x (object at v offset t k) h g =
      structure_fits t (cores.follow line (dropped scope.records.done x) (held_value v at offset (size_of scope.records.done t))) (record { good = and _ _ (dropped_good x h) (held at v offset t g).good; size = (held at v offset t g).size })
  comma_fits line x (structure t b) h g =
      let s = good_structure t b g in
      structure_fits t (cores.follow line (dropped scope.records.done x) b) (record { good = and _ _ (dropped_good x h) s.good; size = s.size })

  -- ---- calls

  abbrev AllFit : List Operand → Type 0
  AllFit xs = list_all (is_typed_operand scope) xs ≡ true

  argument_good : (xs : List Operand) → AllFit xs → Holds GoodNumber (one_integer xs)
  argument_good [] h = refused GoodNumber 10
  argument_good (x ∷ []) h = number_good 8 x (both (is_typed_operand scope x) true h).0
  argument_good (x ∷ y ∷ rest) h = bind (λ (e : Expression). Unit {0}) GoodNumber (number 8 x) _ (λ e same. tt) (λ e _. refused GoodNumber 10)

  draw_good : (xs : List Operand) (e : Expression) → Good e → Holds Good (no_arguments xs e)
  draw_good [] e h = given Good e h
  draw_good (x ∷ rest) e h = refused Good 10

  -- arguments of these parameters, and what is left of all
  record Taken (ts : List CType) (args : Arguments × List Operand) : Type 0 where
    good : are_arguments (all_sizes scope) (map (passed_as scope.records.done) ts) args.0 ≡ true
    others : AllFit args.1

  -- an argument in front of others, of this parameter
  record Takes (t : CType) (a : Arguments → Arguments) : Type 0 where
    before : (ts : List CType) (rest : Arguments) → are_arguments (all_sizes scope) (map (passed_as scope.records.done) ts) rest ≡ true
        → are_arguments (all_sizes scope) (map (passed_as scope.records.done) (t ∷ ts)) (a rest) ≡ true

  number_taken : (t u : IntegerType) (e : Expression) → type_of e ≡ Integer u → Good e → Takes (ctypes.integer t) (cores.number_argument (as_type t e))
  number_taken t u e is h = record {
    before = λ ts rest g. and _ _ (and _ _
        (ap (λ (x : ValueType). same_given (Some (passed.Integer t)) (given_as x)) (type_as t e) ∙ same_integer_refl t)
        (typed_as (all_sizes scope) t u e is h)) g;
  }

  taken_by : (t : IntegerType) (v : ValueType) (e : Expression) → type_of e ≡ v → is_integer v ≡ true → Good e → Takes (ctypes.integer t) (cores.number_argument (as_type t e))
  taken_by t Void e is i h = let none : ⊥ = cc in absurd none
  taken_by t (Integer u) e is i h = number_taken t u e is h

  structure_taken : (p : ℕ) (a : Structure) → GoodStructure (ctypes.aggregate p) a → Takes (ctypes.aggregate p) (cores.structure_argument a)
  structure_taken p a h = record {
    before = λ ts rest g. and _ _ (and _ _ (eq-eqb (size_of scope.records.done (ctypes.aggregate p)) (typed_trees.size_of a) (sym h.size)) h.good) g;
  }

  argument_takes : (t : CType) (x : Operand) → Fits x → Holds (Takes t) (argument_in scope.records.done t x)
  argument_takes ctypes.void x h = refused (Takes ctypes.void) 8
  argument_takes (ctypes.integer t) x h =
      bind GoodNumber (Takes (ctypes.integer t)) (number 8 x) _ (number_good 8 x h) (λ e n.
      given (Takes (ctypes.integer t)) _ (taken_by t (type_of e) e refl n.integral n.good))
  argument_takes (ctypes.aggregate p) x h =
      bind (GoodStructure (ctypes.aggregate p)) (Takes (ctypes.aggregate p)) (required 8 (record_value scope.records.done (ctypes.aggregate p) x)) _ (record_good 8 (ctypes.aggregate p) x h) (λ a g.
      given (Takes (ctypes.aggregate p)) _ (structure_taken p a g))
  argument_takes (ctypes.array element n) x h = refused (Takes (ctypes.array element n)) 8
  argument_takes (ctypes.pointer t c) x h = refused (Takes (ctypes.pointer t c)) 8
  argument_takes (ctypes.function f) x h = refused (Takes (ctypes.function f)) 8

  arguments_taken : (ts : List CType) (xs : List Operand) → AllFit xs → Holds (Taken ts) (arguments_in scope.records.done ts xs)
  arguments_taken [] xs h = given (Taken []) _ (record { good = refl; others = h })
  arguments_taken (t ∷ ts) [] h = refused (Taken (t ∷ ts)) 10
  arguments_taken (t ∷ ts) (x ∷ xs) h =
      let parts = both (is_typed_operand scope x) (list_all (is_typed_operand scope) xs) h in
      bind (Takes t) (Taken (t ∷ ts)) (argument_in scope.records.done t x) _ (argument_takes t x parts.0) (λ a one.
      bind (Taken ts) (Taken (t ∷ ts)) (arguments_in scope.records.done ts xs) _ (arguments_taken ts xs parts.1) (λ rest more.
      given (Taken (t ∷ ts)) _ (record { good = one.before ts rest.0 more.good; others = more.others })))

  abbrev AllGood : List Expression → Type 0
  AllGood es = list_all (is_typed (all_sizes scope)) es ≡ true

  extra_good : (ellipsis : Bool) (xs : List Operand) → AllFit xs → Holds AllGood (extra_arguments ellipsis xs)
  extra_good ellipsis [] h = given AllGood [] refl
  extra_good false (x ∷ xs) h = refused AllGood 10
  extra_good true (x ∷ xs) h =
      let parts = both (is_typed_operand scope x) (list_all (is_typed_operand scope) xs) h in
      bind GoodNumber AllGood (number 8 x) _ (number_good 8 x parts.0) (λ e n.
      bind AllGood AllGood (extra_arguments true xs) _ (extra_good true xs parts.1) (λ es fine. given AllGood _ (and _ _ n.good fine)))

  behind_fits : (line : ℕ) (es : List Expression) (x : Operand) → AllGood es → Fits x → Fits (behind_extra scope.records.done line es x)
  behind_fits line [] x h g = g
  behind_fits line (e ∷ es) x h g =
      let parts = both (is_typed (all_sizes scope) e) (list_all (is_typed (all_sizes scope)) es) h in
      comma_fits line (value e false) (behind_extra scope.records.done line es x) parts.0 (behind_fits line es x parts.1 g)

  -- the signature of a function that is there
  signed : (fs : List Callable) (f : ℕ) (c : Callable) → slice_get fs f ≡ Some c → slice_get (map (signature_of scope.records.done) fs) f ≡ Some (signature_of scope.records.done c)
  signed [] f c e = let no : ⊥ = cc in absurd no
  signed (g ∷ gs) zero c e = let same : g ≡ c = cc in ap (λ (x : Callable). Some (signature_of scope.records.done x)) same
  signed (g ∷ gs) (suc f) c e = signed gs f c e

  any_used : (b : Bool) → (not b || true) ≡ true
  any_used true = refl
  any_used false = refl

  -- ---- trees

  section_fits : (line offset : ℕ) (u : CType) (a : Structure) → is_structure (all_sizes scope) a ≡ true → offset + size_of scope.records.done u ≤ typed_trees.size_of a
      → Fits (structure u (cores.section line offset (size_of scope.records.done u) a))
  section_fits line offset u a h le =
      structure_fits u (cores.section line offset (size_of scope.records.done u) a) (record {
        good = and _ _ (le-leb (offset + size_of scope.records.done u) (typed_trees.size_of a) le) h;
        size = refl;
      })

  size_is_good : (line : ℕ) (r : Result ℕ Fault) → Holds Fits (r >>= λ n. Ok (sized line n))
  size_is_good line (Ok n) = given Fits _ (size_good line n)
  size_is_good line (Err f) = refused Fits f

  -- the operand stays
  sized_fits : (line n : ℕ) (x : Operand) → Fits x → Fits (sized_operand scope.records.done line n x)
  sized_fits line n (value e k) h = and _ _ (lt-ltb (n % 2 ^ 64) (2 ^ 64) (omega arith)) h
  sized_fits line n (object at v offset t k) h = and _ _ (lt-ltb (n % 2 ^ 64) (2 ^ 64) (omega arith)) (held at v offset t h).good
  sized_fits line n (structure t a) h = and _ _ (lt-ltb (n % 2 ^ 64) (2 ^ 64) (omega arith)) (good_structure t a h).good

  sized_is_good : (line : ℕ) (x : Operand) (r : Result ℕ Fault) → Fits x → Holds Fits (r >>= λ n. Ok (sized_operand scope.records.done line n x))
  sized_is_good line x (Ok n) h = given Fits _ (sized_fits line n x h)
  sized_is_good line x (Err f) h = refused Fits f

  operand_good : (line : ℕ) (o : Option (List (List ℕ))) (r : Result Operand Fault) → Holds Fits r → Holds Fits (operand_size line scope.records.done o r)
  operand_good line None (Ok x) h = sized_is_good line x (on_line line (operand_bytes scope.records.done x)) (h x refl)
  operand_good line None (Err f) h = refused Fits f
  operand_good line (Some parts) r h = given Fits _ (size_good line (strings_length parts + 1))

  used_on_fits : (m w : Bool) (line : ℕ) (r : Result Operand Fault) → Holds Fits r → Holds Fits (used_on m w line r)
  used_on_fits m w line r h = bind Fits Fits r _ h (λ x fit. on_same_line Fits line _ (used_fits m w x fit))

  module _ (built : IsBuilt scope.records.done) where
    -- a member lies in the object that it is one of
    object_within : (v : Home) (offset at : ℕ) (t u : CType) (path : List ℕ) → is_home (all_sizes scope) v offset (size_of scope.records.done t) ≡ true
        → part_at scope.records.done offset t path ≡ Some (at, u) → is_home (all_sizes scope) v at (size_of scope.records.done u) ≡ true
    object_within v offset at t u path h e =
        home_part (all_sizes scope) v offset at (size_of scope.records.done t) (size_of scope.records.done u) (part_within scope.records.done built offset t path at u e) h

    part_fits : (line : ℕ) (v : Home) (offset : ℕ) (t : CType) (k : Bool) (path : List ℕ) (o : Option (ℕ × CType)) → is_home (all_sizes scope) v offset (size_of scope.records.done t) ≡ true
        → part_at scope.records.done offset t path ≡ o → Holds Fits (required 11 o >>= λ part. Ok (place_operand line v part.0 part.1 k))
    part_fits line v offset t k path None h e = refused Fits 11
    part_fits line v offset t k path (Some part) h e = given Fits _ (place_fits line v part.0 part.1 k (object_within v offset part.0 t part.1 path h e))

    -- and so does one of a value in it
    part_value_fits : (line offset : ℕ) (u : CType) (a : Structure) → is_structure (all_sizes scope) a ≡ true → offset + size_of scope.records.done u ≤ typed_trees.size_of a
        → Fits (part_operand scope.records.done line offset u a)
    part_value_fits line offset ctypes.void a h le = section_fits line offset ctypes.void a h le
    part_value_fits line offset (ctypes.integer t) a h le = and _ _ (le-leb (offset + bytes t) (typed_trees.size_of a) le) h
    part_value_fits line offset (ctypes.aggregate p) a h le = section_fits line offset (ctypes.aggregate p) a h le
    part_value_fits line offset (ctypes.array element n) a h le = section_fits line offset (ctypes.array element n) a h le
    part_value_fits line offset (ctypes.pointer t c) a h le = and _ _ (le-leb (offset + 8) (typed_trees.size_of a) le) h
    part_value_fits line offset (ctypes.function f) a h le = section_fits line offset (ctypes.function f) a h le

    value_part_fits : (line : ℕ) (t : CType) (a : Structure) (path : List ℕ) (o : Option (ℕ × CType)) → GoodStructure t a
        → part_at scope.records.done 0 t path ≡ o → Holds Fits (required 11 o >>= λ part. Ok (part_operand scope.records.done line part.0 part.1 a))
    value_part_fits line t a path None g e = refused Fits 11
    value_part_fits line t a path (Some part) g e =
        let inner = part_within scope.records.done built 0 t path part.0 part.1 e in
        let whole = g.size in
        given Fits _ (part_value_fits line part.0 part.1 a g.good (omega (arith, inner, whole)))

    member_fits : (line : ℕ) (x : Operand) (n : List ℕ) → Fits x → Holds Fits (member_node scope line x n)
    member_fits line (value e k) n h = refused Fits 11
    member_fits line (object at v offset t k) n h =
        bind (λ (w : List ℕ × Bool). Unit {0}) Fits (required 11 (found (members_in scope.members t).named n)) _ (λ w same. tt) (λ w _.
        part_fits line v offset t (k || w.1) w.0 (part_at scope.records.done offset t w.0) h refl)
    member_fits line (structure t a) n h =
        bind (λ (w : List ℕ × Bool). Unit {0}) Fits (required 11 (found (members_in scope.members t).named n)) _ (λ w same. tt) (λ w _.
        value_part_fits line t a w.0 (part_at scope.records.done 0 t w.0) (good_structure t a h) refl)

    -- a call of a function that is there, which gives this type
    module _ (line f : ℕ) (c : Callable) (there : slice_get scope.functions.all f ≡ Some c) (args : Arguments)
        (taken : are_arguments (all_sizes scope) (map (passed_as scope.records.done) c.type.parameters) args ≡ true) where
      sign : slice_get (all_sizes scope).functions f ≡ Some (signature_of scope.records.done c)
      sign = signed scope.functions.all f c there

      fit : are_arguments (all_sizes scope) (typed_trees.parameters_of (slice_get (all_sizes scope).functions f)) args ≡ true
      fit = ap (λ (o : Option Signature). are_arguments (all_sizes scope) (typed_trees.parameters_of o) args) sign ∙ taken

      gives : (p : Option PassedType) (t : CType) → c.type.gives.type ≡ t → same_given (given_by scope.records.done t) p ≡ true → gives_this p (slice_get (all_sizes scope).functions f) ≡ true
      gives p t is same = ap (gives_this p) sign ∙ ap (λ (u : CType). same_given (given_by scope.records.done u) p) is ∙ same

      given_structure : (wanted : Bool) (t : CType) → given_by scope.records.done t ≡ Some (passed.Structure (size_of scope.records.done t)) → c.type.gives.type ≡ t
          → Holds (λ (n : ℕ). Fits (structure t (cores.give line f wanted (size_of scope.records.done t) args))) (type_size scope.records.done t)
      given_structure wanted t passes is n e =
          let size = size_of scope.records.done t in
          let small = small_sized scope.records.done t built (sized_by scope.records.done t n e) in
          let same = ap (λ (o : Option PassedType). same_given o (Some (passed.Structure size))) passes ∙ eq-eqb size size refl in
          structure_fits t (cores.give line f wanted size args) (record {
            good = and _ _ (and _ _ (lt-ltb size (2 ^ 31) (omega (arith, small))) (gives (Some (passed.Structure size)) t is same)) fit;
            size = refl;
          })

      given_fits : (wanted : Bool) (t : CType) → c.type.gives.type ≡ t → Holds (λ (n : ℕ). Fits (given_operand scope.records.done line f wanted t args)) (given_size scope.records.done t)
      given_fits wanted ctypes.void is n e = and _ _ (and _ _ refl (gives None ctypes.void is refl)) fit
      given_fits wanted (ctypes.integer u) is n e =
          and _ _ (and _ _ (any_used wanted) (gives (Some (passed.Integer u)) (ctypes.integer u) is (same_integer_refl u))) fit
      given_fits wanted (ctypes.aggregate p) is n e = given_structure wanted (ctypes.aggregate p) refl is n e
      given_fits wanted (ctypes.array element k) is n e = given_structure wanted (ctypes.array element k) refl is n e
      given_fits wanted (ctypes.pointer u k) is n e =
          and _ _ (and _ _ (any_used wanted) (gives (Some (passed.Integer types.UnsignedLong)) (ctypes.pointer u k) is refl)) fit
      given_fits wanted (ctypes.function g) is n e = given_structure wanted (ctypes.function g) refl is n e

    function_call_fits : (line f : ℕ) (wanted : Bool) (c : Callable) (xs : List Operand) → slice_get scope.functions.all f ≡ Some c → AllFit xs
        → Holds Fits (function_call scope.records.done line f wanted c.type xs)
    function_call_fits line f wanted c xs there h =
        bind (λ (n : ℕ). (args : Arguments) → are_arguments (all_sizes scope) (map (passed_as scope.records.done) c.type.parameters) args ≡ true → Fits (given_operand scope.records.done line f wanted c.type.gives.type args))
        Fits (given_size scope.records.done c.type.gives.type) _ (λ n e args taken. given_fits line f c there args taken wanted c.type.gives.type refl n e) (λ n gives.
        bind (Taken c.type.parameters) Fits (arguments_in scope.records.done c.type.parameters xs) _ (arguments_taken c.type.parameters xs h) (λ args taken.
        bind AllGood Fits (extra_arguments c.type.ellipsis args.1) _ (extra_good c.type.ellipsis args.1 taken.others) (λ es fine.
        given Fits _ (behind_fits line es _ fine (gives args.0 taken.good)))))

    drawn_or_called_fits : (line f : ℕ) (wanted : Bool) (c : Callable) (o : Option IntegerType) (xs : List Operand) → slice_get scope.functions.all f ≡ Some c → AllFit xs
        → Holds Fits (drawn_or_called scope.records.done line f wanted o c.type xs)
    drawn_or_called_fits line f wanted c None xs there h = function_call_fits line f wanted c xs there h
    drawn_or_called_fits line f wanted c (Some u) xs there h = computed_fits (no_arguments xs (cores.draw line u)) (draw_good xs _ refl)

    callable_fits : (line f : ℕ) (wanted : Bool) (o : Option Callable) (xs : List Operand) → slice_get scope.functions.all f ≡ o → AllFit xs
        → Holds Fits (callable_call scope.records.done line f wanted o xs)
    callable_fits line f wanted None xs there h = refused Fits 10
    callable_fits line f wanted (Some c) xs there h = drawn_or_called_fits line f wanted c c.draws xs there h

    call_fits : (line : ℕ) (wanted : Bool) (m : Meaning) (xs : List Operand) → AllFit xs → Holds Fits (call_node scope line wanted m xs)
    call_fits line wanted (Variable v) xs h = refused Fits 10
    call_fits line wanted (Object k) xs h = refused Fits 10
    call_fits line wanted Incomplete xs h = refused Fits 10
    call_fits line wanted Assert xs h =
        computed_fits (assertion_call line xs) (bind GoodNumber Good (one_integer xs) _ (argument_good xs h) (λ a n. given Good _ (and _ _ n.integral n.good)))
    call_fits line wanted Assume xs h =
        computed_fits (assumption_call line xs) (bind GoodNumber Good (one_integer xs) _ (argument_good xs h) (λ a n. given Good _ (and _ _ n.integral n.good)))
    call_fits line wanted (Draw t) xs h = computed_fits (no_arguments xs (cores.draw line t)) (draw_good xs _ refl)
    call_fits line wanted (BuiltIn b) xs h = refused Fits 10
    call_fits line wanted (Function f) xs h = callable_fits line f wanted (slice_get scope.functions.all f) xs refl h
    call_fits line wanted (Typedef n) xs h = refused Fits 10
    call_fits line wanted (Enumerator bits) xs h = refused Fits 10
    call_fits line wanted (Record p) xs h = refused Fits 10
    call_fits line wanted Enumeration xs h = refused Fits 10

    called_fits : (wanted : Bool) (m : Option (ℕ × Meaning)) (xs : List Operand) → AllFit xs → Holds Fits (called scope wanted m xs)
    called_fits wanted None xs h = refused Fits 10
    called_fits wanted (Some m) xs h = call_fits m.0 wanted m.1 xs h

    mutual
      pub well_typed : (m w : Bool) (t : Tree) → Holds Fits (typed scope m w t)
      well_typed m w (constant line c) = given Fits _ (constant_good line c)
      well_typed m w (character line bits) = given Fits _ (character_good line bits)
      well_typed m w (strings line parts) = refused Fits _
      well_typed m w (name line n) = on_same_line Fits line _ (name_fits line (meaning_of scope.bindings n))
      well_typed m w (parens line e) = well_typed m w e
      well_typed m w (unary line op e) =
          bind Fits Fits (operand_in scope m true e) _ (used_on_fits m true (bare_line e) (typed scope m true e) (well_typed m true e)) (λ x good. on_same_line Fits line _ (unary_fits line op x good))
      well_typed m w (address line e) = refused Fits _
      well_typed m w (dereference line e) = refused Fits _
      well_typed m w (cast line parts d e) =
          bind (λ (t : CType). Unit {0}) Fits (type_name scope parts d (lengths scope m d)) _ (λ t _. tt) (λ t _.
          bind Fits Fits (operand_in scope m (is_wanted t) e) _ (used_on_fits m (is_wanted t) (bare_line e) (typed scope m (is_wanted t) e) (well_typed m (is_wanted t) e)) (λ x good. on_same_line Fits line _ (cast_fits line t x good)))
      well_typed m w (sizeof_expr line e) = operand_good line (strings_of e) (typed scope true true e) (well_typed true true e)
      well_typed m w (sizeof_type line parts d) =
          bind (λ (t : CType). Unit {0}) Fits (type_name scope parts d (lengths scope true d)) _ (λ t _. tt) (λ t _. size_is_good line (on_line line (type_size scope.records.done t)))
      well_typed m w (step line op e) =
          bind Fits Fits (operand_in scope m true e) _ (used_on_fits m true (bare_line e) (typed scope m true e) (well_typed m true e)) (λ x good. on_same_line Fits (first_line e) _ (postfix_fits line op x good))
      well_typed m w (member line e n) =
          bind Fits Fits (operand_in scope m true e) _ (used_on_fits m true (bare_line e) (typed scope m true e) (well_typed m true e)) (λ x good. on_same_line Fits (first_line e) _ (member_fits line x n good))
      well_typed m w (arrow line e n) = refused Fits _
      well_typed m w (subscript line a b) = refused Fits _
      well_typed m w (binary line op a b) =
          bind Fits Fits (operand_in scope m true a) _ (used_on_fits m true (bare_line a) (typed scope m true a) (well_typed m true a)) (λ x good.
          bind Fits Fits (operand_in scope m true b) _ (used_on_fits m true (bare_line b) (typed scope m true b) (well_typed m true b)) (λ y fine.
          on_same_line Fits (first_line a) _ (binary_fits line op x y good fine)))
      well_typed m w (choice line test a b) =
          bind Fits Fits (operand_in scope m true test) _ (used_on_fits m true (bare_line test) (typed scope m true test) (well_typed m true test)) (λ x good.
          bind Fits Fits (operand_in scope m w a) _ (used_on_fits m w (bare_line a) (typed scope m w a) (well_typed m w a)) (λ y fine.
          bind Fits Fits (operand_in scope m w b) _ (used_on_fits m w (bare_line b) (typed scope m w b) (well_typed m w b)) (λ z last.
          on_same_line Fits (first_line test) _ (choice_fits line x y z good fine last))))
      well_typed m w (assign line op a b) =
          bind Fits Fits (operand_in scope m true a) _ (used_on_fits m true (bare_line a) (typed scope m true a) (well_typed m true a)) (λ x good.
          bind Fits Fits (operand_in scope m true b) _ (used_on_fits m true (bare_line b) (typed scope m true b) (well_typed m true b)) (λ y fine.
          on_same_line Fits (first_line a) _ (assign_fits line op x y good fine)))
      well_typed m w (comma line a b) =
          bind Fits Fits (operand_in scope m false a) _ (used_on_fits m false (bare_line a) (typed scope m false a) (well_typed m false a)) (λ x good.
          bind Fits Fits (operand_in scope m w b) _ (used_on_fits m w (bare_line b) (typed scope m w b) (well_typed m w b)) (λ y fine.
          given Fits _ (comma_fits line x y good fine)))
      well_typed m w (call f args) =
          bind (λ (m : Option (ℕ × Meaning)). Unit {0}) Fits (callee scope f (operand_in scope m true f)) _ (λ meaning e. tt) (λ meaning _.
          bind AllFit Fits (typed_arguments scope m args) _ (well_typed_arguments m args) (λ xs good. on_same_line Fits (first_line f) _ (called_fits (is_used f w) meaning xs good)))

      pub well_typed_arguments : (m : Bool) (ts : Trees) → Holds AllFit (typed_arguments scope m ts)
      well_typed_arguments m none = given AllFit [] refl
      well_typed_arguments m (more first rest) =
          bind Fits AllFit (operand_in scope m true first) _ (used_on_fits m true (bare_line first) (typed scope m true first) (well_typed m true first)) (λ x good.
          bind AllFit AllFit (typed_arguments scope m rest) _ (well_typed_arguments m rest) (λ xs fine.
          given AllFit _ (and _ _ good fine)))

    pub well_used : (w : Bool) (t : Tree) → Holds Fits (operand_by scope w t)
    well_used w t = used_on_fits false w (bare_line t) (typed scope false w t) (well_typed false w t)
