-- Integer constant expressions (C11 6.6p3, p6).
use Rattle.std.specs.Prelude.{ℕ, ◌%◌, ◌^◌, Bool, true, false, not, ◌&&◌, Option, Some, None, option_map, if◌then◌else◌}
use Rattle.std.specs.Option.{option_and_then}
use Rattle.words.specs.declared.check.Class.{Class}
use Rattle.c_types.specs.declared.integers.IntegerType.TheVariants as types
use Rattle.c_types.specs.Integers.{width}
use Rattle.core_tree.specs.declared.operators.ArithmeticOperator.{ArithmeticOperator}
use Rattle.core_tree.specs.declared.operators.Comparison.{Comparison}
use Rattle.core_tree.specs.declared.operators.Comparison.TheVariants as comparisons
use Rattle.core_tree.specs.declared.operators.LogicalOperator.{LogicalOperator}
use Rattle.core_tree.specs.declared.operators.LogicalOperator.TheVariants as logicals
use Rattle.core_tree.specs.declared.operators.SignOperator.{SignOperator}
use Rattle.core_tree.specs.Operations.{converted, is_true, truth_bits, arithmetic_check, arithmetic_value, sign_check, sign_value, compared}
use Rattle.core_tree.specs.Trees.{Expression, constant, read, convert, sign, is_zero, arithmetic, compare, logical, choice, assign, update, step, comma, assertion, assumption, draw, part, discard, discard_structure, call, function_name, size_of_value, size_of_structure, address, sum, distance, relation, pointer_update, pointer_step, allocate, allocate_zeroed, release, exit, abort}
use Rattle.c_values.specs.Numbers.{TypedNumber, typed, same_width, are_operands_of}

-- no variable, assignment or call stands in it, not even where it isn't evaluated, but for the operand of `sizeof`; a comma stands in it only where it isn't evaluated
abbrev pub is_constant_form : Expression → Bool
is_constant_form (constant line t bits) = true
is_constant_form (read t p) = false
is_constant_form (convert to e) = is_constant_form e
is_constant_form (sign line op e) = is_constant_form e
is_constant_form (is_zero line e) = is_constant_form e
is_constant_form (arithmetic line op a b) = is_constant_form a && is_constant_form b
is_constant_form (compare line op a b) = is_constant_form a && is_constant_form b
is_constant_form (logical line op a b) = is_constant_form a && is_constant_form b
is_constant_form (choice line test a b) = is_constant_form test && is_constant_form a && is_constant_form b
is_constant_form (assign line t p e) = false
is_constant_form (update line t p op u e) = false
is_constant_form (step line t p op before) = false
is_constant_form (comma line a b) = is_constant_form a && is_constant_form b
is_constant_form (assertion line e) = false
is_constant_form (assumption line e) = false
is_constant_form (draw line t) = false
is_constant_form (part line t offset a) = false
is_constant_form (discard line e) = false
is_constant_form (discard_structure a) = false
is_constant_form (call line f used t args) = false
is_constant_form (function_name line) = false
is_constant_form (size_of_value line bits e) = true
is_constant_form (size_of_structure line bits a) = true
is_constant_form (address line p) = false
is_constant_form (sum line a e n swapped) = false
is_constant_form (distance line a b n) = false
is_constant_form (relation line op a b) = false
is_constant_form (pointer_update line p n e) = false
is_constant_form (pointer_step line p n before) = false
is_constant_form (allocate line e) = false
is_constant_form (allocate_zeroed line a b) = false
is_constant_form (release line e) = false
is_constant_form (exit line e) = false
is_constant_form (abort line) = false

-- a result, where no check breaks
abbrev pub unbroken : Option Class → TypedNumber → Option TypedNumber
unbroken None n = Some n
unbroken (Some c) n = None

abbrev pub truth : Bool → TypedNumber
truth b = typed types.Int (truth_bits b)

abbrev pub signed : SignOperator → TypedNumber → Option TypedNumber
signed op n = unbroken (sign_check op n.type n.bits) (typed n.type (sign_value op n.type n.bits))

-- operands of one width, but for shifts
abbrev pub operated : ArithmeticOperator → TypedNumber → TypedNumber → Option TypedNumber
operated op m n =
    if are_operands_of op m.type n.type then unbroken (arithmetic_check op m.type n.type m.bits n.bits) (typed m.type (arithmetic_value op m.type m.bits n.bits)) else None

abbrev pub related : Comparison → TypedNumber → TypedNumber → Option TypedNumber
related op m n = if same_width m.type n.type then Some (truth (compared op m.type m.bits n.bits)) else None

-- the right operand counts only where the left one doesn't decide
abbrev pub connected : LogicalOperator → TypedNumber → Option TypedNumber → Option TypedNumber
connected logicals.And m n = if is_true m.bits then option_map (λ x. truth (is_true x.bits)) n else Some (truth false)
connected logicals.Or m n = if is_true m.bits then Some (truth true) else option_map (λ x. truth (is_true x.bits)) n

-- the value of an expression; none where a check breaks, which doesn't count where it isn't evaluated
abbrev pub value_of : Expression → Option TypedNumber
value_of (constant line t bits) = Some (typed t (bits % 2 ^ width t))
value_of (read t p) = None
value_of (convert to e) = option_map (λ n. typed to (converted n.type to n.bits)) (value_of e)
value_of (sign line op e) = option_and_then (signed op) (value_of e)
value_of (is_zero line e) = option_map (λ n. truth (not (is_true n.bits))) (value_of e)
value_of (arithmetic line op a b) = option_and_then (λ m. option_and_then (operated op m) (value_of b)) (value_of a)
value_of (compare line op a b) = option_and_then (λ m. option_and_then (related op m) (value_of b)) (value_of a)
value_of (logical line op a b) = option_and_then (λ m. connected op m (value_of b)) (value_of a)
value_of (choice line test a b) = option_and_then (λ n. if is_true n.bits then value_of a else value_of b) (value_of test)
value_of (assign line t p e) = None
value_of (update line t p op u e) = None
value_of (step line t p op before) = None
value_of (comma line a b) = None
value_of (assertion line e) = None
value_of (assumption line e) = None
value_of (draw line t) = None
value_of (part line t offset a) = None
value_of (discard line e) = None
value_of (discard_structure a) = None
value_of (call line f used t args) = None
value_of (function_name line) = None
value_of (size_of_value line bits e) = Some (typed types.UnsignedLong (bits % 2 ^ 64))
value_of (size_of_structure line bits a) = Some (typed types.UnsignedLong (bits % 2 ^ 64))
value_of (address line p) = None
value_of (sum line a e n swapped) = None
value_of (distance line a b n) = None
value_of (relation line op a b) = None
value_of (pointer_update line p n e) = None
value_of (pointer_step line p n before) = None
value_of (allocate line e) = None
value_of (allocate_zeroed line a b) = None
value_of (release line e) = None
value_of (exit line e) = None
value_of (abort line) = None

-- the value of an integer constant expression
abbrev pub constant_of : Expression → Option TypedNumber
constant_of e = if is_constant_form e then value_of e else None

abbrev pub is_negative : TypedNumber → Bool
is_negative n = compared comparisons.Less n.type n.bits 0

-- how many elements a bound says: a negative one is as little one as 0
abbrev pub stated_length : TypedNumber → ℕ
stated_length n = if is_negative n then 0 else n.bits
