-- The width and the value of each node of a word graph. One fold over the nodes gives the widths, one the values: each node's from those of the nodes before it.
use Rattle.std.specs.Prelude.{ℕ, zero, suc, ◌+◌, ◌*◌, ◌^◌, ◌==◌, Bool, List, [], ◌∷◌, ◌++◌, map, nat_lt, bit_and, bit_or, bit_xor, if◌then◌else◌, slice_index}
use Rattle.std.specs.List.{list_all, list_any}
use Rattle.words.specs.Operators.{word_sum, word_difference, word_product, word_negation, word_complement, left_shift, low_bits, unsigned_quotient, unsigned_remainder, logical_shift, signed_quotient, signed_remainder, arithmetic_shift, sign_extension, signed_lt, sum_fits, difference_fits, product_fits, left_shift_fits}
use Rattle.word_dag.specs.declared.nodes.Id.{Id}
use Rattle.word_dag.specs.declared.nodes.Node.{Node}
use Rattle.word_dag.specs.declared.nodes.Node.TheVariants.{Constant, Variable, Not, Negate, Binary, Shift, Compare, Fits, Choice, ZeroExtend, SignExtend, Cut, Join, Quantify}
use Rattle.word_dag.specs.declared.nodes.BinaryOperator.{BinaryOperator}
use Rattle.word_dag.specs.declared.nodes.BinaryOperator.TheVariants.{Add, Subtract, Multiply, UnsignedDivide, SignedDivide, UnsignedRemainder, SignedRemainder, And, Or, Xor}
use Rattle.word_dag.specs.declared.nodes.ShiftKind.{ShiftKind}
use Rattle.word_dag.specs.declared.nodes.ShiftKind.TheVariants.{Left, Logical, Arithmetic}
use Rattle.word_dag.specs.declared.nodes.Comparison.{Comparison}
use Rattle.word_dag.specs.declared.nodes.Comparison.TheVariants.{Equal, UnsignedLess, SignedLess}
use Rattle.word_dag.specs.declared.nodes.FitsTest.{FitsTest}
use Rattle.word_dag.specs.declared.nodes.FitsTest.TheVariants.{Sum, Difference, Product, LeftShift}
use Rattle.word_dag.specs.declared.nodes.Quantifier.{Quantifier}
use Rattle.word_dag.specs.declared.nodes.Quantifier.TheVariants.{All, Any}

-- ---- words and truth values

-- a truth value as a word of width 1
abbrev pub bit_value : Bool → ℕ
bit_value b = if b then 1 else 0

-- a word as a truth value
abbrev pub holds : ℕ → Bool
holds n = nat_lt 0 n

-- the number with `high` above the w bits of `low`
abbrev pub joined : ℕ → ℕ → ℕ → ℕ
joined w high low = high * 2 ^ w + low

-- ---- the operations, at width w

abbrev pub binary_value : BinaryOperator → ℕ → ℕ → ℕ → ℕ
binary_value Add w a b = word_sum w a b
binary_value Subtract w a b = word_difference w a b
binary_value Multiply w a b = word_product w a b
binary_value UnsignedDivide w a b = unsigned_quotient a b
binary_value SignedDivide w a b = signed_quotient w a b
binary_value UnsignedRemainder w a b = unsigned_remainder a b
binary_value SignedRemainder w a b = signed_remainder w a b
binary_value And w a b = bit_and a b
binary_value Or w a b = bit_or a b
binary_value Xor w a b = bit_xor a b

abbrev pub shift_value : ShiftKind → ℕ → ℕ → ℕ → ℕ
shift_value Left w a count = left_shift w a count
shift_value Logical w a count = logical_shift a count
shift_value Arithmetic w a count = arithmetic_shift w a count

abbrev pub comparison_value : Comparison → ℕ → ℕ → ℕ → Bool
comparison_value Equal w a b = a == b
comparison_value UnsignedLess w a b = nat_lt a b
comparison_value SignedLess w a b = signed_lt w a b

abbrev pub fits_value : FitsTest → ℕ → ℕ → ℕ → Bool
fits_value Sum w a b = sum_fits w a b
fits_value Difference w a b = difference_fits w a b
fits_value Product w a b = product_fits w a b
fits_value LeftShift w a count = left_shift_fits w a count

-- ---- lists of truth values

-- so many places, one behind the other
abbrev pub places : ℕ → ℕ → List ℕ
places first zero = []
places first (suc count) = first ∷ places (suc first) count

-- what stands at places; 0 where there is none
abbrev pub at_places : List ℕ → List ℕ → List ℕ
at_places xs js = map (λ j. slice_index xs j) js

-- whether all, or any, of these words are true
abbrev pub quantified : Quantifier → List ℕ → Bool
quantified All words = list_all holds words
quantified Any words = list_any holds words

-- ---- a node, over the nodes before it: their widths ws, their values vs

-- what stands at a node; 0 where there is no node
abbrev pub at : List ℕ → Id → ℕ
at xs i = slice_index xs i.index

abbrev pub node_width : List ℕ → Node → ℕ
node_width ws (Constant bits w) = w
node_width ws (Variable x w) = w
node_width ws (Not a) = at ws a
node_width ws (Negate a) = at ws a
node_width ws (Binary o a b) = at ws a
node_width ws (Shift s a count) = at ws a
node_width ws (Compare c a b) = 1
node_width ws (Fits t a b) = 1
node_width ws (Choice c a b) = at ws a
node_width ws (ZeroExtend a w) = w
node_width ws (SignExtend a w) = w
node_width ws (Cut a low w) = w
node_width ws (Join high low) = at ws high + at ws low
node_width ws (Quantify q first count) = 1

-- v gives the variables their values
abbrev pub node_value : (ℕ → ℕ) → List ℕ → List ℕ → Node → ℕ
node_value v ws vs (Constant bits w) = bits
node_value v ws vs (Variable x w) = low_bits w (v x)
node_value v ws vs (Not a) = word_complement (at ws a) (at vs a)
node_value v ws vs (Negate a) = word_negation (at ws a) (at vs a)
node_value v ws vs (Binary o a b) = binary_value o (at ws a) (at vs a) (at vs b)
node_value v ws vs (Shift s a count) = shift_value s (at ws a) (at vs a) (at vs count)
node_value v ws vs (Compare c a b) = bit_value (comparison_value c (at ws a) (at vs a) (at vs b))
node_value v ws vs (Fits t a b) = bit_value (fits_value t (at ws a) (at vs a) (at vs b))
node_value v ws vs (Choice c a b) = if holds (at vs c) then at vs a else at vs b
node_value v ws vs (ZeroExtend a w) = at vs a
node_value v ws vs (SignExtend a w) = sign_extension (at ws a) w (at vs a)
node_value v ws vs (Cut a low w) = low_bits w (logical_shift (at vs a) low)
node_value v ws vs (Join high low) = joined (at ws low) (at vs high) (at vs low)
node_value v ws vs (Quantify q first count) = bit_value (quantified q (at_places vs (places first.index count)))

-- ---- all nodes

-- the widths ws, and then those of these nodes
abbrev pub widths_from : List ℕ → List Node → List ℕ
widths_from ws [] = ws
widths_from ws (n ∷ ns) = widths_from (ws ++ node_width ws n ∷ []) ns

-- the values vs of nodes of widths ws, and then those of these nodes
abbrev pub values_from : (ℕ → ℕ) → List ℕ → List ℕ → List Node → List ℕ
values_from v ws vs [] = vs
values_from v ws vs (n ∷ ns) = values_from v (ws ++ node_width ws n ∷ []) (vs ++ node_value v ws vs n ∷ []) ns

abbrev pub widths : List Node → List ℕ
widths nodes = widths_from [] nodes

abbrev pub values : (ℕ → ℕ) → List Node → List ℕ
values v nodes = values_from v [] [] nodes

-- ---- one node of a graph

abbrev pub width : List Node → Id → ℕ
width nodes i = at (widths nodes) i

abbrev pub value : (ℕ → ℕ) → List Node → Id → ℕ
value v nodes i = at (values v nodes) i

-- the valuation that gives the variables from 0 on these values, and 0 to every other
abbrev pub valuation_of : List ℕ → ℕ → ℕ
valuation_of values variable = slice_index values variable
