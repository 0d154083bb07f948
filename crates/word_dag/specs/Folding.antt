-- What is folded when a node is made: an operation on constants, and a choice by a constant. A node over a list is not.
use Rattle.std.specs.Prelude.{Bool, true, false, ◌&&◌, List, slice_index_or}
use Rattle.word_dag.specs.declared.nodes.Id.{Id}
use Rattle.word_dag.specs.declared.nodes.Node.{Node}
use Rattle.word_dag.specs.declared.nodes.Node.TheVariants.{Constant, Variable, Not, Negate, Binary, Shift, Compare, Fits, Choice, ZeroExtend, SignExtend, Cut, Join, Quantify}

abbrev pub is_literal : Node → Bool
is_literal (Constant bits w) = true
is_literal _ = false

-- the node of the graph is a constant
abbrev pub is_constant : List Node → Id → Bool
is_constant d i = is_literal (slice_index_or d i.index (Variable 0 0))

-- an operation, other than a choice or one over a list, of which each operand is a constant
abbrev pub folds : List Node → Node → Bool
folds d (Constant bits w) = false
folds d (Variable x w) = false
folds d (Not a) = is_constant d a
folds d (Negate a) = is_constant d a
folds d (Binary o a b) = is_constant d a && is_constant d b
folds d (Shift s a count) = is_constant d a && is_constant d count
folds d (Compare c a b) = is_constant d a && is_constant d b
folds d (Fits t a b) = is_constant d a && is_constant d b
folds d (Choice c a b) = false
folds d (ZeroExtend a w) = is_constant d a
folds d (SignExtend a w) = is_constant d a
folds d (Cut a low w) = is_constant d a
folds d (Join high low) = is_constant d high && is_constant d low
folds d (Quantify q first count) = false

-- a choice by a constant
abbrev pub chooses : List Node → Node → Bool
chooses d (Choice c a b) = is_constant d c
chooses d _ = false
