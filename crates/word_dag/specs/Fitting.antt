-- The order of a graph as a test: each node's operands are earlier nodes, with fitting widths.
use Rattle.std.specs.Prelude.{ℕ, ◌+◌, ◌^◌, ◌==◌, Bool, true, ◌&&◌, List, [], ◌∷◌, ◌++◌, length, nat_lt, nat_le, slice_index}
use Rattle.std.specs.List.{list_all}
use Rattle.word_dag.specs.declared.nodes.Id.{Id}
use Rattle.word_dag.specs.declared.nodes.Node.{Node}
use Rattle.word_dag.specs.declared.nodes.Node.TheVariants.{Constant, Variable, Not, Negate, Binary, Shift, Compare, Fits, Choice, ZeroExtend, SignExtend, Cut, Join, Quantify}
use Rattle.word_dag.specs.Meaning.{at, places, node_width}

-- a width from 1 to 64
abbrev pub is_width : ℕ → Bool
is_width w = nat_le 1 w && nat_le w 64

-- an earlier node
abbrev pub is_there : List ℕ → Id → Bool
is_there ws a = nat_lt a.index (length ws)

-- two earlier nodes of one width
abbrev pub are_alike : List ℕ → Id → Id → Bool
are_alike ws a b = is_there ws a && is_there ws b && (at ws a == at ws b)

-- so many earlier nodes of width 1, from this place on
abbrev pub are_bits : List ℕ → ℕ → ℕ → Bool
are_bits ws first count = nat_le (first + count) (length ws) && list_all (λ j. slice_index ws j == 1) (places first count)

-- the node fits behind nodes of these widths
abbrev pub fits : List ℕ → Node → Bool
fits ws (Constant bits w) = is_width w && nat_lt bits (2 ^ w)
fits ws (Variable x w) = is_width w
fits ws (Not a) = is_there ws a
fits ws (Negate a) = is_there ws a
fits ws (Binary o a b) = are_alike ws a b
fits ws (Shift s a count) = are_alike ws a count
fits ws (Compare c a b) = are_alike ws a b
fits ws (Fits t a b) = are_alike ws a b
fits ws (Choice c a b) = is_there ws c && (at ws c == 1) && are_alike ws a b
fits ws (ZeroExtend a w) = is_there ws a && nat_le (at ws a) w && nat_le w 64
fits ws (SignExtend a w) = is_there ws a && nat_le (at ws a) w && nat_le w 64
fits ws (Cut a low w) = is_there ws a && nat_le 1 w && nat_le (low + w) (at ws a)
fits ws (Join high low) = is_there ws high && is_there ws low && nat_le (at ws high + at ws low) 64
fits ws (Quantify q first count) = are_bits ws first.index count

-- each node fits behind those before it
abbrev pub are_fitting : List ℕ → List Node → Bool
are_fitting ws [] = true
are_fitting ws (n ∷ ns) = fits ws n && are_fitting (ws ++ node_width ws n ∷ []) ns

abbrev pub is_ordered : List Node → Bool
is_ordered nodes = are_fitting [] nodes
