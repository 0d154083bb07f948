-- Nodes that stand for the nodes of a graph, under the valuations that give each known variable the value of its node.
use Rattle.std.specs.Prelude.{◌≡◌, ℕ, ◌<◌, ◌≤◌, List, length, slice_index_or, Option, IfSome}
use Rattle.std.specs.Ordering.{nat_cmp}
use Rattle.std.specs.BTreeMap as tree
use Rattle.words.specs.Operators.{low_bits}
use Rattle.word_dag.specs.declared.nodes.Id.{Id}
use Rattle.word_dag.specs.declared.nodes.Node.{Node}
use Rattle.word_dag.specs.declared.nodes.Node.TheVariants.{Constant, Variable, Not, Negate, Binary, Shift, Compare, Fits, Choice, ZeroExtend, SignExtend, Cut, Join, Quantify}
use Rattle.word_dag.specs.Meaning.{width, value}
use Rattle.word_dag.specs.Growth.{Within}
use Rattle.rewritten_nodes.specs.declared.known.Known.{Known}

-- the node that stands for a node, which is itself where the list doesn't reach it
abbrev pub image : List Id → Id → Id
image ids a = slice_index_or ids a.index a

-- the node over those that stand for its operands; one over a list as it is
abbrev pub over : List Id → Node → Node
over ids (Constant bits w) = Constant bits w
over ids (Variable x w) = Variable x w
over ids (Not a) = Not (image ids a)
over ids (Negate a) = Negate (image ids a)
over ids (Binary o a b) = Binary o (image ids a) (image ids b)
over ids (Shift s a count) = Shift s (image ids a) (image ids count)
over ids (Compare c a b) = Compare c (image ids a) (image ids b)
over ids (Fits t a b) = Fits t (image ids a) (image ids b)
over ids (Choice c a b) = Choice (image ids c) (image ids a) (image ids b)
over ids (ZeroExtend a w) = ZeroExtend (image ids a) w
over ids (SignExtend a w) = SignExtend (image ids a) w
over ids (Cut a low w) = Cut (image ids a) low w
over ids (Join high low) = Join (image ids high) (image ids low)
over ids (Quantify q first count) = Quantify q first count

-- the node of a known variable
abbrev pub known_at : Known → ℕ → Option Id
known_at k x = tree.get nat_cmp k.nodes x

-- the first nodes of the graph have nodes of it that stand for them, of the same widths, and known variables have nodes of it
pub record KnownIn (d : List Node) (k : Known) : Type 0 where
  pub size : length k.ids.items ≤ length d
  pub there : (a : Id) → a.index < length k.ids.items → Within d (image k.ids.items a)
  pub widths : (a : Id) → a.index < length k.ids.items → width d (image k.ids.items a) ≡ width d a
  pub nodes : (x : ℕ) → IfSome (known_at k x) (Within d)

-- v gives each known variable the value of its node, cut to its width, and the nodes that stand for others have their values
pub record Agrees (v : ℕ → ℕ) (d : List Node) (k : Known) : Type 0 where
  pub images : (a : Id) → a.index < length k.ids.items → value v d (image k.ids.items a) ≡ value v d a
  pub nodes : (x : ℕ) → IfSome (known_at k x) (λ i. value v d i ≡ low_bits (width d i) (v x))
