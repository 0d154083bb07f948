-- Nodes that are made from their end.
use Rattle.std.proofs.Common.{◌≡◌, List, [], ◌∷◌, ◌++◌, length, refl, ap, ◌∙◌, arith}
use Rattle.std.specs.Prelude.{reverse}
use Rattle.std.proofs.lemmas.List.{reverse-append}
use Rattle.goto_prog.specs.declared.nodes.Node.{Node}
use Rattle.goto_prog.specs.declared.nodes.Node as nodes
use Rattle.goto_prog.specs.Nodes.{Nodes, with_node, nodes_of, node_count}

pub pushed : (ns : List Node) (n : Node) → nodes_of (reverse (ns ++ n ∷ [])) ≡ with_node n (nodes_of (reverse ns))
pushed ns n = ap nodes_of (reverse-append ns (n ∷ []))

pub node_length : (ns : List Node) → node_count (nodes_of ns) ≡ length ns
node_length [] = refl
node_length (nodes.Plain i ∷ ns) = omega (arith, node_length ns)
node_length (nodes.Loop' line f n rotated shape body ∷ ns) = omega (arith, node_length ns)
