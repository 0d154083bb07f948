-- What the node that is next is.
use Rattle.std.specs.Prelude.{◌≡◌, List, [], Option, Some, None}
use Rattle.goto_prog.specs.declared.nodes.Node.{Node}
use Rattle.goto_prog.specs.declared.nodes.Kind.{Kind}
use Rattle.goto_prog.specs.declared.nodes.Kind.TheVariants as kinds
use Rattle.goto_prog.specs.Nodes.{Nodes, plain, repeats, nodes_of}
use Rattle.goto_prog.specs.Walking.{instruction_at, nodes_behind}

abbrev pub with_kind : Kind → Nodes → Nodes
with_kind (kinds.Plain i) rest = plain i rest
with_kind (kinds.Loop line f n rotated nodes) rest = repeats line f n rotated (nodes_of nodes.now) rest

abbrev pub IsFirst : Option Kind → List Node → Type 0
IsFirst None ns = ns ≡ []
IsFirst (Some (kinds.Plain i)) ns = instruction_at ns ≡ Some i
IsFirst (Some (kinds.Loop line f n rotated nodes)) ns = nodes_of ns ≡ repeats line f n rotated (nodes_of nodes.now) (nodes_of (nodes_behind ns))
