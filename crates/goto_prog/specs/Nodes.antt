-- The code of functions without where it lies in memory.
use Rattle.std.specs.Prelude.{ℕ, suc, ◌+◌, Bool, true, List, [], ◌∷◌, map, ◌&&◌}
use Rattle.std.specs.List.{list_all}
use Rattle.c_types.specs.declared.integers.IntegerType.{IntegerType}
use Rattle.goto_prog.specs.declared.code.Instruction.{Instruction}
use Rattle.goto_prog.specs.declared.nodes.Node.{Node, Row_of-Node, end_of-Node, more_of-Node}
use Rattle.goto_prog.specs.declared.nodes.Node as nodes
use Rattle.goto_prog.specs.declared.nodes.Procedure.{Procedure}
use Rattle.goto_prog.specs.Fitting.{operation_fits}

-- nodes in their order: an instruction, or a loop's number and line in a function, whether its first test stands before it, and its code
pub data Nodes : Type 0 where
  done : Nodes
  plain : (instruction : Instruction) (rest : Nodes) → Nodes
  repeats : (line function number : ℕ) (rotated : Bool) (body rest : Nodes) → Nodes

abbrev mutual
  -- a node and those behind it
  pub with_node : Node → Nodes → Nodes
  with_node (nodes.Plain i) rest = plain i rest
  with_node (nodes.Loop' line f n rotated shape body) rest = repeats line f n rotated (view_nodes body) rest

  pub view_nodes : {m : _} → Row_of-Node m → Nodes
  view_nodes end_of-Node = done
  view_nodes (more_of-Node n rest) = with_node n (view_nodes rest)

-- instructions in front of nodes
abbrev pub in_front : List Instruction → Nodes → Nodes
in_front [] rest = rest
in_front (i ∷ code) rest = plain i (in_front code rest)

-- the nodes of a list
abbrev pub nodes_of : List Node → Nodes
nodes_of [] = done
nodes_of (n ∷ ns) = with_node n (nodes_of ns)

abbrev pub node_count : Nodes → ℕ
node_count done = 0
node_count (plain i rest) = node_count rest + 1
node_count (repeats line f n rotated body rest) = node_count rest + 1

-- the code of a function: its name with its line, the types of its registers, the sizes of its blocks, its nodes, and whether a thread can be started in it
pub record Routine : Type 0 where
  pub name : List ℕ
  pub line : ℕ
  pub registers : List IntegerType
  pub blocks : List ℕ
  pub nodes : Nodes
  pub startable : Bool

abbrev pub view_procedure : Procedure → Routine
view_procedure p = record { name = p.name.bytes.items; line = p.line; registers = p.registers.items; blocks = p.blocks.items; nodes = nodes_of p.nodes.items; startable = p.startable }

abbrev pub view_procedures : List Procedure → List Routine
view_procedures procedures = map view_procedure procedures

-- ---- what is true of it: each instruction fits, where behind the nodes come so many places; behind those of a loop comes its next round

abbrev pub nodes_fit : List IntegerType → List ℕ → (behind : ℕ) → Nodes → Bool
nodes_fit registers blocks behind done = true
nodes_fit registers blocks behind (plain i rest) = operation_fits registers blocks (node_count rest + behind) i.operation && nodes_fit registers blocks behind rest
nodes_fit registers blocks behind (repeats line f n rotated body rest) = nodes_fit registers blocks (node_count rest + behind + 1) body && nodes_fit registers blocks behind rest

abbrev pub routine_fits : Routine → Bool
routine_fits p = nodes_fit p.registers p.blocks 0 p.nodes

abbrev pub routines_fit : List Routine → Bool
routines_fit procedures = list_all routine_fits procedures
