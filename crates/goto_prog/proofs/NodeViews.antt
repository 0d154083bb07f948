-- The view of a loop, whose nodes are a list in memory, and of the node that is next.
use Rattle.std.proofs.Common.{◌≡◌, ℕ, Bool, true, false, List, [], ◌∷◌, Option, Some, None, refl, ap, subst, ◌∙◌}
use Rattle.std.proofs.lemmas.Bool.{false≢true}
use Rattle.std.specs.Borrow.{Bor}
use Rattle.std.specs.Prelude.{Vec}
use Rattle.std.specs.Global.{Global}
use mathlib.Core.Former.{Count}
use Rattle.goto_prog.specs.declared.code.Instruction.{Instruction}
use Rattle.goto_prog.specs.declared.nodes.Node.{Node, Loop, Loop', Plain, Row_of-Node, end_of-Node, more_of-Node, items-the_row-Node, items_hidden-the_row-Node-0}
use Rattle.goto_prog.specs.declared.nodes.Node as nodes
use Rattle.goto_prog.specs.declared.nodes.Kind.{Kind}
use Rattle.goto_prog.specs.declared.nodes.Kind.TheVariants as kinds
use Rattle.goto_prog.specs.Nodes.{Nodes, done, plain, repeats, with_node, view_nodes, nodes_of}
use Rattle.goto_prog.specs.Kinds.{with_kind, IsFirst}
use Rattle.goto_prog.specs.Structured.{Bounded}
use Rattle.goto_prog.specs.Walking.{instruction_at, next_instruction}

nodes_row : (n : _) (row : Row_of-Node n) → view_nodes row ≡ nodes_of (items-the_row-Node n row)
nodes_row _ end_of-Node = refl
nodes_row _ (more_of-Node i rest) = ap (with_node i) (nodes_row _ rest)

abbrev row_of : Node → (n : Count) × Row_of-Node n
row_of (Loop' line f n rotated shape row) = (_, row)
row_of _ = (_, end_of-Node)

pub view_loop : (line f n : ℕ) (rotated : Bool) (body : Vec Node Global) (rest : Nodes) → with_node (Loop line f n rotated body) rest ≡ repeats line f n rotated (nodes_of body.items) rest
view_loop line f n rotated body rest =
    let row = row_of (Loop line f n rotated body) in
    ap (λ (ns : Nodes). repeats line f n rotated ns rest) (nodes_row row.0 row.1 ∙ ap nodes_of (items_hidden-the_row-Node-0 body))

front_of : Nodes → Option Instruction
front_of (plain i rest) = Some i
front_of _ = None

pub first_is : (n : Node) (rest : List Node) (k : Kind) → ((later : Nodes) → with_node n later ≡ with_kind k later) → IsFirst (Some k) (n ∷ rest)
unfolding front_of
first_is (nodes.Plain i) rest (kinds.Plain j) same = ap front_of (same done)
first_is (nodes.Loop' line f n rotated shape body) rest (kinds.Plain j) same = ap front_of (same done)
first_is n rest (kinds.Loop line f k rotated body) same = same (nodes_of rest)

not_plain : Nodes → Bool
not_plain (plain i rest) = false
not_plain _ = true

-- a loop is next, or no node
pub loop_next : (b : Bounded) (ns : List Node) (line f n : ℕ) (rotated : Bool) (body rest : Nodes) → nodes_of ns ≡ repeats line f n rotated body rest → next_instruction b ns ≡ None
unfolding not_plain
loop_next b [] line f n rotated body rest is = refl
loop_next b (nodes.Plain i ∷ ns) line f n rotated body rest is = absurd (false≢true (ap not_plain is))
loop_next b (nodes.Loop' k g m turned shape inner ∷ ns) line f n rotated body rest is = refl

pub none_next : (b : Bounded) (ns : List Node) → ns ≡ [] → next_instruction b ns ≡ None
none_next b ns is = ap (next_instruction b) is

-- what is first is that node
pub loop_first : (b : Bounded) (ns : List Node) (k : Kind) (line f n : ℕ) (rotated : Bool) (inner : Bor (List Node)) → IsFirst (Some k) ns → k ≡ kinds.Loop line f n rotated inner → next_instruction b ns ≡ None
loop_first b ns k line f n rotated inner first is =
    loop_next b ns line f n rotated _ _ (subst (λ (x : Kind). IsFirst (Some x) ns) is first)

pub plain_first : (ns : List Node) (k : Kind) (i : Instruction) → IsFirst (Some k) ns → k ≡ kinds.Plain i → instruction_at ns ≡ Some i
plain_first ns k i first is = subst (λ (x : Kind). IsFirst (Some x) ns) is first
