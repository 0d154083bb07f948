-- Code without operations on pointers: the objects that it reads and writes are static ones, which it names by their numbers, and it makes none.
use Rattle.std.specs.Prelude.{Bool, true, false, ◌&&◌, List}
use Rattle.std.specs.List.{list_all}
use Rattle.goto_prog.specs.declared.code.Condition.{Condition}
use Rattle.goto_prog.specs.declared.code.Condition.TheVariants as checks
use Rattle.goto_prog.specs.declared.code.Operation.{Operation}
use Rattle.goto_prog.specs.declared.code.Operation.TheVariants as operations
use Rattle.goto_prog.specs.declared.code.Instruction.{Instruction}
use Rattle.goto_prog.specs.Nodes.{Nodes, done, plain, repeats, Routine}

abbrev pub is_static_check : Condition → Bool
is_static_check (checks.Divisor b) = true
is_static_check (checks.Quotient t a b) = true
is_static_check (checks.Range op t a b) = true
is_static_check (checks.Negation t a) = true
is_static_check (checks.Count t u a) = true
is_static_check (checks.LeftShift t u a b) = true
is_static_check (checks.Returned a) = true
is_static_check (checks.Within p i t n size class) = false
is_static_check (checks.SameObject p q) = false
is_static_check (checks.Inside p count whole) = false
is_static_check (checks.AtMost a b most) = false

abbrev pub is_static : Operation → Bool
is_static (operations.Move r p i t n size class) = false
is_static (operations.Offset r p count) = false
is_static (operations.Same p q) = false
is_static (operations.Distance r p q n) = false
is_static (operations.Relate r op p q) = false
is_static (operations.Take b to from p count whole) = false
is_static (operations.Put b p from to count whole) = false
is_static (operations.Read b to p count) = false
is_static (operations.Write p b from count first) = false
is_static (operations.Look r p subscript) = false
is_static (operations.Fill b r) = false
is_static (operations.Alloc r b size readonly heap) = false
is_static (operations.Die p) = false
is_static (operations.Free p) = false
is_static (operations.MayFail r) = false
is_static (operations.Limit a b) = false
is_static (operations.Check c) = is_static_check c
is_static _ = true

abbrev pub is_static_code : List Instruction → Bool
is_static_code code = list_all (λ (i : Instruction). is_static i.operation) code

abbrev pub are_static_nodes : Nodes → Bool
are_static_nodes done = true
are_static_nodes (plain i rest) = is_static i.operation && are_static_nodes rest
are_static_nodes (repeats line f n rotated body rest) = are_static_nodes body && are_static_nodes rest

abbrev pub are_static : List Routine → Bool
are_static functions = list_all (λ (p : Routine). are_static_nodes p.nodes) functions
