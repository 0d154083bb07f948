-- How many objects code makes at most: how many Allocs it has, where loops and calls are copied as often as bounds let them be done.
use Rattle.std.specs.Prelude.{ℕ, zero, suc, ◌+◌, ◌*◌, ◌==◌, false, List, [], ◌∷◌, Option, Some, None, slice_get, slice_index, if◌then◌else◌}
use Rattle.core_tree.specs.Ranges.{Limits}
use Rattle.goto_prog.specs.declared.code.Operation.{Operation}
use Rattle.goto_prog.specs.declared.code.Operation.TheVariants as operations
use Rattle.goto_prog.specs.declared.code.Instruction.{Instruction}
use Rattle.goto_prog.specs.Nodes.{Nodes, done, plain, repeats, Routine}
use Rattle.goto_prog.specs.Structured.{Bounded, tests, round_count, opened, first_left, first_fuel}
use Rattle.goto_prog.specs.GotoThreads.{GotoFile, bounded_file}

-- ---- code without loops and calls

abbrev pub own_allocations : Operation → ℕ
own_allocations (operations.Alloc r b size readonly heap) = 1
own_allocations _ = 0

abbrev pub code_allocations : List Instruction → ℕ
code_allocations [] = 0
code_allocations (i ∷ code) = own_allocations i.operation + code_allocations code

-- ---- code with loops and calls, by how many a call of each function makes

abbrev pub operation_allocations : (calls : ℕ → ℕ) → Operation → ℕ
operation_allocations calls (operations.Call g first count into r) = calls g
operation_allocations calls o = own_allocations o

module _ (b : Bounded) (calls : ℕ → ℕ) where
  abbrev pub nodes_allocations : Nodes → ℕ
  nodes_allocations done = 0
  nodes_allocations (plain i rest) = operation_allocations calls i.operation + nodes_allocations rest
  nodes_allocations (repeats line f n rotated body rest) = round_count rotated (tests b f n) * nodes_allocations body + nodes_allocations rest

  abbrev pub routine_allocations : Option Routine → ℕ
  routine_allocations None = 0
  routine_allocations (Some p) = nodes_allocations p.nodes

-- a call of each function, where so many activations of each may still be opened; `fuel` is more than may be opened of all together
abbrev pub call_allocations : Bounded → (fuel : ℕ) (left : List ℕ) → ℕ → ℕ
call_allocations b zero left g = 0
call_allocations b (suc fuel) left g = if slice_index left g == 0 then 0 else routine_allocations b (call_allocations b fuel (opened left g)) (slice_get b.functions g)

-- a program: what a call of its first function makes while no activation is open
abbrev pub allocations : GotoFile → Limits → ℕ
allocations g limits = let b = bounded_file false g limits in call_allocations b (first_fuel b) (first_left b) g.main
