-- The flat code of structured code under the bounds of a command: loops are copied as often as they may go on, calls are replaced by the code of what they call, each with registers and blocks of its own. All jumps lead forward.
use Rattle.std.specs.Prelude.{ℕ, zero, suc, ◌+◌, ◌-◌, ◌==◌, min, Bool, true, false, List, [], ◌∷◌, ◌++◌, length, drop, Option, Some, None, slice_get, slice_index, if◌then◌else◌}
use Rattle.words.specs.declared.check.Class.{Class}
use Rattle.words.specs.declared.check.Class.TheVariants.{Unwind, Recursion}
use Rattle.c_types.specs.declared.integers.IntegerType.{IntegerType}
use Rattle.c_types.specs.declared.integers.IntegerType.TheVariants.{Int}
use Rattle.goto_prog.specs.declared.code.Condition.{Condition}
use Rattle.goto_prog.specs.declared.code.Condition.TheVariants as checks
use Rattle.goto_prog.specs.declared.code.Operation.{Operation}
use Rattle.goto_prog.specs.declared.code.Operation.TheVariants as operations
use Rattle.goto_prog.specs.declared.code.Instruction.{Instruction}
use Rattle.goto_prog.specs.Nodes.{Nodes, done, plain, repeats, Routine}
use Rattle.goto_prog.specs.Structured.{Bounded, resolved, tests, round_count, opened}

-- the types of the registers and the sizes of the blocks so far
pub record Space : Type 0 where
  pub registers : List IntegerType
  pub blocks : List ℕ

-- the register 0 stays 0
abbrev pub first_space : Space
first_space = record { registers = Int ∷ []; blocks = [] }

-- with those of a function behind them
abbrev pub with_frame : Space → Routine → Space
with_frame s p = record { registers = s.registers ++ p.registers; blocks = s.blocks ++ p.blocks }

-- where a function that is called hands over: a block of so many bytes, and a register that tells whether anything is handed over
pub record Handing : Type 0 where
  pub block : ℕ
  pub size : ℕ
  pub register : ℕ

-- an activation: its function with its first register and block, where it hands over, if its caller takes anything, and how many places lie behind the one where it goes on at its end
pub record Site : Type 0 where
  pub routine : Routine
  pub register : ℕ
  pub block : ℕ
  pub hands : Option Handing
  pub back : ℕ

-- code with the places of nodes: of each how many places lie behind it; and the registers and blocks up to there
pub record Piece : Type 0 where
  pub code : List Instruction
  pub marks : List ℕ
  pub space : Space

abbrev pub piece : List Instruction → List ℕ → Space → Piece
piece code marks space = record { code = code; marks = marks; space = space }

abbrev pub at : (line function : ℕ) → Operation → Instruction
at line f o = record { line = line; function = f; operation = o }

-- a jump from in front of code to a place behind which so many lie
abbrev pub jump : List Instruction → ℕ → ℕ
jump code mark = length code - mark

abbrev pub renumbered_check : (register : ℕ) → Condition → Condition
renumbered_check r (checks.Divisor b) = checks.Divisor (r + b)
renumbered_check r (checks.Quotient t a b) = checks.Quotient t (r + a) (r + b)
renumbered_check r (checks.Range op t a b) = checks.Range op t (r + a) (r + b)
renumbered_check r (checks.Negation t a) = checks.Negation t (r + a)
renumbered_check r (checks.Count t u a) = checks.Count t u (r + a)
renumbered_check r (checks.LeftShift t u a b) = checks.LeftShift t u (r + a) (r + b)
renumbered_check r (checks.Returned a) = checks.Returned (r + a)
renumbered_check r (checks.Within p i t n size class) = checks.Within (r + p) (r + i) t n (r + size) class
renumbered_check r (checks.SameObject p q) = checks.SameObject (r + p) (r + q)
renumbered_check r (checks.Inside p count whole) = checks.Inside (r + p) count whole
renumbered_check r (checks.AtMost x y most) = checks.AtMost (r + x) (r + y) most

-- an operation on the registers and blocks of an activation, which begin with these
abbrev pub renumbered : (register block : ℕ) → Operation → Operation
renumbered r b (operations.Constant into bits) = operations.Constant (r + into) bits
renumbered r b (operations.Copy into a) = operations.Copy (r + into) (r + a)
renumbered r b (operations.Load into t block offset) = operations.Load (r + into) t (b + block) offset
renumbered r b (operations.Store block offset count a) = operations.Store (b + block) offset count (r + a)
renumbered r b (operations.Clear block size) = operations.Clear (b + block) size
renumbered r b (operations.CopyBytes into to from offset count) = operations.CopyBytes (b + into) to (b + from) offset count
renumbered r b (operations.Convert into from to a) = operations.Convert (r + into) from to (r + a)
renumbered r b (operations.Sign into op t a) = operations.Sign (r + into) op t (r + a)
renumbered r b (operations.Arithmetic into op t u x y) = operations.Arithmetic (r + into) op t u (r + x) (r + y)
renumbered r b (operations.Compare into op t x y) = operations.Compare (r + into) op t (r + x) (r + y)
renumbered r b (operations.IsZero into a) = operations.IsZero (r + into) (r + a)
renumbered r b (operations.Check c) = operations.Check (renumbered_check r c)
renumbered r b (operations.Assert a) = operations.Assert (r + a)
renumbered r b (operations.Assume a) = operations.Assume (r + a)
renumbered r b (operations.Draw into bits) = operations.Draw (r + into) bits
renumbered r b (operations.ReadObject block to k offset count) = operations.ReadObject (b + block) to k offset count
renumbered r b (operations.WriteObject k offset block from count) = operations.WriteObject k offset (b + block) from count
renumbered r b (operations.Use a) = operations.Use (r + a)
renumbered r b (operations.Move into p i t n size class) = operations.Move (r + into) (r + p) (r + i) t n (r + size) class
renumbered r b (operations.Offset into p count) = operations.Offset (r + into) (r + p) count
renumbered r b (operations.Same p q) = operations.Same (r + p) (r + q)
renumbered r b (operations.Distance into p q n) = operations.Distance (r + into) (r + p) (r + q) n
renumbered r b (operations.Relate into op p q) = operations.Relate (r + into) op (r + p) (r + q)
renumbered r b (operations.Take block to from p count whole) = operations.Take (b + block) to (b + from) (r + p) count whole
renumbered r b (operations.Put block p from to count whole) = operations.Put (b + block) (r + p) (b + from) to count whole
renumbered r b (operations.Read block to p count) = operations.Read (b + block) to (r + p) count
renumbered r b (operations.Write p block from count first) = operations.Write (r + p) (b + block) from count first
renumbered r b (operations.Look into p subscript) = operations.Look (r + into) (r + p) subscript
renumbered r b (operations.Fill block count) = operations.Fill (b + block) (r + count)
renumbered r b (operations.Alloc into block size readonly heap) = operations.Alloc (r + into) (b + block) (r + size) readonly heap
renumbered r b (operations.Die p) = operations.Die (r + p)
renumbered r b (operations.Free p) = operations.Free (r + p)
renumbered r b o = o

-- an operation on pointers, with objects that are read and written through them, made and ended
abbrev pub on_pointers : Operation → Bool
on_pointers (operations.Move into p i t n size class) = true
on_pointers (operations.Offset into p count) = true
on_pointers (operations.Same p q) = true
on_pointers (operations.Distance into p q n) = true
on_pointers (operations.Relate into op p q) = true
on_pointers (operations.Take block to from p count whole) = true
on_pointers (operations.Put block p from to count whole) = true
on_pointers (operations.Read block to p count) = true
on_pointers (operations.Write p block from count first) = true
on_pointers (operations.Look into p subscript) = true
on_pointers (operations.Fill block count) = true
on_pointers (operations.Alloc into block size readonly heap) = true
on_pointers (operations.Die p) = true
on_pointers (operations.Free p) = true
on_pointers _ = false

-- passing a bound breaks a class, or blocks by the register that stays 0
abbrev pub passed_code : Bool → Class → (line function : ℕ) → Instruction
passed_code assertions class line f = at line f (if assertions then operations.Fail class else operations.Assume 0)

-- what a function hands over by its end: nothing, or the bytes of a block
abbrev pub hand_code : Site → (line function : ℕ) → Option ℕ → List Instruction
hand_code site line f value = hand_by site.hands value
  where
    hand_by : Option Handing → Option ℕ → List Instruction
    hand_by None v = []
    hand_by (Some h) None = at line f (operations.Constant h.register 0) ∷ []
    hand_by (Some h) (Some v) =
        at line f (operations.CopyBytes h.block 0 (site.block + v) 0 (min h.size (slice_index site.routine.blocks v)))
        ∷ at line f (operations.Constant h.register 1)
        ∷ []

-- the arguments, from the blocks of the caller from one on, into the first blocks of the function that is called
abbrev pub argument_code : (line function : ℕ) → (callers : List ℕ) (from : ℕ) (count : ℕ) → (sizes : List ℕ) (into : ℕ) → List Instruction
argument_code line f callers from zero sizes into = []
argument_code line f callers from (suc count) [] into = []
argument_code line f [] from (suc count) (size ∷ sizes) into = []
argument_code line f (c ∷ callers) from (suc count) (size ∷ sizes) into =
    at line f (operations.CopyBytes into 0 from 0 (min size c)) ∷ argument_code line f callers (from + 1) count sizes (into + 1)

-- what stands for a call in front of code, of a function by its number, in an activation of another
abbrev pub Inline : Type 0
Inline = (caller : Site) (line function callee first count into register : ℕ) → List Instruction → Space → Piece

module _ (b : Bounded) (inline : Inline) where
  -- the code of rounds of a loop: one after the other, and behind the last the loop's bound
  abbrev pub round_codes : (line function : ℕ) → ((again : ℕ) → List Instruction → Space → Piece) → ℕ → List Instruction → Space → Piece
  round_codes line f round zero rest space = piece (passed_code b.limits.assertions Unwind line f ∷ rest) [] space
  round_codes line f round (suc k) rest space =
      let more = round_codes line f round k rest space in
      round (length more.code) more.code more.space

  -- the code of an instruction in front of code, whose places and later ones have these marks; what asks for bounds is what they make of it
  abbrev pub instruction_code : Site → Instruction → (marks : List ℕ) → List Instruction → Space → Piece
  instruction_code site i marks rest space = by_operation i.operation
    where
      by_operation : Operation → Piece
      by_operation (operations.Skip n) = piece (at i.line i.function (operations.Skip (jump rest (slice_index marks n))) ∷ rest) [] space
      by_operation (operations.SkipIfZero a n) = piece (at i.line i.function (operations.SkipIfZero (site.register + a) (jump rest (slice_index marks n))) ∷ rest) [] space
      by_operation (operations.Call g first count into r) = inline site i.line i.function g first count into r rest space
      by_operation (operations.Return v) = piece (hand_code site i.line i.function v ++ at i.line i.function (operations.Skip (jump rest site.back)) ∷ rest) [] space
      by_operation o = piece (at i.line i.function (renumbered site.register site.block (resolved b.limits o)) ∷ rest) [] space

  -- nodes in front of code; `later` are the marks of the places behind them
  abbrev pub nodes_code : Site → Nodes → (later : List ℕ) → List Instruction → Space → Piece
  nodes_code site done later rest space = piece rest later space
  nodes_code site (plain i more) later rest space =
      let behind = nodes_code site more later rest space in
      let now = instruction_code site i behind.marks behind.code behind.space in
      piece now.code (length now.code ∷ behind.marks) now.space
  nodes_code site (repeats line f l rotated body more) later rest space =
      let behind = nodes_code site more later rest space in
      let now = round_codes line f (λ again code between. nodes_code site body (again ∷ behind.marks) code between) (round_count rotated (tests b f l)) behind.code behind.space in
      piece now.code (length now.code ∷ behind.marks) now.space

  -- a function in front of code; at its end it hands over nothing
  abbrev pub body_code : Site → List Instruction → Space → Piece
  body_code site rest space =
      let end = hand_code site site.routine.line 0 None ++ rest in
      nodes_code site site.routine.nodes (length end ∷ []) end space

-- a call of a function that is there
abbrev pub inlined : Bounded → Inline → Option Routine → Inline
inlined b inline None caller line f g first count into r rest space = piece (at line f (operations.Assume 0) ∷ rest) [] space
inlined b inline (Some p) caller line f g first count into r rest space =
    let site : Site = record {
      routine = p;
      register = length space.registers;
      block = length space.blocks;
      hands = Some (record { block = caller.block + into; size = slice_index caller.routine.blocks into; register = caller.register + r });
      back = length rest;
    } in
    let body = body_code b inline site rest (with_frame space p) in
    piece (argument_code line f (drop first caller.routine.blocks) (caller.block + first) count p.blocks site.block ++ body.code) [] body.space

-- what stands for calls where so many activations of each function may still be opened
abbrev pub inline_at : Bounded → (fuel : ℕ) (left : List ℕ) → Inline
inline_at b zero left caller line f g first count into r rest space = piece (passed_code b.limits.assertions Recursion line f ∷ rest) [] space
inline_at b (suc fuel) left caller line f g first count into r rest space =
    if slice_index left g == 0 then piece (passed_code b.limits.assertions Recursion line f ∷ rest) [] space
    else inlined b (inline_at b fuel (opened left g)) (slice_get b.functions g) caller line f g first count into r rest space
