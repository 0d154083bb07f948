-- Unrolled code grows at its front, and its registers and blocks grow at their end.
use Rattle.std.proofs.Common.{◌≡◌, ℕ, zero, suc, ◌+◌, ◌≤◌, Bool, true, false, List, [], ◌∷◌, ◌++◌, length, Option, Some, None, refl, sym, ap, ◌∙◌, arith, append_assoc, append-nil, length-append}
use Rattle.std.specs.Prelude.{◌==◌, slice_get, slice_index, if◌then◌else◌}
use Rattle.c_types.specs.declared.integers.IntegerType.{IntegerType}
use Rattle.goto_prog.specs.declared.code.Operation.{Operation}
use Rattle.goto_prog.specs.declared.code.Operation.TheVariants as operations
use Rattle.goto_prog.specs.declared.code.Instruction.{Instruction}
use Rattle.goto_prog.specs.Nodes.{Nodes, done, plain, repeats, Routine}
use Rattle.goto_prog.specs.Structured.{Bounded, tests, round_count, opened}
use Rattle.goto_unwind.specs.Unrolled.{Space, with_frame, Site, Piece, piece, at, hand_code, Inline, round_codes, instruction_code, nodes_code, body_code, inlined, inline_at}
use Rattle.goto_unwind.proofs.Frames.{InFront, itself, one_front, some_front, then_front}

-- a space with more behind it
pub record Extends (s t : Space) : Type 0 where
  pub registers : List IntegerType
  pub blocks : List ℕ
  pub registers_are : t.registers ≡ s.registers ++ registers
  pub blocks_are : t.blocks ≡ s.blocks ++ blocks

pub same_space : (s : Space) → Extends s s
same_space s = record { registers = []; blocks = []; registers_are = sym (append-nil s.registers); blocks_are = sym (append-nil s.blocks) }

pub then_space : (s t u : Space) → Extends s t → Extends t u → Extends s u
then_space s t u e f = record {
  registers = e.registers ++ f.registers;
  blocks = e.blocks ++ f.blocks;
  registers_are = f.registers_are ∙ ap (λ xs. xs ++ f.registers) e.registers_are ∙ append_assoc s.registers e.registers f.registers;
  blocks_are = f.blocks_are ∙ ap (λ xs. xs ++ f.blocks) e.blocks_are ∙ append_assoc s.blocks e.blocks f.blocks;
}

pub with_frame_extends : (s : Space) (p : Routine) → Extends s (with_frame s p)
with_frame_extends s p = record { registers = p.registers; blocks = p.blocks; registers_are = refl; blocks_are = refl }

pub register_room : (s t : Space) → Extends s t → length s.registers ≤ length t.registers
register_room s t e = let all : length t.registers ≡ length (s.registers ++ e.registers) = ap length e.registers_are in omega (arith, all, length-append s.registers e.registers)

pub block_room : (s t : Space) → Extends s t → length s.blocks ≤ length t.blocks
block_room s t e = let all : length t.blocks ≡ length (s.blocks ++ e.blocks) = ap length e.blocks_are in omega (arith, all, length-append s.blocks e.blocks)

-- the sizes of all blocks in the end begin with those so far
pub record Within (all : List ℕ) (s : Space) : Type 0 where
  pub others : List ℕ
  pub are : all ≡ s.blocks ++ others

pub within_less : (all : List ℕ) (s t : Space) → Extends s t → Within all t → Within all s
within_less all s t e w = record { others = e.blocks ++ w.others; are = w.are ∙ ap (λ xs. xs ++ w.others) e.blocks_are ∙ append_assoc s.blocks e.blocks w.others }

-- code in front of other code
pub record Grown (code : List Instruction) (space : Space) (c : Piece) : Type 0 where
  pub front : InFront c.code code
  pub extends : Extends space c.space

pub grown_then : (code : List Instruction) (space : Space) (c d : Piece) → Grown code space c → Grown c.code c.space d → Grown code space d
grown_then code space c d g h = record { front = then_front d.code c.code code h.front g.front; extends = then_space space c.space d.space g.extends h.extends }

pub grown_one : (i : Instruction) (marks : List ℕ) (code : List Instruction) (space : Space) → Grown code space (piece (i ∷ code) marks space)
grown_one i marks code space = record { front = one_front i code code (itself code); extends = same_space space }

abbrev pub InlineGrows : Inline → Type 0
InlineGrows inline = (caller : Site) (line f g first count into r : ℕ) (rest : List Instruction) (space : Space) → Grown rest space (inline caller line f g first count into r rest space)

module _ (b : Bounded) (inline : Inline) (inline_grows : InlineGrows inline) where
  pub operation_grows : (site : Site) (line f : ℕ) (o : Operation) (marks : List ℕ) (code : List Instruction) (space : Space) → Grown code space (instruction_code b inline site (at line f o) marks code space)
  operation_grows site line f (operations.Constant r bits) marks code space = grown_one _ [] code space
  operation_grows site line f (operations.Copy r a) marks code space = grown_one _ [] code space
  operation_grows site line f (operations.Load r t v offset) marks code space = grown_one _ [] code space
  operation_grows site line f (operations.Store v offset count a) marks code space = grown_one _ [] code space
  operation_grows site line f (operations.Clear v size) marks code space = grown_one _ [] code space
  operation_grows site line f (operations.CopyBytes into to from offset count) marks code space = grown_one _ [] code space
  operation_grows site line f (operations.Convert r from to a) marks code space = grown_one _ [] code space
  operation_grows site line f (operations.Sign r op t a) marks code space = grown_one _ [] code space
  operation_grows site line f (operations.Arithmetic r op t u x y) marks code space = grown_one _ [] code space
  operation_grows site line f (operations.Compare r op t x y) marks code space = grown_one _ [] code space
  operation_grows site line f (operations.IsZero r a) marks code space = grown_one _ [] code space
  operation_grows site line f (operations.Skip n) marks code space = grown_one _ [] code space
  operation_grows site line f (operations.SkipIfZero a n) marks code space = grown_one _ [] code space
  operation_grows site line f (operations.Check c) marks code space = grown_one _ [] code space
  operation_grows site line f (operations.Assert a) marks code space = grown_one _ [] code space
  operation_grows site line f (operations.Assume a) marks code space = grown_one _ [] code space
  operation_grows site line f (operations.Draw r bits) marks code space = grown_one _ [] code space
  operation_grows site line f (operations.ReadObject v to k offset count) marks code space = grown_one _ [] code space
  operation_grows site line f (operations.WriteObject k offset v from count) marks code space = grown_one _ [] code space
  operation_grows site line f operations.Exit marks code space = grown_one _ [] code space
  operation_grows site line f (operations.Fail class) marks code space = grown_one _ [] code space
  operation_grows site line f (operations.Use a) marks code space = grown_one _ [] code space
  operation_grows site line f (operations.Move into p i t n size class) marks code space = grown_one _ [] code space
  operation_grows site line f (operations.Offset into p count) marks code space = grown_one _ [] code space
  operation_grows site line f (operations.Same p q) marks code space = grown_one _ [] code space
  operation_grows site line f (operations.Distance into p q n) marks code space = grown_one _ [] code space
  operation_grows site line f (operations.Relate into op p q) marks code space = grown_one _ [] code space
  operation_grows site line f (operations.Take block to p q count whole) marks code space = grown_one _ [] code space
  operation_grows site line f (operations.Put block p from to count whole) marks code space = grown_one _ [] code space
  operation_grows site line f (operations.Read block to p count) marks code space = grown_one _ [] code space
  operation_grows site line f (operations.Write p block from count first) marks code space = grown_one _ [] code space
  operation_grows site line f (operations.Look into p subscript) marks code space = grown_one _ [] code space
  operation_grows site line f (operations.Fill block count) marks code space = grown_one _ [] code space
  operation_grows site line f (operations.Alloc into block size readonly heap) marks code space = grown_one _ [] code space
  operation_grows site line f (operations.Die p) marks code space = grown_one _ [] code space
  operation_grows site line f (operations.Free p) marks code space = grown_one _ [] code space
  operation_grows site line f (operations.MayFail into) marks code space = grown_one _ [] code space
  operation_grows site line f (operations.Limit x y) marks code space = grown_one _ [] code space
  operation_grows site line f (operations.Call g first count into r) marks code space = inline_grows site line f g first count into r code space
  operation_grows site line f (operations.Return v) marks code space = record {
    front = some_front (hand_code site line f v) _ code (one_front _ code code (itself code));
    extends = same_space space;
  }

  pub rounds_grow : (line f : ℕ) (round : (again : ℕ) → List Instruction → Space → Piece) → ((again : ℕ) (code : List Instruction) (space : Space) → Grown code space (round again code space))
      → (k : ℕ) (code : List Instruction) (space : Space) → Grown code space (round_codes b inline line f round k code space)
  rounds_grow line f round grows zero code space = grown_one _ [] code space
  rounds_grow line f round grows (suc k) code space =
      let more = round_codes b inline line f round k code space in
      grown_then code space more (round (length more.code) more.code more.space) (rounds_grow line f round grows k code space) (grows (length more.code) more.code more.space)

  marked : (marks : List ℕ) (code : List Instruction) (space : Space) (c : Piece) → Grown code space c → Grown code space (piece c.code marks c.space)
  marked marks code space c g = record { front = g.front; extends = g.extends }

  pub nodes_grow : (site : Site) (nodes : Nodes) (later : List ℕ) (code : List Instruction) (space : Space) → Grown code space (nodes_code b inline site nodes later code space)
  nodes_grow site done later code space = record { front = itself code; extends = same_space space }
  nodes_grow site (plain i more) later code space =
      let behind = nodes_code b inline site more later code space in
      let now = instruction_code b inline site i behind.marks behind.code behind.space in
      marked (length now.code ∷ behind.marks) code space now
      (grown_then code space behind now (nodes_grow site more later code space) (operation_grows site i.line i.function i.operation behind.marks behind.code behind.space))
  nodes_grow site (repeats line f l rotated body more) later code space =
      let behind = nodes_code b inline site more later code space in
      let round : ℕ → List Instruction → Space → Piece = λ again rest between. nodes_code b inline site body (again ∷ behind.marks) rest between in
      let now = round_codes b inline line f round (round_count rotated (tests b f l)) behind.code behind.space in
      marked (length now.code ∷ behind.marks) code space now
      (grown_then code space behind now (nodes_grow site more later code space)
      (rounds_grow line f round (λ again rest between. nodes_grow site body (again ∷ behind.marks) rest between) (round_count rotated (tests b f l)) behind.code behind.space))

  pub body_grows : (site : Site) (code : List Instruction) (space : Space) → Grown code space (body_code b inline site code space)
  body_grows site code space =
      let ending = hand_code site site.routine.line 0 None in
      let end = ending ++ code in
      let c = nodes_code b inline site site.routine.nodes (length end ∷ []) end space in
      let g = nodes_grow site site.routine.nodes (length end ∷ []) end space in
      record { front = then_front c.code end code g.front (some_front ending code code (itself code)); extends = g.extends }

-- ---- calls

module _ (b : Bounded) where
  pub inlined_grows : (inline : Inline) → InlineGrows inline → (p : Option Routine) → InlineGrows (inlined b inline p)
  inlined_grows inline grows None caller line f g first count into r rest space = grown_one _ [] rest space
  inlined_grows inline grows (Some p) caller line f g first count into r rest space =
      let site : Site = record {
        routine = p;
        register = length space.registers;
        block = length space.blocks;
        hands = Some (record { block = caller.block + into; size = slice_index caller.routine.blocks into; register = caller.register + r });
        back = length rest;
      } in
      let body = body_code b inline site rest (with_frame space p) in
      let grown = body_grows b inline grows site rest (with_frame space p) in
      record { front = some_front _ body.code rest grown.front; extends = then_space space (with_frame space p) body.space (with_frame_extends space p) grown.extends }

  by_test : (z : Bool) (c d : Piece) (rest : List Instruction) (space : Space) → Grown rest space c → Grown rest space d → Grown rest space (if z then c else d)
  by_test true c d rest space g h = g
  by_test false c d rest space g h = h

  pub inline_grows : (fuel : ℕ) (left : List ℕ) → InlineGrows (inline_at b fuel left)
  inline_grows zero left caller line f g first count into r rest space = grown_one _ [] rest space
  inline_grows (suc fuel) left caller line f g first count into r rest space =
      by_test (slice_index left g == 0) _ _ rest space (grown_one _ [] rest space)
      (inlined_grows (inline_at b fuel (opened left g)) (inline_grows fuel (opened left g)) (slice_get b.functions g) caller line f g first count into r rest space)
