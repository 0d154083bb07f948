-- Which registers and blocks operations read, and how long each is needed.
use Rattle.std.specs.Prelude.{◌≡◌, ℕ, suc, ◌<◌, ◌+◌, ◌≤◌, List, [], ◌∷◌, Option, Some, None, slice_index, length}
use Rattle.c_values.specs.Variables.{block_of}
use Rattle.goto_prog.specs.declared.code.Condition.{Condition}
use Rattle.goto_prog.specs.declared.code.Condition.TheVariants as checks
use Rattle.goto_prog.specs.declared.code.Operation.{Operation}
use Rattle.goto_prog.specs.declared.code.Operation.TheVariants as operations
use Rattle.goto_prog.specs.declared.code.Instruction.{Instruction}
use Rattle.goto_prog.specs.Meaning.{Memory, register}

-- ---- the registers that are read, three at most

abbrev pub first_checked : Condition → Option ℕ
first_checked (checks.Divisor b) = Some b
first_checked (checks.Quotient t a b) = Some a
first_checked (checks.Range op t a b) = Some a
first_checked (checks.Negation t a) = Some a
first_checked (checks.Count t u count) = Some count
first_checked (checks.LeftShift t u a count) = Some a
first_checked (checks.Returned a) = Some a
first_checked (checks.Within p i t n size class) = Some p
first_checked (checks.SameObject p q) = Some p
first_checked (checks.Inside p count whole) = Some p
first_checked (checks.AtMost a b most) = Some a

abbrev pub second_checked : Condition → Option ℕ
second_checked (checks.Divisor b) = None
second_checked (checks.Quotient t a b) = Some b
second_checked (checks.Range op t a b) = Some b
second_checked (checks.Negation t a) = None
second_checked (checks.Count t u count) = None
second_checked (checks.LeftShift t u a count) = Some count
second_checked (checks.Returned a) = None
second_checked (checks.Within p i t n size class) = Some i
second_checked (checks.SameObject p q) = Some q
second_checked (checks.Inside p count whole) = None
second_checked (checks.AtMost a b most) = Some b

abbrev pub third_checked : Condition → Option ℕ
third_checked (checks.Divisor b) = None
third_checked (checks.Quotient t a b) = None
third_checked (checks.Range op t a b) = None
third_checked (checks.Negation t a) = None
third_checked (checks.Count t u count) = None
third_checked (checks.LeftShift t u a count) = None
third_checked (checks.Returned a) = None
third_checked (checks.Within p i t n size class) = Some size
third_checked (checks.SameObject p q) = None
third_checked (checks.Inside p count whole) = None
third_checked (checks.AtMost a b most) = None

abbrev pub first_read : Operation → Option ℕ
first_read (operations.Constant r bits) = None
first_read (operations.Copy r a) = Some a
first_read (operations.Load r t b offset) = None
first_read (operations.Store b offset count a) = Some a
first_read (operations.Clear b size) = None
first_read (operations.CopyBytes into to from offset count) = None
first_read (operations.Convert r from to a) = Some a
first_read (operations.Sign r op t a) = Some a
first_read (operations.Arithmetic r op t u a b) = Some a
first_read (operations.Compare r op t a b) = Some a
first_read (operations.IsZero r a) = Some a
first_read (operations.Skip n) = None
first_read (operations.SkipIfZero a n) = Some a
first_read (operations.Check c) = first_checked c
first_read (operations.Assert a) = Some a
first_read (operations.Assume a) = Some a
first_read (operations.Draw r bits) = None
first_read (operations.ReadObject b to k offset count) = None
first_read (operations.WriteObject k offset b from count) = None
first_read operations.Exit = None
first_read (operations.Fail class) = None
first_read (operations.Use a) = None
first_read (operations.Call f first count into r) = None
first_read (operations.Return v) = None
first_read (operations.Move r p i t n size class) = Some p
first_read (operations.Offset r p count) = Some p
first_read (operations.Same p q) = None
first_read (operations.Distance r p q n) = Some p
first_read (operations.Relate r op p q) = Some p
first_read (operations.Take b to from p count whole) = Some p
first_read (operations.Put b p from to count whole) = Some p
first_read (operations.Read b to p count) = Some p
first_read (operations.Write p b from count first) = Some p
first_read (operations.Look r p subscript) = Some p
first_read (operations.Fill b r) = Some r
first_read (operations.Alloc r b size readonly heap) = Some size
first_read (operations.Die p) = Some p
first_read (operations.Free p) = Some p
first_read (operations.MayFail r) = None
first_read (operations.Limit a b) = None

abbrev pub second_read : Operation → Option ℕ
second_read (operations.Constant r bits) = None
second_read (operations.Copy r a) = None
second_read (operations.Load r t b offset) = None
second_read (operations.Store b offset count a) = None
second_read (operations.Clear b size) = None
second_read (operations.CopyBytes into to from offset count) = None
second_read (operations.Convert r from to a) = None
second_read (operations.Sign r op t a) = None
second_read (operations.Arithmetic r op t u a b) = Some b
second_read (operations.Compare r op t a b) = Some b
second_read (operations.IsZero r a) = None
second_read (operations.Skip n) = None
second_read (operations.SkipIfZero a n) = None
second_read (operations.Check c) = second_checked c
second_read (operations.Assert a) = None
second_read (operations.Assume a) = None
second_read (operations.Draw r bits) = None
second_read (operations.ReadObject b to k offset count) = None
second_read (operations.WriteObject k offset b from count) = None
second_read operations.Exit = None
second_read (operations.Fail class) = None
second_read (operations.Use a) = None
second_read (operations.Call f first count into r) = None
second_read (operations.Return v) = None
second_read (operations.Move r p i t n size class) = Some i
second_read (operations.Offset r p count) = None
second_read (operations.Same p q) = None
second_read (operations.Distance r p q n) = Some q
second_read (operations.Relate r op p q) = Some q
second_read (operations.Take b to from p count whole) = None
second_read (operations.Put b p from to count whole) = None
second_read (operations.Read b to p count) = None
second_read (operations.Write p b from count first) = None
second_read (operations.Look r p subscript) = None
second_read (operations.Fill b r) = None
second_read (operations.Alloc r b size readonly heap) = None
second_read (operations.Die p) = None
second_read (operations.Free p) = None
second_read (operations.MayFail r) = None
second_read (operations.Limit a b) = None

abbrev pub third_read : Operation → Option ℕ
third_read (operations.Constant r bits) = None
third_read (operations.Copy r a) = None
third_read (operations.Load r t b offset) = None
third_read (operations.Store b offset count a) = None
third_read (operations.Clear b size) = None
third_read (operations.CopyBytes into to from offset count) = None
third_read (operations.Convert r from to a) = None
third_read (operations.Sign r op t a) = None
third_read (operations.Arithmetic r op t u a b) = None
third_read (operations.Compare r op t a b) = None
third_read (operations.IsZero r a) = None
third_read (operations.Skip n) = None
third_read (operations.SkipIfZero a n) = None
third_read (operations.Check c) = third_checked c
third_read (operations.Assert a) = None
third_read (operations.Assume a) = None
third_read (operations.Draw r bits) = None
third_read (operations.ReadObject b to k offset count) = None
third_read (operations.WriteObject k offset b from count) = None
third_read operations.Exit = None
third_read (operations.Fail class) = None
third_read (operations.Use a) = None
third_read (operations.Call f first count into r) = None
third_read (operations.Return v) = None
third_read (operations.Move r p i t n size class) = Some size
third_read (operations.Offset r p count) = None
third_read (operations.Same p q) = None
third_read (operations.Distance r p q n) = None
third_read (operations.Relate r op p q) = None
third_read (operations.Take b to from p count whole) = None
third_read (operations.Put b p from to count whole) = None
third_read (operations.Read b to p count) = None
third_read (operations.Write p b from count first) = None
third_read (operations.Look r p subscript) = None
third_read (operations.Fill b r) = None
third_read (operations.Alloc r b size readonly heap) = None
third_read (operations.Die p) = None
third_read (operations.Free p) = None
third_read (operations.MayFail r) = None
third_read (operations.Limit a b) = None

-- ---- the block whose bytes are read: a draw of several words reads how many there are

abbrev pub block_read : Operation → Option ℕ
block_read (operations.Constant r bits) = None
block_read (operations.Copy r a) = None
block_read (operations.Load r t b offset) = Some b
block_read (operations.Store b offset count a) = None
block_read (operations.Clear b size) = None
block_read (operations.CopyBytes into to from offset count) = Some from
block_read (operations.Convert r from to a) = None
block_read (operations.Sign r op t a) = None
block_read (operations.Arithmetic r op t u a b) = None
block_read (operations.Compare r op t a b) = None
block_read (operations.IsZero r a) = None
block_read (operations.Skip n) = None
block_read (operations.SkipIfZero a n) = None
block_read (operations.Check c) = None
block_read (operations.Assert a) = None
block_read (operations.Assume a) = None
block_read (operations.Draw r bits) = None
block_read (operations.ReadObject b to k offset count) = None
block_read (operations.WriteObject k offset b from count) = Some b
block_read operations.Exit = None
block_read (operations.Fail class) = None
block_read (operations.Use a) = None
block_read (operations.Call f first count into r) = None
block_read (operations.Return v) = None
block_read (operations.Move r p i t n size class) = None
block_read (operations.Offset r p count) = None
block_read (operations.Same p q) = None
block_read (operations.Distance r p q n) = None
block_read (operations.Relate r op p q) = None
block_read (operations.Take b to from p count whole) = Some from
block_read (operations.Put b p from to count whole) = Some from
block_read (operations.Read b to p count) = None
block_read (operations.Write p b from count first) = Some b
block_read (operations.Look r p subscript) = None
block_read (operations.Fill b r) = Some b
block_read (operations.Alloc r b size readonly heap) = Some b
block_read (operations.Die p) = None
block_read (operations.Free p) = None
block_read (operations.MayFail r) = None
block_read (operations.Limit a b) = None

-- ---- `until` gives for each register, and behind them for each block, the place behind its last read

abbrev pub IsRead : List ℕ → ℕ → Option ℕ → Type 0
IsRead until place None = Unit {0}
IsRead until place (Some r) = r < length until → place < slice_index until r

module _ (registers : ℕ) where
  abbrev pub IsBlockRead : List ℕ → ℕ → Option ℕ → Type 0
  IsBlockRead until place None = Unit {0}
  IsBlockRead until place (Some b) = IsRead until place (Some (registers + b))

  abbrev pub AreRead : List ℕ → ℕ → Operation → Type 0
  AreRead until place o = IsRead until place (first_read o) × IsRead until place (second_read o) × IsRead until place (third_read o) × IsBlockRead until place (block_read o)

  -- no instruction of the code, the first of which is at this place, reads a register or a block behind that
  abbrev pub Covers : List ℕ → ℕ → List Instruction → Type 0
  Covers until place [] = Unit {0}
  Covers until place (i ∷ code) = AreRead until place i.operation × Covers until (suc place) code

-- each is read as late or later
pub record Later (until other : List ℕ) : Type 0 where
  pub size : length other ≡ length until
  pub each : (r : ℕ) → slice_index until r ≤ slice_index other r

-- ---- memories that are the same to the code from a place on

pub record Agree (registers : ℕ) (until : List ℕ) (place : ℕ) (m n : Memory) : Type 0 where
  pub size : length m.registers ≡ length n.registers
  pub needed : (r : ℕ) → IsRead until place (Some r) → register m r ≡ register n r
  pub count : length m.blocks ≡ length n.blocks
  pub blocks : (b : ℕ) → IsBlockRead registers until place (Some b) → block_of m.blocks b ≡ block_of n.blocks b

module _ (registers : ℕ) where
  abbrev pub Alike : List ℕ → ℕ → Option Memory → Option Memory → Type 0
  Alike until place None None = Unit {0}
  Alike until place None (Some n) = ⊥
  Alike until place (Some m) None = ⊥
  Alike until place (Some m) (Some n) = Agree registers until place m n

  -- the arrivals from this place on
  abbrev pub AllAlike : List ℕ → ℕ → List (Option Memory) → List (Option Memory) → Type 0
  AllAlike until place [] [] = Unit {0}
  AllAlike until place [] (x ∷ xs) = ⊥
  AllAlike until place (w ∷ ws) [] = ⊥
  AllAlike until place (w ∷ ws) (x ∷ xs) = Alike until place w x × AllAlike until (suc place) ws xs
