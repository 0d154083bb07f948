-- What instructions do: each chooses among the meanings of the places behind it. What an action, an end and a call are is a parameter, so that behaviours of threads and runs under given answers are two readings of one definition.
use Rattle.std.specs.Prelude.{ℕ, zero, suc, ◌+◌, ◌-◌, ◌*◌, ◌==◌, ℤ, Bool, true, false, not, nat_le, min, List, [], ◌∷◌, ◌++◌, length, take, drop, Option, Some, None, slice_index, slice_set, if◌then◌else◌}
use Rattle.words.specs.declared.check.Class.{Class}
use Rattle.words.specs.declared.check.Class.TheVariants as classes
use Rattle.actions.specs.declared.action.Action.{Action}
use Rattle.actions.specs.declared.action.Action.TheVariants as actions
use Rattle.actions.specs.declared.action.Answer.{Answer}
use Rattle.actions.specs.declared.action.Answer.TheVariants as answers
use Rattle.actions.specs.declared.action.Next.{Next}
use Rattle.actions.specs.declared.action.Next.TheVariants.{Ended, Blocked, Broken}
use Rattle.actions.specs.Behaviour.{word_64}
use Rattle.actions.specs.Pointer.{object_of, offset_of}
use Rattle.c_types.specs.declared.integers.IntegerType.{IntegerType}
use Rattle.c_types.specs.declared.integers.IntegerType.TheVariants.{UnsignedLong}
use Rattle.core_tree.specs.declared.operators.Comparison.{Comparison}
use Rattle.core_tree.specs.Operations.{number, truth_bits, converted, unless, division_check, count_check, left_shift_check, arithmetic_check, arithmetic_value, sign_check, sign_value, compared}
use Rattle.core_tree.specs.declared.operators.SignOperator.TheVariants as signs
use Rattle.c_values.specs.Pointers.{pointer_at, further, in_range, offset_by, elements_between}
use Rattle.c_values.specs.Variables.{Variables, pointer_to, block_of, low_bytes, put_at, zeros, put_bytes, cleared, read_variable, word_count, drawn_count}
use Rattle.c_values.specs.MadeObjects.{made_of}
use Rattle.goto_prog.specs.declared.code.Condition.{Condition}
use Rattle.goto_prog.specs.declared.code.Condition.TheVariants as checks
use Rattle.goto_prog.specs.declared.code.Operation.{Operation}
use Rattle.goto_prog.specs.declared.code.Operation.TheVariants as operations
use Rattle.goto_prog.specs.declared.code.Instruction.{Instruction}

-- ---- what a thread keeps

pub record Memory : Type 0 where
  pub registers : List ℕ
  pub blocks : Variables

abbrev pub register : Memory → ℕ → ℕ
register m r = slice_index m.registers r

abbrev pub with_register : Memory → ℕ → ℕ → Memory
with_register m r bits = record m { registers = slice_set m.registers r bits }

abbrev pub with_blocks : Memory → Variables → Memory
with_blocks m blocks = record m { blocks = blocks }

-- so many bytes of a block, from an offset on
abbrev pub bytes_of : Variables → ℕ → ℕ → ℕ → List ℕ
bytes_of blocks b offset count = take count (drop offset (block_of blocks b))

-- ---- calls

-- what a function hands over at its end: nothing, or bytes
abbrev pub Given : Type 0
Given = Option (List ℕ)

-- the bytes of so many blocks, from one on
abbrev pub arguments_of : Variables → (first count : ℕ) → List (List ℕ)
arguments_of blocks first count = take count (drop first blocks)

-- a block takes as many of these bytes as it has, from its first on
abbrev pub filled : Variables → ℕ → List ℕ → Variables
filled blocks into bytes = put_bytes blocks into 0 (take (length (block_of blocks into)) bytes)

-- the memory behind a call
abbrev pub received : Memory → (into returned : ℕ) → Given → Memory
received m into returned None = with_register m returned 0
received m into returned (Some bytes) = with_register (with_blocks m (filled m.blocks into bytes)) returned 1

-- what a function hands over of its memory: nothing, or the bytes of a block
abbrev pub given_by : Memory → Option ℕ → Given
given_by m None = None
given_by m (Some b) = Some (block_of m.blocks b)

-- a register tells whether a call handed something over
abbrev pub return_check : ℕ → Option Class
return_check returned = unless (not (returned == 0)) classes.Return

-- ---- pointers

-- the offset of a pointer so many bytes further on for each 1 of an index, as a whole number (C11 6.5.6p8)
abbrev pub offset_moved : Memory → (pointer index : ℕ) → IntegerType → (stride : ℤ) → ℤ
offset_moved m p i t n = offset_by (offset_of (register m p)) (number t (register m i)) n

-- it is from 0 to the size in a register
abbrev pub range_check : Memory → (pointer index : ℕ) → IntegerType → (stride : ℤ) → (size : ℕ) → Class → Option Class
range_check m p i t n size class = unless (in_range (offset_moved m p i t n) (register m size)) class

-- two pointers have the number of one object (C11 6.5.6p9, 6.5.8p5)
abbrev pub same_check : Memory → (left right : ℕ) → Option Class
same_check m p q = unless (object_of (register m p) == object_of (register m q)) classes.Pointer

-- so many bytes from the offset of a pointer on lie within so many
abbrev pub inside_check : Memory → (pointer count whole : ℕ) → Option Class
inside_check m p count whole = unless (nat_le (offset_of (register m p) + count) whole) classes.Bounds

-- so many bytes from an offset on; past the end they are 0
abbrev pub taken_at : (count offset : ℕ) → List ℕ → List ℕ
taken_at count offset block = take count (drop offset block ++ zeros count)

-- bytes in the place of as many from an offset on, as far as there are some
abbrev pub put_within : (offset : ℕ) → List ℕ → List ℕ → List ℕ
put_within offset new old = take (length old) (put_at offset new old)

-- how many of the first bytes of a block a register says, at most all
abbrev pub first_count : Memory → (block count : ℕ) → ℕ
first_count m b r = min (register m r) (length (block_of m.blocks b))

-- these bytes
abbrev pub first_bytes : Memory → (block count : ℕ) → List ℕ
first_bytes m b r = take (register m r) (block_of m.blocks b)

-- ---- checks

-- the class that a check breaks, if it breaks one
abbrev pub check_class : Condition → Memory → Option Class
check_class (checks.Divisor b) m = unless (not (register m b == 0)) classes.Division
check_class (checks.Quotient t a b) m = if register m b == 0 then None else division_check t (register m a) (register m b)
check_class (checks.Range op t a b) m = arithmetic_check op t t (register m a) (register m b)
check_class (checks.Negation t a) m = sign_check signs.Minus t (register m a)
check_class (checks.Count t u count) m = count_check t u (register m count)
check_class (checks.LeftShift t u a count) m = left_shift_check t u (register m a) (register m count)
check_class (checks.Returned a) m = return_check (register m a)
check_class (checks.Within p i t n size class) m = range_check m p i t n size class
check_class (checks.SameObject p q) m = same_check m p q
check_class (checks.Inside p count whole) m = inside_check m p count whole
check_class (checks.AtMost a b most) m = unless (nat_le (register m a * register m b) most) classes.MallocLimit

-- ---- operations that give a value

-- the check that an operation of strict code breaks by itself
abbrev pub own_class : Operation → Memory → Option Class
own_class (operations.Sign r op t a) m = sign_check op t (register m a)
own_class (operations.Arithmetic r op t u a b) m = arithmetic_check op t u (register m a) (register m b)
own_class (operations.Use a) m = return_check (register m a)
own_class (operations.Move r p i t n size class) m = range_check m p i t n size class
own_class (operations.Same p q) m = same_check m p q
own_class (operations.Take b to from p count whole) m = inside_check m p count whole
own_class (operations.Put b p from to count whole) m = inside_check m p count whole
own_class _ m = None

-- the memory behind an operation that sets a register or a block; the others leave it
abbrev pub calculated : Operation → Memory → Memory
calculated (operations.Constant r bits) m = with_register m r bits
calculated (operations.Copy r a) m = with_register m r (register m a)
calculated (operations.Load r t b offset) m = with_register m r (read_variable m.blocks b offset t)
calculated (operations.Store b offset count a) m = with_blocks m (put_bytes m.blocks b offset (low_bytes count (register m a)))
calculated (operations.Clear b size) m = with_blocks m (cleared m.blocks b size)
calculated (operations.CopyBytes into to from offset count) m = with_blocks m (put_bytes m.blocks into to (bytes_of m.blocks from offset count))
calculated (operations.Convert r from to a) m = with_register m r (converted from to (register m a))
calculated (operations.Sign r op t a) m = with_register m r (sign_value op t (register m a))
calculated (operations.Arithmetic r op t u a b) m = with_register m r (arithmetic_value op t (register m a) (register m b))
calculated (operations.Compare r op t a b) m = with_register m r (truth_bits (compared op t (register m a) (register m b)))
calculated (operations.IsZero r a) m = with_register m r (truth_bits (register m a == 0))
calculated (operations.Move r p i t n size class) m = with_register m r (pointer_at (register m p) (offset_moved m p i t n))
calculated (operations.Offset r p count) m = with_register m r (further (register m p) count)
calculated (operations.Distance r p q n) m = with_register m r (elements_between (register m p) (register m q) n)
calculated (operations.Relate r op p q) m = with_register m r (truth_bits (compared op UnsignedLong (offset_of (register m p)) (offset_of (register m q))))
calculated (operations.Take b to from p count whole) m = with_blocks m (put_bytes m.blocks b to (taken_at count (offset_of (register m p)) (block_of m.blocks from)))
calculated (operations.Put b p from to count whole) m = with_blocks m (slice_set m.blocks b (put_within (offset_of (register m p)) (bytes_of m.blocks from to count) (block_of m.blocks b)))
calculated _ m = m

-- ---- what becomes of an action, an end and a call

-- what follows each answer to an action, at a line of a function and a place of the code; an end; what follows what a call in a function, of a function at a line with these arguments' bytes, hands over; and what becomes of what the function itself hands over
pub record Reading (R : Type 0) : Type 0 where
  pub ask : (action : Action) (line function place : ℕ) (next : Answer → R) → R
  pub stop : (end : Next) → R
  pub call : (caller function line : ℕ) (arguments : List (List ℕ)) (next : Given → R) → R
  pub hand : Given → R

-- the word that an answer gives
abbrev pub word_of : Answer → ℕ
word_of (answers.Word w) = w.bits
word_of _ = 0

-- the bytes that it gives
abbrev pub bytes_in : Answer → List ℕ
bytes_in (answers.Bytes bs) = bs
bytes_in _ = []

-- the size that a Look gives, and the number that an Alloc gives
abbrev pub size_in : Answer → ℕ
size_in (answers.Size n) = n
size_in _ = 0

abbrev pub number_in : Answer → ℕ
number_in (answers.Number n) = n
number_in _ = 0

-- ---- operations that make one action and go on behind it

abbrev pub action_of : Operation → Memory → Action
action_of (operations.Draw r bits) m = actions.Draw bits
action_of (operations.ReadObject b to k offset count) m = actions.Read (pointer_to k offset) count
action_of (operations.WriteObject k offset b from count) m = actions.Write (pointer_to k offset) (bytes_of m.blocks b from count) false
action_of (operations.Read b to p count) m = actions.Read (register m p) count
action_of (operations.Write p b from count first) m = actions.Write (register m p) (bytes_of m.blocks b from count) first
action_of (operations.Look r p subscript) m = actions.Look (register m p) subscript
action_of (operations.Alloc r b size readonly heap) m = actions.Alloc (made_of readonly heap (first_bytes m b size))
action_of (operations.Die p) m = actions.Die (object_of (register m p))
action_of (operations.Free p) m = actions.Free (register m p)
action_of _ m = actions.Exit

-- the memory behind the answer
abbrev pub answered_with : Operation → Memory → Answer → Memory
answered_with (operations.Draw r bits) m a = with_register m r (word_of a)
answered_with (operations.ReadObject b to k offset count) m a = with_blocks m (put_bytes m.blocks b to (bytes_in a))
answered_with (operations.Read b to p count) m a = with_blocks m (put_bytes m.blocks b to (bytes_in a))
answered_with (operations.Look r p subscript) m a = with_register m r (size_in a)
answered_with (operations.Alloc r b size readonly heap) m a = with_register m r (pointer_to (number_in a) 0)
answered_with _ m a = m

-- ---- code

module _ {R : Type 0} (o : Reading R) where
  -- what is done from the place behind n others; past the last one the thread has ended
  abbrev pub at : List (Memory → R) → ℕ → Memory → R
  at [] n m = o.stop (Ended (word_64 0))
  at (p ∷ ps) zero m = p m
  at (p ∷ ps) (suc n) m = at ps n m

  -- breaks a check, or goes on
  abbrev pub or_else : Option Class → ℕ → ℕ → R → R
  or_else None line function next = next
  or_else (Some c) line function next = o.stop (Broken c line function)

  -- so many words are drawn into a block, of which `size` bytes are filled, from an offset on: 8 bytes a word, the last of the bytes that are left
  abbrev pub fills : (words place line function b size offset : ℕ) → List (Memory → R) → Memory → R
  fills zero place line f b size offset ps m = at ps 0 m
  fills (suc k) place line f b size offset ps m =
      let count = drawn_count size offset in
      o.ask (actions.Draw (8 * count)) line f place (λ a. fills k place line f b size (offset + 8) ps (with_blocks m (put_bytes m.blocks b offset (low_bytes count (word_of a)))))

  -- the words that are left where so many have been drawn of those for the bytes that a register says
  abbrev pub fills_on : (words place line function b count : ℕ) → List (Memory → R) → Memory → R
  fills_on words place line f b r ps m = let size = first_count m b r in fills (word_count size - words) place line f b size (8 * words) ps m

  -- where `strict` stands, an operation that is undefined breaks by itself. What only code with bounds has is done under these: without any the thread goes on no more
  abbrev pub operates : (strict : Bool) (place line function : ℕ) → Operation → List (Memory → R) → Memory → R
  operates strict place line f (operations.Constant r bits) ps m = at ps 0 (with_register m r bits)
  operates strict place line f (operations.Copy r a) ps m = at ps 0 (with_register m r (register m a))
  operates strict place line f (operations.Load r t b offset) ps m = at ps 0 (with_register m r (read_variable m.blocks b offset t))
  operates strict place line f (operations.Store b offset count a) ps m = at ps 0 (with_blocks m (put_bytes m.blocks b offset (low_bytes count (register m a))))
  operates strict place line f (operations.Clear b size) ps m = at ps 0 (with_blocks m (cleared m.blocks b size))
  operates strict place line f (operations.CopyBytes into to from offset count) ps m = at ps 0 (with_blocks m (put_bytes m.blocks into to (bytes_of m.blocks from offset count)))
  operates strict place line f (operations.Convert r from to a) ps m = at ps 0 (with_register m r (converted from to (register m a)))
  operates strict place line f (operations.Sign r op t a) ps m =
      or_else (if strict then sign_check op t (register m a) else None) line f (at ps 0 (with_register m r (sign_value op t (register m a))))
  operates strict place line f (operations.Arithmetic r op t u a b) ps m =
      or_else (if strict then arithmetic_check op t u (register m a) (register m b) else None) line f (at ps 0 (with_register m r (arithmetic_value op t (register m a) (register m b))))
  operates strict place line f (operations.Compare r op t a b) ps m = at ps 0 (with_register m r (truth_bits (compared op t (register m a) (register m b))))
  operates strict place line f (operations.IsZero r a) ps m = at ps 0 (with_register m r (truth_bits (register m a == 0)))
  operates strict place line f (operations.Skip n) ps m = at ps n m
  operates strict place line f (operations.SkipIfZero a n) ps m = if register m a == 0 then at ps n m else at ps 0 m
  operates strict place line f (operations.Check c) ps m = or_else (check_class c m) line f (at ps 0 m)
  operates strict place line f (operations.Assert a) ps m = if register m a == 0 then o.stop (Broken classes.Assertion line f) else at ps 0 m
  operates strict place line f (operations.Assume a) ps m = if register m a == 0 then o.stop Blocked else at ps 0 m
  operates strict place line f (operations.Draw r bits) ps m = o.ask (actions.Draw bits) line f place (λ a. at ps 0 (with_register m r (word_of a)))
  operates strict place line f (operations.ReadObject b to k offset count) ps m =
      o.ask (actions.Read (pointer_to k offset) count) line f place (λ a. at ps 0 (with_blocks m (put_bytes m.blocks b to (bytes_in a))))
  operates strict place line f (operations.WriteObject k offset b from count) ps m =
      o.ask (actions.Write (pointer_to k offset) (bytes_of m.blocks b from count) false) line f place (λ a. at ps 0 m)
  operates strict place line f operations.Exit ps m = o.ask actions.Exit line f place (λ a. o.stop (Ended (word_64 0)))
  operates strict place line f (operations.Fail class) ps m = o.stop (Broken class line f)
  operates strict place line f (operations.Use a) ps m = or_else (if strict then return_check (register m a) else None) line f (at ps 0 m)
  operates strict place line f (operations.Call g first count into r) ps m = o.call f g line (arguments_of m.blocks first count) (λ given. at ps 0 (received m into r given))
  operates strict place line f (operations.Return v) ps m = o.hand (given_by m v)
  operates strict place line f (operations.Move r p i t n size class) ps m =
      or_else (if strict then range_check m p i t n size class else None) line f (at ps 0 (with_register m r (pointer_at (register m p) (offset_moved m p i t n))))
  operates strict place line f (operations.Offset r p count) ps m = at ps 0 (with_register m r (further (register m p) count))
  operates strict place line f (operations.Same p q) ps m = or_else (if strict then same_check m p q else None) line f (at ps 0 m)
  operates strict place line f (operations.Distance r p q n) ps m = at ps 0 (with_register m r (elements_between (register m p) (register m q) n))
  operates strict place line f (operations.Relate r op p q) ps m = at ps 0 (with_register m r (truth_bits (compared op UnsignedLong (offset_of (register m p)) (offset_of (register m q)))))
  operates strict place line f (operations.Take b to from p count whole) ps m =
      or_else (if strict then inside_check m p count whole else None) line f (at ps 0 (with_blocks m (put_bytes m.blocks b to (taken_at count (offset_of (register m p)) (block_of m.blocks from)))))
  operates strict place line f (operations.Put b p from to count whole) ps m =
      or_else (if strict then inside_check m p count whole else None) line f (at ps 0 (with_blocks m (slice_set m.blocks b (put_within (offset_of (register m p)) (bytes_of m.blocks from to count) (block_of m.blocks b)))))
  operates strict place line f (operations.Read b to p count) ps m = o.ask (actions.Read (register m p) count) line f place (λ a. at ps 0 (with_blocks m (put_bytes m.blocks b to (bytes_in a))))
  operates strict place line f (operations.Write p b from count first) ps m = o.ask (actions.Write (register m p) (bytes_of m.blocks b from count) first) line f place (λ a. at ps 0 m)
  operates strict place line f (operations.Look r p subscript) ps m = o.ask (actions.Look (register m p) subscript) line f place (λ a. at ps 0 (with_register m r (size_in a)))
  operates strict place line f (operations.Fill b r) ps m = fills_on 0 place line f b r ps m
  operates strict place line f (operations.Alloc r b size readonly heap) ps m =
      o.ask (actions.Alloc (made_of readonly heap (first_bytes m b size))) line f place (λ a. at ps 0 (with_register m r (pointer_to (number_in a) 0)))
  operates strict place line f (operations.Die p) ps m = o.ask (actions.Die (object_of (register m p))) line f place (λ a. at ps 0 m)
  operates strict place line f (operations.Free p) ps m = o.ask (actions.Free (register m p)) line f place (λ a. at ps 0 m)
  operates strict place line f (operations.MayFail r) ps m = o.stop Blocked
  operates strict place line f (operations.Limit a b) ps m = o.stop Blocked

  -- an instruction of which so many words have been drawn, where it draws some
  abbrev pub operates_on : (words : ℕ) (strict : Bool) (place line function : ℕ) → Operation → List (Memory → R) → Memory → R
  operates_on words strict place line f (operations.Fill b r) ps m = fills_on words place line f b r ps m
  operates_on words strict place line f op ps m = operates strict place line f op ps m

  -- the meanings of the places of instructions and of later places; the first is the place with this number
  abbrev pub places_before : (strict : Bool) → ℕ → List Instruction → (later : List (Memory → R)) → List (Memory → R)
  places_before strict place [] later = later
  places_before strict place (i ∷ code) later = let rest = places_before strict (suc place) code later in operates strict place i.line i.function i.operation rest ∷ rest

  -- the meanings of the places of code
  abbrev pub places : (strict : Bool) → ℕ → List Instruction → List (Memory → R)
  places strict place code = places_before strict place code []

  -- what code does from its first place
  abbrev pub does : (strict : Bool) → ℕ → List Instruction → Memory → R
  does strict place code m = at (places strict place code) 0 m
