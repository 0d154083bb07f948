-- The registers and blocks of an activation among all, and what its operations do there.
use Rattle.std.proofs.Common.{◌≡◌, ◌≢◌, ℕ, zero, suc, ◌+◌, ◌-◌, ◌*◌, ◌<◌, ◌≤◌, Bool, true, false, take, drop, List, [], ◌∷◌, ◌++◌, length, map, None, refl, sym, ap, ◌∙◌, subst, arith}
use Rattle.std.specs.Prelude.{not, ◌==◌, ◌&&◌, nat_lt, nat_le, slice_index, slice_set, if◌then◌else◌}
use Rattle.std.proofs.lemmas.Bool.{false≢true}
use Rattle.std.proofs.lemmas.Bool.Decides.{nat_tests}
use Rattle.std.proofs.Math.Seq.{map-set_same}
use Rattle.std.proofs.Math.ListN.{get_or-map}
use Rattle.std.proofs.lemmas.List.{get_or-set_same, get_or-set_other, length-set, length-replicate, length-take-le, length-drop}
use Rattle.c_types.specs.declared.integers.IntegerType.{IntegerType}
use Rattle.core_tree.specs.Operations.{number, unless, division_check, count_check, left_shift_check, arithmetic_check, sign_check, truth_bits, converted, arithmetic_value, sign_value, compared}
use Rattle.actions.specs.Pointer.{object_of, offset_of}
use Rattle.c_types.specs.declared.integers.IntegerType.TheVariants.{UnsignedLong}
use Rattle.c_values.specs.Pointers.{pointer_at, further, in_range, offset_by, elements_between}
use Rattle.c_values.specs.Variables.{Variables, block_of, put_at, put_bytes, zeros, low_bytes, number_at, read_variable}
use Rattle.goto_prog.specs.declared.code.Condition.{Condition}
use Rattle.goto_prog.specs.declared.code.Condition.TheVariants as checks
use Rattle.goto_prog.specs.declared.code.Operation.{Operation}
use Rattle.goto_prog.specs.declared.code.Operation.TheVariants as operations
use Rattle.goto_prog.specs.Fitting.{check_fits, operation_fits}
use Rattle.core_tree.specs.declared.operators.SignOperator.TheVariants as signs
use Rattle.words.specs.declared.check.Class.TheVariants as classes
use Rattle.actions.specs.Behaviour.{Behaviour}
use Rattle.goto_prog.specs.declared.code.Instruction.{Instruction}
use Rattle.goto_prog.specs.Threads.{behaving}
use Rattle.goto_prog.specs.Meaning.{Memory, Reading, register, with_register, with_blocks, bytes_of, taken_at, put_within, calculated, check_class, return_check, operates}
use Rattle.goto_prog.proofs.Blocks.{within_size}
use Rattle.goto_prog.specs.Meaning as flat_meaning
use Rattle.std.specs.Int.{to_le_bytes, w64}
use Rattle.goto_unwind.specs.Unrolled.{Space, renumbered, renumbered_check}

pub left_of : (a b : Bool) → (a && b) ≡ true → a ≡ true
left_of true b h = refl
left_of false b h = h

pub right_of : (a b : Bool) → (a && b) ≡ true → b ≡ true
right_of true b h = h
right_of false b h = absurd (false≢true h)

pub test_less : (a b : ℕ) → nat_lt a b ≡ true → a < b
test_less a b h = grind (arith, nat_tests)

pub test_most : (a b : ℕ) → nat_le a b ≡ true → a ≤ b
test_most a b h = grind (arith, nat_tests)

-- over the types of an activation's registers and the sizes of its blocks, its first register and block
module _ (types : List IntegerType) (sizes : List ℕ) (r0 b0 : ℕ) where
  -- they are there in a memory of all, with the words and bytes of the activation's own
  pub record Shows (m sm : Memory) : Type 0 where
    pub registers : (r : ℕ) → r < length types → register m (r0 + r) ≡ register sm r
    pub count : length sm.registers ≡ length types
    pub room : r0 + length types ≤ length m.registers
    pub blocks : (v : ℕ) → v < length sizes → block_of m.blocks (b0 + v) ≡ block_of sm.blocks v
    pub extents : map length sm.blocks ≡ sizes
    pub blocks_room : b0 + length sizes ≤ length m.blocks

  -- what lies elsewhere is as it was
  pub record Elsewhere (m m' : Memory) : Type 0 where
    pub registers : (r : ℕ) → r < r0 → register m' r ≡ register m r
    pub registers_behind : (r : ℕ) → r0 + length types ≤ r → register m' r ≡ register m r
    pub count : length m'.registers ≡ length m.registers
    pub blocks : (v : ℕ) → v < b0 → block_of m'.blocks v ≡ block_of m.blocks v
    pub blocks_behind : (v : ℕ) → b0 + length sizes ≤ v → block_of m'.blocks v ≡ block_of m.blocks v
    pub blocks_count : length m'.blocks ≡ length m.blocks

  pub nowhere : (m : Memory) → Elsewhere m m
  nowhere m = record { registers = λ r lt. refl; registers_behind = λ r from. refl; count = refl; blocks = λ v lt. refl; blocks_behind = λ v from. refl; blocks_count = refl }

  -- both: an operation did there what it does on the activation's own
  abbrev Does : Memory → Memory → Memory → Type 0
  Does m m' sm = Shows m' sm × Elsewhere m m'

  pub sets_register : (r x : ℕ) (m sm : Memory) → r < length types → Shows m sm → Does m (with_register m (r0 + r) x) (with_register sm r x)
  sets_register r x m sm there shows = (
    record {
      registers = λ q lt. by_number (q == r) q refl lt;
      count = length-set sm.registers r x ∙ shows.count;
      room = omega (arith, shows.room, length-set m.registers (r0 + r) x);
      blocks = shows.blocks;
      extents = shows.extents;
      blocks_room = shows.blocks_room;
    },
    record {
      registers = λ q lt. get_or-set_other m.registers (r0 + r) q x 0 (λ e. omega (arith, e, lt));
      registers_behind = λ q from. get_or-set_other m.registers (r0 + r) q x 0 (λ e. omega (arith, e, from, there));
      count = length-set m.registers (r0 + r) x;
      blocks = λ v lt. refl;
      blocks_behind = λ v from. refl;
      blocks_count = refl;
    },
  )
    where
      equal : (a b : ℕ) → (a == b) ≡ true → a ≡ b
      equal a b h = grind (arith, nat_tests)

      apart : (a b : ℕ) → (a == b) ≡ false → a ≢ b
      apart a b h e = absurd (grind (arith, nat_tests))

      by_number : (b : Bool) (q : ℕ) → (q == r) ≡ b → q < length types → register (with_register m (r0 + r) x) (r0 + q) ≡ register (with_register sm r x) q
      by_number true q h lt =
          let same : q ≡ r = equal q r h in
          (λ i. slice_index (slice_set m.registers (r0 + r) x) (r0 + same i))
          ∙ get_or-set_same m.registers (r0 + r) x 0 (omega (arith, there, shows.room))
          ∙ sym (get_or-set_same sm.registers r x 0 (omega (arith, there, shows.count)))
          ∙ (λ i. slice_index (slice_set sm.registers r x) (sym same i))
      by_number false q h lt =
          let other = apart q r h in
          get_or-set_other m.registers (r0 + r) (r0 + q) x 0 (λ e. other (omega (arith, e)))
          ∙ shows.registers q lt
          ∙ sym (get_or-set_other sm.registers r q x 0 other)

  block_count : (sm : Memory) → map length sm.blocks ≡ sizes → length sm.blocks ≡ length sizes
  block_count sm same = sym (length_map sm.blocks) ∙ ap length same
    where
      length_map : (xs : Variables) → length (map length xs) ≡ length xs
      length_map [] = refl
      length_map (x ∷ xs) = omega (arith, length_map xs)

  pub block_size : (sm : Memory) (v : ℕ) → map length sm.blocks ≡ sizes → length (block_of sm.blocks v) ≡ slice_index sizes v
  block_size sm v same = sym (get_or-map length sm.blocks v []) ∙ ap (λ xs. slice_index xs v) same

  -- a block takes other bytes, as many
  pub sets_block : (v : ℕ) (new : List ℕ) (m sm : Memory) → v < length sizes → length new ≡ length (block_of sm.blocks v) → Shows m sm
      → Does m (with_blocks m (slice_set m.blocks (b0 + v) new)) (with_blocks sm (slice_set sm.blocks v new))
  sets_block v new m sm there same_length shows = (
    record {
      registers = shows.registers;
      count = shows.count;
      room = shows.room;
      blocks = λ q lt. by_number (q == v) q refl lt;
      extents = map-set_same length sm.blocks v new [] same_length ∙ shows.extents;
      blocks_room = omega (arith, shows.blocks_room, length-set m.blocks (b0 + v) new);
    },
    record {
      registers = λ q lt. refl;
      registers_behind = λ q from. refl;
      count = refl;
      blocks = λ q lt. get_or-set_other m.blocks (b0 + v) q new [] (λ e. omega (arith, e, lt));
      blocks_behind = λ q from. get_or-set_other m.blocks (b0 + v) q new [] (λ e. omega (arith, e, from, there));
      blocks_count = length-set m.blocks (b0 + v) new;
    },
  )
    where
      equal : (a b : ℕ) → (a == b) ≡ true → a ≡ b
      equal a b h = grind (arith, nat_tests)

      apart : (a b : ℕ) → (a == b) ≡ false → a ≢ b
      apart a b h e = absurd (grind (arith, nat_tests))

      by_number : (b : Bool) (q : ℕ) → (q == v) ≡ b → q < length sizes → block_of (slice_set m.blocks (b0 + v) new) (b0 + q) ≡ block_of (slice_set sm.blocks v new) q
      by_number true q h lt =
          let same : q ≡ v = equal q v h in
          (λ i. block_of (slice_set m.blocks (b0 + v) new) (b0 + same i))
          ∙ get_or-set_same m.blocks (b0 + v) new [] (omega (arith, there, shows.blocks_room))
          ∙ sym (get_or-set_same sm.blocks v new [] (omega (arith, there, block_count sm shows.extents)))
          ∙ (λ i. block_of (slice_set sm.blocks v new) (sym same i))
      by_number false q h lt =
          let other = apart q v h in
          get_or-set_other m.blocks (b0 + v) (b0 + q) new [] (λ e. other (omega (arith, e)))
          ∙ shows.blocks q lt
          ∙ sym (get_or-set_other sm.blocks v q new [] other)

  -- ---- operations that calculate

  pub short : (n : ℕ) (xs : List ℕ) → length (take n xs) ≤ n
  short zero xs = omega arith
  short (suc n) [] = omega arith
  short (suc n) (x ∷ xs) = omega (arith, short n xs)

  put_size : (to : ℕ) (new old : List ℕ) → to + length new ≤ length old → length (put_at to new old) ≡ length old
  put_size to new old fits = omega (arith, fits, taken to old (omega (arith, fits)), dropped (to + length new) old, joined (take to old) (new ++ drop (to + length new) old), joined new (drop (to + length new) old))
    where
      taken : (n : ℕ) (xs : List ℕ) → n ≤ length xs → length (take n xs) ≡ n
      taken n xs h = length-take-le n xs h

      dropped : (n : ℕ) (xs : List ℕ) → length (drop n xs) ≡ length xs - n
      dropped n xs = length-drop n xs

      joined : (xs ys : List ℕ) → length (xs ++ ys) ≡ length xs + length ys
      joined [] ys = omega arith
      joined (x ∷ xs) ys = omega (arith, joined xs ys)

  pub set_as : (r x y : ℕ) (m sm : Memory) → r < length types → Shows m sm → x ≡ y → Does m (with_register m (r0 + r) x) (with_register sm r y)
  set_as r x y m sm there shows same = subst (λ (z : ℕ). Does m (with_register m (r0 + r) z) (with_register sm r y)) (sym same) (sets_register r y m sm there shows)

  -- bytes are put into a block
  pub puts : (v to : ℕ) (new now : List ℕ) (m sm : Memory) → v < length sizes → to + length now ≤ slice_index sizes v → Shows m sm → new ≡ now
      → Does m (with_blocks m (put_bytes m.blocks (b0 + v) to new)) (with_blocks sm (put_bytes sm.blocks v to now))
  puts v to new now m sm there fits shows same =
      let old = block_of sm.blocks v in
      let as_long : length (put_at to now old) ≡ length old = put_size to now old (omega (arith, fits, block_size sm v shows.extents)) in
      subst (λ (bs : List ℕ). Does m (with_blocks m (slice_set m.blocks (b0 + v) bs)) (with_blocks sm (put_bytes sm.blocks v to now)))
      (sym ((λ i. put_at to (same i) (block_of m.blocks (b0 + v))) ∙ (λ i. put_at to now (shows.blocks v there i))))
      (sets_block v (put_at to now old) m sm there as_long shows)

  operand : (a : ℕ) (rest : Bool) → (nat_lt a (length types) && rest) ≡ true → a < length types
  operand a rest h = test_less a (length types) (left_of (nat_lt a (length types)) rest h)

  abbrev Calculates : Operation → Type 0
  Calculates o = (m sm : Memory) → Shows m sm → Does m (calculated (renumbered r0 b0 o) m) (calculated o sm)

  pub calculates : (behind : ℕ) (o : Operation) → operation_fits types sizes behind o ≡ true → Calculates o
  calculates behind (operations.Constant r bits) fits m sm shows = sets_register r bits m sm (operand r _ fits) shows
  calculates behind (operations.Copy r a) fits m sm shows =
      set_as r (register m (r0 + a)) (register sm a) m sm (operand r _ (right_of _ _ fits)) shows (shows.registers a (test_less a (length types) (left_of _ _ fits)))
  calculates behind (operations.Load r t b offset) fits m sm shows =
      let there = test_less b (length sizes) (left_of _ _ (right_of _ _ fits)) in
      set_as r (read_variable m.blocks (b0 + b) offset t) (read_variable sm.blocks b offset t) m sm (operand r _ (left_of _ _ fits)) shows (ap (number_at t offset) (shows.blocks b there))
  calculates behind (operations.Store b offset count a) fits m sm shows =
      let there = test_less b (length sizes) (left_of _ _ (right_of _ _ fits)) in
      let inside = test_most (offset + count) (slice_index sizes b) (right_of _ _ (right_of _ _ fits)) in
      puts b offset (low_bytes count (register m (r0 + a))) (low_bytes count (register sm a)) m sm there (omega (arith, inside, short count (to_le_bytes w64 (register sm a)))) shows
      (ap (low_bytes count) (shows.registers a (operand a _ (left_of _ _ (left_of _ _ fits)))))
  calculates behind (operations.Clear b size) fits m sm shows =
      let there = test_less b (length sizes) (left_of _ _ fits) in
      let same : size ≡ slice_index sizes b = equal size (slice_index sizes b) (right_of _ _ fits) in
      sets_block b (zeros size) m sm there (length-replicate size 0 ∙ same ∙ sym (block_size sm b shows.extents)) shows
    where
      equal : (a b : ℕ) → (a == b) ≡ true → a ≡ b
      equal a b h = grind (arith, nat_tests)
  calculates behind (operations.CopyBytes into to from offset count) fits m sm shows =
      let there = test_less into (length sizes) (left_of _ _ (left_of _ _ fits)) in
      let inside = test_most (to + count) (slice_index sizes into) (right_of _ _ (left_of _ _ fits)) in
      let source = test_less from (length sizes) (left_of _ _ (right_of _ _ fits)) in
      puts into to (bytes_of m.blocks (b0 + from) offset count) (bytes_of sm.blocks from offset count) m sm there (omega (arith, inside, short count (drop offset (block_of sm.blocks from)))) shows
      (ap (λ bs. take count (drop offset bs)) (shows.blocks from source))
  calculates behind (operations.Convert r from to a) fits m sm shows =
      set_as r (converted from to (register m (r0 + a))) (converted from to (register sm a)) m sm (operand r _ (left_of _ _ fits)) shows (ap (converted from to) (shows.registers a (operand a _ (right_of _ _ fits))))
  calculates behind (operations.Sign r op t a) fits m sm shows =
      set_as r (sign_value op t (register m (r0 + a))) (sign_value op t (register sm a)) m sm (operand r _ (left_of _ _ fits)) shows (ap (sign_value op t) (shows.registers a (operand a _ (right_of _ _ fits))))
  calculates behind (operations.Arithmetic r op t u a b) fits m sm shows =
      let first = shows.registers a (operand a _ (right_of _ _ (left_of _ _ fits))) in
      let second = shows.registers b (operand b _ (right_of _ _ fits)) in
      set_as r (arithmetic_value op t (register m (r0 + a)) (register m (r0 + b))) (arithmetic_value op t (register sm a) (register sm b)) m sm (operand r _ (right_of _ _ (left_of _ _ (left_of _ _ fits)))) shows
      (λ i. arithmetic_value op t (first i) (second i))
  calculates behind (operations.Compare r op t a b) fits m sm shows =
      let first = shows.registers a (operand a _ (right_of _ _ (left_of _ _ fits))) in
      let second = shows.registers b (operand b _ (right_of _ _ fits)) in
      set_as r (truth_bits (compared op t (register m (r0 + a)) (register m (r0 + b)))) (truth_bits (compared op t (register sm a) (register sm b))) m sm (operand r _ (left_of _ _ (left_of _ _ fits))) shows
      (λ i. truth_bits (compared op t (first i) (second i)))
  calculates behind (operations.IsZero r a) fits m sm shows =
      set_as r (truth_bits (register m (r0 + a) == 0)) (truth_bits (register sm a == 0)) m sm (operand r _ (left_of _ _ fits)) shows
      (λ i. truth_bits (shows.registers a (test_less a (length types) (right_of _ _ fits)) i == 0))
  calculates behind (operations.Skip n) fits m sm shows = (shows, nowhere m)
  calculates behind (operations.SkipIfZero a n) fits m sm shows = (shows, nowhere m)
  calculates behind (operations.Check c) fits m sm shows = (shows, nowhere m)
  calculates behind (operations.Assert a) fits m sm shows = (shows, nowhere m)
  calculates behind (operations.Assume a) fits m sm shows = (shows, nowhere m)
  calculates behind (operations.Draw r bits) fits m sm shows = (shows, nowhere m)
  calculates behind (operations.ReadObject b to k offset count) fits m sm shows = (shows, nowhere m)
  calculates behind (operations.WriteObject k offset b from count) fits m sm shows = (shows, nowhere m)
  calculates behind operations.Exit fits m sm shows = (shows, nowhere m)
  calculates behind (operations.Fail class) fits m sm shows = (shows, nowhere m)
  calculates behind (operations.Use a) fits m sm shows = (shows, nowhere m)
  calculates behind (operations.Call f first count into r) fits m sm shows = (shows, nowhere m)
  calculates behind (operations.Return v) fits m sm shows = (shows, nowhere m)
  calculates behind (operations.Move r p j t n size class) fits m sm shows =
      let first = shows.registers p (operand p _ (left_of _ _ (left_of _ _ (right_of _ _ fits)))) in
      let second = shows.registers j (operand j _ (right_of _ _ (left_of _ _ (right_of _ _ fits)))) in
      set_as r (pointer_at (register m (r0 + p)) (offset_by (offset_of (register m (r0 + p))) (number t (register m (r0 + j))) n)) (pointer_at (register sm p) (offset_by (offset_of (register sm p)) (number t (register sm j)) n)) m sm (operand r _ (left_of _ _ fits)) shows
      (λ i. pointer_at (first i) (offset_by (offset_of (first i)) (number t (second i)) n))
  calculates behind (operations.Offset r p count) fits m sm shows =
      set_as r (further (register m (r0 + p)) count) (further (register sm p) count) m sm (operand r _ (left_of _ _ fits)) shows (ap (λ x. further x count) (shows.registers p (operand p _ (right_of _ _ fits))))
  calculates behind (operations.Same p q) fits m sm shows = (shows, nowhere m)
  calculates behind (operations.Distance r p q n) fits m sm shows =
      let first = shows.registers p (operand p _ (right_of _ _ (left_of _ _ (left_of _ _ fits)))) in
      let second = shows.registers q (operand q _ (right_of _ _ (left_of _ _ fits))) in
      set_as r (elements_between (register m (r0 + p)) (register m (r0 + q)) n) (elements_between (register sm p) (register sm q) n) m sm (operand r _ (left_of _ _ (left_of _ _ (left_of _ _ fits)))) shows (λ i. elements_between (first i) (second i) n)
  calculates behind (operations.Relate r op p q) fits m sm shows =
      let first = shows.registers p (operand p _ (right_of _ _ (left_of _ _ fits))) in
      let second = shows.registers q (operand q _ (right_of _ _ fits)) in
      set_as r (truth_bits (compared op UnsignedLong (offset_of (register m (r0 + p))) (offset_of (register m (r0 + q))))) (truth_bits (compared op UnsignedLong (offset_of (register sm p)) (offset_of (register sm q)))) m sm (operand r _ (left_of _ _ (left_of _ _ fits))) shows
      (λ i. truth_bits (compared op UnsignedLong (offset_of (first i)) (offset_of (second i))))
  calculates behind (operations.Take b to from p count whole) fits m sm shows =
      let there = test_less b (length sizes) (left_of _ _ (right_of _ _ (left_of _ _ fits))) in
      let inside = test_most (to + count) (slice_index sizes b) (right_of _ _ (right_of _ _ (left_of _ _ fits))) in
      let source = test_less from (length sizes) (left_of _ _ (right_of _ _ fits)) in
      let at = shows.registers p (operand p _ (left_of _ _ (left_of _ _ fits))) in
      puts b to (taken_at count (offset_of (register m (r0 + p))) (block_of m.blocks (b0 + from))) (taken_at count (offset_of (register sm p)) (block_of sm.blocks from)) m sm there
      (omega (arith, inside, short count (drop (offset_of (register sm p)) (block_of sm.blocks from) ++ zeros count))) shows
      (λ i. taken_at count (offset_of (at i)) (shows.blocks from source i))
  calculates behind (operations.Put b p from to count whole) fits m sm shows =
      let there = test_less b (length sizes) (left_of _ _ (right_of _ _ fits)) in
      let source = test_less from (length sizes) (left_of _ _ (right_of _ _ (left_of _ _ fits))) in
      let at = shows.registers p (operand p _ (left_of _ _ (left_of _ _ fits))) in
      let now = put_within (offset_of (register sm p)) (bytes_of sm.blocks from to count) (block_of sm.blocks b) in
      subst (λ (bs : List ℕ). Does m (with_blocks m (slice_set m.blocks (b0 + b) bs)) (with_blocks sm (slice_set sm.blocks b now)))
      (sym (λ i. put_within (offset_of (at i)) (take count (drop to (shows.blocks from source i))) (shows.blocks b there i)))
      (sets_block b now m sm there (within_size (offset_of (register sm p)) (bytes_of sm.blocks from to count) (block_of sm.blocks b)) shows)
  calculates behind (operations.Read b to p count) fits m sm shows = (shows, nowhere m)
  calculates behind (operations.Write p b from count first) fits m sm shows = (shows, nowhere m)
  calculates behind (operations.Look r p subscript) fits m sm shows = (shows, nowhere m)
  calculates behind (operations.Fill b r) fits m sm shows = (shows, nowhere m)
  calculates behind (operations.Alloc r b size readonly heap) fits m sm shows = (shows, nowhere m)
  calculates behind (operations.Die p) fits m sm shows = (shows, nowhere m)
  calculates behind (operations.Free p) fits m sm shows = (shows, nowhere m)
  calculates behind (operations.MayFail r) fits m sm shows = (shows, nowhere m)
  calculates behind (operations.Limit x y) fits m sm shows = (shows, nowhere m)

  -- a condition is broken there where it is on the activation's own registers
  pub checks_same : (c : Condition) → check_fits types c ≡ true → (m sm : Memory) → Shows m sm → check_class (renumbered_check r0 c) m ≡ check_class c sm
  checks_same (checks.Divisor b) fits m sm shows = λ i. unless (not (shows.registers b (test_less b (length types) fits) i == 0)) classes.Division
  checks_same (checks.Quotient t a b) fits m sm shows =
      let first = shows.registers a (operand a _ (right_of _ _ (left_of _ _ fits))) in
      let second = shows.registers b (operand b _ (right_of _ _ fits)) in
      λ i. if second i == 0 then None else division_check t (first i) (second i)
  checks_same (checks.Range op t a b) fits m sm shows =
      let first = shows.registers a (operand a _ (right_of _ _ (left_of _ _ fits))) in
      let second = shows.registers b (operand b _ (right_of _ _ fits)) in
      λ i. arithmetic_check op t t (first i) (second i)
  checks_same (checks.Negation t a) fits m sm shows = ap (sign_check signs.Minus t) (shows.registers a (operand a _ (right_of _ _ fits)))
  checks_same (checks.Count t u a) fits m sm shows = ap (count_check t u) (shows.registers a (operand a _ fits))
  checks_same (checks.LeftShift t u a b) fits m sm shows =
      let first = shows.registers a (operand a _ (right_of _ _ (left_of _ _ fits))) in
      let second = shows.registers b (operand b _ (right_of _ _ fits)) in
      λ i. left_shift_check t u (first i) (second i)
  checks_same (checks.Returned a) fits m sm shows = ap return_check (shows.registers a (test_less a (length types) fits))
  checks_same (checks.Within p j t n size class) fits m sm shows =
      let first = shows.registers p (operand p _ (left_of _ _ (left_of _ _ fits))) in
      let second = shows.registers j (operand j _ (right_of _ _ (left_of _ _ fits))) in
      let third = shows.registers size (operand size _ (right_of _ _ fits)) in
      λ i. unless (in_range (offset_by (offset_of (first i)) (number t (second i)) n) (third i)) class
  checks_same (checks.SameObject p q) fits m sm shows =
      let first = shows.registers p (operand p _ (left_of _ _ fits)) in
      let second = shows.registers q (operand q _ (right_of _ _ fits)) in
      λ i. unless (object_of (first i) == object_of (second i)) classes.Pointer
  checks_same (checks.Inside p count whole) fits m sm shows =
      let first = shows.registers p (operand p _ fits) in
      λ i. unless (nat_le (offset_of (first i) + count) whole) classes.Bounds
  checks_same (checks.AtMost x y most) fits m sm shows =
      let first = shows.registers x (operand x _ (left_of _ _ fits)) in
      let second = shows.registers y (operand y _ (right_of _ _ fits)) in
      λ i. unless (nat_le (first i * second i) most) classes.MallocLimit

-- ---- flat code

abbrev pub Places : Type 0
Places = List (Memory → Behaviour)

-- the meanings of the places of flat code, the end of which nothing follows
abbrev pub on : List Instruction → Places
on [] = []
on (i ∷ xs) = operates behaving false 0 i.line i.function i.operation (on xs) ∷ on xs

abbrev pub begin : List Instruction → Memory → Behaviour
begin xs m = flat_meaning.at behaving (on xs) 0 m

-- from the place behind which so many lie
abbrev pub from_end : List Instruction → ℕ → Memory → Behaviour
from_end xs w m = flat_meaning.at behaving (on xs) (length xs - w) m

-- code stands in front of other code
pub record InFront (xs rest : List Instruction) : Type 0 where
  pub front : List Instruction
  pub is : xs ≡ front ++ rest

at_behind : (front rest : List Instruction) (j : ℕ) (m : Memory) → flat_meaning.at behaving (on (front ++ rest)) (length front + j) m ≡ flat_meaning.at behaving (on rest) j m
at_behind [] rest j m = let none : length {A = Instruction} [] + j ≡ j = omega arith in ap (λ n. flat_meaning.at behaving (on rest) n m) none
at_behind (i ∷ front) rest j m =
    let one : length (i ∷ front) + j ≡ suc (length front + j) = omega arith in
    ap (λ n. flat_meaning.at behaving (on (i ∷ (front ++ rest))) n m) one ∙ at_behind front rest j m

pub front_length : (xs rest : List Instruction) (f : InFront xs rest) → length xs ≡ length f.front + length rest
front_length xs rest f = ap length f.is ∙ joined f.front rest
  where
    joined : (as_ bs : List Instruction) → length (as_ ++ bs) ≡ length as_ + length bs
    joined [] bs = omega arith
    joined (a ∷ as_) bs = omega (arith, joined as_ bs)

pub from_end_front : (xs rest : List Instruction) (w : ℕ) (m : Memory) → InFront xs rest → w ≤ length rest → from_end xs w m ≡ from_end rest w m
from_end_front xs rest w m f within =
    let same : length xs - w ≡ length f.front + (length rest - w) = omega (arith, front_length xs rest f, within) in
    (λ i. flat_meaning.at behaving (on (f.is i)) (same i) m) ∙ at_behind f.front rest (length rest - w) m

pub from_end_begin : (xs : List Instruction) (m : Memory) → from_end xs (length xs) m ≡ begin xs m
from_end_begin xs m = let none : length xs - length xs ≡ 0 = omega arith in ap (λ n. flat_meaning.at behaving (on xs) n m) none

pub itself : (xs : List Instruction) → InFront xs xs
itself xs = record { front = []; is = refl }

pub one_front : (i : Instruction) (xs rest : List Instruction) → InFront xs rest → InFront (i ∷ xs) rest
one_front i xs rest f = record { front = i ∷ f.front; is = ap (λ ys. i ∷ ys) f.is }

pub some_front : (as_ xs rest : List Instruction) → InFront xs rest → InFront (as_ ++ xs) rest
some_front [] xs rest f = f
some_front (a ∷ as_) xs rest f = one_front a (as_ ++ xs) rest (some_front as_ xs rest f)

pub then_front : (xs ys zs : List Instruction) → InFront xs ys → InFront ys zs → InFront xs zs
then_front xs ys zs f g = record { front = f.front ++ g.front; is = f.is ∙ ap (λ bs. f.front ++ bs) g.is ∙ sym (assoc f.front g.front zs) }
  where
    assoc : (as_ bs cs : List Instruction) → (as_ ++ bs) ++ cs ≡ as_ ++ (bs ++ cs)
    assoc [] bs cs = refl
    assoc (a ∷ as_) bs cs = ap (λ es. a ∷ es) (assoc as_ bs cs)

-- ---- an activation among the others

-- registers and blocks below these are as they were
pub record Below (r0 b0 : ℕ) (m m' : Memory) : Type 0 where
  pub registers : (r : ℕ) → r < r0 → register m' r ≡ register m r
  pub count : length m'.registers ≡ length m.registers
  pub blocks : (v : ℕ) → v < b0 → block_of m'.blocks v ≡ block_of m.blocks v
  pub blocks_count : length m'.blocks ≡ length m.blocks

-- over the sizes of all blocks in the end, the types of an activation's registers and the sizes of its blocks, its first register and block, and what has to hold of the memory elsewhere
module _ (all_sizes : List ℕ) (types : List IntegerType) (sizes : List ℕ) (r0 b0 : ℕ) (Holds : Memory → Type 0) where
  -- what comes later has registers that are 0 and blocks whose bytes are
  pub record Clean (s : Space) (m : Memory) : Type 0 where
    pub registers : (r : ℕ) → r0 + length types ≤ r → r < length s.registers → register m r ≡ 0
    pub blocks : (v : ℕ) → b0 + length sizes ≤ v → v < length s.blocks → block_of m.blocks v ≡ zeros (slice_index all_sizes v)

  pub record Good (s : Space) (m sm : Memory) : Type 0 where
    pub shows : Shows types sizes r0 b0 m sm
    pub holds : Holds m
    pub clean : Clean s m
    pub zero_there : register m 0 ≡ 0
    pub room : length s.registers ≤ length m.registers
    pub blocks_room : length s.blocks ≤ length m.blocks

  pub record Grows (s t : Space) : Type 0 where
    pub registers : length s.registers ≤ length t.registers
    pub blocks : length s.blocks ≤ length t.blocks

  pub good_before : (s t : Space) (m sm : Memory) → Grows s t → Good t m sm → Good s m sm
  good_before s t m sm grows good = record {
    shows = good.shows;
    holds = good.holds;
    clean = record { registers = λ r from lt. good.clean.registers r from (omega (arith, lt, grows.registers)); blocks = λ v from lt. good.clean.blocks v from (omega (arith, lt, grows.blocks)) };
    zero_there = good.zero_there;
    room = omega (arith, good.room, grows.registers);
    blocks_room = omega (arith, good.blocks_room, grows.blocks);
  }

  module _ (kept : (m m' : Memory) → Below r0 b0 m m' → Holds m → Holds m') (some : 1 ≤ r0) where
    pub good_does : (s : Space) (m m' sm sm' : Memory) → Good s m sm → Shows types sizes r0 b0 m' sm' × Elsewhere types sizes r0 b0 m m' → Good s m' sm'
    good_does s m m' sm sm' good did =
        let other = did.1 in
        record {
          shows = did.0;
          holds = kept m m' (record { registers = other.registers; count = other.count; blocks = other.blocks; blocks_count = other.blocks_count }) good.holds;
          clean = record { registers = λ r from lt. other.registers_behind r from ∙ good.clean.registers r from lt; blocks = λ v from lt. other.blocks_behind v from ∙ good.clean.blocks v from lt };
          zero_there = other.registers 0 some ∙ good.zero_there;
          room = omega (arith, good.room, other.count);
          blocks_room = omega (arith, good.blocks_room, other.blocks_count);
        }
