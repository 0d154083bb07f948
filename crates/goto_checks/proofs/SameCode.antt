-- Plain code with its checks does what strict code does.
use Rattle.std.proofs.Common.{◌≡◌, sym, map, Option, ℕ, zero, suc, ◌+◌, ◌-◌, ◌*◌, Bool, true, false, List, [], ◌∷◌, length, Some, None, refl, ap, ◌∙◌, arith}
use Rattle.std.specs.Prelude.{option_map, slice_get, pos, not, ◌&&◌, ◌||◌, ◌==◌, int_lt, int_le, if◌then◌else◌}
use Rattle.words.specs.declared.check.Class.TheVariants as classes
use Rattle.words.specs.Operators.{word_negation, word_complement, product_fits, sum_fits, difference_fits, left_shift_fits}
use Rattle.c_types.specs.declared.integers.IntegerType.{IntegerType}
use Rattle.c_types.specs.Integers.{is_signed, width}
use Rattle.core_tree.specs.declared.operators.ArithmeticOperator.{ArithmeticOperator}
use Rattle.core_tree.specs.declared.operators.ArithmeticOperator.TheVariants as arithmetics
use Rattle.core_tree.specs.declared.operators.SignOperator.{SignOperator}
use Rattle.core_tree.specs.declared.operators.SignOperator.TheVariants as signs
use Rattle.core_tree.specs.Operations.{unless, overflows, number, arithmetic_check, sign_check}
use Rattle.goto_prog.specs.declared.code.Condition.{Condition}
use Rattle.goto_prog.specs.declared.code.Condition.TheVariants as checks
use Rattle.goto_prog.specs.declared.code.Operation.{Operation}
use Rattle.goto_prog.specs.declared.code.Operation.TheVariants as operations
use Rattle.goto_prog.specs.declared.code.Instruction.{Instruction}
use Rattle.actions.specs.Behaviour.{Behaviour}
use Rattle.actions.specs.declared.action.Action.TheVariants.{Read, Write, Look, Draw, Alloc, Die, Free}
use Rattle.actions.specs.Pointer.{object_of}
use Rattle.c_values.specs.Variables.{pointer_to, low_bytes, put_bytes, word_count, drawn_count}
use Rattle.c_values.specs.MadeObjects.{made_of}
use Rattle.actions.specs.declared.action.Next.TheVariants.{Broken, Blocked}
use Rattle.goto_prog.specs.Meaning.{Memory, Given, Reading, return_check, arguments_of, received, given_by, register, with_register, with_blocks, bytes_of, range_check, same_check, inside_check, first_count, first_bytes, word_of, bytes_in, size_in, number_in, at, or_else, check_class, fills, operates}
use Rattle.core_tree.specs.Ranges.{Limits}
use Rattle.goto_prog.specs.Nodes.{Nodes, done, plain, repeats, Routine}
use Rattle.goto_prog.specs.Structured.{Bounded, resolved, name_of, tests_in, tests, round_count, rounds, nodes_before}
use Rattle.goto_checks.specs.Inserted.{arithmetic_checks, sign_checks, checks_of, with_checks, with_count, count_of, widths, extent, jumping, inserted}

one_past : (n : ℕ) → 1 + n ≡ suc n
one_past n = omega arith

one_within : (n w : ℕ) → n + 1 + w ≡ n + suc w
one_within n w = omega arith

-- the functions of strict code, and those with their checks
module _ (functions : List Routine) (others : List Routine) (limits : Limits) (named : (f : ℕ) → name_of (slice_get others f) ≡ name_of (slice_get functions f)) (o : Reading Behaviour) where
  abbrev strict : Bounded
  strict = record { strict = true; functions = functions; limits = limits }

  abbrev checked : Bounded
  checked = record { strict = false; functions = others; limits = limits }

  -- checks in turn, and what follows
  abbrev pub all_checks : List Condition → ℕ → ℕ → Memory → Behaviour → Behaviour
  all_checks [] line f m next = next
  all_checks (c ∷ cs) line f m next = or_else o (check_class c m) line f (all_checks cs line f m next)

  abbrev Places : Type 0
  Places = List (Memory → Behaviour)

  in_turn : (i : Instruction) (cs : List Condition) (code : Nodes) (later : Places) (m : Memory)
      → at o (nodes_before checked o (with_checks i cs code) later) 0 m ≡ all_checks cs i.line i.function m (at o (nodes_before checked o code later) 0 m)
  in_turn i [] code later m = refl
  in_turn i (c ∷ cs) code later m = ap (or_else o (check_class c m) i.line i.function) (in_turn i cs code later m)

  past_checks : (i : Instruction) (cs : List Condition) (code : Nodes) (later : Places) (n : ℕ) (m : Memory) → at o (nodes_before checked o (with_checks i cs code) later) (length cs + n) m ≡ at o (nodes_before checked o code later) n m
  past_checks i [] code later n m = let none : length {A = Condition} [] + n ≡ n = omega arith in ap (λ k. at o (nodes_before checked o code later) k m) none
  past_checks i (c ∷ cs) code later n m =
      let one : length (c ∷ cs) + n ≡ suc (length cs + n) = omega arith in
      ap (λ k. at o (nodes_before checked o (with_checks i (c ∷ cs) code) later) k m) one ∙ past_checks i cs code later n m

  -- ---- the checks of an operation are its own

  signed_range : (signed fits : Bool) (c : Condition) (m : Memory) (line f : ℕ) (next : Behaviour) → check_class c m ≡ overflows signed fits → all_checks (if signed then c ∷ [] else []) line f m next ≡ or_else o (overflows signed fits) line f next
  signed_range true fits c m line f next same = ap (λ k. or_else o k line f next) same
  signed_range false fits c m line f next same = refl

  divided : (signed zero_test fits : Bool) (c : Condition) (m : Memory) (line f : ℕ) (next : Behaviour)
      → check_class c m ≡ (if zero_test then None else (if zero_test then Some classes.Division else overflows signed fits))
      → or_else o (unless (not zero_test) classes.Division) line f (all_checks (if signed then c ∷ [] else []) line f m next)
      ≡ or_else o (if zero_test then Some classes.Division else overflows signed fits) line f next
  divided signed true fits c m line f next same = refl
  divided true false fits c m line f next same = ap (λ k. or_else o k line f next) same
  divided false false fits c m line f next same = refl

  shifted : (low high signed fits : Bool) (c d : Condition) (m : Memory) (line f : ℕ) (next : Behaviour)
      → check_class c m ≡ unless (low && high && (not signed || fits)) classes.Shift → check_class d m ≡ unless (low && high) classes.Shift
      → or_else o (check_class (if signed then c else d) m) line f next ≡ or_else o (unless (low && high && (not signed || fits)) classes.Shift) line f next
  shifted low high true fits c d m line f next same other = ap (λ k. or_else o k line f next) same
  shifted true true false fits c d m line f next same other = ap (λ k. or_else o k line f next) other
  shifted true false false fits c d m line f next same other = ap (λ k. or_else o k line f next) other
  shifted false high false fits c d m line f next same other = ap (λ k. or_else o k line f next) other

  arithmetic_checked : (op : ArithmeticOperator) (t u : IntegerType) (a b line f : ℕ) (m : Memory) (next : Behaviour)
      → all_checks (arithmetic_checks op t u a b) line f m next ≡ or_else o (arithmetic_check op t u (register m a) (register m b)) line f next
  arithmetic_checked arithmetics.Multiply t u a b line f m next = signed_range (is_signed t) (product_fits (width t) (register m a) (register m b)) (checks.Range arithmetics.Multiply t a b) m line f next refl
  arithmetic_checked arithmetics.Divide t u a b line f m next =
      divided (is_signed t) (register m b == 0) (not ((register m a == word_negation (width t) (register m a)) && not (register m a == 0) && (register m b == word_complement (width t) 0))) (checks.Quotient t a b) m line f next refl
  arithmetic_checked arithmetics.Remainder t u a b line f m next =
      divided (is_signed t) (register m b == 0) (not ((register m a == word_negation (width t) (register m a)) && not (register m a == 0) && (register m b == word_complement (width t) 0))) (checks.Quotient t a b) m line f next refl
  arithmetic_checked arithmetics.Add t u a b line f m next = signed_range (is_signed t) (sum_fits (width t) (register m a) (register m b)) (checks.Range arithmetics.Add t a b) m line f next refl
  arithmetic_checked arithmetics.Subtract t u a b line f m next = signed_range (is_signed t) (difference_fits (width t) (register m a) (register m b)) (checks.Range arithmetics.Subtract t a b) m line f next refl
  arithmetic_checked arithmetics.ShiftLeft t u a b line f m next =
      shifted (int_le (pos 0) (number u (register m b))) (int_lt (number u (register m b)) (pos (width t))) (is_signed t) (left_shift_fits (width t) (register m a) (register m b)) (checks.LeftShift t u a b) (checks.Count t u b) m line f next refl refl
  arithmetic_checked arithmetics.ShiftRight t u a b line f m next = refl
  arithmetic_checked arithmetics.And t u a b line f m next = refl
  arithmetic_checked arithmetics.Xor t u a b line f m next = refl
  arithmetic_checked arithmetics.Or t u a b line f m next = refl

  sign_checked : (op : SignOperator) (t : IntegerType) (a line f : ℕ) (m : Memory) (next : Behaviour) → all_checks (sign_checks op t a) line f m next ≡ or_else o (sign_check op t (register m a)) line f next
  sign_checked signs.Plus t a line f m next = refl
  sign_checked signs.Minus t a line f m next = signed_range (is_signed t) (difference_fits (width t) 0 (register m a)) (checks.Negation t a) m line f next refl
  sign_checked signs.Complement t a line f m next = refl

  -- ---- places that do the same

  -- the checked places, of which each of the others became so many
  abbrev pub Same : Places → List ℕ → Places → Type 0
  Same qs ws ps = (n : ℕ) (m : Memory) → at o qs (extent n ws) m ≡ at o ps n m

  same_fills : (words line f b size offset : ℕ) (qs : Places) (ws : List ℕ) (ps : Places) (m : Memory) → Same qs ws ps → fills o words 0 line f b size offset qs m ≡ fills o words 0 line f b size offset ps m
  same_fills zero line f b size offset qs ws ps m same = same 0 m
  same_fills (suc k) line f b size offset qs ws ps m same =
      let count = drawn_count size offset in
      λ j. o.ask (Draw (8 * count)) line f 0 (λ a. same_fills k line f b size (offset + 8) qs ws ps (with_blocks m (put_bytes m.blocks b offset (low_bytes count (word_of a)))) same j)

  same_fails : (may_fail : Bool) (line f r : ℕ) (qs : Places) (ws : List ℕ) (ps : Places) (m : Memory) → Same qs ws ps
      → operates o false 0 line f (if may_fail then operations.Draw r 1 else operations.Constant r 0) qs m ≡ operates o true 0 line f (if may_fail then operations.Draw r 1 else operations.Constant r 0) ps m
  same_fails true line f r qs ws ps m same = λ k. o.ask (Draw 1) line f 0 (λ a. same 0 (with_register m r (word_of a)) k)
  same_fails false line f r qs ws ps m same = same 0 _

  one : (line f : ℕ) (op : Operation) (qs : Places) (ws : List ℕ) (ps : Places) (m : Memory) → Same qs ws ps
      → all_checks (checks_of op) line f m (operates o false 0 line f (resolved limits (with_count op (extent (count_of op) ws))) qs m) ≡ operates o true 0 line f (resolved limits op) ps m
  one line f (operations.Constant r bits) qs ws ps m same = same 0 _
  one line f (operations.Copy r a) qs ws ps m same = same 0 _
  one line f (operations.Load r t b offset) qs ws ps m same = same 0 _
  one line f (operations.Store b offset count a) qs ws ps m same = same 0 _
  one line f (operations.Clear b size) qs ws ps m same = same 0 _
  one line f (operations.CopyBytes into to from offset count) qs ws ps m same = same 0 _
  one line f (operations.Convert r from to a) qs ws ps m same = same 0 _
  one line f (operations.Sign r op t a) qs ws ps m same = sign_checked op t a line f m _ ∙ ap (or_else o (sign_check op t (register m a)) line f) (same 0 _)
  one line f (operations.Arithmetic r op t u a b) qs ws ps m same = arithmetic_checked op t u a b line f m _ ∙ ap (or_else o (arithmetic_check op t u (register m a) (register m b)) line f) (same 0 _)
  one line f (operations.Compare r op t a b) qs ws ps m same = same 0 _
  one line f (operations.IsZero r a) qs ws ps m same = same 0 _
  one line f (operations.Skip n) qs ws ps m same = same n m
  one line f (operations.SkipIfZero a n) qs ws ps m same = λ k. if register m a == 0 then same n m k else same 0 m k
  one line f (operations.Check c) qs ws ps m same = ap (or_else o (check_class c m) line f) (same 0 m)
  one line f (operations.Assert a) qs ws ps m same = λ k. if register m a == 0 then o.stop (Broken classes.Assertion line f) else same 0 m k
  one line f (operations.Assume a) qs ws ps m same = λ k. if register m a == 0 then o.stop Blocked else same 0 m k
  one line f (operations.Draw r bits) qs ws ps m same = λ k. o.ask (Draw bits) line f 0 (λ a. same 0 (with_register m r (word_of a)) k)
  one line f (operations.ReadObject b to object offset count) qs ws ps m same = λ k. o.ask (Read (pointer_to object offset) count) line f 0 (λ a. same 0 (with_blocks m (put_bytes m.blocks b to (bytes_in a))) k)
  one line f (operations.WriteObject object offset b from count) qs ws ps m same = λ k. o.ask (Write (pointer_to object offset) (bytes_of m.blocks b from count) false) line f 0 (λ a. same 0 m k)
  one line f operations.Exit qs ws ps m same = refl
  one line f (operations.Fail class) qs ws ps m same = refl
  one line f (operations.Use a) qs ws ps m same = ap (or_else o (return_check (register m a)) line f) (same 0 m)
  one line f (operations.Call g first count into r) qs ws ps m same = λ k. o.call f g line (arguments_of m.blocks first count) (λ given. same 0 (received m into r given) k)
  one line f (operations.Return v) qs ws ps m same = refl
  one line f (operations.Move r p i t z size class) qs ws ps m same = ap (or_else o (range_check m p i t z size class) line f) (same 0 _)
  one line f (operations.Offset r p count) qs ws ps m same = same 0 _
  one line f (operations.Same p q) qs ws ps m same = ap (or_else o (same_check m p q) line f) (same 0 m)
  one line f (operations.Distance r p q z) qs ws ps m same = same 0 _
  one line f (operations.Relate r op p q) qs ws ps m same = same 0 _
  one line f (operations.Take b to from p count whole) qs ws ps m same = ap (or_else o (inside_check m p count whole) line f) (same 0 _)
  one line f (operations.Put b p from to count whole) qs ws ps m same = ap (or_else o (inside_check m p count whole) line f) (same 0 _)
  one line f (operations.Read b to p count) qs ws ps m same = λ k. o.ask (Read (register m p) count) line f 0 (λ a. same 0 (with_blocks m (put_bytes m.blocks b to (bytes_in a))) k)
  one line f (operations.Write p b from count first) qs ws ps m same = λ k. o.ask (Write (register m p) (bytes_of m.blocks b from count) first) line f 0 (λ a. same 0 (m) k)
  one line f (operations.Look r p subscript) qs ws ps m same = λ k. o.ask (Look (register m p) subscript) line f 0 (λ a. same 0 (with_register m r (size_in a)) k)
  one line f (operations.Fill b r) qs ws ps m same = let size = first_count m b r in same_fills (word_count size - 0) line f b size (8 * 0) qs ws ps m same
  one line f (operations.Alloc r b size readonly heap) qs ws ps m same = λ k. o.ask (Alloc (made_of readonly heap (first_bytes m b size))) line f 0 (λ a. same 0 (with_register m r (pointer_to (number_in a) 0)) k)
  one line f (operations.Die p) qs ws ps m same = λ k. o.ask (Die (object_of (register m p))) line f 0 (λ a. same 0 (m) k)
  one line f (operations.Free p) qs ws ps m same = λ k. o.ask (Free (register m p)) line f 0 (λ a. same 0 (m) k)
  one line f (operations.MayFail r) qs ws ps m same = same_fails limits.malloc_may_fail line f r qs ws ps m same
  one line f (operations.Limit a b) qs ws ps m same = ap (or_else o (check_class (checks.AtMost a b limits.malloc_limit) m) line f) (same 0 m)

  same_rounds : (assertions : Bool) (line f : ℕ) (r s : (Memory → Behaviour) → Memory → Behaviour) → ((a b : Memory → Behaviour) → ((m : Memory) → a m ≡ b m) → (m : Memory) → r a m ≡ s b m)
      → (n : ℕ) (m : Memory) → rounds assertions line f r n m ≡ rounds assertions line f s n m
  same_rounds assertions line f r s same zero m = refl
  same_rounds assertions line f r s same (suc n) m = same (rounds assertions line f r n) (rounds assertions line f s n) (λ k. same_rounds assertions line f r s same n k) m

  same_tests : (f n : ℕ) → tests checked f n ≡ tests strict f n
  same_tests f n = ap (λ name. tests_in limits.set limits.unwind name n) (named f)

  with_next : (a b : Memory → Behaviour) (qs : Places) (ws : List ℕ) (ps : Places) → ((m : Memory) → a m ≡ b m) → Same qs ws ps → Same (a ∷ qs) (1 ∷ ws) (b ∷ ps)
  with_next a b qs ws ps next same zero m = next m
  with_next a b qs ws ps next same (suc n) m = ap (λ k. at o (a ∷ qs) k m) (one_past (extent n ws)) ∙ same n m

  pub same_nodes : (code : Nodes) (qs : Places) (ws : List ℕ) (ps : Places) → Same qs ws ps → Same (nodes_before checked o (inserted code ws) qs) (widths code ws) (nodes_before strict o code ps)
  same_nodes done qs ws ps same n m = same n m
  same_nodes (plain i rest) qs ws ps same zero m =
      in_turn i (checks_of i.operation) (plain (jumping i (widths rest ws)) (inserted rest ws)) qs m
      ∙ one i.line i.function i.operation (nodes_before checked o (inserted rest ws) qs) (widths rest ws) (nodes_before strict o rest ps) m (same_nodes rest qs ws ps same)
  same_nodes (plain i rest) qs ws ps same (suc n) m =
      let w = extent n (widths rest ws) in
      ap (λ k. at o (nodes_before checked o (inserted (plain i rest) ws) qs) k m) (one_within (length (checks_of i.operation)) w)
      ∙ past_checks i (checks_of i.operation) (plain (jumping i (widths rest ws)) (inserted rest ws)) qs (suc w) m
      ∙ same_nodes rest qs ws ps same n m
  same_nodes (repeats line f k rotated body rest) qs ws ps same zero m =
      let behind = same_nodes rest qs ws ps same in
      let round = λ (again : Memory → Behaviour). at o (nodes_before checked o (inserted body (1 ∷ widths rest ws)) (again ∷ nodes_before checked o (inserted rest ws) qs)) 0 in
      ap (λ count. rounds limits.assertions line f round (round_count rotated count) m) (same_tests f k)
      ∙ same_rounds limits.assertions line f round (λ (again : Memory → Behaviour). at o (nodes_before strict o body (again ∷ nodes_before strict o rest ps)) 0)
      (λ a b next l. same_nodes body (a ∷ nodes_before checked o (inserted rest ws) qs) (1 ∷ widths rest ws) (b ∷ nodes_before strict o rest ps)
      (with_next a b (nodes_before checked o (inserted rest ws) qs) (widths rest ws) (nodes_before strict o rest ps) next behind) 0 l)
      (round_count rotated (tests strict f k)) m
  same_nodes (repeats line f k rotated body rest) qs ws ps same (suc n) m =
      ap (λ l. at o (nodes_before checked o (inserted (repeats line f k rotated body rest) ws) qs) l m) (one_past (extent n (widths rest ws))) ∙ same_nodes rest qs ws ps same n m
