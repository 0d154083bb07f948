-- Checked code fits where the code does.
use Rattle.std.proofs.Common.{◌≡◌, ℕ, zero, suc, ◌+◌, ◌≤◌, map, ap, Bool, true, false, ◌&&◌, nat_lt, List, [], ◌∷◌, length, refl, sym, ◌∙◌, arith}
use Rattle.std.specs.Prelude.{◌==◌, nat_le, slice_index_or, if◌then◌else◌}
use Rattle.std.proofs.lemmas.Bool.Decides.{nat_tests}
use Rattle.c_types.specs.declared.integers.IntegerType.{IntegerType}
use Rattle.c_types.specs.declared.integers.IntegerType.TheVariants as types
use Rattle.c_types.specs.Integers.{width, is_signed, same_integer}
use Rattle.core_tree.specs.declared.operators.ArithmeticOperator.{ArithmeticOperator}
use Rattle.core_tree.specs.declared.operators.ArithmeticOperator.TheVariants as arithmetics
use Rattle.core_tree.specs.declared.operators.SignOperator.{SignOperator}
use Rattle.core_tree.specs.declared.operators.SignOperator.TheVariants as signs
use Rattle.c_values.specs.Numbers.{same_width, are_operands_of}
use Rattle.goto_prog.specs.declared.code.Condition.{Condition}
use Rattle.goto_prog.specs.declared.code.Condition.TheVariants as checks
use Rattle.goto_prog.specs.declared.code.Operation.{Operation}
use Rattle.goto_prog.specs.declared.code.Operation.TheVariants as operations
use Rattle.goto_prog.specs.declared.code.Instruction.{Instruction}
use Rattle.goto_prog.specs.Fitting.{is_there, is_register, is_pointer, is_block, is_wide, check_fits, operation_fits}
use Rattle.core_tree.specs.Typed.{is_within}
use Rattle.goto_prog.specs.Nodes.{Nodes, done, plain, repeats, node_count, nodes_fit, Routine, routine_fits, routines_fit}
use Rattle.goto_prog.proofs.Registers.{both, same_widths}
use Rattle.goto_checks.specs.Inserted.{if_signed, arithmetic_checks, sign_checks, checks_of, with_checks, with_count, count_of, widths, extent, jumping, inserted, with_inserted}

both_true : (a b : Bool) → a ≡ true → b ≡ true → (a && b) ≡ true
both_true a b first second = λ i. first i && second i

at_most : (m n : ℕ) → m ≤ n → nat_le m n ≡ true
at_most m n h = grind (arith, nat_tests)

equal_test : (m n : ℕ) → m ≡ n → (m == n) ≡ true
equal_test m n h = grind (arith, nat_tests)

equal_numbers : (m n : ℕ) → (m == n) ≡ true → m ≡ n
equal_numbers m n h = grind (arith, nat_tests)

module _ (rs : List IntegerType) where
  abbrev AllFit : List Condition → Type 0
  AllFit [] = Unit {0}
  AllFit (c ∷ cs) = (check_fits rs c ≡ true) × AllFit cs

  register_is_there : (r : ℕ) (t : IntegerType) → is_register rs r t ≡ true → is_there rs r ≡ true
  register_is_there r t is = (both (nat_lt r (length rs)) (same_integer (slice_index_or rs r types.Int) t) is).0

  register_is_wide : (r : ℕ) (t u : IntegerType) → same_width t u ≡ true → is_register rs r u ≡ true → is_wide rs r t ≡ true
  register_is_wide r t u same is =
      let parts = both (nat_lt r (length rs)) (same_integer (slice_index_or rs r types.Int) u) is in
      both_true _ _ parts.0 (equal_test _ _ (same_widths (slice_index_or rs r types.Int) u parts.1 ∙ sym (equal_numbers (width t) (width u) same)))

  signed_fits : (signed : Bool) (c : Condition) → (signed ≡ true → check_fits rs c ≡ true) → AllFit (if signed then c ∷ [] else [])
  signed_fits true c h = (h refl, tt)
  signed_fits false c h = tt

  -- ---- the checks of an operation

  range_fits : (op : ArithmeticOperator) (t u : IntegerType) (a b : ℕ) → check_fits rs (checks.Range op t a b) ≡ (is_signed t && true && is_register rs a t && is_wide rs b t)
      → same_width t u ≡ true → is_register rs a t ≡ true → is_register rs b u ≡ true → AllFit (if_signed t (checks.Range op t a b))
  range_fits op t u a b shape same first second =
      signed_fits (is_signed t) (checks.Range op t a b) (λ s. shape ∙ both_true _ _ (both_true _ _ (both_true _ _ s refl) first) (register_is_wide b t u same second))

  quotient_fits : (t u : IntegerType) (a b : ℕ) → same_width t u ≡ true → is_register rs a t ≡ true → is_register rs b u ≡ true → AllFit (checks.Divisor b ∷ if_signed t (checks.Quotient t a b))
  quotient_fits t u a b same first second =
      (register_is_there b u second, signed_fits (is_signed t) (checks.Quotient t a b) (λ s. both_true _ _ (both_true _ _ s first) (register_is_wide b t u same second)))

  shift_fits : (signed : Bool) (t u : IntegerType) (a b : ℕ) → signed ≡ is_signed t → is_register rs a t ≡ true → is_register rs b u ≡ true
      → AllFit ((if signed then checks.LeftShift t u a b else checks.Count t u b) ∷ [])
  shift_fits true t u a b is first second = (both_true _ _ (both_true _ _ (sym is) first) second, tt)
  shift_fits false t u a b is first second = (second, tt)

  arithmetic_fits : (op : ArithmeticOperator) (t u : IntegerType) (a b : ℕ) → are_operands_of op t u ≡ true → is_register rs a t ≡ true → is_register rs b u ≡ true → AllFit (arithmetic_checks op t u a b)
  arithmetic_fits arithmetics.Multiply t u a b same first second = range_fits arithmetics.Multiply t u a b refl same first second
  arithmetic_fits arithmetics.Divide t u a b same first second = quotient_fits t u a b same first second
  arithmetic_fits arithmetics.Remainder t u a b same first second = quotient_fits t u a b same first second
  arithmetic_fits arithmetics.Add t u a b same first second = range_fits arithmetics.Add t u a b refl same first second
  arithmetic_fits arithmetics.Subtract t u a b same first second = range_fits arithmetics.Subtract t u a b refl same first second
  arithmetic_fits arithmetics.ShiftLeft t u a b same first second = shift_fits (is_signed t) t u a b refl first second
  arithmetic_fits arithmetics.ShiftRight t u a b same first second = (second, tt)
  arithmetic_fits arithmetics.And t u a b same first second = tt
  arithmetic_fits arithmetics.Xor t u a b same first second = tt
  arithmetic_fits arithmetics.Or t u a b same first second = tt

  sign_fits : (op : SignOperator) (t : IntegerType) (a : ℕ) → is_register rs a t ≡ true → AllFit (sign_checks op t a)
  sign_fits signs.Plus t a is = tt
  sign_fits signs.Minus t a is = signed_fits (is_signed t) (checks.Negation t a) (λ s. both_true _ _ s is)
  sign_fits signs.Complement t a is = tt

  module _ (bs : List ℕ) where
    checks_fit : (n : ℕ) (o : Operation) → operation_fits rs bs n o ≡ true → AllFit (checks_of o)
    checks_fit n (operations.Sign r op t a) h = sign_fits op t a (both (is_register rs r t) (is_register rs a t) h).1
    checks_fit n (operations.Arithmetic r op t u a b) h =
        let last = both (are_operands_of op t u && is_register rs r t && is_register rs a t) (is_register rs b u) h in
        let left = both (are_operands_of op t u && is_register rs r t) (is_register rs a t) last.0 in
        let same = both (are_operands_of op t u) (is_register rs r t) left.0 in
        arithmetic_fits op t u a b same.0 left.1 last.1
    checks_fit n (operations.Constant r bits) h = tt
    checks_fit n (operations.Copy r a) h = tt
    checks_fit n (operations.Load r t b offset) h = tt
    checks_fit n (operations.Store b offset count a) h = tt
    checks_fit n (operations.Clear b size) h = tt
    checks_fit n (operations.CopyBytes into to from offset count) h = tt
    checks_fit n (operations.Convert r from to a) h = tt
    checks_fit n (operations.Compare r op t a b) h = tt
    checks_fit n (operations.IsZero r a) h = tt
    checks_fit n (operations.Skip k) h = tt
    checks_fit n (operations.SkipIfZero a k) h = tt
    checks_fit n (operations.Check c) h = tt
    checks_fit n (operations.Assert a) h = tt
    checks_fit n (operations.Assume a) h = tt
    checks_fit n (operations.Draw r bits) h = tt
    checks_fit n (operations.ReadObject b to k offset count) h = tt
    checks_fit n (operations.WriteObject k offset b from count) h = tt
    checks_fit n operations.Exit h = tt
    checks_fit n (operations.Fail class) h = tt
    checks_fit n (operations.Use a) h = (h, tt)
    checks_fit n (operations.Call f first count into r) h = tt
    checks_fit n (operations.Return v) h = tt
    checks_fit n (operations.Move r p i t z size class) h = ((both (is_pointer rs r) (is_pointer rs p && is_register rs i t && is_pointer rs size) h).1, tt)
    checks_fit n (operations.Offset r p count) h = tt
    checks_fit n (operations.Same p q) h = (h, tt)
    checks_fit n (operations.Distance r p q z) h = tt
    checks_fit n (operations.Relate r op p q) h = tt
    checks_fit n (operations.Take b to from p count whole) h = ((both (is_pointer rs p) (is_within bs b to count) (both (is_pointer rs p && is_within bs b to count) (is_block bs from whole) h).0).0, tt)
    checks_fit n (operations.Put b p from to count whole) h = ((both (is_pointer rs p) (is_within bs from to count) (both (is_pointer rs p && is_within bs from to count) (is_block bs b whole) h).0).0, tt)
    checks_fit n (operations.Read b to p count) h = tt
    checks_fit n (operations.Write p b from count first) h = tt
    checks_fit n (operations.Look r p subscript) h = tt
    checks_fit n (operations.Fill b r) h = tt
    checks_fit n (operations.Alloc r b size readonly heap) h = tt
    checks_fit n (operations.Die p) h = tt
    checks_fit n (operations.Free p) h = tt
    checks_fit n (operations.MayFail r) h = tt
    checks_fit n (operations.Limit a b) h = tt

    with_checks_fit : (i : Instruction) (cs : List Condition) (code : Nodes) (later : ℕ) → AllFit cs → nodes_fit rs bs later code ≡ true → nodes_fit rs bs later (with_checks i cs code) ≡ true
    with_checks_fit i [] code later fit h = h
    with_checks_fit i (c ∷ cs) code later fit h = both_true _ _ fit.0 (with_checks_fit i cs code later fit.1 h)

    count_checks : (i : Instruction) (cs : List Condition) (code : Nodes) → node_count (with_checks i cs code) ≡ length cs + node_count code
    count_checks i [] code = omega arith
    count_checks i (c ∷ cs) code = omega (arith, count_checks i cs code)

    -- the first n places, of those that are there, become no more than are there
    abbrev Within : (n m : ℕ) → List ℕ → Type 0
    Within n m ws = (k : ℕ) → k ≤ n → extent k ws ≤ m

    at_least : (k n : ℕ) → nat_le k n ≡ true → k ≤ n
    at_least k n h = grind (arith, nat_tests)

    -- a jump over the same code
    jump_fits : (n m : ℕ) (o : Operation) (ws : List ℕ) → Within n m ws → operation_fits rs bs n o ≡ true → operation_fits rs bs m (with_count o (extent (count_of o) ws)) ≡ true
    jump_fits n m (operations.Skip k) ws within h = at_most _ _ (within k (at_least k n h))
    jump_fits n m (operations.SkipIfZero a k) ws within h =
        let parts = both (is_there rs a) (nat_le k n) h in both_true _ _ parts.0 (at_most _ _ (within k (at_least k n parts.1)))
    jump_fits n m (operations.Constant r bits) ws within h = h
    jump_fits n m (operations.Copy r a) ws within h = h
    jump_fits n m (operations.Load r t b offset) ws within h = h
    jump_fits n m (operations.Store b offset count a) ws within h = h
    jump_fits n m (operations.Clear b size) ws within h = h
    jump_fits n m (operations.CopyBytes into to from offset count) ws within h = h
    jump_fits n m (operations.Convert r from to a) ws within h = h
    jump_fits n m (operations.Sign r op t a) ws within h = h
    jump_fits n m (operations.Arithmetic r op t u a b) ws within h = h
    jump_fits n m (operations.Compare r op t a b) ws within h = h
    jump_fits n m (operations.IsZero r a) ws within h = h
    jump_fits n m (operations.Check c) ws within h = h
    jump_fits n m (operations.Assert a) ws within h = h
    jump_fits n m (operations.Assume a) ws within h = h
    jump_fits n m (operations.Draw r bits) ws within h = h
    jump_fits n m (operations.ReadObject b to k offset count) ws within h = h
    jump_fits n m (operations.WriteObject k offset b from count) ws within h = h
    jump_fits n m (operations.Fail class) ws within h = h
    jump_fits n m (operations.Use a) ws within h = h
    jump_fits n m (operations.Call f first count into r) ws within h = h
    jump_fits n m (operations.Return v) ws within h = h
    jump_fits n m (operations.Move r p i t z size class) ws within h = h
    jump_fits n m (operations.Offset r p count) ws within h = h
    jump_fits n m (operations.Same p q) ws within h = h
    jump_fits n m (operations.Distance r p q z) ws within h = h
    jump_fits n m (operations.Relate r op p q) ws within h = h
    jump_fits n m (operations.Take b to from p count whole) ws within h = h
    jump_fits n m (operations.Put b p from to count whole) ws within h = h
    jump_fits n m (operations.Read b to p count) ws within h = h
    jump_fits n m (operations.Write p b from count first) ws within h = h
    jump_fits n m (operations.Look r p subscript) ws within h = h
    jump_fits n m (operations.Fill b r) ws within h = h
    jump_fits n m (operations.Alloc r b size readonly heap) ws within h = h
    jump_fits n m (operations.Die p) ws within h = h
    jump_fits n m (operations.Free p) ws within h = h
    jump_fits n m (operations.MayFail r) ws within h = h
    jump_fits n m (operations.Limit a b) ws within h = h
    jump_fits n m operations.Exit ws within h = h

    more_within : (w n m : ℕ) (ws : List ℕ) → Within n m ws → Within (n + 1) (m + w) (w ∷ ws)
    more_within w n m ws within zero few = omega arith
    more_within w n m ws within (suc k) few = omega (arith, within k (omega (arith, few)))

    widths_within : (code : Nodes) (n m : ℕ) (ws : List ℕ) → Within n m ws → Within (node_count code + n) (node_count (inserted code ws) + m) (widths code ws)
    widths_within done n m ws within k few = omega (arith, within k (omega (arith, few)))
    widths_within (plain i rest) n m ws within k few =
        let more = more_within (length (checks_of i.operation) + 1) (node_count rest + n) (node_count (inserted rest ws) + m) (widths rest ws) (widths_within rest n m ws within) k (omega (arith, few)) in
        omega (arith, more, count_checks i (checks_of i.operation) (plain (jumping i (widths rest ws)) (inserted rest ws)))
    widths_within (repeats line f l rotated body rest) n m ws within k few =
        let more = more_within 1 (node_count rest + n) (node_count (inserted rest ws) + m) (widths rest ws) (widths_within rest n m ws within) k (omega (arith, few)) in
        omega (arith, more)

    pub inserted_fits : (code : Nodes) (n m : ℕ) (ws : List ℕ) → Within n m ws → nodes_fit rs bs n code ≡ true → nodes_fit rs bs m (inserted code ws) ≡ true
    inserted_fits done n m ws within h = refl
    inserted_fits (plain i rest) n m ws within h =
        let parts = both (operation_fits rs bs (node_count rest + n) i.operation) (nodes_fit rs bs n rest) h in
        with_checks_fit i (checks_of i.operation) (plain (jumping i (widths rest ws)) (inserted rest ws)) m (checks_fit (node_count rest + n) i.operation parts.0)
        (both_true _ _ (jump_fits (node_count rest + n) (node_count (inserted rest ws) + m) i.operation (widths rest ws) (widths_within rest n m ws within) parts.0) (inserted_fits rest n m ws within parts.1))
    inserted_fits (repeats line f k rotated body rest) n m ws within h =
        let parts = both (nodes_fit rs bs (node_count rest + n + 1) body) (nodes_fit rs bs n rest) h in
        both_true _ _
        (inserted_fits body (node_count rest + n + 1) (node_count (inserted rest ws) + m + 1) (1 ∷ widths rest ws) (more_within 1 (node_count rest + n) (node_count (inserted rest ws) + m) (widths rest ws) (widths_within rest n m ws within)) parts.0)
        (inserted_fits rest n m ws within parts.1)

end_within : (k : ℕ) → k ≤ 0 → extent k (1 ∷ []) ≤ 0
end_within zero few = omega arith
end_within (suc k) few = absurd (omega (arith, few))

one_fits : (p : Routine) → routine_fits p ≡ true → routine_fits (with_inserted p) ≡ true
one_fits p h = inserted_fits p.registers p.blocks p.nodes 0 0 (1 ∷ []) end_within h

pub routines_kept : (ps : List Routine) → routines_fit ps ≡ true → routines_fit (map with_inserted ps) ≡ true
routines_kept [] h = refl
routines_kept (p ∷ ps) h = let parts = both (routine_fits p) (routines_fit ps) h in both_true _ _ (one_fits p parts.0) (routines_kept ps parts.1)

pub all_fit : (ps qs : List Routine) → qs ≡ map with_inserted ps → routines_fit ps ≡ true → routines_fit qs ≡ true
all_fit ps qs are h = ap routines_fit are ∙ routines_kept ps h
