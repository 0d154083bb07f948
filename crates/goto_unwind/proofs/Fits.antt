-- Unrolled code fits its registers and blocks, and neither calls a function nor returns.
use Rattle.std.proofs.Common.{◌≡◌, ℕ, zero, suc, ◌+◌, ◌*◌, ◌-◌, ◌^◌, ◌<◌, ◌≤◌, Bool, true, false, List, [], ◌∷◌, ◌++◌, drop, length, Option, Some, None, refl, sym, ap, ◌∙◌, subst, arith}
use Rattle.std.specs.Prelude.{◌&&◌, ◌==◌, nat_lt, nat_le, min, slice_get, slice_index, slice_index_or, if◌then◌else◌}
use Rattle.std.specs.List.{list_all}
use Rattle.std.proofs.lemmas.Bool.{false≢true}
use Rattle.std.proofs.lemmas.Bool.Decides.{nat_tests}
use Rattle.std.proofs.lemmas.List.{length-append, get_or-append-add}
use Rattle.words.specs.declared.check.Class.{Class}
use Rattle.words.specs.declared.check.Class.TheVariants.{Unwind, Recursion}
use Rattle.c_types.specs.declared.integers.IntegerType.{IntegerType}
use Rattle.c_types.specs.declared.integers.IntegerType.TheVariants as types
use Rattle.c_types.specs.Integers.{width, bytes, is_signed, same_integer}
use Rattle.core_tree.specs.Typed.{is_within}
use Rattle.c_values.specs.Numbers.{same_width}
use Rattle.goto_prog.specs.declared.code.Condition.{Condition}
use Rattle.goto_prog.specs.declared.code.Condition.TheVariants as checks
use Rattle.goto_prog.specs.declared.code.Operation.{Operation}
use Rattle.goto_prog.specs.declared.code.Operation.TheVariants as operations
use Rattle.goto_prog.specs.declared.code.Instruction.{Instruction}
use Rattle.goto_prog.specs.Fitting.{is_there, is_register, is_pointer, is_wide, is_ranged, check_fits, is_some_block, operation_fits, code_fits}
use Rattle.goto_prog.specs.Nodes.{Nodes, done, plain, repeats, node_count, nodes_fit, Routine, routine_fits, routines_fit}
use Rattle.goto_prog.specs.Structured.{Bounded, tests, round_count, opened, first_left, first_fuel}
use Rattle.goto_prog.specs.UnrolledCode.{is_flat}
use Rattle.goto_prog.proofs.Places.{may_fail_fits}
use Rattle.goto_unwind.specs.Unrolled.{Space, Handing, Site, Piece, Inline, piece, at, jump, renumbered_check, renumbered, passed_code, hand_code, argument_code, round_codes, instruction_code, nodes_code, body_code, first_space, with_frame, inlined, inline_at}
use Rattle.goto_unwind.specs.Program.{first_site, first_piece}

-- ---- tests

left_of : (a b : Bool) → (a && b) ≡ true → a ≡ true
left_of true b h = refl
left_of false b h = h

right_of : (a b : Bool) → (a && b) ≡ true → b ≡ true
right_of true b h = h
right_of false b h = absurd (false≢true h)

both_true : {a b : Bool} → a ≡ true → b ≡ true → (a && b) ≡ true
both_true one other = λ i. one i && other i

four : (a b c d e f : Bool) → (c ≡ true → e ≡ true) → (d ≡ true → f ≡ true) → (a && b && c && d) ≡ true → (a && b && e && f) ≡ true
four a b c d e f one other h =
    both_true {a = a && b && e} {b = f} (both_true {a = a && b} {b = e} (left_of (a && b) c (left_of (a && b && c) d h)) (one (right_of (a && b) c (left_of (a && b && c) d h)))) (other (right_of (a && b && c) d h))

less_of : (a b : ℕ) → nat_lt a b ≡ true → a < b
less_of a b h = grind (arith, nat_tests)

less : (a b : ℕ) → a < b → nat_lt a b ≡ true
less a b h = grind (arith, nat_tests)

most : (a b : ℕ) → a ≤ b → nat_le a b ≡ true
most a b h = grind (arith, nat_tests)

most_of : (a b : ℕ) → nat_le a b ≡ true → a ≤ b
most_of a b h = grind (arith, nat_tests)

abbrev is_plain : Operation → Bool
is_plain (operations.Skip n) = false
is_plain (operations.SkipIfZero a n) = false
is_plain (operations.Call g first count into r) = false
is_plain (operations.Return v) = false
is_plain (operations.MayFail r) = false
is_plain (operations.Limit x y) = false
is_plain _ = true

-- ---- registers and blocks that lie in a space, from these on

abbrev type_at : List IntegerType → ℕ → IntegerType
type_at rs r = slice_index_or rs r types.Int

record Lies (r0 b0 : ℕ) (rs : List IntegerType) (bs : List ℕ) (t : Space) : Type 0 where
  registers : (r : ℕ) → r < length rs → (r0 + r < length t.registers) × (type_at t.registers (r0 + r) ≡ type_at rs r)
  blocks : (v : ℕ) → v < length bs → (b0 + v < length t.blocks) × (slice_index t.blocks (b0 + v) ≡ slice_index bs v)

module _ (r0 b0 : ℕ) (rs : List IntegerType) (bs : List ℕ) (t : Space) (lies : Lies r0 b0 rs bs t) where
  there : (r : ℕ) → nat_lt r (length rs) ≡ true → nat_lt (r0 + r) (length t.registers) ≡ true
  there r h = less (r0 + r) (length t.registers) (lies.registers r (less_of r (length rs) h)).0

  same_type : (r : ℕ) → nat_lt r (length rs) ≡ true → type_at rs r ≡ type_at t.registers (r0 + r)
  same_type r h = sym (lies.registers r (less_of r (length rs) h)).1

  -- a register of which a test of its type holds
  typed : (test : IntegerType → Bool) (r : ℕ) → (nat_lt r (length rs) && test (type_at rs r)) ≡ true → (nat_lt (r0 + r) (length t.registers) && test (type_at t.registers (r0 + r))) ≡ true
  typed test r h =
      let one = left_of (nat_lt r (length rs)) (test (type_at rs r)) h in
      both_true (there r one) (subst (λ u. test u ≡ true) (same_type r one) (right_of (nat_lt r (length rs)) (test (type_at rs r)) h))

  -- the same with another test between
  typed_by : (b : Bool) (test : IntegerType → Bool) (r : ℕ) → (nat_lt r (length rs) && b && test (type_at rs r)) ≡ true → (nat_lt (r0 + r) (length t.registers) && b && test (type_at t.registers (r0 + r))) ≡ true
  typed_by b test r h =
      let front = left_of (nat_lt r (length rs) && b) (test (type_at rs r)) h in
      let one = left_of (nat_lt r (length rs)) b front in
      both_true (both_true (there r one) (right_of (nat_lt r (length rs)) b front)) (subst (λ u. test u ≡ true) (same_type r one) (right_of (nat_lt r (length rs) && b) (test (type_at rs r)) h))

  sized : (test : ℕ → Bool) (v : ℕ) → (nat_lt v (length bs) && test (slice_index bs v)) ≡ true → (nat_lt (b0 + v) (length t.blocks) && test (slice_index t.blocks (b0 + v))) ≡ true
  sized test v h =
      let one = lies.blocks v (less_of v (length bs) (left_of (nat_lt v (length bs)) (test (slice_index bs v)) h)) in
      both_true (less (b0 + v) (length t.blocks) one.0) (subst (λ n. test n ≡ true) (sym one.1) (right_of (nat_lt v (length bs)) (test (slice_index bs v)) h))

  register : (u : IntegerType) (r : ℕ) → is_register rs r u ≡ true → is_register t.registers (r0 + r) u ≡ true
  register u r h = typed (λ x. same_integer x u) r h

  wide : (u : IntegerType) (r : ℕ) → is_wide rs r u ≡ true → is_wide t.registers (r0 + r) u ≡ true
  wide u r h = typed (λ x. same_width x u) r h

  within : (v offset count : ℕ) → is_within bs v offset count ≡ true → is_within t.blocks (b0 + v) offset count ≡ true
  within v offset count h = sized (λ n. nat_le (offset + count) n) v h

  pointer : (r : ℕ) → is_pointer rs r ≡ true → is_pointer t.registers (r0 + r) ≡ true
  pointer r h = register types.UnsignedLong r h

  block_there : (v : ℕ) → nat_lt v (length bs) ≡ true → nat_lt (b0 + v) (length t.blocks) ≡ true
  block_there v h = less (b0 + v) (length t.blocks) (lies.blocks v (less_of v (length bs) h)).0

  check_moved : (c : Condition) → check_fits rs c ≡ true → check_fits t.registers (renumbered_check r0 c) ≡ true
  check_moved (checks.Divisor b) h = there b h
  check_moved (checks.Quotient u a b) h = both_true (both_true (left_of _ _ (left_of _ _ h)) (register u a (right_of _ _ (left_of _ _ h)))) (wide u b (right_of _ _ h))
  check_moved (checks.Range op u a b) h = four (is_signed u) (is_ranged op) (is_register rs a u) (is_wide rs b u) (is_register t.registers (r0 + a) u) (is_wide t.registers (r0 + b) u) (register u a) (wide u b) h
  check_moved (checks.Negation u a) h = both_true (left_of _ _ h) (register u a (right_of _ _ h))
  check_moved (checks.Count u c a) h = register c a h
  check_moved (checks.LeftShift u c a b) h = both_true (both_true (left_of _ _ (left_of _ _ h)) (register u a (right_of _ _ (left_of _ _ h)))) (register c b (right_of _ _ h))
  check_moved (checks.Returned a) h = there a h
  check_moved (checks.Within p i u n size class) h = both_true (both_true (pointer p (left_of _ _ (left_of _ _ h))) (register u i (right_of _ _ (left_of _ _ h)))) (pointer size (right_of _ _ h))
  check_moved (checks.SameObject p q) h = both_true (pointer p (left_of _ _ h)) (pointer q (right_of _ _ h))
  check_moved (checks.Inside p count whole) h = pointer p h
  check_moved (checks.AtMost x y most) h = both_true (pointer x (left_of _ _ h)) (pointer y (right_of _ _ h))

  copied : (r a : ℕ) → operation_fits rs bs 0 (operations.Copy r a) ≡ true → operation_fits t.registers t.blocks 0 (operations.Copy (r0 + r) (r0 + a)) ≡ true
  copied r a h =
      let one = left_of (is_there rs a) (is_register rs r (type_at rs a)) h in
      both_true (there a one) (subst (λ u. is_register t.registers (r0 + r) u ≡ true) (same_type a one) (register (type_at rs a) r (right_of (is_there rs a) (is_register rs r (type_at rs a)) h)))

  -- an operation but a jump, a call and a return
  renumbered_fits : (o : Operation) (n k : ℕ) → operation_fits rs bs n o ≡ true → (plain_is : is_plain o ≡ true) → operation_fits t.registers t.blocks k (renumbered r0 b0 o) ≡ true
  renumbered_fits (operations.Constant r x) n k h p = typed (λ u. nat_lt x (2 ^ width u)) r h
  renumbered_fits (operations.Copy r a) n k h p = copied r a h
  renumbered_fits (operations.Load r u v offset) n k h p = both_true (register u r (left_of _ _ h)) (within v offset (bytes u) (right_of _ _ h))
  renumbered_fits (operations.Store v offset count a) n k h p = both_true (typed_by (nat_le 1 count) (λ u. nat_le (8 * count) (width u)) a (left_of _ _ h)) (within v offset count (right_of _ _ h))
  renumbered_fits (operations.Clear v size) n k h p = sized (λ x. size == x) v h
  renumbered_fits (operations.CopyBytes into to from offset count) n k h p = both_true (within into to count (left_of _ _ h)) (within from offset count (right_of _ _ h))
  renumbered_fits (operations.Convert r from to a) n k h p = both_true (register to r (left_of _ _ h)) (register from a (right_of _ _ h))
  renumbered_fits (operations.Sign r op u a) n k h p = both_true (register u r (left_of _ _ h)) (register u a (right_of _ _ h))
  renumbered_fits (operations.Arithmetic r op u c a b) n k h p =
      both_true (both_true (both_true (left_of _ _ (left_of _ _ (left_of _ _ h))) (register u r (right_of _ _ (left_of _ _ (left_of _ _ h))))) (register u a (right_of _ _ (left_of _ _ h)))) (register c b (right_of _ _ h))
  renumbered_fits (operations.Compare r op u a b) n k h p = both_true (both_true (register types.Int r (left_of _ _ (left_of _ _ h))) (register u a (right_of _ _ (left_of _ _ h)))) (register u b (right_of _ _ h))
  renumbered_fits (operations.IsZero r a) n k h p = both_true (register types.Int r (left_of _ _ h)) (there a (right_of _ _ h))
  renumbered_fits (operations.Skip m) n k h p = absurd (false≢true p)
  renumbered_fits (operations.SkipIfZero a m) n k h p = absurd (false≢true p)
  renumbered_fits (operations.Check c) n k h p = check_moved c h
  renumbered_fits (operations.Assert a) n k h p = there a h
  renumbered_fits (operations.Assume a) n k h p = there a h
  renumbered_fits (operations.Draw r x) n k h p = typed_by (nat_le 1 x) (λ u. nat_le x (width u)) r h
  renumbered_fits (operations.ReadObject v to j offset count) n k h p = within v to count h
  renumbered_fits (operations.WriteObject j offset v from count) n k h p = within v from count h
  renumbered_fits operations.Exit n k h p = refl
  renumbered_fits (operations.Fail class) n k h p = refl
  renumbered_fits (operations.Use a) n k h p = there a h
  renumbered_fits (operations.Call g first count into r) n k h p = absurd (false≢true p)
  renumbered_fits (operations.Return v) n k h p = absurd (false≢true p)
  renumbered_fits (operations.MayFail r) n k h p = absurd (false≢true p)
  renumbered_fits (operations.Limit x y) n k h p = absurd (false≢true p)
  renumbered_fits (operations.Move r q i u m size class) n k h p = both_true (pointer r (left_of _ _ h)) (check_moved (checks.Within q i u m size class) (right_of _ _ h))
  renumbered_fits (operations.Offset r q count) n k h p = both_true (pointer r (left_of _ _ h)) (pointer q (right_of _ _ h))
  renumbered_fits (operations.Same q r) n k h p = both_true (pointer q (left_of _ _ h)) (pointer r (right_of _ _ h))
  renumbered_fits (operations.Distance r q s m) n k h p =
      both_true (both_true (both_true (register types.Long r (left_of _ _ (left_of _ _ (left_of _ _ h)))) (pointer q (right_of _ _ (left_of _ _ (left_of _ _ h))))) (pointer s (right_of _ _ (left_of _ _ h)))) (right_of _ _ h)
  renumbered_fits (operations.Relate r op q s) n k h p = both_true (both_true (register types.Int r (left_of _ _ (left_of _ _ h))) (pointer q (right_of _ _ (left_of _ _ h)))) (pointer s (right_of _ _ h))
  renumbered_fits (operations.Take v to w q count whole) n k h p = both_true (both_true (pointer q (left_of _ _ (left_of _ _ h))) (within v to count (right_of _ _ (left_of _ _ h)))) (sized (λ x. whole == x) w (right_of _ _ h))
  renumbered_fits (operations.Put v q w to count whole) n k h p = both_true (both_true (pointer q (left_of _ _ (left_of _ _ h))) (within w to count (right_of _ _ (left_of _ _ h)))) (sized (λ x. whole == x) v (right_of _ _ h))
  renumbered_fits (operations.Read v to q count) n k h p = both_true (pointer q (left_of _ _ h)) (within v to count (right_of _ _ h))
  renumbered_fits (operations.Write q v from count first) n k h p = both_true (pointer q (left_of _ _ h)) (within v from count (right_of _ _ h))
  renumbered_fits (operations.Look r q subscript) n k h p = both_true (pointer r (left_of _ _ h)) (pointer q (right_of _ _ h))
  renumbered_fits (operations.Fill v r) n k h p = both_true (block_there v (left_of _ _ h)) (pointer r (right_of _ _ h))
  renumbered_fits (operations.Alloc r v size readonly heap) n k h p = both_true (both_true (pointer r (left_of _ _ (left_of _ _ h))) (block_there v (right_of _ _ (left_of _ _ h)))) (pointer size (right_of _ _ h))
  renumbered_fits (operations.Die q) n k h p = pointer q h
  renumbered_fits (operations.Free q) n k h p = pointer q h

-- ---- spaces that grow

record Within (s t : Space) : Type 0 where
  registers : (r : ℕ) → r < length s.registers → (r < length t.registers) × (type_at t.registers r ≡ type_at s.registers r)
  blocks : (v : ℕ) → v < length s.blocks → (v < length t.blocks) × (slice_index t.blocks v ≡ slice_index s.blocks v)

itself : (s : Space) → Within s s
itself s = record { registers = λ r lt. (lt, refl); blocks = λ v lt. (lt, refl) }

further : {s t u : Space} → Within s t → Within t u → Within s u
further one other = record {
  registers = λ r lt. let x = one.registers r lt in let y = other.registers r x.0 in (y.0, y.1 ∙ x.1);
  blocks = λ v lt. let x = one.blocks v lt in let y = other.blocks v x.0 in (y.0, y.1 ∙ x.1);
}

first_part : {A : Type 0} (xs ys : List A) (i : ℕ) (d : A) → i < length xs → slice_index_or (xs ++ ys) i d ≡ slice_index_or xs i d
first_part [] ys i d lt = absurd (omega (arith, lt))
first_part (x ∷ xs) ys zero d lt = refl
first_part (x ∷ xs) ys (suc i) d lt = first_part xs ys i d (omega (arith, lt))

framed : (s : Space) (p : Routine) → Within s (with_frame s p)
framed s p = record {
  registers = λ r lt. (omega (arith, lt, length-append s.registers p.registers), first_part s.registers p.registers r types.Int lt);
  blocks = λ v lt. (omega (arith, lt, length-append s.blocks p.blocks), first_part s.blocks p.blocks v 0 lt);
}

-- the registers and blocks of a function that was put behind others
lies_behind : (s t : Space) (p : Routine) → Within (with_frame s p) t → Lies (length s.registers) (length s.blocks) p.registers p.blocks t
lies_behind s t p inside = record {
  registers = λ r lt.
      let x = inside.registers (length s.registers + r) (omega (arith, lt, length-append s.registers p.registers)) in
      (x.0, x.1 ∙ get_or-append-add s.registers p.registers r types.Int);
  blocks = λ v lt.
      let x = inside.blocks (length s.blocks + v) (omega (arith, lt, length-append s.blocks p.blocks)) in
      (x.0, x.1 ∙ get_or-append-add s.blocks p.blocks v 0);
}

-- ---- code takes more registers and blocks, and leaves those before

module _ (b : Bounded) where
  abbrev Growing : Inline → Type 0
  Growing inline = (caller : Site) (line f g first count into r : ℕ) (rest : List Instruction) (space : Space) → Within space (inline caller line f g first count into r rest space).space

  module _ (inline : Inline) (grows : Growing inline) (site : Site) where
    instruction_grows : (line f : ℕ) (o : Operation) (marks : List ℕ) (rest : List Instruction) (space : Space) → Within space (instruction_code b inline site (at line f o) marks rest space).space
    instruction_grows line f (operations.Constant into bits) marks rest space = itself space
    instruction_grows line f (operations.Copy into a) marks rest space = itself space
    instruction_grows line f (operations.Load into u block offset) marks rest space = itself space
    instruction_grows line f (operations.Store block offset count a) marks rest space = itself space
    instruction_grows line f (operations.Clear block size) marks rest space = itself space
    instruction_grows line f (operations.CopyBytes into to from offset count) marks rest space = itself space
    instruction_grows line f (operations.Convert into from to a) marks rest space = itself space
    instruction_grows line f (operations.Sign into op u a) marks rest space = itself space
    instruction_grows line f (operations.Arithmetic into op u c x y) marks rest space = itself space
    instruction_grows line f (operations.Compare into op u x y) marks rest space = itself space
    instruction_grows line f (operations.IsZero into a) marks rest space = itself space
    instruction_grows line f (operations.Check c) marks rest space = itself space
    instruction_grows line f (operations.Assert a) marks rest space = itself space
    instruction_grows line f (operations.Assume a) marks rest space = itself space
    instruction_grows line f (operations.Draw into bits) marks rest space = itself space
    instruction_grows line f (operations.ReadObject block to k offset count) marks rest space = itself space
    instruction_grows line f (operations.WriteObject k offset block from count) marks rest space = itself space
    instruction_grows line f operations.Exit marks rest space = itself space
    instruction_grows line f (operations.Fail class) marks rest space = itself space
    instruction_grows line f (operations.Use a) marks rest space = itself space
    instruction_grows line f (operations.Move into p i t n size class) marks rest space = itself space
    instruction_grows line f (operations.Offset into p count) marks rest space = itself space
    instruction_grows line f (operations.Same p q) marks rest space = itself space
    instruction_grows line f (operations.Distance into p q n) marks rest space = itself space
    instruction_grows line f (operations.Relate into op p q) marks rest space = itself space
    instruction_grows line f (operations.Take block to p q count whole) marks rest space = itself space
    instruction_grows line f (operations.Put block p from to count whole) marks rest space = itself space
    instruction_grows line f (operations.Read block to p count) marks rest space = itself space
    instruction_grows line f (operations.Write p block from count first) marks rest space = itself space
    instruction_grows line f (operations.Look into p subscript) marks rest space = itself space
    instruction_grows line f (operations.Fill block count) marks rest space = itself space
    instruction_grows line f (operations.Alloc into block size readonly heap) marks rest space = itself space
    instruction_grows line f (operations.Die p) marks rest space = itself space
    instruction_grows line f (operations.Free p) marks rest space = itself space
    instruction_grows line f (operations.MayFail into) marks rest space = itself space
    instruction_grows line f (operations.Limit x y) marks rest space = itself space
    instruction_grows line f (operations.Skip n) marks rest space = itself space
    instruction_grows line f (operations.SkipIfZero a n) marks rest space = itself space
    instruction_grows line f (operations.Return v) marks rest space = itself space
    instruction_grows line f (operations.Call g first count into r) marks rest space = grows site line f g first count into r rest space

    module _ (line f : ℕ) (round : ℕ → List Instruction → Space → Piece) where
      rounds_grow : ((again : ℕ) (code : List Instruction) (space : Space) → Within space (round again code space).space) → (k : ℕ) (rest : List Instruction) (space : Space) → Within space (round_codes b inline line f round k rest space).space
      rounds_grow each zero rest space = itself space
      rounds_grow each (suc k) rest space = let before = round_codes b inline line f round k rest space in further (rounds_grow each k rest space) (each (length before.code) before.code before.space)

    nodes_grow : (ns : Nodes) (later : List ℕ) (rest : List Instruction) (space : Space) → Within space (nodes_code b inline site ns later rest space).space
    nodes_grow done later rest space = itself space
    nodes_grow (plain i ns) later rest space =
        let behind = nodes_code b inline site ns later rest space in
        further (nodes_grow ns later rest space) (instruction_grows i.line i.function i.operation behind.marks behind.code behind.space)
    nodes_grow (repeats line f n rotated body ns) later rest space =
        let behind = nodes_code b inline site ns later rest space in
        further (nodes_grow ns later rest space)
        (rounds_grow line f (λ again code between. nodes_code b inline site body (again ∷ behind.marks) code between) (λ again code between. nodes_grow body (again ∷ behind.marks) code between) (round_count rotated (tests b f n)) behind.code behind.space)

  inlined_grows : (inline : Inline) → Growing inline → (o : Option Routine) (caller : Site) (line f g first count into r : ℕ) (rest : List Instruction) (space : Space) → Within space (inlined b inline o caller line f g first count into r rest space).space
  inlined_grows inline grows None caller line f g first count into r rest space = itself space
  inlined_grows inline grows (Some p) caller line f g first count into r rest space =
      let site : Site = record {
        routine = p;
        register = length space.registers;
        block = length space.blocks;
        hands = Some (record { block = caller.block + into; size = slice_index caller.routine.blocks into; register = caller.register + r });
        back = length rest;
      } in
      further (framed space p) (nodes_grow inline grows site p.nodes (length (hand_code site p.line 0 None ++ rest) ∷ []) (hand_code site p.line 0 None ++ rest) (with_frame space p))

  grows_by : (test : Bool) (inline : Inline) → Growing inline → (o : Option Routine) (caller : Site) (line f g first count into r : ℕ) (rest : List Instruction) (space : Space)
      → Within space (if test then piece (passed_code b.limits.assertions Recursion line f ∷ rest) [] space else inlined b inline o caller line f g first count into r rest space).space
  grows_by true inline grows o caller line f g first count into r rest space = itself space
  grows_by false inline grows o caller line f g first count into r rest space = inlined_grows inline grows o caller line f g first count into r rest space

  inline_grows : (fuel : ℕ) (left : List ℕ) → Growing (inline_at b fuel left)
  inline_grows zero left caller line f g first count into r rest space = itself space
  inline_grows (suc fuel) left caller line f g first count into r rest space =
      grows_by (slice_index left g == 0) (inline_at b fuel (opened left g)) (inline_grows fuel (opened left g)) (slice_get b.functions g) caller line f g first count into r rest space

-- ---- code that fits a space

module _ (b : Bounded) (t : Space) (zero_there : 0 < length t.registers) where
  record Good (code : List Instruction) : Type 0 where
    fits : code_fits t.registers t.blocks code ≡ true
    flat : list_all (λ (i : Instruction). is_flat i.operation) code ≡ true

  more : (i : Instruction) (code : List Instruction) → operation_fits t.registers t.blocks (length code) i.operation ≡ true → is_flat i.operation ≡ true → Good code → Good (i ∷ code)
  more i code fits flat good = record { fits = both_true fits good.fits; flat = both_true flat good.flat }

  zero_is : nat_lt 0 (length t.registers) ≡ true
  zero_is = less 0 (length t.registers) zero_there

  passed_good : (assertions : Bool) (class : Class) (line f : ℕ) (code : List Instruction) → Good code → Good (passed_code assertions class line f ∷ code)
  passed_good true class line f code good = more (at line f (operations.Fail class)) code refl refl good
  passed_good false class line f code good = more (at line f (operations.Assume 0)) code zero_is refl good

  abbrev HandsIn : Option Handing → Type 0
  HandsIn None = Unit {0}
  HandsIn (Some h) = (is_register t.registers h.register types.Int ≡ true) × ((h.block < length t.blocks) × (h.size ≡ slice_index t.blocks h.block))

  record Sited (site : Site) : Type 0 where
    lies : Lies site.register site.block site.routine.registers site.routine.blocks t
    hands : HandsIn site.hands

  jump_fits : (code : List Instruction) (mark : ℕ) → nat_le (jump code mark) (length code) ≡ true
  jump_fits code mark = most (length code - mark) (length code) (by_parts (length code) mark)
    where
      by_parts : (n k : ℕ) → n - k ≤ n
      by_parts n k = omega arith

  one_bit : (u : IntegerType) → nat_lt 1 (2 ^ width u) ≡ true
  one_bit types.Bool = refl
  one_bit types.Char = refl
  one_bit types.SignedChar = refl
  one_bit types.UnsignedChar = refl
  one_bit types.Short = refl
  one_bit types.UnsignedShort = refl
  one_bit types.Int = refl
  one_bit types.UnsignedInt = refl
  one_bit types.Long = refl
  one_bit types.UnsignedLong = refl
  one_bit types.LongLong = refl
  one_bit types.UnsignedLongLong = refl

  tells : (line f r : ℕ) (code : List Instruction) (x : ℕ) → nat_le x 1 ≡ true → is_register t.registers r types.Int ≡ true → Good code → Good (at line f (operations.Constant r x) ∷ code)
  tells line f r code x small h good = more (at line f (operations.Constant r x)) code (both_true (left_of _ _ h) (below x (type_at t.registers r) small (one_bit (type_at t.registers r)))) refl good
    where
      by_parts : (y z : ℕ) → y ≤ 1 → 1 < z → y < z
      by_parts y z one two = omega (arith, one, two)

      below : (y : ℕ) (u : IntegerType) → nat_le y 1 ≡ true → nat_lt 1 (2 ^ width u) ≡ true → nat_lt y (2 ^ width u) ≡ true
      below y u low high = less y (2 ^ width u) (by_parts y (2 ^ width u) (most_of y 1 low) (less_of 1 (2 ^ width u) high))

  -- bytes of one block, from its first on, into another
  copies : (line f into from size c : ℕ) (code : List Instruction) → into < length t.blocks → size ≡ slice_index t.blocks into → from < length t.blocks → c ≡ slice_index t.blocks from
      → Good code → Good (at line f (operations.CopyBytes into 0 from 0 (min size c)) ∷ code)
  copies line f into from size c code one is other same good =
      more (at line f (operations.CopyBytes into 0 from 0 (min size c))) code
      (both_true
      (both_true (less into (length t.blocks) one) (most (0 + min size c) (slice_index t.blocks into) (first size c (slice_index t.blocks into) is)))
      (both_true (less from (length t.blocks) other) (most (0 + min size c) (slice_index t.blocks from) (second size c (slice_index t.blocks from) same))))
      refl good
    where
      first : (x y z : ℕ) → x ≡ z → 0 + min x y ≤ z
      first x y z is = omega (arith, is)

      second : (x y z : ℕ) → y ≡ z → 0 + min x y ≤ z
      second x y z is = omega (arith, is)

  hand_good : (site : Site) (hands : Option Handing) → Lies site.register site.block site.routine.registers site.routine.blocks t → HandsIn hands → (line f : ℕ) (value : Option ℕ) (code : List Instruction)
      → is_some_block site.routine.blocks value ≡ true → Good code → Good (hand_code (record site { hands = hands }) line f value ++ code)
  hand_good site None lies tt line f value code fits good = good
  hand_good site (Some h) lies hands line f None code fits good = tells line f h.register code 0 refl hands.0 good
  hand_good site (Some h) lies hands line f (Some v) code fits good =
      let from = lies.blocks v (less_of v (length site.routine.blocks) fits) in
      copies line f h.block (site.block + v) h.size (slice_index site.routine.blocks v) (at line f (operations.Constant h.register 1) ∷ code) hands.1.0 hands.1.1 from.0 (sym from.1)
      (tells line f h.register code 1 refl hands.0 good)

  -- blocks of these sizes, from one on
  abbrev Blocks : ℕ → List ℕ → Type 0
  Blocks from sizes = (v : ℕ) → v < length sizes → (from + v < length t.blocks) × (slice_index t.blocks (from + v) ≡ slice_index sizes v)

  tail_blocks : (from size : ℕ) (sizes : List ℕ) → Blocks from (size ∷ sizes) → Blocks (from + 1) sizes
  tail_blocks from size sizes all v lt =
      let x = all (suc v) (omega (arith, lt)) in
      (by_less from v (length t.blocks) x.0, ap (slice_index t.blocks) (by_one from v) ∙ x.1)
    where
      by_one : (a c : ℕ) → a + 1 + c ≡ a + suc c
      by_one a c = omega arith

      by_less : (a c n : ℕ) → a + suc c < n → a + 1 + c < n
      by_less a c n h = omega (arith, h)

  head_block : (from size : ℕ) (sizes : List ℕ) → Blocks from (size ∷ sizes) → (from < length t.blocks) × (size ≡ slice_index t.blocks from)
  head_block from size sizes all =
      let x = all 0 (omega arith) in
      (by_less from (length t.blocks) x.0, sym x.1 ∙ ap (slice_index t.blocks) (by_none from))
    where
      by_none : (a : ℕ) → a + 0 ≡ a
      by_none a = omega arith

      by_less : (a n : ℕ) → a + 0 < n → a < n
      by_less a n h = omega (arith, h)

  later_blocks : (from n : ℕ) (sizes : List ℕ) → Blocks from sizes → Blocks (from + n) (drop n sizes)
  later_blocks from zero sizes all v lt = (subst (λ k. k < length t.blocks) (by_none from v) (all v lt).0, ap (slice_index t.blocks) (sym (by_none from v)) ∙ (all v lt).1)
    where
      by_none : (a c : ℕ) → a + c ≡ a + 0 + c
      by_none a c = omega arith
  later_blocks from (suc n) [] all v lt = absurd (omega (arith, lt))
  later_blocks from (suc n) (size ∷ sizes) all v lt =
      let x = later_blocks (from + 1) n sizes (tail_blocks from size sizes all) v lt in
      (subst (λ k. k < length t.blocks) (by_one from n v) x.0, ap (slice_index t.blocks) (sym (by_one from n v)) ∙ x.1)
    where
      by_one : (a c d : ℕ) → a + 1 + c + d ≡ a + suc c + d
      by_one a c d = omega arith

  arguments_good : (line f : ℕ) (callers : List ℕ) (from count : ℕ) (sizes : List ℕ) (into : ℕ) (code : List Instruction) → Blocks from callers → Blocks into sizes → Good code → Good (argument_code line f callers from count sizes into ++ code)
  arguments_good line f callers from zero sizes into code one other good = good
  arguments_good line f callers from (suc count) [] into code one other good = good
  arguments_good line f [] from (suc count) (size ∷ sizes) into code one other good = good
  arguments_good line f (c ∷ callers) from (suc count) (size ∷ sizes) into code one other good =
      let source = head_block from c callers one in
      let target = head_block into size sizes other in
      copies line f into from size c (argument_code line f callers (from + 1) count sizes (into + 1) ++ code) target.0 target.1 source.0 source.1
      (arguments_good line f callers (from + 1) count sizes (into + 1) code (tail_blocks from c callers one) (tail_blocks into size sizes other) good)

  -- ---- what stands for calls

  record Fine (inline : Inline) : Type 0 where
    grows : Growing b inline
    good : (caller : Site) → Sited caller → (line f g first count into r : ℕ) → operation_fits caller.routine.registers caller.routine.blocks 0 (operations.Call g first count into r) ≡ true
        → (rest : List Instruction) (space : Space) → Within (inline caller line f g first count into r rest space).space t → Good rest → Good (inline caller line f g first count into r rest space).code

  module _ (inline : Inline) (fine : Fine inline) (site : Site) where
    fails_good : (may_fail : Bool) → Sited site → (line f r n : ℕ) → is_register site.routine.registers r types.Int ≡ true → (rest : List Instruction) → Good rest
        → Good (at line f (renumbered site.register site.block (if may_fail then operations.Draw r 1 else operations.Constant r 0)) ∷ rest)
    fails_good true sited line f r n h rest good =
        more (at line f (renumbered site.register site.block (operations.Draw r 1))) rest
        (renumbered_fits site.register site.block site.routine.registers site.routine.blocks t sited.lies (operations.Draw r 1) n (length rest) (may_fail_fits site.routine.registers site.routine.blocks n true r h) refl) refl good
    fails_good false sited line f r n h rest good =
        more (at line f (renumbered site.register site.block (operations.Constant r 0))) rest
        (renumbered_fits site.register site.block site.routine.registers site.routine.blocks t sited.lies (operations.Constant r 0) n (length rest) (may_fail_fits site.routine.registers site.routine.blocks n false r h) refl) refl good

    instruction_good : Sited site → (line f : ℕ) (o : Operation) (n : ℕ) → operation_fits site.routine.registers site.routine.blocks n o ≡ true → (marks : List ℕ) (rest : List Instruction) (space : Space)
        → Within (instruction_code b inline site (at line f o) marks rest space).space t → Good rest → Good (instruction_code b inline site (at line f o) marks rest space).code
    instruction_good sited line f (operations.Constant into bits) n h marks rest space inside good = more (at line f (renumbered site.register site.block (operations.Constant into bits))) rest (renumbered_fits site.register site.block site.routine.registers site.routine.blocks t sited.lies (operations.Constant into bits) n (length rest) h refl) refl good
    instruction_good sited line f (operations.Copy into a) n h marks rest space inside good = more (at line f (renumbered site.register site.block (operations.Copy into a))) rest (renumbered_fits site.register site.block site.routine.registers site.routine.blocks t sited.lies (operations.Copy into a) n (length rest) h refl) refl good
    instruction_good sited line f (operations.Load into u block offset) n h marks rest space inside good = more (at line f (renumbered site.register site.block (operations.Load into u block offset))) rest (renumbered_fits site.register site.block site.routine.registers site.routine.blocks t sited.lies (operations.Load into u block offset) n (length rest) h refl) refl good
    instruction_good sited line f (operations.Store block offset count a) n h marks rest space inside good = more (at line f (renumbered site.register site.block (operations.Store block offset count a))) rest (renumbered_fits site.register site.block site.routine.registers site.routine.blocks t sited.lies (operations.Store block offset count a) n (length rest) h refl) refl good
    instruction_good sited line f (operations.Clear block size) n h marks rest space inside good = more (at line f (renumbered site.register site.block (operations.Clear block size))) rest (renumbered_fits site.register site.block site.routine.registers site.routine.blocks t sited.lies (operations.Clear block size) n (length rest) h refl) refl good
    instruction_good sited line f (operations.CopyBytes into to from offset count) n h marks rest space inside good = more (at line f (renumbered site.register site.block (operations.CopyBytes into to from offset count))) rest (renumbered_fits site.register site.block site.routine.registers site.routine.blocks t sited.lies (operations.CopyBytes into to from offset count) n (length rest) h refl) refl good
    instruction_good sited line f (operations.Convert into from to a) n h marks rest space inside good = more (at line f (renumbered site.register site.block (operations.Convert into from to a))) rest (renumbered_fits site.register site.block site.routine.registers site.routine.blocks t sited.lies (operations.Convert into from to a) n (length rest) h refl) refl good
    instruction_good sited line f (operations.Sign into op u a) n h marks rest space inside good = more (at line f (renumbered site.register site.block (operations.Sign into op u a))) rest (renumbered_fits site.register site.block site.routine.registers site.routine.blocks t sited.lies (operations.Sign into op u a) n (length rest) h refl) refl good
    instruction_good sited line f (operations.Arithmetic into op u c x y) n h marks rest space inside good = more (at line f (renumbered site.register site.block (operations.Arithmetic into op u c x y))) rest (renumbered_fits site.register site.block site.routine.registers site.routine.blocks t sited.lies (operations.Arithmetic into op u c x y) n (length rest) h refl) refl good
    instruction_good sited line f (operations.Compare into op u x y) n h marks rest space inside good = more (at line f (renumbered site.register site.block (operations.Compare into op u x y))) rest (renumbered_fits site.register site.block site.routine.registers site.routine.blocks t sited.lies (operations.Compare into op u x y) n (length rest) h refl) refl good
    instruction_good sited line f (operations.IsZero into a) n h marks rest space inside good = more (at line f (renumbered site.register site.block (operations.IsZero into a))) rest (renumbered_fits site.register site.block site.routine.registers site.routine.blocks t sited.lies (operations.IsZero into a) n (length rest) h refl) refl good
    instruction_good sited line f (operations.Check c) n h marks rest space inside good = more (at line f (renumbered site.register site.block (operations.Check c))) rest (renumbered_fits site.register site.block site.routine.registers site.routine.blocks t sited.lies (operations.Check c) n (length rest) h refl) refl good
    instruction_good sited line f (operations.Assert a) n h marks rest space inside good = more (at line f (renumbered site.register site.block (operations.Assert a))) rest (renumbered_fits site.register site.block site.routine.registers site.routine.blocks t sited.lies (operations.Assert a) n (length rest) h refl) refl good
    instruction_good sited line f (operations.Assume a) n h marks rest space inside good = more (at line f (renumbered site.register site.block (operations.Assume a))) rest (renumbered_fits site.register site.block site.routine.registers site.routine.blocks t sited.lies (operations.Assume a) n (length rest) h refl) refl good
    instruction_good sited line f (operations.Draw into bits) n h marks rest space inside good = more (at line f (renumbered site.register site.block (operations.Draw into bits))) rest (renumbered_fits site.register site.block site.routine.registers site.routine.blocks t sited.lies (operations.Draw into bits) n (length rest) h refl) refl good
    instruction_good sited line f (operations.ReadObject block to k offset count) n h marks rest space inside good = more (at line f (renumbered site.register site.block (operations.ReadObject block to k offset count))) rest (renumbered_fits site.register site.block site.routine.registers site.routine.blocks t sited.lies (operations.ReadObject block to k offset count) n (length rest) h refl) refl good
    instruction_good sited line f (operations.WriteObject k offset block from count) n h marks rest space inside good = more (at line f (renumbered site.register site.block (operations.WriteObject k offset block from count))) rest (renumbered_fits site.register site.block site.routine.registers site.routine.blocks t sited.lies (operations.WriteObject k offset block from count) n (length rest) h refl) refl good
    instruction_good sited line f operations.Exit n h marks rest space inside good = more (at line f (renumbered site.register site.block operations.Exit)) rest (renumbered_fits site.register site.block site.routine.registers site.routine.blocks t sited.lies operations.Exit n (length rest) h refl) refl good
    instruction_good sited line f (operations.Fail class) n h marks rest space inside good = more (at line f (renumbered site.register site.block (operations.Fail class))) rest (renumbered_fits site.register site.block site.routine.registers site.routine.blocks t sited.lies (operations.Fail class) n (length rest) h refl) refl good
    instruction_good sited line f (operations.Use a) n h marks rest space inside good = more (at line f (renumbered site.register site.block (operations.Use a))) rest (renumbered_fits site.register site.block site.routine.registers site.routine.blocks t sited.lies (operations.Use a) n (length rest) h refl) refl good
    instruction_good sited line f (operations.Move into p i u j size class) n h marks rest space inside good = more (at line f (renumbered site.register site.block (operations.Move into p i u j size class))) rest (renumbered_fits site.register site.block site.routine.registers site.routine.blocks t sited.lies (operations.Move into p i u j size class) n (length rest) h refl) refl good
    instruction_good sited line f (operations.Offset into p count) n h marks rest space inside good = more (at line f (renumbered site.register site.block (operations.Offset into p count))) rest (renumbered_fits site.register site.block site.routine.registers site.routine.blocks t sited.lies (operations.Offset into p count) n (length rest) h refl) refl good
    instruction_good sited line f (operations.Same p q) n h marks rest space inside good = more (at line f (renumbered site.register site.block (operations.Same p q))) rest (renumbered_fits site.register site.block site.routine.registers site.routine.blocks t sited.lies (operations.Same p q) n (length rest) h refl) refl good
    instruction_good sited line f (operations.Distance into p q j) n h marks rest space inside good = more (at line f (renumbered site.register site.block (operations.Distance into p q j))) rest (renumbered_fits site.register site.block site.routine.registers site.routine.blocks t sited.lies (operations.Distance into p q j) n (length rest) h refl) refl good
    instruction_good sited line f (operations.Relate into op p q) n h marks rest space inside good = more (at line f (renumbered site.register site.block (operations.Relate into op p q))) rest (renumbered_fits site.register site.block site.routine.registers site.routine.blocks t sited.lies (operations.Relate into op p q) n (length rest) h refl) refl good
    instruction_good sited line f (operations.Take block to from p count whole) n h marks rest space inside good = more (at line f (renumbered site.register site.block (operations.Take block to from p count whole))) rest (renumbered_fits site.register site.block site.routine.registers site.routine.blocks t sited.lies (operations.Take block to from p count whole) n (length rest) h refl) refl good
    instruction_good sited line f (operations.Put block p from to count whole) n h marks rest space inside good = more (at line f (renumbered site.register site.block (operations.Put block p from to count whole))) rest (renumbered_fits site.register site.block site.routine.registers site.routine.blocks t sited.lies (operations.Put block p from to count whole) n (length rest) h refl) refl good
    instruction_good sited line f (operations.Read block to p count) n h marks rest space inside good = more (at line f (renumbered site.register site.block (operations.Read block to p count))) rest (renumbered_fits site.register site.block site.routine.registers site.routine.blocks t sited.lies (operations.Read block to p count) n (length rest) h refl) refl good
    instruction_good sited line f (operations.Write p block from count first) n h marks rest space inside good = more (at line f (renumbered site.register site.block (operations.Write p block from count first))) rest (renumbered_fits site.register site.block site.routine.registers site.routine.blocks t sited.lies (operations.Write p block from count first) n (length rest) h refl) refl good
    instruction_good sited line f (operations.Look into p subscript) n h marks rest space inside good = more (at line f (renumbered site.register site.block (operations.Look into p subscript))) rest (renumbered_fits site.register site.block site.routine.registers site.routine.blocks t sited.lies (operations.Look into p subscript) n (length rest) h refl) refl good
    instruction_good sited line f (operations.Fill block count) n h marks rest space inside good = more (at line f (renumbered site.register site.block (operations.Fill block count))) rest (renumbered_fits site.register site.block site.routine.registers site.routine.blocks t sited.lies (operations.Fill block count) n (length rest) h refl) refl good
    instruction_good sited line f (operations.Alloc into block size readonly heap) n h marks rest space inside good = more (at line f (renumbered site.register site.block (operations.Alloc into block size readonly heap))) rest (renumbered_fits site.register site.block site.routine.registers site.routine.blocks t sited.lies (operations.Alloc into block size readonly heap) n (length rest) h refl) refl good
    instruction_good sited line f (operations.Die p) n h marks rest space inside good = more (at line f (renumbered site.register site.block (operations.Die p))) rest (renumbered_fits site.register site.block site.routine.registers site.routine.blocks t sited.lies (operations.Die p) n (length rest) h refl) refl good
    instruction_good sited line f (operations.Free p) n h marks rest space inside good = more (at line f (renumbered site.register site.block (operations.Free p))) rest (renumbered_fits site.register site.block site.routine.registers site.routine.blocks t sited.lies (operations.Free p) n (length rest) h refl) refl good
    instruction_good sited line f (operations.Limit x y) n h marks rest space inside good = more (at line f (renumbered site.register site.block (operations.Check (checks.AtMost x y b.limits.malloc_limit)))) rest (renumbered_fits site.register site.block site.routine.registers site.routine.blocks t sited.lies (operations.Check (checks.AtMost x y b.limits.malloc_limit)) n (length rest) h refl) refl good
    instruction_good sited line f (operations.MayFail r) n h marks rest space inside good = fails_good b.limits.malloc_may_fail sited line f r n h rest good
    instruction_good sited line f (operations.Skip m) n h marks rest space inside good = more (at line f (operations.Skip (jump rest (slice_index marks m)))) rest (jump_fits rest (slice_index marks m)) refl good
    instruction_good sited line f (operations.SkipIfZero a m) n h marks rest space inside good =
        more (at line f (operations.SkipIfZero (site.register + a) (jump rest (slice_index marks m)))) rest (both_true (there site.register site.block site.routine.registers site.routine.blocks t sited.lies a (left_of _ _ h)) (jump_fits rest (slice_index marks m))) refl good
    instruction_good sited line f (operations.Return v) n h marks rest space inside good =
        hand_good site site.hands sited.lies sited.hands line f v (at line f (operations.Skip (jump rest site.back)) ∷ rest) h (more (at line f (operations.Skip (jump rest site.back))) rest (jump_fits rest site.back) refl good)
    instruction_good sited line f (operations.Call g first count into r) n h marks rest space inside good = fine.good site sited line f g first count into r h rest space inside good

    module _ (line f : ℕ) (round : ℕ → List Instruction → Space → Piece) where
      rounds_good : ((again : ℕ) (code : List Instruction) (space : Space) → Within space (round again code space).space)
          → ((again : ℕ) (code : List Instruction) (space : Space) → Within (round again code space).space t → Good code → Good (round again code space).code)
          → (k : ℕ) (rest : List Instruction) (space : Space) → Within (round_codes b inline line f round k rest space).space t → Good rest → Good (round_codes b inline line f round k rest space).code
      rounds_good grows goods zero rest space inside good = passed_good b.limits.assertions Unwind line f rest good
      rounds_good grows goods (suc k) rest space inside good =
          let before = round_codes b inline line f round k rest space in
          goods (length before.code) before.code before.space inside (rounds_good grows goods k rest space (further (grows (length before.code) before.code before.space) inside) good)

    nodes_good : Sited site → (ns : Nodes) (n : ℕ) → nodes_fit site.routine.registers site.routine.blocks n ns ≡ true → (later : List ℕ) (rest : List Instruction) (space : Space)
        → Within (nodes_code b inline site ns later rest space).space t → Good rest → Good (nodes_code b inline site ns later rest space).code
    nodes_good sited done n fits later rest space inside good = good
    nodes_good sited (plain i ns) n fits later rest space inside good =
        let behind = nodes_code b inline site ns later rest space in
        instruction_good sited i.line i.function i.operation (node_count ns + n) (left_of _ _ fits) behind.marks behind.code behind.space inside
        (nodes_good sited ns n (right_of _ _ fits) later rest space (further (instruction_grows b inline fine.grows site i.line i.function i.operation behind.marks behind.code behind.space) inside) good)
    nodes_good sited (repeats line f k rotated body ns) n fits later rest space inside good =
        let behind = nodes_code b inline site ns later rest space in
        let round = λ (again : ℕ) (code : List Instruction) (between : Space). nodes_code b inline site body (again ∷ behind.marks) code between in
        let grows = λ (again : ℕ) (code : List Instruction) (between : Space). nodes_grow b inline fine.grows site body (again ∷ behind.marks) code between in
        let count = round_count rotated (tests b f k) in
        rounds_good line f round grows (λ again code between within_t fine_code. nodes_good sited body (node_count ns + n + 1) (left_of _ _ fits) (again ∷ behind.marks) code between within_t fine_code) count behind.code behind.space inside
        (nodes_good sited ns n (right_of _ _ fits) later rest space (further (rounds_grow b inline fine.grows site line f round grows count behind.code behind.space) inside) good)

    body_good : Sited site → routine_fits site.routine ≡ true → (rest : List Instruction) (space : Space) → Within (body_code b inline site rest space).space t → Good rest → Good (body_code b inline site rest space).code
    body_good sited fits rest space inside good =
        let end = hand_code site site.routine.line 0 None ++ rest in
        nodes_good sited site.routine.nodes 0 fits (length end ∷ []) end space inside (hand_good site site.hands sited.lies sited.hands site.routine.line 0 None rest refl good)

  -- ---- calls

  abbrev FitsIf : Option Routine → Type 0
  FitsIf None = Unit {0}
  FitsIf (Some p) = routine_fits p ≡ true

  inlined_good : (inline : Inline) → Fine inline → (o : Option Routine) → FitsIf o → (caller : Site) → Sited caller → (line f g first count into r : ℕ)
      → operation_fits caller.routine.registers caller.routine.blocks 0 (operations.Call g first count into r) ≡ true
      → (rest : List Instruction) (space : Space) → Within (inlined b inline o caller line f g first count into r rest space).space t → Good rest → Good (inlined b inline o caller line f g first count into r rest space).code
  inlined_good inline fine None fits caller sited line f g first count into r h rest space inside good = more (at line f (operations.Assume 0)) rest zero_is refl good
  inlined_good inline fine (Some p) fits caller sited line f g first count into r h rest space inside good =
      let hands : Handing = record { block = caller.block + into; size = slice_index caller.routine.blocks into; register = caller.register + r } in
      let site : Site = record { routine = p; register = length space.registers; block = length space.blocks; hands = Some hands; back = length rest } in
      let end = hand_code site p.line 0 None ++ rest in
      let lies : Lies (length space.registers) (length space.blocks) p.registers p.blocks t = lies_behind space t p (further (nodes_grow b inline fine.grows site p.nodes (length end ∷ []) end (with_frame space p)) inside) in
      let room = sited.lies.blocks into (less_of into (length caller.routine.blocks) (right_of _ _ (left_of _ _ h))) in
      let told = register caller.register caller.block caller.routine.registers caller.routine.blocks t sited.lies types.Int r (right_of _ _ h) in
      arguments_good line f (drop first caller.routine.blocks) (caller.block + first) count p.blocks (length space.blocks) _ (later_blocks caller.block first caller.routine.blocks sited.lies.blocks) lies.blocks
      (body_good inline fine site (record { lies = lies; hands = (told, (room.0, sym room.1)) }) fits rest (with_frame space p) inside good)

  fits_at : (ps : List Routine) (g : ℕ) → routines_fit ps ≡ true → FitsIf (slice_get ps g)
  fits_at [] zero fits = tt
  fits_at [] (suc g) fits = tt
  fits_at (p ∷ ps) zero fits = left_of _ _ fits
  fits_at (p ∷ ps) (suc g) fits = fits_at ps g (right_of _ _ fits)

  module _ (all_fit : routines_fit b.functions ≡ true) where
    good_by : (test : Bool) (inline : Inline) → Fine inline → (o : Option Routine) → FitsIf o → (caller : Site) → Sited caller → (line f g first count into r : ℕ)
        → operation_fits caller.routine.registers caller.routine.blocks 0 (operations.Call g first count into r) ≡ true
        → (rest : List Instruction) (space : Space)
        → Within (if test then piece (passed_code b.limits.assertions Recursion line f ∷ rest) [] space else inlined b inline o caller line f g first count into r rest space).space t → Good rest
        → Good (if test then piece (passed_code b.limits.assertions Recursion line f ∷ rest) [] space else inlined b inline o caller line f g first count into r rest space).code
    good_by true inline fine o fits caller sited line f g first count into r h rest space inside good = passed_good b.limits.assertions Recursion line f rest good
    good_by false inline fine o fits caller sited line f g first count into r h rest space inside good = inlined_good inline fine o fits caller sited line f g first count into r h rest space inside good

    inline_fine : (fuel : ℕ) (left : List ℕ) → Fine (inline_at b fuel left)
    inline_fine zero left = record {
      grows = inline_grows b zero left;
      good = λ caller sited line f g first count into r h rest space inside good. passed_good b.limits.assertions Recursion line f rest good;
    }
    inline_fine (suc fuel) left = record {
      grows = inline_grows b (suc fuel) left;
      good = λ caller sited line f g first count into r h rest space inside good.
          good_by (slice_index left g == 0) (inline_at b fuel (opened left g)) (inline_fine fuel (opened left g)) (slice_get b.functions g) (fits_at b.functions g all_fit) caller sited line f g first count into r h rest space inside good;
    }

-- ---- the whole

module _ (b : Bounded) (number : ℕ) (p : Routine) (all_fit : routines_fit b.functions ≡ true) (fits : routine_fits p ≡ true) where
  abbrev t : Space
  t = (first_piece b number p).space

  abbrev inline : Inline
  inline = inline_at b (first_fuel b - 1) (opened (first_left b) number)

  abbrev exit : List Instruction
  exit = at p.line number operations.Exit ∷ []

  inside : Within (with_frame first_space p) t
  inside = nodes_grow b inline (inline_grows b (first_fuel b - 1) (opened (first_left b) number)) (first_site p) p.nodes (1 ∷ []) exit (with_frame first_space p)

  zero_there : 0 < length t.registers
  zero_there = (inside.registers 0 (by_one (length p.registers))).0
    where
      by_one : (n : ℕ) → 0 < suc n
      by_one n = omega arith

  exit_good : Good b t zero_there exit
  exit_good = more b t zero_there (at p.line number operations.Exit) [] refl refl (record { fits = refl; flat = refl })

  whole_good : Good b t zero_there (first_piece b number p).code
  whole_good =
      body_good b t zero_there inline (inline_fine b t zero_there all_fit (first_fuel b - 1) (opened (first_left b) number)) (first_site p) (record { lies = lies_behind first_space t p inside; hands = tt }) fits exit (with_frame first_space p) (itself t) exit_good

  pub piece_fits : code_fits t.registers t.blocks (first_piece b number p).code ≡ true
  piece_fits = whole_good.fits

  pub piece_flat : list_all (λ (i : Instruction). is_flat i.operation) (first_piece b number p).code ≡ true
  piece_flat = whole_good.flat
