-- Checks are no operations on pointers where the code has none, and make no objects.
use Rattle.std.proofs.Common.{◌≡◌, ℕ, zero, suc, ◌+◌, ◌*◌, Bool, true, false, List, [], ◌∷◌, length, map, Option, Some, None, refl, sym, ap, subst, ◌∙◌, arith}
use Rattle.std.specs.Prelude.{◌&&◌, ◌==◌, replicate, option_map, slice_get, slice_index, if◌then◌else◌}
use Rattle.std.proofs.lemmas.Bool.{false≢true}
use Rattle.std.proofs.lemmas.Option.{slice_get-map}
use Rattle.std.proofs.lemmas.List.{length-map}
use Rattle.c_types.specs.declared.integers.IntegerType.{IntegerType}
use Rattle.c_types.specs.Integers.{is_signed}
use Rattle.core_tree.specs.Ranges.{Limits}
use Rattle.core_tree.specs.declared.operators.ArithmeticOperator.{ArithmeticOperator}
use Rattle.core_tree.specs.declared.operators.ArithmeticOperator.TheVariants as arithmetics
use Rattle.core_tree.specs.declared.operators.SignOperator.{SignOperator}
use Rattle.core_tree.specs.declared.operators.SignOperator.TheVariants as signs
use Rattle.goto_prog.specs.declared.code.Condition.{Condition}
use Rattle.goto_prog.specs.declared.code.Condition.TheVariants as checks
use Rattle.goto_prog.specs.declared.code.Instruction.{Instruction}
use Rattle.goto_prog.specs.declared.code.Operation.{Operation}
use Rattle.goto_prog.specs.declared.code.Operation.TheVariants as operations
use Rattle.goto_prog.specs.Allocations.{operation_allocations, nodes_allocations, routine_allocations, call_allocations, allocations}
use Rattle.goto_prog.specs.GotoThreads.{GotoFile}
use Rattle.goto_prog.specs.Nodes.{Nodes, done, plain, repeats, Routine, view_procedures}
use Rattle.goto_prog.specs.Static.{is_static_check, is_static, are_static_nodes, are_static}
use Rattle.goto_prog.specs.Structured.{Bounded, tests, name_of, tests_in, round_count, opened}
use Rattle.goto_prog.proofs.Registers.{both}
use Rattle.goto_checks.specs.Inserted.{if_signed, arithmetic_checks, sign_checks, checks_of, with_checks, with_count, widths, jumping, inserted, with_inserted}

both_true : {a b : Bool} → a ≡ true → b ≡ true → (a && b) ≡ true
both_true one other = λ i. one i && other i

-- ---- no operations on pointers

abbrev AllChecks : List Condition → Type 0
AllChecks [] = Unit {0}
AllChecks (c ∷ cs) = (is_static_check c ≡ true) × AllChecks cs

signed_static : (signed : Bool) (c : Condition) → is_static_check c ≡ true → AllChecks (if signed then c ∷ [] else [])
signed_static true c h = (h, tt)
signed_static false c h = tt

shift_static : (signed : Bool) (c d : Condition) → is_static_check c ≡ true → is_static_check d ≡ true → AllChecks ((if signed then c else d) ∷ [])
shift_static true c d h k = (h, tt)
shift_static false c d h k = (k, tt)

arithmetic_static : (op : ArithmeticOperator) (t u : IntegerType) (a b : ℕ) → AllChecks (arithmetic_checks op t u a b)
arithmetic_static arithmetics.Multiply t u a b = signed_static (is_signed t) (checks.Range arithmetics.Multiply t a b) refl
arithmetic_static arithmetics.Divide t u a b = (refl, signed_static (is_signed t) (checks.Quotient t a b) refl)
arithmetic_static arithmetics.Remainder t u a b = (refl, signed_static (is_signed t) (checks.Quotient t a b) refl)
arithmetic_static arithmetics.Add t u a b = signed_static (is_signed t) (checks.Range arithmetics.Add t a b) refl
arithmetic_static arithmetics.Subtract t u a b = signed_static (is_signed t) (checks.Range arithmetics.Subtract t a b) refl
arithmetic_static arithmetics.ShiftLeft t u a b = shift_static (is_signed t) (checks.LeftShift t u a b) (checks.Count t u b) refl refl
arithmetic_static arithmetics.ShiftRight t u a b = (refl, tt)
arithmetic_static arithmetics.And t u a b = tt
arithmetic_static arithmetics.Xor t u a b = tt
arithmetic_static arithmetics.Or t u a b = tt

sign_static : (op : SignOperator) (t : IntegerType) (a : ℕ) → AllChecks (sign_checks op t a)
sign_static signs.Plus t a = tt
sign_static signs.Minus t a = signed_static (is_signed t) (checks.Negation t a) refl
sign_static signs.Complement t a = tt

checks_static : (o : Operation) → is_static o ≡ true → AllChecks (checks_of o)
checks_static (operations.Sign r op t a) static = sign_static op t a
checks_static (operations.Arithmetic r op t u a b) static = arithmetic_static op t u a b
checks_static (operations.Use a) static = (refl, tt)
checks_static (operations.Move r p i t n size class) static = absurd (false≢true static)
checks_static (operations.Same p q) static = absurd (false≢true static)
checks_static (operations.Take b to from p count whole) static = absurd (false≢true static)
checks_static (operations.Put b p from to count whole) static = absurd (false≢true static)
checks_static _ static = tt

with_checks_static : (i : Instruction) (cs : List Condition) (code : Nodes) → AllChecks cs → are_static_nodes code ≡ true → are_static_nodes (with_checks i cs code) ≡ true
with_checks_static i [] code all h = h
with_checks_static i (c ∷ cs) code all h = both_true {a = is_static_check c} {b = are_static_nodes (with_checks i cs code)} all.0 (with_checks_static i cs code all.1 h)

jump_static : (o : Operation) (count : ℕ) → is_static (with_count o count) ≡ is_static o
jump_static (operations.Skip n) count = refl
jump_static (operations.SkipIfZero a n) count = refl
jump_static _ count = refl

inserted_static : (nodes : Nodes) (later : List ℕ) → are_static_nodes nodes ≡ true → are_static_nodes (inserted nodes later) ≡ true
inserted_static done later h = refl
inserted_static (plain i rest) later h =
    let own = both (is_static i.operation) (are_static_nodes rest) h in
    let jump = jumping i (widths rest later) in
    with_checks_static i (checks_of i.operation) (plain jump (inserted rest later)) (checks_static i.operation own.0)
    (both_true {a = is_static jump.operation} {b = are_static_nodes (inserted rest later)} (jump_static i.operation _ ∙ own.0) (inserted_static rest later own.1))
inserted_static (repeats line f n rotated body rest) later h =
    let own = both (are_static_nodes body) (are_static_nodes rest) h in
    both_true {a = are_static_nodes (inserted body (1 ∷ widths rest later))} {b = are_static_nodes (inserted rest later)} (inserted_static body (1 ∷ widths rest later) own.0) (inserted_static rest later own.1)

functions_static : (functions : List Routine) → are_static functions ≡ true → are_static (map with_inserted functions) ≡ true
functions_static [] h = refl
functions_static (p ∷ functions) h =
    let own = both (are_static_nodes p.nodes) (are_static functions) h in
    both_true {a = are_static_nodes (with_inserted p).nodes} {b = are_static (map with_inserted functions)} (inserted_static p.nodes (1 ∷ []) own.0) (functions_static functions own.1)

pub all_static : (before behind : List Routine) → behind ≡ map with_inserted before → are_static before ≡ true → are_static behind ≡ true
all_static before behind same h = subst (λ (ps : List Routine). are_static ps ≡ true) (sym same) (functions_static before h)

-- ---- as many objects

module _ (b c : Bounded) (inserts : c.functions ≡ map with_inserted b.functions) (bounds : c.limits ≡ b.limits) where
  same_function : (f : ℕ) → slice_get c.functions f ≡ option_map with_inserted (slice_get b.functions f)
  same_function f = ap (λ (ps : List Routine). slice_get ps f) inserts ∙ slice_get-map with_inserted b.functions f

  same_name : (p : Option Routine) → name_of (option_map with_inserted p) ≡ name_of p
  same_name None = refl
  same_name (Some p) = refl

  same_tests : (f n : ℕ) → tests c f n ≡ tests b f n
  same_tests f n =
      (λ i. tests_in (bounds i).set (bounds i).unwind (name_of (same_function f i)) n) ∙ ap (λ (name : List ℕ). tests_in b.limits.set b.limits.unwind name n) (same_name (slice_get b.functions f))

  module _ (calls more : ℕ → ℕ) (same : (g : ℕ) → more g ≡ calls g) where
    with_checks_none : (i : Instruction) (cs : List Condition) (code : Nodes) → nodes_allocations c more (with_checks i cs code) ≡ nodes_allocations c more code
    with_checks_none i [] code = refl
    with_checks_none i (d ∷ cs) code = let rest = with_checks_none i cs code in omega (arith, rest)

    same_operation : (o : Operation) (count : ℕ) → operation_allocations more (with_count o count) ≡ operation_allocations calls o
    same_operation (operations.Skip n) count = refl
    same_operation (operations.SkipIfZero a n) count = refl
    same_operation (operations.Call g first number into r) count = same g
    same_operation _ count = refl

    same_nodes : (nodes : Nodes) (later : List ℕ) → nodes_allocations c more (inserted nodes later) ≡ nodes_allocations b calls nodes
    same_nodes done later = refl
    same_nodes (plain i rest) later =
        with_checks_none i (checks_of i.operation) (plain (jumping i (widths rest later)) (inserted rest later))
        ∙ (let one = same_operation i.operation _ in let others = same_nodes rest later in λ k. one k + others k)
    same_nodes (repeats line f n rotated body rest) later =
        let count = ap (round_count rotated) (same_tests f n) in
        let own = same_nodes body (1 ∷ widths rest later) in
        let others = same_nodes rest later in
        λ k. count k * own k + others k

    same_routine : (p : Option Routine) → routine_allocations c more (option_map with_inserted p) ≡ routine_allocations b calls p
    same_routine None = refl
    same_routine (Some p) = same_nodes p.nodes (1 ∷ [])

  same_call : (fuel : ℕ) (left : List ℕ) (g : ℕ) → call_allocations c fuel left g ≡ call_allocations b fuel left g
  same_call zero left g = refl
  same_call (suc fuel) left g =
      let calls = call_allocations b fuel (opened left g) in
      let more = call_allocations c fuel (opened left g) in
      let same = ap (routine_allocations c more) (same_function g) ∙ same_routine calls more (same_call fuel (opened left g)) (slice_get b.functions g) in
      λ k. if slice_index left g == 0 then 0 else same k

pub same_allocations : (g h : GotoFile) (limits : Limits) → view_procedures h.functions ≡ map with_inserted (view_procedures g.functions) → h.main ≡ g.main → allocations h limits ≡ allocations g limits
same_allocations g h limits inserts main =
    let before : Bounded = record { strict = false; functions = view_procedures g.functions; limits = limits } in
    let behind : Bounded = record { strict = false; functions = view_procedures h.functions; limits = limits } in
    let count : length (view_procedures h.functions) ≡ length (view_procedures g.functions) = ap (λ (ps : List Routine). length ps) inserts ∙ length-map (view_procedures g.functions) with_inserted in
    (λ i. call_allocations behind (count i * limits.unwind + 1) (replicate (count i) limits.unwind) (main i))
    ∙ same_call before behind inserts refl (length (view_procedures g.functions) * limits.unwind + 1) (replicate (length (view_procedures g.functions)) limits.unwind) g.main
