-- What a file's code makes is what the file counts.
use Rattle.std.proofs.Common.{◌≡◌, ℕ, zero, suc, ◌+◌, ◌*◌, ◌≤◌, Bool, true, false, List, [], ◌∷◌, length, Option, Some, None, refl, ap, ◌∙◌, arith}
use Rattle.std.proofs.lemmas.Bool.Decides.{nat_tests}
use Rattle.std.specs.Prelude.{◌&&◌, ◌==◌, nat_le, replicate, slice_get, slice_index, if◌then◌else◌}
use Rattle.std.specs.Str.{bytes_eq}
use Rattle.core_tree.specs.Ranges.{Limits, LoopLimit, is_unwinding, are_loop_limits}
use Rattle.core_tree.specs.Trees.{Statement, Procedure, TypedFile}
use Rattle.c_profile.specs.Rules.{is_main}
use Rattle.c_meaning.specs.Source as source
use Rattle.c_temporaries.specs.Temporaries.{statement_temporaries}
use Rattle.goto_prog.specs.Allocations.{nodes_allocations, routine_allocations, call_allocations, allocations}
use Rattle.goto_prog.specs.GotoThreads.{GotoFile}
use Rattle.goto_prog.specs.Nodes.{Routine}
use Rattle.goto_prog.specs.Structured.{Bounded, tests_in, opened, first_left, first_fuel}
use Rattle.goto_prog.specs.Structured as structured
use Rattle.goto_unwind.specs.Places as counts
use Rattle.goto_unwind.specs.Places.{object_weights, parameters_count, body_count, function_count, call_count, objects}
use Rattle.lowered_code.specs.Lowering.{Frame}
use Rattle.lowered_code.specs.Lowered.{first_frame, first_literal, code_by, function_code, function_codes, LoweredFile, view_goto, lowered}
use Rattle.lowered_code.proofs.RegisterTypes.{left_of, right_of}
use Rattle.lowered_code.proofs.SameThread.{codes_length}
use Rattle.counted_code.proofs.StatementObjects.{body_makes}

-- ---- bounds let each loop be tested

some_unwinding : (k : ℕ) → is_unwinding k ≡ true → 1 ≤ k
some_unwinding k h = let least = left_of (nat_le 1 k) (nat_le k 1000) h in grind (arith, nat_tests)

some_tests : (set : List LoopLimit) (others : ℕ) (name : List ℕ) (loop : ℕ) → are_loop_limits set ≡ true → is_unwinding others ≡ true → 1 ≤ tests_in set others name loop
some_tests [] others name loop all h = some_unwinding others h
some_tests (b ∷ set) others name loop all h =
    chosen (bytes_eq b.function name && b.number == loop) b.unwind (tests_in set others name loop) (some_unwinding b.unwind (left_of (is_unwinding b.unwind) (are_loop_limits set) all))
    (some_tests set others name loop (right_of (is_unwinding b.unwind) (are_loop_limits set) all) h)
  where
    chosen : (z : Bool) (x y : ℕ) → 1 ≤ x → 1 ≤ y → 1 ≤ (if z then x else y)
    chosen true x y one other = one
    chosen false x y one other = other

-- ---- functions by their numbers

abbrev coded : (literals number : ℕ) → Option Procedure → Option Routine
coded literals number None = None
coded literals number (Some p) = Some (function_code literals number p)

codes_at : (literals number : ℕ) (functions : List Procedure) (k : ℕ) → slice_get (function_codes literals number functions) k ≡ coded literals (number + k) (slice_get functions k)
codes_at literals number [] k = refl
codes_at literals number (f ∷ functions) zero = let same : number ≡ number + 0 = omega arith in ap (λ n. Some (function_code literals n f)) same
codes_at literals number (f ∷ functions) (suc k) = let same : number + 1 + k ≡ number + suc k = omega arith in codes_at literals (number + 1) functions k ∙ ap (λ n. coded literals n (slice_get functions k)) same

code_name : (literals number : ℕ) (f : Procedure) (body : Option Statement) → (code_by literals number f body).name ≡ f.name
code_name literals number f None = refl
code_name literals number f (Some s) = refl

names_same : (literals number : ℕ) (functions : List Procedure) (k : ℕ) → structured.name_of (slice_get (function_codes literals number functions) k) ≡ counts.name_of (slice_get functions k)
names_same literals number [] k = refl
names_same literals number (f ∷ functions) zero = code_name literals number f f.body
names_same literals number (f ∷ functions) (suc k) = names_same literals (number + 1) functions k

main_same : (functions : List Procedure) → source.main_number functions ≡ counts.main_number functions
main_same [] = refl
main_same (f ∷ functions) = ap (λ (n : ℕ). if is_main f then 0 else n + 1) (main_same functions)

-- ---- calls

module _ (literals : ℕ) (functions : List Procedure) (limits : Limits) (unwinding : is_unwinding limits.unwind ≡ true) (set : are_loop_limits limits.set ≡ true) where
  abbrev bounded : Bounded
  bounded = record { strict = false; functions = function_codes literals 0 functions; limits = limits }

  abbrev rounds : ℕ → ℕ → ℕ
  rounds g = counts.tests functions limits g

  some_rounds : (g l : ℕ) → 1 ≤ structured.tests bounded g l
  some_rounds g l = some_tests limits.set limits.unwind (structured.name_of (slice_get bounded.functions g)) l set unwinding

  same_rounds : (g l : ℕ) → structured.tests bounded g l ≡ rounds g l
  same_rounds g l = ap (λ name. tests_in limits.set limits.unwind name l) (names_same literals 0 functions g)

  module _ (calls : ℕ → ℕ) where
    by_body : (g : ℕ) (p : Procedure) (body : Option Statement) → nodes_allocations bounded calls (code_by literals g p body).nodes ≡ body_count object_weights (rounds g) calls p body
    by_body g p None = refl
    by_body g p (Some s) =
        let frame : Frame = first_frame literals g p.variables (length (statement_temporaries p.variables s).sizes) in
        body_makes bounded calls frame (some_rounds g) p.line p.parameters s
        ∙ (λ i. parameters_count object_weights p.parameters p.variables + counts.statement_count object_weights (λ l. same_rounds g l i) calls p.variables s)

    by_function : (g : ℕ) (p : Option Procedure) → routine_allocations bounded calls (coded literals g p) ≡ function_count object_weights (rounds g) calls p
    by_function g None = refl
    by_function g (Some p) = by_body g p p.body

    routine_makes : (g : ℕ) → routine_allocations bounded calls (slice_get bounded.functions g) ≡ function_count object_weights (rounds g) calls (slice_get functions g)
    routine_makes g = let here : 0 + g ≡ g = omega arith in ap (routine_allocations bounded calls) (codes_at literals 0 functions g ∙ ap (λ n. coded literals n (slice_get functions g)) here) ∙ by_function g (slice_get functions g)

  calls_make : (fuel : ℕ) (left : List ℕ) (g : ℕ) → call_allocations bounded fuel left g ≡ call_count object_weights functions limits fuel left g
  calls_make zero left g = refl
  calls_make (suc fuel) left g =
      ap (λ (n : ℕ). if slice_index left g == 0 then 0 else n)
      (routine_makes (call_allocations bounded fuel (opened left g)) g
      ∙ (λ i. function_count object_weights (rounds g) (λ h. calls_make fuel (opened left g) h i) (slice_get functions g)))

  pub file_makes : (main : ℕ) → main ≡ source.main_number functions → call_allocations bounded (first_fuel bounded) (first_left bounded) main ≡ objects functions limits
  file_makes main first =
      calls_make (first_fuel bounded) (first_left bounded) main
      ∙ (λ i. call_count object_weights functions limits (codes_length literals 0 functions i * limits.unwind + 1) (replicate (codes_length literals 0 functions i) limits.unwind) ((first ∙ main_same functions) i))

-- ---- a file

pub counts_objects : (file : TypedFile) (limits : Limits) → is_unwinding limits.unwind ≡ true → are_loop_limits limits.set ≡ true → (g : GotoFile) → view_goto g ≡ lowered file → allocations g limits ≡ objects file.functions limits
counts_objects file limits unwinding set g same =
    (λ i. made_of (same i)) ∙ file_makes (first_literal file) file.functions limits unwinding set (source.main_number file.functions) refl
  where
    made_of : LoweredFile → ℕ
    made_of x = let b : Bounded = record { strict = false; functions = x.functions; limits = limits } in call_allocations b (first_fuel b) (first_left b) x.main
