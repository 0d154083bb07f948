-- The registers that fit operations on pointers.
use Rattle.std.proofs.Common.{◌≡◌, ℕ, ℤ, true, List, subst}
use Rattle.std.specs.Prelude.{◌&&◌}
use Rattle.words.specs.declared.check.Class.{Class}
use Rattle.c_types.specs.declared.integers.IntegerType.{IntegerType}
use Rattle.goto_prog.specs.declared.code.Condition.{Condition}
use Rattle.goto_prog.specs.declared.code.Condition.TheVariants as checks
use Rattle.goto_prog.specs.declared.code.Operation.{Operation}
use Rattle.goto_prog.specs.declared.code.Operation.TheVariants as operations
use Rattle.goto_prog.specs.Fitting.{is_pointer, is_register, check_fits, operation_fits}
use Rattle.goto_prog.proofs.Registers.{both}

pub move_fits : (registers : List IntegerType) (blocks : List ℕ) (o : Operation) (r p i : ℕ) (t : IntegerType) (n : ℤ) (size : ℕ) (class : Class) → o ≡ operations.Move r p i t n size class → operation_fits registers blocks 0 o ≡ true
    → (is_pointer registers p ≡ true) × (is_register registers i t ≡ true)
move_fits registers blocks o r p i t n size class is fits =
    let all = subst (λ (k : Operation). operation_fits registers blocks 0 k ≡ true) is fits in
    let read = (both (is_pointer registers r) (is_pointer registers p && is_register registers i t && is_pointer registers size) all).1 in
    both (is_pointer registers p) (is_register registers i t) (both (is_pointer registers p && is_register registers i t) (is_pointer registers size) read).0

pub within_fits : (registers : List IntegerType) (c : Condition) (p i : ℕ) (t : IntegerType) (n : ℤ) (size : ℕ) (class : Class) → c ≡ checks.Within p i t n size class → check_fits registers c ≡ true
    → (is_pointer registers p ≡ true) × (is_register registers i t ≡ true) × (is_pointer registers size ≡ true)
within_fits registers c p i t n size class is fits =
    let all = subst (λ (k : Condition). check_fits registers k ≡ true) is fits in
    let parts = both (is_pointer registers p && is_register registers i t) (is_pointer registers size) all in
    let first = both (is_pointer registers p) (is_register registers i t) parts.0 in
    (first.0, first.1, parts.1)
