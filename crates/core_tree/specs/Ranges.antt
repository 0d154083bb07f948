-- The bounds of a command, and the ranges of these and of a refusal's parts.
use Rattle.std.specs.Prelude.{ℕ, Bool, ◌&&◌, ◌||◌, ◌==◌, nat_le, Option, Some, None, List, map}
use Rattle.std.specs.List.{list_all}
use Rattle.core_tree.specs.declared.bounds.LoopBound.{LoopBound}

-- the bound of one loop: its function's name, its number there, and how many times its test may be evaluated
pub record LoopLimit : Type 0 where
  pub function : List ℕ
  pub number : ℕ
  pub unwind : ℕ

abbrev pub loop_limit : LoopBound → LoopLimit
loop_limit b = record { function = b.function.bytes.items; number = b.number; unwind = b.unwind }

abbrev pub loop_limits : List LoopBound → List LoopLimit
loop_limits bounds = map loop_limit bounds

-- the bounds of a command
pub record Limits : Type 0 where
  pub unwind : ℕ
  pub set : List LoopLimit
  pub assertions : Bool
  pub malloc_limit : ℕ
  pub malloc_may_fail : Bool

-- how many times a loop's test may be evaluated, or how many activations of a function may be open
abbrev pub is_unwinding : ℕ → Bool
is_unwinding k = nat_le 1 k && nat_le k 1000

-- the greatest size that can be allocated
abbrev pub is_malloc_limit : ℕ → Bool
is_malloc_limit n = nat_le 1 n && nat_le n 4096

abbrev pub are_loop_limits : List LoopLimit → Bool
are_loop_limits limits = list_all (λ b. is_unwinding b.unwind) limits

-- a refusal has a number from 1 to 7 or 10 without a rule, or 11 or 12 with one
abbrev pub is_refusal : ℕ → Option ℕ → Bool
is_refusal n None = (nat_le 1 n && nat_le n 7) || n == 10
is_refusal n (Some rule) = n == 11 || n == 12

-- why a file is refused: a number, a line, and the rule that is broken
pub record Cause : Type 0 where
  pub number : ℕ
  pub line : ℕ
  pub rule : Option ℕ
