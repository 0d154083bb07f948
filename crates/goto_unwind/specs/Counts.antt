-- How much a file unrolls to: the counts, and the first that passes its limit.
use Rattle.std.specs.Prelude.{◌≡◌, ℕ, ◌+◌, max, nat_lt, map, length, List, [], ◌∷◌, ◌++◌, Option, Some, None, if◌then◌else◌}
use Rattle.core_tree.specs.declared.refusal.Limit.{Limit}
use Rattle.core_tree.specs.declared.refusal.Limit.TheVariants.{Places, Threads, Actions, Objects, ObjectBytes}
use Rattle.core_tree.specs.Ranges.{Limits}
use Rattle.core_tree.specs.Trees.{Procedure, TypedFile}
use Rattle.core_tree.specs.Typed.{sizes_of_variables, sizes_of_objects}
use Rattle.goto_unwind.specs.Places.{places, objects}
use Rattle.goto_unwind.specs.declared.counting.Counts.{Counts}
use Rattle.goto_unwind.specs.declared.unrolling.UnwindError.{UnwindError}
use Rattle.goto_unwind.specs.declared.unrolling.UnwindError.TheVariants as errors

-- ---- objects: each variable of a function is one, each static object, and each string literal that is one

-- the largest of these sizes
abbrev pub largest : List ℕ → ℕ
largest [] = 0
largest (size ∷ sizes) = max size (largest sizes)

-- the bytes of the largest variable of these functions
abbrev pub variable_bytes : List Procedure → ℕ
variable_bytes [] = 0
variable_bytes (f ∷ functions) = max (largest (sizes_of_variables f.variables)) (variable_bytes functions)

-- the bytes of each string literal, with the 0 behind its text
abbrev pub sizes_of_literals : List (List ℕ) → List ℕ
sizes_of_literals literals = map (λ (text : List ℕ). length text + 1) literals

-- the bytes of the file's largest object
abbrev pub object_bytes : TypedFile → ℕ
object_bytes file = max (variable_bytes file.functions) (max (largest (sizes_of_objects file.objects)) (largest (sizes_of_literals file.literals)))

-- ---- limits

pub record Quantity : Type 0 where
  pub limit : Limit
  pub most : ℕ
  pub count : ℕ

-- what is counted, in the order in which it is told; there are no threads and actions yet
abbrev pub quantities : TypedFile → Limits → List Quantity
quantities file bounds =
    record { limit = Places; most = 2000000; count = places file.functions bounds }
    ∷ record { limit = Threads; most = 64; count = 0 }
    ∷ record { limit = Actions; most = 4096; count = 0 }
    ∷ record { limit = Objects; most = 8192; count = length file.objects + length file.literals + objects file.functions bounds }
    ∷ []

abbrev pub first_passed : List Quantity → Option Limit
first_passed [] = None
first_passed (q ∷ qs) = if nat_lt q.most q.count then Some q.limit else first_passed qs

-- what has a limit: what is counted, and behind it the bytes of an object
abbrev pub limited : TypedFile → Limits → List Quantity
limited file bounds = quantities file bounds ++ record { limit = ObjectBytes; most = 65536; count = object_bytes file } ∷ []

-- the first quantity that passes its limit
abbrev pub passed : TypedFile → Limits → Option Limit
passed file bounds = first_passed (limited file bounds)

-- each count is cut at its limit plus 1, and those behind the first that passes its limit are 0
abbrev pub cut_counts : List Quantity → List ℕ
cut_counts [] = []
cut_counts (q ∷ qs) = if nat_lt q.most q.count then (q.most + 1) ∷ map (λ p. 0) qs else q.count ∷ cut_counts qs

abbrev pub counts_list : Counts → List ℕ
counts_list c = c.places ∷ c.threads ∷ c.actions ∷ c.objects ∷ []

-- ---- refusals

-- why a file isn't unrolled: a limit only where that quantity is the first to pass it
abbrev pub HasCause : TypedFile → Limits → UnwindError → Type 0
HasCause file bounds errors.Memory = Unit {0}
HasCause file bounds (errors.Limit l) = passed file bounds ≡ Some l
