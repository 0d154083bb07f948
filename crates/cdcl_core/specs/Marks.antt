-- How a trail keeps the values of its variables.
use Rattle.std.specs.Prelude.{◌≡◌, ℕ, ◌^◌, ◌<◌, ◌≤◌, not, List, [], ◌∷◌, Option, None, Some, nat_eq, if◌then◌else◌, reverse, length, slice_index_or}
use Rattle.cdcl_core.specs.declared.trail.Step.{Step}
use Rattle.cdcl_core.specs.declared.trail.Mark.{Mark}
use Rattle.cdcl_core.specs.declared.trail.Trail.TheInside.{Inside}
use Rattle.cdcl_core.specs.Steps.{Course, known_value, AreFresh}

abbrev pub course_of : Inside → Course
course_of t = record { variables = length t.marks.items; steps = reverse t.steps.items }

-- the value and the place of the newest step on a variable
abbrev pub mark_of : List Step → ℕ → Option Mark
mark_of [] v = None
mark_of (s ∷ older) v =
    if nat_eq s.literal.variable v then Some (record { value = not s.literal.negated; place = length older }) else mark_of older v

-- the marks and the values are those that the steps give, no variable has two steps, and literals have room for each variable
pub record IsMarked (t : Inside) : Type 0 where
  pub marks : (v : ℕ) → v < length t.marks.items → slice_index_or t.marks.items v None ≡ mark_of (reverse t.steps.items) v
  pub count : length t.values.items ≡ length t.marks.items
  pub values : (v : ℕ) → v < length t.marks.items → slice_index_or t.values.items v None ≡ known_value (reverse t.steps.items) v
  pub fresh : AreFresh (length t.marks.items) (reverse t.steps.items)
  pub limit : length t.marks.items ≤ 2 ^ 31
