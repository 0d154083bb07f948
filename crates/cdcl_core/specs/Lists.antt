-- The watches on each literal.
use Rattle.std.specs.Prelude.{◌≡◌, ◌≢◌, ℕ, List, [], ◌∷◌, ◌++◌, slice_set, slice_index_or, swap_remove}
use Rattle.sat_form.specs.Satisfaction.{Literal, index_of}
use Rattle.cdcl_core.specs.declared.lists.Watch.{Watch}

-- the watches on a literal
abbrev pub watches_of : List (List Watch) → Literal → List Watch
watches_of lists l = slice_index_or lists (index_of l) []

-- the lists with other watches on a literal
abbrev pub with_watches : List (List Watch) → Literal → List Watch → List (List Watch)
with_watches lists l watches = slice_set lists (index_of l) watches

-- the lists with one more watch on a literal
abbrev pub pushed : List (List Watch) → Literal → Watch → List (List Watch)
pushed lists l w = with_watches lists l (watches_of lists l ++ w ∷ [])

-- the lists without the watch at this place on a literal, where w stood
abbrev pub removed : List (List Watch) → Literal → ℕ → Watch → List (List Watch)
removed lists l at w = with_watches lists l (swap_remove (watches_of lists l) at w)

-- the lists with a watch on each of two literals of the clause with this number, if they differ
pub record IsEntered (lists : List (List Watch)) (number : ℕ) (first second : Literal) (new : List (List Watch)) : Type 0 where
  pub same : first ≡ second → new ≡ lists
  pub apart : first ≢ second → new ≡ pushed (pushed lists first (record { number = number; blocker = second })) second (record { number = number; blocker = first })
