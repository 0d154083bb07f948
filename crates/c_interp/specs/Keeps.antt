-- What each state keeps that a thread comes to.
use Rattle.std.specs.Prelude.{◌≡◌, ℕ, Bool, true, ◌&&◌, List, [], ◌∷◌}
use Rattle.std.specs.List.{list_all}
use Rattle.core_tree.specs.Trees.{TypedFile}
use Rattle.actions.specs.ByteList.{are_bytes}
use Rattle.c_values.specs.Variables.{Variables}
use Rattle.c_tasks.specs.Items.{Item, resumes, State}
use Rattle.c_tasks.specs.Fits.{Fits, IsSized}

-- each byte of each block is below 256
abbrev pub are_blocks : List (List ℕ) → Bool
are_blocks blocks = list_all (λ (block : List ℕ). are_bytes block) blocks

-- so in the variables of the callers
abbrev pub are_saved : List Item → Bool
are_saved [] = true
are_saved (resumes want caller saved ∷ is) = are_blocks saved && are_saved is
are_saved (_ ∷ is) = are_saved is

abbrev pub holds_bytes : List Item → List (List ℕ) → Variables → Bool
holds_bytes is bs vs = are_blocks bs && are_blocks vs && are_saved is

-- the structure values and the variables are bytes
abbrev pub HoldsBytes : State → Type 0
HoldsBytes s = holds_bytes s.items s.structures s.variables ≡ true

-- the items can be done, the variables are there by their sizes, and all that is held is bytes
abbrev pub IsKept : TypedFile → State → Type 0
IsKept file s = Fits file s × IsSized file s × HoldsBytes s
