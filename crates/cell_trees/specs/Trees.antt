-- Trees of cells in one list, which grows and changes nothing that is there (persistent data structures: JCSS 1989, Driscoll, Sarnak, Sleator and Tarjan; here a binary trie over the numbers of the cells).
use Rattle.std.specs.Prelude.{◌≡◌, ℕ, zero, suc, ◌+◌, ◌-◌, ◌<◌, ◌≤◌, ◌==◌, Bool, true, false, List, [], ◌∷◌, Option, Some, None, nat_lt, length, slice_get, slice_index_or, if◌then◌else◌}
use Rattle.word_dag.specs.declared.nodes.Id.{Id}
use Rattle.cell_trees.specs.declared.arena.Halves.{Halves}
use Rattle.cell_trees.specs.declared.arena.Root.{Root}
use Rattle.cell_trees.specs.declared.arena.Root.TheVariants.{Empty, Leaf, Fork}

-- the halves of all trees, and how often each tree is halved until one cell is left
pub record Arena : Type 0 where
  pub depth : ℕ
  pub forks : List Halves

-- how many cells a tree has that is halved so often
abbrev pub span : ℕ → ℕ
span zero = 1
span (suc k) = span k + span k

abbrev pub none : Halves
none = record { lower = Empty; upper = Empty }

abbrev pub halves : List Halves → Root → Halves
halves fs Empty = none
halves fs (Leaf place) = none
halves fs (Fork place) = slice_index_or fs place none

-- the node of a tree of one cell
abbrev pub leaf : Root → Option Id
leaf Empty = None
leaf (Leaf place) = Some (record { index = place })
leaf (Fork place) = None

-- ---- trees whose parts are all in the list

abbrev pub There : List Halves → Root → Type 0
There fs Empty = Unit {0}
There fs (Leaf place) = Unit {0}
There fs (Fork place) = place < length fs

abbrev pub IsTree : List Halves → ℕ → Root → Type 0
IsTree fs zero r = Unit {0}
IsTree fs (suc k) r = There fs r × IsTree fs k (halves fs r).lower × IsTree fs k (halves fs r).upper

abbrev pub IsRoot : Arena → Root → Type 0
IsRoot t r = IsTree t.forks t.depth r

-- ---- what their cells are set to

abbrev pub looked_at : List Halves → ℕ → Root → ℕ → Option Id
looked_at fs zero r c = if c == 0 then leaf r else None
looked_at fs (suc k) r c = if nat_lt c (span k) then looked_at fs k (halves fs r).lower c else looked_at fs k (halves fs r).upper (c - span k)

-- the node of a cell, if it is set
abbrev pub looked : Arena → Root → ℕ → Option Id
looked t r c = looked_at t.forks t.depth r c

-- each tree stays, and its cells are set as they were
pub record Keeps (t u : Arena) : Type 0 where
  pub depth : u.depth ≡ t.depth
  pub trees : (k : ℕ) (r : Root) → IsTree t.forks k r → IsTree u.forks k r
  pub cells : (k : ℕ) (r : Root) (c : ℕ) → IsTree t.forks k r → looked_at u.forks k r c ≡ looked_at t.forks k r c

-- of so many cells from one on the first are set to these nodes, and the others to none; those around them are as they were
pub record Replaced (old : ℕ → Option Id) (at count : ℕ) (ids : List Id) (new : ℕ → Option Id) : Type 0 where
  pub front : (c : ℕ) → c < at → new c ≡ old c
  pub here : (k : ℕ) → k < count → new (at + k) ≡ slice_get ids k
  pub behind : (c : ℕ) → at + count ≤ c → new c ≡ old c

-- whether a number is among these
abbrev pub among : List ℕ → ℕ → Bool
among [] c = false
among (x ∷ xs) c = if x == c then true else among xs c
