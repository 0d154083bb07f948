-- Cells that are set to nodes; all others are 0.
use Rattle.std.specs.Prelude.{◌≡◌, ℕ, zero, suc, ◌≤◌, ◌&&◌, Bool, true, List, [], ◌∷◌, Option, Some, None, nat_lt, slice_index, slice_index_or, length, replicate, if◌then◌else◌}
use Rattle.c_types.specs.declared.integers.IntegerType.{IntegerType}
use Rattle.c_types.specs.declared.integers.IntegerType.TheVariants as types
use Rattle.c_types.specs.Integers.{width as type_width}
use Rattle.word_dag.specs.declared.nodes.Id.{Id}
use Rattle.word_dag.specs.declared.nodes.Node.{Node}
use Rattle.word_dag.specs.Meaning.{value, holds}
use Rattle.value_nodes.specs.Values.{IsWord, IsValue}
use Rattle.cell_trees.specs.declared.arena.Root.{Root}
use Rattle.cell_trees.specs.Trees.{Arena, span, IsRoot, looked}
use Rattle.guarded_ssa.specs.declared.registers.Zeros.{Zeros}

-- ---- zeros

-- each is 0, at the width of its types
pub record ZerosIn (d : List Node) (z : Zeros) : Type 0 where
  pub byte : IsValue d z.byte 8 (λ v. 0)
  pub short : IsValue d z.short 16 (λ v. 0)
  pub int : IsValue d z.int 32 (λ v. 0)
  pub long : IsValue d z.long 64 (λ v. 0)

abbrev pub zero_of : Zeros → IntegerType → Id
zero_of z types.Bool = z.byte
zero_of z types.Char = z.byte
zero_of z types.SignedChar = z.byte
zero_of z types.UnsignedChar = z.byte
zero_of z types.Short = z.short
zero_of z types.UnsignedShort = z.short
zero_of z types.Int = z.int
zero_of z types.UnsignedInt = z.int
zero_of z types.Long = z.long
zero_of z types.UnsignedLong = z.long
zero_of z types.LongLong = z.long
zero_of z types.UnsignedLongLong = z.long

-- ---- what cells hold, each by its node, if it is set

abbrev pub word_or_0 : (Id → ℕ) → Option Id → ℕ
word_or_0 f None = 0
word_or_0 f (Some i) = f i

-- the words of cells of these types, the first of which has this number
abbrev pub words_from : (Id → ℕ) → (ℕ → Option Id) → ℕ → List IntegerType → List ℕ
words_from f g r [] = []
words_from f g r (t ∷ ts) = word_or_0 f (g r) ∷ words_from f g (suc r) ts

-- the words of so many bytes, the first of which is the cell of this number
abbrev pub bytes_from : (Id → ℕ) → (ℕ → Option Id) → ℕ → ℕ → List ℕ
bytes_from f g r n = words_from f g r (replicate n types.Char)

abbrev pub id_or : Id → Option Id → Id
id_or other None = other
id_or other (Some i) = i

-- the nodes of so many cells from this one on, the other node for each that isn't set
abbrev pub ids_from : (ℕ → Option Id) → Id → ℕ → ℕ → List Id
ids_from g other r zero = []
ids_from g other r (suc n) = id_or other (g r) ∷ ids_from g other (suc r) n

-- ---- trees of cells of these types

-- each cell that is set has a node of the width of its type
pub record TreeIn (d : List Node) (t : Arena) (ts : List IntegerType) (r : Root) : Type 0 where
  pub room : length ts ≤ span t.depth
  pub root : IsRoot t r
  pub live : (c : ℕ) (i : Id) → looked t r c ≡ Some i → IsWord d i (type_width (slice_index_or ts c types.Int))

-- a cell whose register or block an instruction from the place on reads
abbrev pub is_needed : (until owner : List ℕ) → (place : ℕ) → ℕ → Bool
is_needed until owner place c = nat_lt c (length owner) && nat_lt place (slice_index until (slice_index owner c))

-- of the cells that are needed the first where the test is true, else the second
pub record Merged (d e : List Node) (t u : Arena) (ts : List IntegerType) (until owner : List ℕ) (place : ℕ) (test : Id) (first second new : Root) : Type 0 where
  pub tree : TreeIn e u ts new
  pub words : (v : ℕ → ℕ) (c : ℕ) → is_needed until owner place c ≡ true
      → word_or_0 (value v e) (looked u new c) ≡ (if holds (value v d test) then word_or_0 (value v d) (looked t first c) else word_or_0 (value v d) (looked t second c))
