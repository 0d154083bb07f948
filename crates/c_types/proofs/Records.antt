-- What a record is by its members, once others are completed after it.
use Rattle.std.proofs.Common.{◌≡◌, ◌+◌, ◌*◌, ◌++◌, ◌∷◌, [], true, false, ℕ, suc, None, Some, Option, MatchOption, Bool, List, max, nat_le, ◌==◌, ◌&&◌, if◌then◌else◌, refl, ap, ap₂, sym, ◌∙◌, subst, eqb-true}
use Rattle.std.proofs.lemmas.Bool.{and_parts, and_from, true≢false}
use Rattle.std.proofs.lemmas.Option.{same_Some}
use Rattle.c_types.specs.declared.types.RecordKind.{RecordKind}
use Rattle.c_types.specs.declared.types.RecordKind.TheVariants.{Struct, Union}
use Rattle.c_types.specs.declared.types.Cell.{Cell}
use Rattle.c_types.specs.Types.{CType, void, integer, aggregate, array, pointer, function, Completed}
use Rattle.c_types.specs.Layouts.{Layout, record_layout, layout_of, size_with, alignment_with, cells_with, padded, shifted, repeated, struct_end, struct_offsets, struct_cells, greatest_size, greatest_alignment, cells_of_size, is_completed, completed_at, is_complete, are_complete, is_sized, are_sized, fits, most_bytes, IsBuilt}
use Rattle.c_types.specs.Fields.{IsRecord}

-- ---- nesting, by which the walk over a type's cells ends

abbrev pub nesting_with : (ℕ → ℕ) → CType → ℕ
nesting_with r void = 0
nesting_with r (integer t) = 0
nesting_with r (aggregate n) = suc (r n)
nesting_with r (array e k) = suc (nesting_with r e)
nesting_with r (pointer t c) = 0
nesting_with r (function f) = 0

abbrev pub greatest_nesting : (ℕ → ℕ) → List CType → ℕ
greatest_nesting r [] = 0
greatest_nesting r (m ∷ ms) = max (nesting_with r m) (greatest_nesting r ms)

abbrev pub record_nesting : List Completed → ℕ → ℕ
record_nesting [] n = 0
record_nesting (c ∷ older) n = if c.place == n then greatest_nesting (record_nesting older) c.members else record_nesting older n

abbrev pub nesting : List Completed → CType → ℕ
nesting done t = nesting_with (record_nesting done) t

-- ---- the same of a type, by the records completed before one and with it

pub record Same (older : List Completed) (c : Completed) (t : CType) : Type 0 where
  pub size : size_with (record_layout (c ∷ older)) t ≡ size_with (record_layout older) t
  pub alignment : alignment_with (record_layout (c ∷ older)) t ≡ alignment_with (record_layout older) t
  pub cells : cells_with (record_layout (c ∷ older)) t ≡ cells_with (record_layout older) t
  pub deep : nesting_with (record_nesting (c ∷ older)) t ≡ nesting_with (record_nesting older) t
  pub sized : is_sized (c ∷ older) t ≡ is_sized older t

-- a record that isn't completed isn't the one at the place of one that is
other_place : (older : List Completed) (m n : ℕ) (b : Bool) → (m == n) ≡ b → is_completed older m ≡ false → is_completed older n ≡ true → b ≡ false
other_place older m n true is before there = absurd (true≢false (sym there ∙ ap (is_completed older) (sym (eqb-true m n is)) ∙ before))
other_place older m n false is before there = refl

pub same_type : (older : List Completed) (c : Completed) (t : CType) → is_completed older c.place ≡ false → is_complete older t ≡ true → Same older c t
same_type older c void before there = record { size = refl; alignment = refl; cells = refl; deep = refl; sized = refl }
same_type older c (integer t) before there = record { size = refl; alignment = refl; cells = refl; deep = refl; sized = refl }
same_type older c (aggregate n) before there = let other = other_place older c.place n (c.place == n) refl before there in
    let layout = ap (λ (b : Bool). if b then layout_of (record_layout older) c.kind c.members else record_layout older n) other in
    record {
      size = ap (λ (l : Layout). l.size) layout;
      alignment = ap (λ (l : Layout). l.alignment) layout;
      cells = ap (λ (l : Layout). l.cells) layout;
      deep = ap (λ (b : Bool). suc (if b then greatest_nesting (record_nesting older) c.members else record_nesting older n)) other;
      sized = refl;
    }
same_type older c (array e k) before there = let s = same_type older c e before there in record {
  size = ap (λ (x : ℕ). k * x) s.size;
  alignment = s.alignment;
  cells = ap₂ (repeated k) s.size s.cells;
  deep = ap suc s.deep;
  sized = ap₂ (λ (a : Bool) (x : ℕ). a && nat_le (k * x) most_bytes) s.sized s.size;
}
same_type older c (pointer t b) before there = record { size = refl; alignment = refl; cells = refl; deep = refl; sized = refl }
same_type older c (function f) before there = record { size = refl; alignment = refl; cells = refl; deep = refl; sized = refl }

-- ---- and of lists of types

abbrev AllSame : List Completed → Completed → List CType → Type 0
AllSame older c [] = Unit {0}
AllSame older c (m ∷ ms) = Same older c m × AllSame older c ms

all_same : (older : List Completed) (c : Completed) (ms : List CType) → is_completed older c.place ≡ false → are_complete older ms ≡ true → AllSame older c ms
all_same older c [] before there = tt
all_same older c (m ∷ ms) before there = let parts = and_parts _ _ there in (same_type older c m before parts.0, all_same older c ms before parts.1)

ends_same : (older : List Completed) (c : Completed) (from : ℕ) (ms : List CType) → AllSame older c ms
    → struct_end (record_layout (c ∷ older)) from ms ≡ struct_end (record_layout older) from ms
ends_same older c from [] s = refl
ends_same older c from (m ∷ ms) s = ap₂ (λ (a b : ℕ). struct_end (record_layout (c ∷ older)) (padded from a + b) ms) s.0.alignment s.0.size
    ∙ ends_same older c (padded from (alignment_with (record_layout older) m) + size_with (record_layout older) m) ms s.1

offsets_same : (older : List Completed) (c : Completed) (from : ℕ) (ms : List CType) → AllSame older c ms
    → struct_offsets (record_layout (c ∷ older)) from ms ≡ struct_offsets (record_layout older) from ms
offsets_same older c from [] s = refl
offsets_same older c from (m ∷ ms) s = ap₂ (λ (a b : ℕ). padded from a ∷ struct_offsets (record_layout (c ∷ older)) (padded from a + b) ms) s.0.alignment s.0.size
    ∙ ap (λ (os : List ℕ). padded from (alignment_with (record_layout older) m) ∷ os)
    (offsets_same older c (padded from (alignment_with (record_layout older) m) + size_with (record_layout older) m) ms s.1)

cells_same : (older : List Completed) (c : Completed) (from : ℕ) (ms : List CType) → AllSame older c ms
    → struct_cells (record_layout (c ∷ older)) from ms ≡ struct_cells (record_layout older) from ms
cells_same older c from [] s = refl
cells_same older c from (m ∷ ms) s = ap₂ (λ (a b : ℕ). shifted (padded from a) (cells_with (record_layout (c ∷ older)) m) ++ struct_cells (record_layout (c ∷ older)) (padded from a + b) ms) s.0.alignment s.0.size
    ∙ ap₂ (λ (x y : List Cell). shifted (padded from (alignment_with (record_layout older) m)) x ++ y) s.0.cells
    (cells_same older c (padded from (alignment_with (record_layout older) m) + size_with (record_layout older) m) ms s.1)

alignments_same : (older : List Completed) (c : Completed) (ms : List CType) → AllSame older c ms
    → greatest_alignment (record_layout (c ∷ older)) ms ≡ greatest_alignment (record_layout older) ms
alignments_same older c [] s = refl
alignments_same older c (m ∷ ms) s = ap₂ max s.0.alignment (alignments_same older c ms s.1)

sizes_same : (older : List Completed) (c : Completed) (ms : List CType) → AllSame older c ms
    → greatest_size (record_layout (c ∷ older)) ms ≡ greatest_size (record_layout older) ms
sizes_same older c [] s = refl
sizes_same older c (m ∷ ms) s = ap₂ max s.0.size (sizes_same older c ms s.1)

chosen_same : (older : List Completed) (c : Completed) (size : ℕ) (ms : List CType) → AllSame older c ms
    → cells_of_size (record_layout (c ∷ older)) size ms ≡ cells_of_size (record_layout older) size ms
chosen_same older c size [] s = refl
chosen_same older c size (m ∷ ms) s = ap₂ (λ (x : ℕ) (cs : List Cell). if x == size then cs else cells_of_size (record_layout (c ∷ older)) size ms) s.0.size s.0.cells
    ∙ ap (λ (cs : List Cell). if size_with (record_layout older) m == size then cells_with (record_layout older) m else cs) (chosen_same older c size ms s.1)

nestings_same : (older : List Completed) (c : Completed) (ms : List CType) → AllSame older c ms
    → greatest_nesting (record_nesting (c ∷ older)) ms ≡ greatest_nesting (record_nesting older) ms
nestings_same older c [] s = refl
nestings_same older c (m ∷ ms) s = ap₂ max s.0.deep (nestings_same older c ms s.1)

sized_same : (older : List Completed) (c : Completed) (ms : List CType) → AllSame older c ms → are_sized (c ∷ older) ms ≡ are_sized older ms
sized_same older c [] s = refl
sized_same older c (m ∷ ms) s = ap₂ (λ (a b : Bool). a && b) s.0.sized (sized_same older c ms s.1)

abbrev layout_parts : ℕ → ℕ → List ℕ → List Cell → Layout
layout_parts size alignment offsets cells = record { size = size; alignment = alignment; offsets = offsets; cells = cells }

four : (s t a b : ℕ) (o p : List ℕ) (c d : List Cell) → s ≡ t → a ≡ b → o ≡ p → c ≡ d → layout_parts s a o c ≡ layout_parts t b p d
four s t a b o p c d e f g h = ap₂ (λ (x y : ℕ). layout_parts x y o c) e f ∙ ap₂ (layout_parts t b) g h

layouts_same : (older : List Completed) (c : Completed) (kind : RecordKind) (ms : List CType) → AllSame older c ms
    → layout_of (record_layout (c ∷ older)) kind ms ≡ layout_of (record_layout older) kind ms
layouts_same older c Struct ms s = four _ _ _ _ _ _ _ _ (ap₂ padded (ends_same older c 0 ms s) (alignments_same older c ms s))
    (alignments_same older c ms s) (offsets_same older c 0 ms s) (cells_same older c 0 ms s)
layouts_same older c Union ms s = four _ _ _ _ _ _ _ _ (ap₂ padded (sizes_same older c ms s) (alignments_same older c ms s))
    (alignments_same older c ms s) refl
    (ap (λ (n : ℕ). cells_of_size (record_layout (c ∷ older)) n ms) (sizes_same older c ms s) ∙ chosen_same older c (greatest_size (record_layout older) ms) ms s)

-- ---- a completed record is what its members say, by all that is completed now

pub record Stood (done : List Completed) (n : ℕ) (kind : RecordKind) (ms : List CType) : Type 0 where
  pub layout : record_layout done n ≡ layout_of (record_layout done) kind ms
  pub deep : record_nesting done n ≡ greatest_nesting (record_nesting done) ms
  pub sized : are_sized done ms ≡ true
  pub complete : are_complete done ms ≡ true

still_completed : (older : List Completed) (c : Completed) (n : ℕ) → is_completed older n ≡ true → is_completed (c ∷ older) n ≡ true
still_completed older c n is = by (c.place == n) where
  by : (b : Bool) → (if b then true else is_completed older n) ≡ true
  by true = refl
  by false = is

still_complete : (older : List Completed) (c : Completed) (t : CType) → is_complete older t ≡ true → is_complete (c ∷ older) t ≡ true
still_complete older c void is = is
still_complete older c (integer t) is = is
still_complete older c (aggregate n) is = still_completed older c n is
still_complete older c (array e k) is = still_complete older c e is
still_complete older c (pointer t b) is = is
still_complete older c (function f) is = is

all_still_complete : (older : List Completed) (c : Completed) (ms : List CType) → are_complete older ms ≡ true → are_complete (c ∷ older) ms ≡ true
all_still_complete older c [] is = refl
all_still_complete older c (m ∷ ms) is = let parts = and_parts _ _ is in and_from _ _ (still_complete older c m parts.0) (all_still_complete older c ms parts.1)

stood_more : (older : List Completed) (c : Completed) (n : ℕ) (kind : RecordKind) (ms : List CType) → is_completed older c.place ≡ false → (c.place == n) ≡ false
    → are_complete older ms ≡ true → Stood older n kind ms → Stood (c ∷ older) n kind ms
stood_more older c n kind ms before other there s = let same = all_same older c ms before there in record {
  layout = ap (λ (b : Bool). if b then layout_of (record_layout older) c.kind c.members else record_layout older n) other ∙ s.layout ∙ sym (layouts_same older c kind ms same);
  deep = ap (λ (b : Bool). if b then greatest_nesting (record_nesting older) c.members else record_nesting older n) other ∙ s.deep ∙ sym (nestings_same older c ms same);
  sized = sized_same older c ms same ∙ s.sized;
  complete = all_still_complete older c ms there;
}

stood_first : (older : List Completed) (c : Completed) (n : ℕ) → is_completed older c.place ≡ false → (c.place == n) ≡ true
    → are_complete older c.members ≡ true → fits older c.kind c.members ≡ true → Stood (c ∷ older) n c.kind c.members
stood_first older c n before one there fit = let same = all_same older c c.members before there in record {
  layout = ap (λ (b : Bool). if b then layout_of (record_layout older) c.kind c.members else record_layout older n) one ∙ sym (layouts_same older c c.kind c.members same);
  deep = ap (λ (b : Bool). if b then greatest_nesting (record_nesting older) c.members else record_nesting older n) one ∙ sym (nestings_same older c c.members same);
  sized = sized_same older c c.members same ∙ (and_parts _ _ fit).0;
  complete = all_still_complete older c c.members there;
}

pub stands : (done : List Completed) (n : ℕ) (c : Completed) → IsBuilt done → completed_at done n ≡ Some c → (are_complete done c.members ≡ true) × Stood done n c.kind c.members
stands [] n c built is = let none : ⊥ = cc in absurd none
stands (d ∷ older) n c built is = by (d.place == n) refl is (stands older n c built.3) where
  by : (b : Bool) → (d.place == n) ≡ b → (if b then Some d else completed_at older n) ≡ Some c
      → (completed_at older n ≡ Some c → (are_complete older c.members ≡ true) × Stood older n c.kind c.members)
      → (are_complete (d ∷ older) c.members ≡ true) × Stood (d ∷ older) n c.kind c.members
  by true one some rest = subst (λ (x : Completed). (are_complete (d ∷ older) x.members ≡ true) × Stood (d ∷ older) n x.kind x.members) (same_Some d c some)
      (all_still_complete older d d.members built.1, stood_first older d n built.0 one built.1 built.2)
  by false other some rest = let known = rest some in
      (all_still_complete older d c.members known.0, stood_more older d n c.kind c.members built.0 other known.0 known.1)

pub stood : (done : List Completed) (n : ℕ) (kind : RecordKind) (ms : List CType) → IsBuilt done → IsRecord done n kind ms → Stood done n kind ms
stood done n kind ms built is = by (completed_at done n) refl is where
  by : (o : Option Completed) → completed_at done n ≡ o → MatchOption o ⊥ (λ c. (c.kind ≡ kind) × (c.members ≡ ms)) → Stood done n kind ms
  by None none parts = absurd parts
  by (Some c) some parts = subst (λ (k : RecordKind). Stood done n k ms) parts.0
      (subst (λ (xs : List CType). Stood done n c.kind xs) parts.1 (stands done n c built some).1)
