-- Lists of cells.
use Rattle.std.proofs.Common.{◌≡◌, ◌≤◌, ◌<◌, ◌+◌, ◌-◌, ◌*◌, ◌++◌, ◌∷◌, [], true, false, ℕ, zero, suc, Bool, List, length, ◌==◌, if◌then◌else◌, refl, ap, ap₂, sym, ◌∙◌, subst, subst₂, leb-true, None, eqb-true, arith, le_refl, append_assoc, append-nil, add_assoc, zero-add, zero-mul, add-one, suc-mul, mul-le-mul_right, le_trans}
use Rattle.std.proofs.lemmas.Bool.{and_parts}
use Rattle.c_types.specs.declared.integers.IntegerType.{IntegerType}
use Rattle.c_types.specs.declared.integers.IntegerType.TheVariants as integers
use Rattle.c_types.specs.declared.types.RecordKind.{RecordKind}
use Rattle.c_types.specs.declared.types.RecordKind.TheVariants.{Struct, Union}
use Rattle.c_types.specs.declared.types.Cell.{Cell}
use Rattle.c_types.specs.declared.types.Ty.{Ty}
use Rattle.c_types.specs.declared.types.Ty as codes
use Rattle.c_types.specs.Integers.{bytes}
use Rattle.c_types.specs.Types.{CType, view, void, integer, aggregate, array, pointer, function, Completed}
use Rattle.c_types.specs.Layouts.{Layout, record_layout, layout_of, size_of, alignment_of, cells_of, size_with, alignment_with, cells_with, padded, shifted, repeated, struct_end, struct_cells, greatest_size, greatest_alignment, cells_of_size, is_sized, are_sized, completed_at, most_bytes, IsBuilt}
use Rattle.c_types.specs.Fields.{IsRecord, Within}
use Rattle.c_types.proofs.Kept.{small_record, none_layout}
use Rattle.c_types.proofs.MemberLoops.{padded_grows, end_grows}
use Rattle.c_types.proofs.Records.{nesting, greatest_nesting, record_nesting, Stood, stood}

-- ---- cells further on

pub shifted_zero : (cs : List Cell) → shifted 0 cs ≡ cs
shifted_zero [] = refl
shifted_zero (c ∷ cs) = ap₂ (λ (o : ℕ) (ds : List Cell). record { offset = o; size = c.size } ∷ ds) (zero-add c.offset) (shifted_zero cs)

pub shifted_append : (by : ℕ) (cs ds : List Cell) → shifted by (cs ++ ds) ≡ shifted by cs ++ shifted by ds
shifted_append by [] ds = refl
shifted_append by (c ∷ cs) ds = ap (λ (es : List Cell). record { offset = by + c.offset; size = c.size } ∷ es) (shifted_append by cs ds)

pub shifted_shifted : (a b : ℕ) (cs : List Cell) → shifted a (shifted b cs) ≡ shifted (a + b) cs
shifted_shifted a b [] = refl
shifted_shifted a b (c ∷ cs) = ap₂ (λ (o : ℕ) (es : List Cell). record { offset = o; size = c.size } ∷ es) (sym (add_assoc a b c.offset)) (shifted_shifted a b cs)

pub repeated_none : (k size : ℕ) → repeated k size [] ≡ []
repeated_none zero size = refl
repeated_none (suc k) size = rw (repeated_none k size) refl

pub repeated_one : (k size : ℕ) (cs : List Cell) → k ≡ 1 → cs ≡ repeated k size cs
repeated_one k size cs is = sym (shifted_zero cs) ∙ ap (λ (by : ℕ). shifted by cs) (sym (zero-mul size)) ∙ ap (λ (n : ℕ). repeated n size cs) (sym is)

pub repeated_more : (list : List Cell) (base k size : ℕ) (cs : List Cell)
    → (list ++ shifted base (repeated k size cs)) ++ shifted (base + k * size) cs ≡ list ++ shifted base (repeated (suc k) size cs)
repeated_more list base k size cs = append_assoc list (shifted base (repeated k size cs)) (shifted (base + k * size) cs)
    ∙ ap (λ (x : List Cell). list ++ x) (ap (λ (x : List Cell). shifted base (repeated k size cs) ++ x) (sym (shifted_shifted base (k * size) cs))
    ∙ sym (shifted_append base (repeated k size cs) (shifted (k * size) cs)))

-- ---- cells lie within their type

pub within_more : (a b : ℕ) (cs : List Cell) → a ≤ b → Within a cs → Within b cs
within_more a b [] le w = tt
within_more a b (c ∷ cs) le w = (le_trans w.0 le, within_more a b cs le w.1)

within_append : (a : ℕ) (cs ds : List Cell) → Within a cs → Within a ds → Within a (cs ++ ds)
within_append a [] ds w v = v
within_append a (c ∷ cs) ds w v = (w.0, within_append a cs ds w.1 v)

within_shifted : (a by : ℕ) (cs : List Cell) → Within a cs → Within (by + a) (shifted by cs)
within_shifted a by [] w = tt
within_shifted a by (c ∷ cs) w = (omega (arith, w.0), within_shifted a by cs w.1)

within_repeated : (k size : ℕ) (cs : List Cell) → Within size cs → Within (k * size) (repeated k size cs)
within_repeated zero size cs w = tt
within_repeated (suc k) size cs w = within_append (suc k * size) (repeated k size cs) (shifted (k * size) cs)
    (within_more (k * size) (suc k * size) (repeated k size cs) (rw (suc-mul k size) (omega arith)) (within_repeated k size cs w))
    (within_more (k * size + size) (suc k * size) (shifted (k * size) cs) (rw (suc-mul k size) (le_refl (k * size + size))) (within_shifted size (k * size) cs w))

within_type : (r : ℕ → Layout) → ((n : ℕ) → Within (r n).size (r n).cells) → (t : CType) → Within (size_with r t) (cells_with r t)
within_type r all void = tt
within_type r all (integer t) = (omega arith, tt)
within_type r all (aggregate n) = all n
within_type r all (array e k) = within_repeated k (size_with r e) (cells_with r e) (within_type r all e)
within_type r all (pointer t c) = (omega arith, tt)
within_type r all (function f) = tt

within_struct : (r : ℕ → Layout) → ((n : ℕ) → Within (r n).size (r n).cells) → (from : ℕ) (ms : List CType) → Within (struct_end r from ms) (struct_cells r from ms)
within_struct r all from [] = tt
within_struct r all from (m ∷ ms) = within_append (struct_end r from (m ∷ ms)) (shifted (padded from (alignment_with r m)) (cells_with r m))
    (struct_cells r (padded from (alignment_with r m) + size_with r m) ms)
    (within_more (padded from (alignment_with r m) + size_with r m) (struct_end r from (m ∷ ms)) (shifted (padded from (alignment_with r m)) (cells_with r m))
    (end_grows r (padded from (alignment_with r m) + size_with r m) ms)
    (within_shifted (size_with r m) (padded from (alignment_with r m)) (cells_with r m) (within_type r all m)))
    (within_struct r all (padded from (alignment_with r m) + size_with r m) ms)

within_union : (r : ℕ → Layout) → ((n : ℕ) → Within (r n).size (r n).cells) → (size : ℕ) (ms : List CType) → Within size (cells_of_size r size ms)
within_union r all size [] = tt
within_union r all size (m ∷ ms) = by (size_with r m == size) refl (within_union r all size ms) where
  by : (b : Bool) → (size_with r m == size) ≡ b → Within size (cells_of_size r size ms) → Within size (if b then cells_with r m else cells_of_size r size ms)
  by true is rest = subst (λ (s : ℕ). Within s (cells_with r m)) (eqb-true _ _ is) (within_type r all m)
  by false is rest = rest

within_layout : (r : ℕ → Layout) → ((n : ℕ) → Within (r n).size (r n).cells) → (k : RecordKind) (ms : List CType) → Within (layout_of r k ms).size (layout_of r k ms).cells
within_layout r all Struct ms = within_more (struct_end r 0 ms) (padded (struct_end r 0 ms) (greatest_alignment r ms)) (struct_cells r 0 ms)
    (padded_grows (struct_end r 0 ms) (greatest_alignment r ms)) (within_struct r all 0 ms)
within_layout r all Union ms = within_more (greatest_size r ms) (padded (greatest_size r ms) (greatest_alignment r ms)) (cells_of_size r (greatest_size r ms) ms)
    (padded_grows (greatest_size r ms) (greatest_alignment r ms)) (within_union r all (greatest_size r ms) ms)

within_record : (done : List Completed) (n : ℕ) → Within (record_layout done n).size (record_layout done n).cells
within_record [] n = tt
within_record (c ∷ older) n = by (c.place == n) (within_record older) where
  by : (b : Bool) → ((m : ℕ) → Within (record_layout older m).size (record_layout older m).cells)
      → Within (if b then layout_of (record_layout older) c.kind c.members else record_layout older n).size (if b then layout_of (record_layout older) c.kind c.members else record_layout older n).cells
  by true all = within_layout (record_layout older) all c.kind c.members
  by false all = all n

pub cells_within : (done : List Completed) (t : CType) → Within (size_of done t) (cells_of done t)
cells_within done t = within_type (record_layout done) (within_record done) t

small_integer : (t : IntegerType) → bytes t ≤ most_bytes
small_integer integers.Bool = omega arith
small_integer integers.Char = omega arith
small_integer integers.SignedChar = omega arith
small_integer integers.UnsignedChar = omega arith
small_integer integers.Short = omega arith
small_integer integers.UnsignedShort = omega arith
small_integer integers.Int = omega arith
small_integer integers.UnsignedInt = omega arith
small_integer integers.Long = omega arith
small_integer integers.UnsignedLong = omega arith
small_integer integers.LongLong = omega arith
small_integer integers.UnsignedLongLong = omega arith

pub small_sized : (done : List Completed) (t : CType) → IsBuilt done → is_sized done t ≡ true → size_of done t ≤ most_bytes
small_sized done void built is = omega arith
small_sized done (integer t) built is = small_integer t
small_sized done (aggregate n) built is = small_record done n built
small_sized done (array e k) built is = leb-true _ _ (and_parts _ _ is).1
small_sized done (pointer t c) built is = omega arith
small_sized done (function f) built is = omega arith

-- ---- the walk over the members of a struct

pub record Walking (done : List Completed) (all rest : List CType) (base end : ℕ) (before list : List Cell) : Type 0 where
  pub listed : list ++ shifted base (struct_cells (record_layout done) end rest) ≡ before ++ shifted base (struct_cells (record_layout done) 0 all)
  pub sized : are_sized done rest ≡ true
  pub room : base + struct_end (record_layout done) end rest ≤ most_bytes
  pub deep : greatest_nesting (record_nesting done) rest ≤ greatest_nesting (record_nesting done) all

pub walking_begins : (done : List Completed) (all : List CType) (base : ℕ) (list : List Cell) → are_sized done all ≡ true
    → base + struct_end (record_layout done) 0 all ≤ most_bytes → Walking done all all base 0 list list
walking_begins done all base list sized room = record { listed = refl; sized = sized; room = room; deep = le_refl (greatest_nesting (record_nesting done) all) }

pub walking_room : (done : List Completed) (all : List CType) (m : CType) (rest : List CType) (base end : ℕ) (before list : List Cell)
    → Walking done all (m ∷ rest) base end before list → (base + padded end (alignment_of done m)) + size_of done m ≤ most_bytes
walking_room done all m rest base end before list w =
    omega (arith, w.room, end_grows (record_layout done) (padded end (alignment_of done m) + size_of done m) rest)

pub walking_sized : (done : List Completed) (all : List CType) (m : CType) (rest : List CType) (base end : ℕ) (before list : List Cell)
    → Walking done all (m ∷ rest) base end before list → is_sized done m ≡ true
walking_sized done all m rest base end before list w = (and_parts _ _ w.sized).0

pub walking_deep : (done : List Completed) (all : List CType) (m : CType) (rest : List CType) (base end : ℕ) (before list : List Cell)
    → Walking done all (m ∷ rest) base end before list → nesting done m ≤ greatest_nesting (record_nesting done) all
walking_deep done all m rest base end before list w = omega (arith, w.deep)

pub walking_more : (done : List Completed) (all : List CType) (m : CType) (rest : List CType) (base end : ℕ) (before list : List Cell)
    → Walking done all (m ∷ rest) base end before list
    → Walking done all rest base (padded end (alignment_of done m) + size_of done m) before (list ++ shifted (base + padded end (alignment_of done m)) (cells_of done m))
walking_more done all m rest base end before list w = record {
  listed = append_assoc list (shifted (base + padded end (alignment_of done m)) (cells_of done m)) (shifted base (struct_cells (record_layout done) (padded end (alignment_of done m) + size_of done m) rest))
      ∙ ap (λ (x : List Cell). list ++ x)
      (ap (λ (x : List Cell). x ++ shifted base (struct_cells (record_layout done) (padded end (alignment_of done m) + size_of done m) rest)) (sym (shifted_shifted base (padded end (alignment_of done m)) (cells_of done m)))
      ∙ sym (shifted_append base (shifted (padded end (alignment_of done m)) (cells_of done m)) (struct_cells (record_layout done) (padded end (alignment_of done m) + size_of done m) rest)))
      ∙ w.listed;
  sized = (and_parts _ _ w.sized).1;
  room = w.room;
  deep = omega (arith, w.deep);
}

pub walking_ends : (done : List Completed) (all : List CType) (base end : ℕ) (before list : List Cell)
    → Walking done all [] base end before list → list ≡ before ++ shifted base (struct_cells (record_layout done) 0 all)
walking_ends done all base end before list w = sym (append-nil list) ∙ w.listed

-- ---- the first member of greatest size

pub record Choosing (done : List Completed) (size : ℕ) (all rest : List CType) (before list : List Cell) : Type 0 where
  pub same : list ≡ before
  pub chosen : cells_of_size (record_layout done) size rest ≡ cells_of_size (record_layout done) size all
  pub sized : are_sized done rest ≡ true
  pub deep : greatest_nesting (record_nesting done) rest ≤ greatest_nesting (record_nesting done) all

pub choosing_begins : (done : List Completed) (size : ℕ) (all : List CType) (list : List Cell) → are_sized done all ≡ true → Choosing done size all all list list
choosing_begins done size all list sized = record { same = refl; chosen = refl; sized = sized; deep = le_refl (greatest_nesting (record_nesting done) all) }

pub choosing_sized : (done : List Completed) (size : ℕ) (all : List CType) (m : CType) (rest : List CType) (before list : List Cell) → Choosing done size all (m ∷ rest) before list → is_sized done m ≡ true
choosing_sized done size all m rest before list c = (and_parts _ _ c.sized).0

pub choosing_deep : (done : List Completed) (size : ℕ) (all : List CType) (m : CType) (rest : List CType) (before list : List Cell) → Choosing done size all (m ∷ rest) before list
    → nesting done m ≤ greatest_nesting (record_nesting done) all
choosing_deep done size all m rest before list c = omega (arith, c.deep)

pub choosing_found : (done : List Completed) (size : ℕ) (all : List CType) (m : CType) (rest : List CType) (before list : List Cell) → Choosing done size all (m ∷ rest) before list
    → (size_of done m == size) ≡ true → cells_of done m ≡ cells_of_size (record_layout done) size all
choosing_found done size all m rest before list c is = sym (ap (λ (b : Bool). if b then cells_of done m else cells_of_size (record_layout done) size rest) is) ∙ c.chosen

pub choosing_more : (done : List Completed) (size : ℕ) (all : List CType) (m : CType) (rest : List CType) (before list : List Cell) → Choosing done size all (m ∷ rest) before list
    → (size_of done m == size) ≡ false → Choosing done size all rest before list
choosing_more done size all m rest before list c is = record {
  same = c.same;
  chosen = sym (ap (λ (b : Bool). if b then cells_of done m else cells_of_size (record_layout done) size rest) is) ∙ c.chosen;
  sized = (and_parts _ _ c.sized).1;
  deep = omega (arith, c.deep);
}

pub choosing_ends : (done : List Completed) (size base : ℕ) (all : List CType) (before list : List Cell) → Choosing done size all [] before list
    → list ≡ before ++ shifted base (cells_of_size (record_layout done) size all)
choosing_ends done size base all before list c = c.same ∙ sym (append-nil before) ∙ ap (λ (cs : List Cell). before ++ shifted base cs) c.chosen

-- ---- what the walk asks at a record, and what it lists

stood_at : (done : List Completed) (n : ℕ) (kind k : RecordKind) (ms : List CType) → IsBuilt done → k ≡ kind → IsRecord done n k ms → Stood done n kind ms
stood_at done n kind k ms built is there = stood done n kind ms built (subst (λ (x : RecordKind). IsRecord done n x ms) is there)

nesting_at : (done : List Completed) (x : Ty) (n t : ℕ) → x ≡ codes.Record n → 3 * nesting done (view x) ≡ t → 3 * suc (record_nesting done n) ≡ t
nesting_at done x n t is deep = subst (λ (y : Ty). 3 * nesting done (view y) ≡ t) is deep

size_at : (done : List Completed) (x : Ty) (n base : ℕ) → x ≡ codes.Record n → base + size_of done (view x) ≤ most_bytes → base + (record_layout done n).size ≤ most_bytes
size_at done x n base is room = subst (λ (y : Ty). base + size_of done (view y) ≤ most_bytes) is room

falls_at : (g d t : ℕ) → d ≡ g → 3 * suc d ≡ t → 3 * g + 1 < t
falls_at g d t e f = omega (arith, e, f)

pub struct_asked : (done : List Completed) (x : Ty) (n base t : ℕ) (k : RecordKind) (ms : List CType) → IsBuilt done → x ≡ codes.Record n → 3 * nesting done (view x) ≡ t
    → k ≡ Struct → IsRecord done n k ms → base + size_of done (view x) ≤ most_bytes
    → (3 * greatest_nesting (record_nesting done) ms + 1 < t) × ((are_sized done ms ≡ true) × (base + struct_end (record_layout done) 0 ms ≤ most_bytes))
struct_asked done x n base t k ms built is deep kind there room = let s = stood_at done n Struct k ms built kind there in (
  falls_at (greatest_nesting (record_nesting done) ms) (record_nesting done n) t s.deep (nesting_at done x n t is deep),
  (
    s.sized,
    within (struct_end (record_layout done) 0 ms) (record_layout done n).size
        (subst (λ (l : Layout). struct_end (record_layout done) 0 ms ≤ l.size) (sym s.layout) (padded_grows (struct_end (record_layout done) 0 ms) (greatest_alignment (record_layout done) ms)))
        (size_at done x n base is room),
  ),
) where
  within : (a b : ℕ) → a ≤ b → base + b ≤ most_bytes → base + a ≤ most_bytes
  within a b le most = omega arith

pub union_asked : (done : List Completed) (x : Ty) (n base t : ℕ) (k : RecordKind) (ms : List CType) → IsBuilt done → x ≡ codes.Record n → 3 * nesting done (view x) ≡ t
    → k ≡ Union → IsRecord done n k ms → base + size_of done (view x) ≤ most_bytes
    → (3 * greatest_nesting (record_nesting done) ms + 1 < t) × ((are_sized done ms ≡ true) × (base + greatest_size (record_layout done) ms ≤ most_bytes))
union_asked done x n base t k ms built is deep kind there room = let s = stood_at done n Union k ms built kind there in (
  falls_at (greatest_nesting (record_nesting done) ms) (record_nesting done n) t s.deep (nesting_at done x n t is deep),
  (
    s.sized,
    within (greatest_size (record_layout done) ms) (record_layout done n).size
        (subst (λ (l : Layout). greatest_size (record_layout done) ms ≤ l.size) (sym s.layout) (padded_grows (greatest_size (record_layout done) ms) (greatest_alignment (record_layout done) ms)))
        (size_at done x n base is room),
  ),
) where
  within : (a b : ℕ) → a ≤ b → base + b ≤ most_bytes → base + a ≤ most_bytes
  within a b le most = omega arith

pub struct_listed : (done : List Completed) (x : Ty) (n : ℕ) (k : RecordKind) (ms : List CType) → IsBuilt done → x ≡ codes.Record n → k ≡ Struct → IsRecord done n k ms
    → struct_cells (record_layout done) 0 ms ≡ cells_of done (view x)
struct_listed done x n k ms built is kind there = sym (ap (λ (l : Layout). l.cells) (stood_at done n Struct k ms built kind there).layout)
    ∙ sym (ap (λ (y : Ty). cells_of done (view y)) is)

pub union_listed : (done : List Completed) (x : Ty) (n : ℕ) (k : RecordKind) (ms : List CType) → IsBuilt done → x ≡ codes.Record n → k ≡ Union → IsRecord done n k ms
    → cells_of_size (record_layout done) (greatest_size (record_layout done) ms) ms ≡ cells_of done (view x)
union_listed done x n k ms built is kind there = sym (ap (λ (l : Layout). l.cells) (stood_at done n Union k ms built kind there).layout)
    ∙ sym (ap (λ (y : Ty). cells_of done (view y)) is)

pub none_listed : (done : List Completed) (x : Ty) (n base : ℕ) (list : List Cell) → x ≡ codes.Record n → completed_at done n ≡ None → list ≡ list ++ shifted base (cells_of done (view x))
none_listed done x n base list is none = sym (append-nil list)
    ∙ ap (λ (l : Layout). list ++ shifted base l.cells) (sym (none_layout done n none))
    ∙ ap (λ (y : Ty). list ++ shifted base (cells_of done (view y))) (sym is)

-- ---- repeated cells

pub no_items : {X : Type 0} (xs : List X) → length xs ≡ 0 → xs ≡ []
no_items [] is = refl
no_items (x ∷ xs) is = let none : ⊥ = omega (arith, is) in absurd none

pub nothing_repeated : (list : List Cell) (base k size : ℕ) (cs : List Cell) → true ≡ (length cs == 0) → list ≡ list ++ shifted base (repeated k size cs)
nothing_repeated list base k size cs is = sym (append-nil list)
    ∙ ap (λ (x : List Cell). list ++ shifted base x) (sym (repeated_none k size))
    ∙ ap (λ (x : List Cell). list ++ shifted base (repeated k size x)) (sym (no_items cs (eqb-true _ _ (sym is))))

-- one more element fits
pub room_for : (base k count size at : ℕ) → at ≡ base + k * size → k < count → base + count * size ≤ most_bytes → at + size ≤ most_bytes
room_for base k count size at is lt room = let le : suc k * size ≤ count * size = mul-le-mul_right size lt in
    within (k * size) (count * size) (subst (λ (x : ℕ). x ≤ count * size) (suc-mul k size) le) is room where
      within : (a b : ℕ) → a + size ≤ b → at ≡ base + a → base + b ≤ most_bytes → at + size ≤ most_bytes
      within a b le is room = omega arith

pub at_next : (base k size at : ℕ) → at ≡ base + k * size → at + size ≡ base + (k + 1) * size
at_next base k size at is = ap (λ (x : ℕ). x + size) is ∙ add_assoc base (k * size) size ∙ ap (λ (x : ℕ). base + x) (sym (suc-mul k size)) ∙ ap (λ (x : ℕ). base + x * size) (sym (add-one k))

pub list_next : (before list new : List Cell) (base k size at : ℕ) (cs : List Cell) → list ≡ before ++ shifted base (repeated k size cs) → at ≡ base + k * size
    → new ≡ list ++ shifted at cs → new ≡ before ++ shifted base (repeated (k + 1) size cs)
list_next before list new base k size at cs so_far is pushed = pushed ∙ ap₂ (λ (l : List Cell) (a : ℕ). l ++ shifted a cs) so_far is ∙ repeated_more before base k size cs
    ∙ ap (λ (x : ℕ). before ++ shifted base (repeated x size cs)) (sym (add-one k))

-- ---- steps, by what the code has computed

pub walking_step : (done : List Completed) (all : List CType) (m : CType) (rest : List CType) (base end start next : ℕ) (before list new : List Cell)
    → Walking done all (m ∷ rest) base end before list → start ≡ padded end (alignment_of done m) → next ≡ start + size_of done m
    → new ≡ list ++ shifted (base + start) (cells_of done m) → Walking done all rest base next before new
walking_step done all m rest base end start next before list new w e f g =
    subst₂ (λ (x : ℕ) (l : List Cell). Walking done all rest base x before l) (sym (f ∙ ap (λ (x : ℕ). x + size_of done m) e))
    (sym (g ∙ ap (λ (x : ℕ). list ++ shifted (base + x) (cells_of done m)) e)) (walking_more done all m rest base end before list w)

pub walking_asked : (done : List Completed) (all : List CType) (m : CType) (rest : List CType) (base end start t : ℕ) (before list : List Cell)
    → Walking done all (m ∷ rest) base end before list → start ≡ padded end (alignment_of done m) → 3 * greatest_nesting (record_nesting done) all + 1 ≡ t
    → (3 * nesting done m < t) × ((is_sized done m ≡ true) × (base + start + size_of done m ≤ most_bytes))
walking_asked done all m rest base end start t before list w e deep = (
  falls (nesting done m) (greatest_nesting (record_nesting done) all) (walking_deep done all m rest base end before list w) deep,
  (
    walking_sized done all m rest base end before list w,
    subst (λ (x : ℕ). base + x + size_of done m ≤ most_bytes) (sym e) (walking_room done all m rest base end before list w),
  ),
) where
  falls : (a b : ℕ) → a ≤ b → 3 * b + 1 ≡ t → 3 * a < t
  falls a b le is = omega arith

pub choosing_asked : (done : List Completed) (size base t : ℕ) (all : List CType) (m : CType) (rest : List CType) (before list : List Cell)
    → Choosing done size all (m ∷ rest) before list → size_of done m ≡ size → base + size ≤ most_bytes → 3 * greatest_nesting (record_nesting done) all + 1 ≡ t
    → (3 * nesting done m < t) × ((is_sized done m ≡ true) × (base + size_of done m ≤ most_bytes))
choosing_asked done size base t all m rest before list c is room deep = (
  falls (nesting done m) (greatest_nesting (record_nesting done) all) (choosing_deep done size all m rest before list c) deep,
  (
    choosing_sized done size all m rest before list c,
    subst (λ (x : ℕ). base + x ≤ most_bytes) (sym is) room,
  ),
) where
  falls : (a b : ℕ) → a ≤ b → 3 * b + 1 ≡ t → 3 * a < t
  falls a b le is = omega arith

pub block_fits : (base k count size at : ℕ) (cs : List Cell) → at ≡ base + k * size → k < count → base + count * size ≤ most_bytes → Within size cs → Within (most_bytes - at) cs
block_fits base k count size at cs is lt room w = within_more size (most_bytes - at) cs (less (room_for base k count size at is lt room)) w where
  less : at + size ≤ most_bytes → size ≤ most_bytes - at
  less le = omega arith
