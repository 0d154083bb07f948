-- Loops over the members of a struct or union.
use Rattle.std.proofs.Common.{◌≡◌, ◌≤◌, ◌<◌, ◌+◌, ◌-◌, ◌*◌, ◌/◌, ◌%◌, zero, suc, ◌++◌, ◌∷◌, [], true, false, ℕ, length, drop, Bool, List, max, slice_index_or, ◌==◌, ◌&&◌, if◌then◌else◌, refl, ap, ap₂, sym, ◌∙◌, subst, le-leb, arith, le_refl, lt_of_lt_of_le, append_assoc, append-nil, replicate, mod-lt, suc-mul, eqb-true}
use Rattle.std.proofs.lemmas.Bool.{and_left, and_right, and_from, cases_Bool, lt-leb, eqb-false}
use Rattle.std.proofs.lemmas.Nat.{div-add-mod'}
use Rattle.std.proofs.lemmas.List.{drop_more, drop_all}
use mathlib.Core.Logic.{inl, inr, ◌⊎◌}
use Rattle.c_types.specs.declared.types.Ty.{Ty}
use Rattle.c_types.specs.declared.types.RecordKind.TheVariants.{Struct, Union}
use Rattle.c_types.specs.declared.extents.Filled.{Filled}
use Rattle.c_types.specs.declared.fault.LayoutError.{LayoutError}
use Rattle.c_types.specs.declared.fault.LayoutError.TheVariants.{Incomplete, NoElements, TooLarge, Memory}
use Rattle.c_types.specs.Types.{CType, view, views, Completed}
use Rattle.c_types.specs.Layouts.{Layout, record_layout, layout_of, size_of, alignment_of, size_with, alignment_with, padded, struct_end, struct_offsets, zeros, greatest_size, greatest_alignment, is_complete, are_complete, is_sized, are_sized, fits, most_bytes, IsLeastMultiple}
use Rattle.c_types.specs.Fields.{Adds, RefusesMember, RefusesSize}

pub rest_more : (xs : List Ty) (i : ℕ) (x : Ty) → i < length xs → x ≡ slice_index_or xs i x → views (drop i xs) ≡ view x ∷ views (drop (i + 1) xs)
rest_more xs i x lt is = ap views (drop_more xs i x lt ∙ ap (λ (y : Ty). y ∷ drop (i + 1) xs) (sym is))

pub rest_none : (xs : List Ty) (i : ℕ) → length xs ≤ i → views (drop i xs) ≡ []
rest_none xs i le = ap views (drop_all i xs le)

-- ---- whether all are complete

pub one_incomplete : (done : List Completed) (m : CType) (rest : List CType) (b : Bool) → is_complete done m ≡ false → are_complete done (m ∷ rest) ≡ b → false ≡ b
one_incomplete done m rest b is all = sym (and_left _ _ is) ∙ all

pub one_complete : (done : List Completed) (m : CType) (rest : List CType) (b : Bool) → is_complete done m ≡ true → are_complete done (m ∷ rest) ≡ b → are_complete done rest ≡ b
one_complete done m rest b is all = sym (ap (λ (x : Bool). x && are_complete done rest) is) ∙ all

-- ---- no offsets

pub zeros_are : (xs : List Ty) → replicate (length xs) 0 ≡ zeros (views xs)
zeros_are [] = refl
zeros_are (x ∷ xs) = ap (λ (zs : List ℕ). 0 ∷ zs) (zeros_are xs)

-- ---- a struct

pub padded_grows : (o a : ℕ) → o ≤ padded o a
padded_grows o a = by (o % a == 0) where
  by : (b : Bool) → o ≤ (if b then o else o + (a - o % a))
  by true = le_refl o
  by false = omega arith

pub end_grows : (r : ℕ → Layout) (from : ℕ) (ms : List CType) → from ≤ struct_end r from ms
end_grows r from [] = le_refl from
end_grows r from (m ∷ ms) = let one = padded_grows from (alignment_with r m) in let rest = end_grows r (padded from (alignment_with r m) + size_with r m) ms in omega (arith, one, rest)

-- the members so far, and those still to come
pub record Going (done : List Completed) (all rest : List CType) (end alignment : ℕ) (offsets : List ℕ) : Type 0 where
  pub sized : are_sized done rest ≡ are_sized done all
  pub ends : struct_end (record_layout done) end rest ≡ struct_end (record_layout done) 0 all
  pub aligned : max alignment (greatest_alignment (record_layout done) rest) ≡ greatest_alignment (record_layout done) all
  pub positive : 1 ≤ alignment
  pub small : end ≤ most_bytes
  pub placed : offsets ++ struct_offsets (record_layout done) end rest ≡ struct_offsets (record_layout done) 0 all

one_at_least : (r : ℕ → Layout) (ms : List CType) → 1 ≤ greatest_alignment r ms
one_at_least r [] = omega arith
one_at_least r (m ∷ ms) = let rest = one_at_least r ms in omega (arith, rest)

greatest_at_least : (r : ℕ → Layout) (ms : List CType) → max 1 (greatest_alignment r ms) ≡ greatest_alignment r ms
greatest_at_least r ms = omega (arith, one_at_least r ms)

pub going_begins : (done : List Completed) (all : List CType) (offsets : List ℕ) → offsets ≡ [] → Going done all all 0 1 offsets
going_begins done all offsets none = record {
  sized = refl;
  ends = refl;
  aligned = greatest_at_least (record_layout done) all;
  positive = omega arith;
  small = omega arith;
  placed = ap (λ (o : List ℕ). o ++ struct_offsets (record_layout done) 0 all) none;
}

pub going_more : (done : List Completed) (all : List CType) (m : CType) (rest : List CType) (old new : Filled)
    → Going done all (m ∷ rest) old.end old.alignment old.offsets.items → Adds done m old new → Going done all rest new.end new.alignment new.offsets.items
going_more done all m rest old new g a = record {
  sized = sym (ap (λ (b : Bool). b && are_sized done rest) a.sized) ∙ g.sized;
  ends = ap (λ (e : ℕ). struct_end (record_layout done) e rest) a.end ∙ g.ends;
  aligned = ap (λ (x : ℕ). max x (greatest_alignment (record_layout done) rest)) a.alignment
      ∙ three old.alignment (alignment_of done m) (greatest_alignment (record_layout done) rest) ∙ g.aligned;
  positive = rw a.alignment (more old.alignment (alignment_of done m) g.positive);
  small = a.small;
  placed = ap₂ (λ (o : List ℕ) (e : ℕ). o ++ struct_offsets (record_layout done) e rest) a.offsets a.end
      ∙ append_assoc old.offsets.items (padded old.end (alignment_of done m) ∷ []) (struct_offsets (record_layout done) (padded old.end (alignment_of done m) + size_of done m) rest)
      ∙ g.placed;
} where
  three : (x y z : ℕ) → max (max x y) z ≡ max x (max y z)
  three x y z = omega arith

  more : (x y : ℕ) → 1 ≤ x → 1 ≤ max x y
  more x y le = omega arith

pub going_stops : (done : List Completed) (all : List CType) (m : CType) (rest : List CType) (old : Filled)
    → Going done all (m ∷ rest) old.end old.alignment old.offsets.items
    → (is_sized done m ≡ true → most_bytes < padded old.end (alignment_of done m) + size_of done m) → fits done Struct all ≡ false
going_stops done all m rest old g much = by (cases_Bool (is_sized done m)) where
  by : (is_sized done m ≡ true) ⊎ (is_sized done m ≡ false) → fits done Struct all ≡ false
  by (inl is) = and_right _ _ (lt-leb _ _ (lt_of_lt_of_le (lt_of_lt_of_le (much is)
      (subst (λ (e : ℕ). padded old.end (alignment_of done m) + size_of done m ≤ e) g.ends (end_grows (record_layout done) (padded old.end (alignment_of done m) + size_of done m) rest)))
      (padded_grows (struct_end (record_layout done) 0 all) (greatest_alignment (record_layout done) all))))
  by (inr is) = and_left _ _ (sym g.sized ∙ and_left _ _ is)

pub struct_refused : (done : List Completed) (all : List CType) (m : CType) (rest : List CType) (old : Filled) (e : LayoutError)
    → Going done all (m ∷ rest) old.end old.alignment old.offsets.items → RefusesMember done m old e → RefusesSize done Struct all e
struct_refused done all m rest old Incomplete g none = none
struct_refused done all m rest old NoElements g none = none
struct_refused done all m rest old TooLarge g much = going_stops done all m rest old g much
struct_refused done all m rest old Memory g much = tt

pub last_aligned : (done : List Completed) (all : List CType) (end alignment : ℕ) (offsets : List ℕ) → Going done all [] end alignment offsets
    → alignment ≡ greatest_alignment (record_layout done) all
last_aligned done all end alignment offsets g = omega (arith, g.aligned, g.positive)

pub last_padded : (done : List Completed) (all : List CType) (end alignment : ℕ) (offsets : List ℕ) → Going done all [] end alignment offsets
    → padded end alignment ≡ (layout_of (record_layout done) Struct all).size
last_padded done all end alignment offsets g = ap₂ padded g.ends (last_aligned done all end alignment offsets g)

pub last_offsets : (done : List Completed) (all : List CType) (end alignment : ℕ) (offsets : List ℕ) → Going done all [] end alignment offsets
    → offsets ≡ struct_offsets (record_layout done) 0 all
last_offsets done all end alignment offsets g = sym (append-nil offsets) ∙ g.placed

pub last_fits : (done : List Completed) (all : List CType) (end alignment : ℕ) (offsets : List ℕ) → Going done all [] end alignment offsets
    → padded end alignment ≤ most_bytes → fits done Struct all ≡ true
last_fits done all end alignment offsets g le = and_from _ _ (sym g.sized) (le-leb _ _ (subst (λ (n : ℕ). n ≤ most_bytes) (last_padded done all end alignment offsets g) le))

pub last_too_large : (done : List Completed) (all : List CType) (end alignment : ℕ) (offsets : List ℕ) → Going done all [] end alignment offsets
    → most_bytes < padded end alignment → fits done Struct all ≡ false
last_too_large done all end alignment offsets g lt = and_right _ _ (lt-leb _ _ (subst (λ (n : ℕ). most_bytes < n) (last_padded done all end alignment offsets g) lt))

-- ---- a union

pub record Above (done : List Completed) (all rest : List CType) (size own : ℕ) : Type 0 where
  pub sized : are_sized done rest ≡ are_sized done all
  pub largest : max size (greatest_size (record_layout done) rest) ≡ greatest_size (record_layout done) all
  pub aligned : max own (greatest_alignment (record_layout done) rest) ≡ greatest_alignment (record_layout done) all
  pub positive : 1 ≤ own

pub above_begins : (done : List Completed) (all : List CType) → Above done all all 0 1
above_begins done all = record { sized = refl; largest = none (greatest_size (record_layout done) all); aligned = greatest_at_least (record_layout done) all; positive = omega arith } where
  none : (x : ℕ) → max 0 x ≡ x
  none x = omega arith

pub above_more : (done : List Completed) (all : List CType) (m : CType) (rest : List CType) (size own : ℕ)
    → Above done all (m ∷ rest) size own → is_sized done m ≡ true → Above done all rest (max size (size_of done m)) (max own (alignment_of done m))
above_more done all m rest size own a is = record {
  sized = sym (ap (λ (b : Bool). b && are_sized done rest) is) ∙ a.sized;
  largest = three size (size_of done m) (greatest_size (record_layout done) rest) ∙ a.largest;
  aligned = three own (alignment_of done m) (greatest_alignment (record_layout done) rest) ∙ a.aligned;
  positive = more own (alignment_of done m) a.positive;
} where
  three : (x y z : ℕ) → max (max x y) z ≡ max x (max y z)
  three x y z = omega arith

  more : (x y : ℕ) → 1 ≤ x → 1 ≤ max x y
  more x y le = omega arith

pub above_stops : (done : List Completed) (all : List CType) (m : CType) (rest : List CType) (size own : ℕ)
    → Above done all (m ∷ rest) size own → is_sized done m ≡ false → are_sized done all ≡ false
above_stops done all m rest size own a is = sym a.sized ∙ and_left _ _ is

pub above_size : (done : List Completed) (all : List CType) (size own : ℕ) → Above done all [] size own → size ≡ greatest_size (record_layout done) all
above_size done all size own a = omega (arith, a.largest)

pub above_aligned : (done : List Completed) (all : List CType) (size own : ℕ) → Above done all [] size own → own ≡ greatest_alignment (record_layout done) all
above_aligned done all size own a = omega (arith, a.aligned, a.positive)

pub union_fits : (done : List Completed) (all : List CType) (size own : ℕ) → are_sized done all ≡ true → size ≡ greatest_size (record_layout done) all
    → own ≡ greatest_alignment (record_layout done) all → padded size own ≤ most_bytes → fits done Union all ≡ true
union_fits done all size own sized is aligned le = and_from _ _ sized (le-leb _ _ (subst (λ (n : ℕ). n ≤ most_bytes) (ap₂ padded is aligned) le))

pub union_too_large : (done : List Completed) (all : List CType) (size own : ℕ) → size ≡ greatest_size (record_layout done) all
    → own ≡ greatest_alignment (record_layout done) all → most_bytes < padded size own → fits done Union all ≡ false
union_too_large done all size own is aligned lt = and_right _ _ (lt-leb _ _ (subst (λ (n : ℕ). most_bytes < n) (ap₂ padded is aligned) lt))

pub union_unsized : (done : List Completed) (all : List CType) → are_sized done all ≡ false → fits done Union all ≡ false
union_unsized done all is = and_left _ _ is

-- ---- padding

exact : (o a x r : ℕ) → x + r ≡ o → r ≡ 0 → o ≡ x
exact o a x r e f = omega (arith, e, f)

above : (o a x r : ℕ) → x + r ≡ o → r < a → o + (a - r) ≡ x + a
above o a x r e f = omega (arith, e, f)

under : (o a r : ℕ) → r < a → (r ≡ 0 → ⊥) → o + (a - r) < o + a
under o a zero f none = absurd (none refl)
under o a (suc r) f none = omega (arith, f)

pub least_multiple : (o a : ℕ) → 1 ≤ a → IsLeastMultiple o a (padded o a)
least_multiple o a le = by (o % a == 0) refl where
  by : (b : Bool) → (o % a == 0) ≡ b → IsLeastMultiple o a (if b then o else o + (a - o % a))
  by true is = (o / a, exact o a (o / a * a) (o % a) (div-add-mod' o a) (eqb-true (o % a) 0 is), le_refl o, omega (arith, le))
  by false is = (
    suc (o / a),
    above o a (o / a * a) (o % a) (div-add-mod' o a) (mod-lt o le) ∙ sym (suc-mul (o / a) a),
    omega arith,
    under o a (o % a) (mod-lt o le) (eqb-false (o % a) 0 is),
  )
