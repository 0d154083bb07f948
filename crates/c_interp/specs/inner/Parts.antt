-- What is true of the parts of a typed tree, and of fewer bytes at a place.
use Rattle.std.proofs.Common.{◌≡◌, ◌≤◌, ℕ, ◌+◌, ◌-◌, ◌^◌, Bool, true, false, ◌&&◌, ◌==◌, nat_lt, nat_le, List, length, slice_index, ℤ, refl, ap, ◌∙◌, arith}
use Rattle.std.proofs.lemmas.Bool.{false≢true}
use Rattle.c_types.specs.declared.integers.IntegerType.TheVariants.{Int, UnsignedLong}
use Rattle.c_types.specs.declared.types.ValueType.TheVariants.{Integer}
use Rattle.c_types.specs.Integers.{same_type}
use Rattle.core_tree.specs.declared.operators.Comparison.{Comparison}
use Rattle.core_tree.specs.Trees.{Place, variable_at, object_at, literal_at, pointed, arrow, member, element, subscript, Expression, address, sum, distance, relation, pointer_update, pointer_step, allocate, allocate_zeroed, release, exit}
use Rattle.core_tree.specs.Typed.{Sizes, type_of, is_integer, is_pointer, is_order, is_within, is_size, object_size, has_address, is_place, is_typed}
use Rattle.c_values.specs.Numbers.{same_width}
use Rattle.c_meaning.specs.Meaning.{number_type}
use Rattle.c_meaning.proofs.TypeWidths.{type_widths}
use Rattle.c_meaning.proofs.Holding.{left_of, right_of, both, to_le, from_le}

-- ---- conjunctions

pub of_two : (a b : Bool) → (a && b) ≡ true → (a ≡ true) × (b ≡ true)
of_two a b h = (left_of a b h, right_of a b h)

pub of_three : (a b c : Bool) → (a && b && c) ≡ true → (a ≡ true) × (b ≡ true) × (c ≡ true)
of_three a b c h = let k = left_of (a && b) c h in (left_of a b k, right_of a b k, right_of (a && b) c h)

pub of_four : (a b c d : Bool) → (a && b && c && d) ≡ true → (a ≡ true) × (b ≡ true) × (c ≡ true) × (d ≡ true)
of_four a b c d h = let k = of_three a b c (left_of (a && b && c) d h) in (k.0, k.1, k.2, right_of (a && b && c) d h)

pub of_five : (a b c d e : Bool) → (a && b && c && d && e) ≡ true → (a ≡ true) × (b ≡ true) × (c ≡ true) × (d ≡ true) × (e ≡ true)
of_five a b c d e h = let k = of_four a b c d (left_of (a && b && c && d) e h) in (k.0, k.1, k.2, k.3, right_of (a && b && c && d) e h)

pub of_six : (a b c d e f : Bool) → (a && b && c && d && e && f) ≡ true → (a ≡ true) × (b ≡ true) × (c ≡ true) × (d ≡ true) × (e ≡ true) × (f ≡ true)
of_six a b c d e f h = let k = of_five a b c d e (left_of (a && b && c && d && e) f h) in (k.0, k.1, k.2, k.3, k.4, right_of (a && b && c && d && e) f h)

pub of_seven : (a b c d e f g : Bool) → (a && b && c && d && e && f && g) ≡ true → (a ≡ true) × (b ≡ true) × (c ≡ true) × (d ≡ true) × (e ≡ true) × (f ≡ true) × (g ≡ true)
of_seven a b c d e f g h = let k = of_six a b c d e f (left_of (a && b && c && d && e && f) g h) in (k.0, k.1, k.2, k.3, k.4, k.5, right_of (a && b && c && d && e && f) g h)

pub all_three : (a b c : Bool) → a ≡ true → b ≡ true → c ≡ true → (a && b && c) ≡ true
all_three a b c h k l = both (a && b) c (both a b h k) l

pub all_four : (a b c d : Bool) → a ≡ true → b ≡ true → c ≡ true → d ≡ true → (a && b && c && d) ≡ true
all_four a b c d h k l m = both (a && b && c) d (all_three a b c h k l) m

pub all_five : (a b c d e : Bool) → a ≡ true → b ≡ true → c ≡ true → d ≡ true → e ≡ true → (a && b && c && d && e) ≡ true
all_five a b c d e h k l m n = both (a && b && c && d) e (all_four a b c d h k l m) n

pub all_seven : (a b c d e f g : Bool) → a ≡ true → b ≡ true → c ≡ true → d ≡ true → e ≡ true → f ≡ true → g ≡ true → (a && b && c && d && e && f && g) ≡ true
all_seven a b c d e f g h k l m n o p = both (a && b && c && d && e && f) g (both (a && b && c && d && e) f (all_five a b c d e h k l m n) o) p

-- ---- places

less_within : (sizes : List ℕ) (v offset m n : ℕ) → m ≤ n → is_within sizes v offset n ≡ true → is_within sizes v offset m ≡ true
less_within sizes v offset m n le h =
    let k : offset + n ≤ slice_index sizes v = from_le (offset + n) (slice_index sizes v) (right_of (nat_lt v (length sizes)) (nat_le (offset + n) (slice_index sizes v)) h) in
    both (nat_lt v (length sizes)) (nat_le (offset + m) (slice_index sizes v)) (left_of (nat_lt v (length sizes)) (nat_le (offset + n) (slice_index sizes v)) h) (to_le (offset + m) (slice_index sizes v) (omega (arith, le, k)))

module _ (z : Sizes) where
  pub place_less : (m n : ℕ) (p : Place) → m ≤ n → is_place z n p ≡ true → is_place z m p ≡ true
  place_less m n (variable_at line v offset) le h = less_within z.variables v offset m n le h
  place_less m n (object_at line k offset) le h =
      both (nat_le 1 k) (is_within z.objects (k - 1) offset m) (left_of (nat_le 1 k) (is_within z.objects (k - 1) offset n) h) (less_within z.objects (k - 1) offset m n le (right_of (nat_le 1 k) (is_within z.objects (k - 1) offset n) h))
  place_less m n (literal_at line k) le h = h
  place_less m n (pointed line e) le h = h
  place_less m n (arrow line e offset) le h = h
  place_less m n (member line p offset) le h =
      both z.pointers (is_place z (offset + m) p) (left_of z.pointers (is_place z (offset + n) p) h) (place_less (offset + m) (offset + n) p (omega (arith, le)) (right_of z.pointers (is_place z (offset + n) p) h))
  place_less m n (element line p e size whole swapped) le h =
      let k = of_seven z.pointers (nat_le n size) (nat_lt 0 size) (is_size (object_size z p) whole) (is_integer (type_of e)) (is_place z 0 p) (is_typed z e) h in
      let l : n ≤ size = from_le n size k.1 in
      all_seven z.pointers (nat_le m size) (nat_lt 0 size) (is_size (object_size z p) whole) (is_integer (type_of e)) (is_place z 0 p) (is_typed z e) k.0 (to_le m size (omega (arith, le, l))) k.2 k.3 k.4 k.5 k.6
  place_less m n (subscript line a e size swapped) le h = h

  pub place_start : (n : ℕ) (p : Place) → is_place z n p ≡ true → is_place z 0 p ≡ true
  place_start n p h = place_less 0 n p (omega arith) h

  -- a pointer is a number of type unsigned long
  pub pointer_width : (e : Expression) → is_pointer (type_of e) ≡ true → same_width (number_type e) UnsignedLong ≡ true
  pointer_width e h = type_widths (type_of e) (Integer UnsignedLong) h

  pub pointed_part : (n line : ℕ) (e : Expression) → is_place z n (pointed line e) ≡ true → (is_pointer (type_of e) ≡ true) × (is_typed z e ≡ true)
  pointed_part n line e h = let k = of_three z.pointers (is_pointer (type_of e)) (is_typed z e) h in (k.1, k.2)

  pub arrow_part : (n line : ℕ) (e : Expression) (offset : ℕ) → is_place z n (arrow line e offset) ≡ true → is_typed z e ≡ true
  arrow_part n line e offset h = right_of (z.pointers && is_pointer (type_of e)) (is_typed z e) h

  pub member_part : (n line : ℕ) (p : Place) (offset : ℕ) → is_place z n (member line p offset) ≡ true → is_place z 0 p ≡ true
  member_part n line p offset h = place_start (offset + n) p (right_of z.pointers (is_place z (offset + n) p) h)

  pub element_parts : (n line : ℕ) (p : Place) (e : Expression) (size whole : ℕ) (swapped : Bool) → is_place z n (element line p e size whole swapped) ≡ true → (is_place z 0 p ≡ true) × (is_typed z e ≡ true)
  element_parts n line p e size whole swapped h =
      let k = of_seven z.pointers (nat_le n size) (nat_lt 0 size) (is_size (object_size z p) whole) (is_integer (type_of e)) (is_place z 0 p) (is_typed z e) h in (k.5, k.6)

  pub subscript_parts : (n line : ℕ) (a e : Expression) (size : ℕ) (swapped : Bool) → is_place z n (subscript line a e size swapped) ≡ true → (is_typed z a ≡ true) × (is_typed z e ≡ true)
  subscript_parts n line a e size swapped h = let k = of_six z.pointers (nat_lt 0 size) (is_pointer (type_of a)) (is_integer (type_of e)) (is_typed z a) (is_typed z e) h in (k.4, k.5)

  -- ---- expressions over pointers

  pub address_part : (line : ℕ) (p : Place) → is_typed z (address line p) ≡ true → is_place z 0 p ≡ true
  address_part line p h = right_of (z.pointers && has_address z p) (is_place z 0 p) h

  pub sum_parts : (line : ℕ) (a e : Expression) (n : ℤ) (swapped : Bool) → is_typed z (sum line a e n swapped) ≡ true → (is_typed z a ≡ true) × (is_typed z e ≡ true)
  sum_parts line a e n swapped h = let k = of_five z.pointers (is_pointer (type_of a)) (is_integer (type_of e)) (is_typed z a) (is_typed z e) h in (k.3, k.4)

  pub distance_parts : (line : ℕ) (a b : Expression) (n : ℕ) → is_typed z (distance line a b n) ≡ true → (nat_lt 0 n ≡ true) × (is_typed z a ≡ true) × (is_typed z b ≡ true)
  distance_parts line a b n h = let k = of_six z.pointers (nat_lt 0 n) (is_pointer (type_of a)) (is_pointer (type_of b)) (is_typed z a) (is_typed z b) h in (k.1, k.4, k.5)

  pub relation_parts : (line : ℕ) (op : Comparison) (a b : Expression) → is_typed z (relation line op a b) ≡ true → (is_typed z a ≡ true) × (is_typed z b ≡ true)
  relation_parts line op a b h = let k = of_six z.pointers (is_order op) (is_pointer (type_of a)) (is_pointer (type_of b)) (is_typed z a) (is_typed z b) h in (k.4, k.5)

  pub update_parts : (line : ℕ) (p : Place) (n : ℤ) (e : Expression) → is_typed z (pointer_update line p n e) ≡ true → (is_place z 8 p ≡ true) × (is_typed z e ≡ true)
  update_parts line p n e h = let k = of_four z.pointers (is_integer (type_of e)) (is_place z 8 p) (is_typed z e) h in (k.2, k.3)

  pub step_part : (line : ℕ) (p : Place) (n : ℤ) (before : Bool) → is_typed z (pointer_step line p n before) ≡ true → is_place z 8 p ≡ true
  step_part line p n before h = right_of z.pointers (is_place z 8 p) h

  pub allocate_part : (line : ℕ) (e : Expression) → is_typed z (allocate line e) ≡ true → is_typed z e ≡ true
  allocate_part line e h = right_of (z.pointers && is_pointer (type_of e)) (is_typed z e) h

  pub zeroed_parts : (line : ℕ) (a b : Expression) → is_typed z (allocate_zeroed line a b) ≡ true → (is_typed z a ≡ true) × (is_typed z b ≡ true)
  zeroed_parts line a b h = let k = of_five z.pointers (is_pointer (type_of a)) (is_pointer (type_of b)) (is_typed z a) (is_typed z b) h in (k.3, k.4)

  pub release_part : (line : ℕ) (e : Expression) → is_typed z (release line e) ≡ true → is_typed z e ≡ true
  release_part line e h = right_of (z.pointers && is_pointer (type_of e)) (is_typed z e) h

  pub exit_part : (line : ℕ) (e : Expression) → is_typed z (exit line e) ≡ true → is_typed z e ≡ true
  exit_part line e h = right_of (z.pointers && same_type (type_of e) (Integer Int)) (is_typed z e) h
