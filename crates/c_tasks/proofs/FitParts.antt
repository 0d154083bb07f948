-- What the first item asks of the numbers and structure values on top.
use Rattle.std.proofs.Common.{◌≡◌, ℕ, ◌+◌, ◌*◌, ◌^◌, ◌<◌, ◌≤◌, Bool, true, ◌&&◌, ◌==◌, nat_lt, nat_le, List, [], ◌∷◌, length, slice_index, refl, sym, ap, subst, ◌∙◌}
use Rattle.std.specs.Prelude.{slice_get}
use Rattle.std.proofs.lemmas.Bool.Decides.{nat_tests}
use Rattle.std.proofs.Common.{arith}
use Rattle.c_types.specs.declared.integers.IntegerType.{IntegerType}
use Rattle.c_types.specs.declared.integers.IntegerType.TheVariants.{UnsignedLong}
use Rattle.c_types.specs.Integers.{width, bytes, promoted}
use Rattle.core_tree.specs.declared.operators.ArithmeticOperator.{ArithmeticOperator}
use Rattle.core_tree.specs.Trees.{Place, TypedFile, literal_at}
use Rattle.core_tree.specs.Typed.{is_place}
use Rattle.c_meaning.specs.Meaning.{size_in_list}
use Rattle.c_values.specs.Numbers.{TypedNumber}
use Rattle.c_tasks.specs.Items.{top, rest, second, top_bytes, Item, operates, locates, stores, rewrites, combines, increments, draws, stores_structure, fills}
use Rattle.c_values.specs.Numbers.{same_width, are_operands_of}
use Rattle.c_meaning.proofs.Holding.{left_of, right_of, from_le}
use Rattle.c_tasks.specs.Fits.{top_type, rest_types, second_type, types_of, top_size, has_top, sizes_of, sizes_for, declared_at, variables_at, has_words, fits}
use Rattle.c_tasks.proofs.Sizes.{top_of_sizes}
use Rattle.c_tasks.proofs.Words.{begins_within}
use Rattle.c_tasks.proofs.Places.{size_listed}

pub top_types : (xs : List TypedNumber) → top_type (types_of xs) ≡ (top xs).type
top_types [] = refl
top_types (x ∷ xs) = refl

pub rest_of_types : (xs : List TypedNumber) → rest_types (types_of xs) ≡ types_of (rest xs)
rest_of_types [] = refl
rest_of_types (x ∷ xs) = refl

pub second_types : (xs : List TypedNumber) → second_type (types_of xs) ≡ (second xs).type
second_types xs = ap top_type (rest_of_types xs) ∙ top_types (rest xs)

same_from : (a b : ℕ) → (a == b) ≡ true → a ≡ b
same_from a b h = grind (arith, nat_tests)

lt_from : (a b : ℕ) → nat_lt a b ≡ true → a < b
lt_from a b h = grind (arith, nat_tests)

-- the number on top is as wide as that type
top_width : (xs : List TypedNumber) (t : IntegerType) → same_width (top_type (types_of xs)) t ≡ true → width (top xs).type ≡ width t
top_width xs t h = ap width (sym (top_types xs)) ∙ same_from (width (top_type (types_of xs))) (width t) h

module _ (file : TypedFile) (f : ℕ) (is : List Item) (xs : List TypedNumber) (zs : List ℕ) where
  pub stores_place : (line : ℕ) (t : IntegerType) (p : Place) → fits file (stores line t p ∷ is) f (types_of xs) zs ≡ true → is_place (sizes_for file f) (bytes t) p ≡ true
  stores_place line t p h =
      let place = is_place (sizes_for file f) (bytes t) p in
      let same = same_width (top_type (types_of xs)) t in
      left_of place same (left_of (place && same) _ h)

  pub stores_width : (line : ℕ) (t : IntegerType) (p : Place) → fits file (stores line t p ∷ is) f (types_of xs) zs ≡ true → width (top xs).type ≡ width t
  stores_width line t p h =
      let place = is_place (sizes_for file f) (bytes t) p in
      let same = same_width (top_type (types_of xs)) t in
      top_width xs t (right_of place same (left_of (place && same) _ h))

  pub rewrites_place : (line : ℕ) (t : IntegerType) (p : Place) (at : ℕ) → fits file (rewrites line t p at ∷ is) f (types_of xs) zs ≡ true → is_place (sizes_for file f) (bytes t) p ≡ true
  rewrites_place line t p at h =
      let place = is_place (sizes_for file f) (bytes t) p in
      let same = same_width (top_type (types_of xs)) t in
      left_of place same (left_of (place && same) _ h)

  pub rewrites_width : (line : ℕ) (t : IntegerType) (p : Place) (at : ℕ) → fits file (rewrites line t p at ∷ is) f (types_of xs) zs ≡ true → width (top xs).type ≡ width t
  rewrites_width line t p at h =
      let place = is_place (sizes_for file f) (bytes t) p in
      let same = same_width (top_type (types_of xs)) t in
      top_width xs t (right_of place same (left_of (place && same) _ h))

  pub operates_fit : (line : ℕ) (op : ArithmeticOperator) → fits file (operates line op ∷ is) f (types_of xs) zs ≡ true → are_operands_of op (second xs).type (top xs).type ≡ true
  operates_fit line op h =
      let ts = types_of xs in
      let e = left_of (are_operands_of op (second_type ts) (top_type ts)) (fits file is f (second_type ts ∷ rest_types (rest_types ts)) zs) h in
      ap (λ t. are_operands_of op t (top xs).type) (sym (second_types xs)) ∙ ap (are_operands_of op (second_type ts)) (sym (top_types xs)) ∙ e

  pub combines_width : (line : ℕ) (t : IntegerType) (p : Place) (op : ArithmeticOperator) (u : IntegerType) → fits file (combines line t p op u ∷ is) f (types_of xs) zs ≡ true → width (top xs).type ≡ width t
  combines_width line t p op u h =
      let place = is_place (sizes_for file f) (bytes t) p in
      let same = same_width (top_type (types_of xs)) t in
      let operands = are_operands_of op u (second_type (types_of xs)) in
      top_width xs t (right_of place same (left_of (place && same) operands (left_of (place && same && operands) _ h)))

  pub combines_fit : (line : ℕ) (t : IntegerType) (p : Place) (op : ArithmeticOperator) (u : IntegerType) → fits file (combines line t p op u ∷ is) f (types_of xs) zs ≡ true → are_operands_of op u (second xs).type ≡ true
  combines_fit line t p op u h =
      let place = is_place (sizes_for file f) (bytes t) p in
      let same = same_width (top_type (types_of xs)) t in
      let operands = are_operands_of op u (second_type (types_of xs)) in
      ap (are_operands_of op u) (sym (second_types xs)) ∙ right_of (place && same) operands (left_of (place && same && operands) _ h)

  pub increments_width : (line : ℕ) (t : IntegerType) (p : Place) (op : ArithmeticOperator) (before : Bool) (at : ℕ) → fits file (increments line t p op before at ∷ is) f (types_of xs) zs ≡ true → width (top xs).type ≡ width t
  increments_width line t p op before at h =
      let place = is_place (sizes_for file f) (bytes t) p in
      let same = same_width (top_type (types_of xs)) t in
      let operands = are_operands_of op (promoted t) (promoted t) in
      top_width xs t (right_of place same (left_of (place && same) operands (left_of (place && same && operands) _ h)))

  pub increments_fit : (line : ℕ) (t : IntegerType) (p : Place) (op : ArithmeticOperator) (before : Bool) (at : ℕ) → fits file (increments line t p op before at ∷ is) f (types_of xs) zs ≡ true → are_operands_of op (promoted t) (promoted t) ≡ true
  increments_fit line t p op before at h =
      let place = is_place (sizes_for file f) (bytes t) p in
      let same = same_width (top_type (types_of xs)) t in
      let operands = are_operands_of op (promoted t) (promoted t) in
      right_of (place && same) operands (left_of (place && same && operands) _ h)

  -- a literal that is named is there
  pub literal_there : (line k : ℕ) → fits file (locates (literal_at line k) ∷ is) f (types_of xs) zs ≡ true → k < length file.literals
  literal_there line k h =
      let sizes = sizes_for file f in
      lt_from k (length file.literals) (right_of sizes.pointers (nat_lt k (length file.literals)) (left_of (sizes.pointers && nat_lt k (length file.literals)) (fits file is f (UnsignedLong ∷ types_of xs) zs) h))

  pub structure_place : (line : ℕ) (p : Place) → fits file (stores_structure line p ∷ is) f (types_of xs) zs ≡ true → is_place (sizes_for file f) (top_size zs) p ≡ true
  structure_place line p h = right_of (has_top zs) (is_place (sizes_for file f) (top_size zs) p) (left_of (has_top zs && is_place (sizes_for file f) (top_size zs) p) _ h)

  pub structure_there : (line : ℕ) (p : Place) → fits file (stores_structure line p ∷ is) f (types_of xs) zs ≡ true → has_top zs ≡ true
  structure_there line p h = left_of (has_top zs) (is_place (sizes_for file f) (top_size zs) p) (left_of (has_top zs && is_place (sizes_for file f) (top_size zs) p) _ h)

  -- the words that are left of a variable begin in it
  pub fills_begin : (words line v offset : ℕ) → 0 < words → fits file (fills words line v offset ∷ is) f (types_of xs) zs ≡ true → offset < size_in_list (slice_get (declared_at file f) v)
  fills_begin words line v offset positive h =
      let there : offset < slice_index (variables_at file f) v = begins_within (variables_at file f) v offset words positive (left_of (has_words (variables_at file f) v offset words) _ h) in
      subst (λ n. offset < n) (sym (size_listed (declared_at file f) v)) there

-- so do those of an object
pub draws_begin : (file : TypedFile) (f : ℕ) (is : List Item) (xs : List TypedNumber) (bs : List (List ℕ)) (words size line : ℕ) → 0 < words → fits file (draws words size line ∷ is) f (types_of xs) (sizes_of bs) ≡ true →
    length (top_bytes bs) < size
draws_begin file f is xs bs words size line positive h =
    let zs = sizes_of bs in
    let first = has_top zs && nat_le (top_size zs) size in
    let all = nat_le (top_size zs + 8 * words) (size + 7) in
    let small = nat_lt size (2 ^ 31) in
    let l : top_size zs + 8 * words ≤ size + 7 = from_le (top_size zs + 8 * words) (size + 7) (right_of first all (left_of (first && all) small (left_of (first && all && small) _ h))) in
    omega (arith, l, top_of_sizes bs)
