-- What initializers give is well typed.
use Rattle.std.proofs.Common.{◌≡◌, ◌+◌, ◌*◌, ◌^◌, ◌%◌, ◌++◌, ℕ, suc, Bool, true, false, List, [], ◌∷◌, length, map, Option, Some, None, Result, Ok, Err, refl, ap, sym, subst, ◌∙◌, arith}
use Rattle.std.specs.Prelude.{◌&&◌, ◌||◌, not, ◌==◌, nat_lt, nat_le, if◌then◌else◌}
use Rattle.std.specs.List.{list_all}
use Rattle.std.proofs.lemmas.Bool.{eqb-true}
use borrow.Author.Tests.{le-leb, lt-ltb}
use Rattle.c_lexer.specs.Literals.{string_bytes}
use Rattle.c_tree.specs.Tree.{Tree}
use Rattle.c_tree.specs.Declarations.{Initial, initial, braces, Initials, no_initial, initials}
use Rattle.c_types.specs.declared.integers.IntegerType.{IntegerType}
use Rattle.c_types.specs.declared.integers.IntegerType.TheVariants as types
use Rattle.c_types.specs.declared.types.ValueType.TheVariants.{Integer}
use Rattle.c_types.specs.Integers.{bytes}
use Rattle.c_types.specs.Types.{CType, Completed}
use Rattle.c_types.specs.Types as ctypes
use Rattle.c_types.specs.Layouts.{size_of}
use Rattle.c_types.proofs.CellLists.{small_sized}
use Rattle.core_tree.specs.Trees.{Expression, Structure, Parts}
use Rattle.core_tree.specs.Trees as cores
use Rattle.core_tree.specs.Typed.{type_of, Sizes, is_typed, is_structure, are_parts, fits_at}
use Rattle.core_tree.specs.Typed as typings
use Rattle.c_operands.specs.declared.operands.Home.{Home}
use Rattle.c_operands.specs.declared.operands.Home.TheVariants as homes
use Rattle.c_scope.specs.Scopes.{Scoped}
use Rattle.c_scope.specs.Faults.{fault, required, on_line}
use Rattle.c_operands.specs.Nodes.{integer, as_type}
use Rattle.c_operands.specs.Operands.{Operand, value, object, structure, held_value, is_home, number, same_record, record_value, is_typed_operand}
use Rattle.c_elab_expr.specs.Texts.{text_bytes, bytes_of}
use Rattle.c_elab_expr.specs.Typing.{operand, operand_by}
use Rattle.c_scope.proofs.Variables.{both, and}
use Rattle.c_elab_expr.proofs.Types.{type_as, typed_as}
use Rattle.c_elab_expr.proofs.WellTyped.{Holds, bind, given, refused, on_same_line, integer_is, well_used}
use Rattle.c_elab_base.specs.Slots.{slot, slot_type}
use Rattle.c_elab_type.specs.Initializers.{Made, single, text, listed, only, Value, number_value, structure_value, is_character, scalar_value, record_node, array_node, value_node, is_constant, initial_value, part_with, joined, item_node, parts_from, list_made, braced, literal_of, single_as, typed_initial, typed_initials, initializer_of}
use Rattle.c_elab_base.proofs.Signatures.{closed_scope, own_sizes}
use Rattle.c_elab_base.proofs.Growing.{There}
use Rattle.c_elab_decl.proofs.Closed.{operand_keeps}
use Rattle.c_elab_decl.proofs.Objects.{IsObject, Lies, slot_lies}

-- ---- operands

abbrev pub FineOperand : Scoped → Operand → Type 0
FineOperand s x = is_typed_operand (closed_scope s) x ≡ true

pub fine : (s : Scoped) (w : Bool) (e : Tree) → There s → Holds (FineOperand s) (operand_by s w e)
fine s w e there = λ x same. well_used (closed_scope s) there.built w e x (operand_keeps s w e x same)

-- a value of an integer type
pub record FineNumber (s : Scoped) (e : Expression) : Type 0 where
  pub type : IntegerType
  pub is : type_of e ≡ Integer type
  pub good : is_typed (own_sizes s) e ≡ true

pub number_fine : (s : Scoped) (rule : ℕ) (x : Operand) → FineOperand s x → Holds (FineNumber s) (number rule x)
number_fine s rule (value e k) h = bind (λ t. type_of e ≡ Integer t) (FineNumber s) (integer rule e) _ (integer_is rule e) (λ t is. given (FineNumber s) e (record { type = t; is = is; good = h }))
number_fine s rule (object line v offset t k) h = refused (FineNumber s) rule
number_fine s rule (structure t a) h = refused (FineNumber s) rule

-- a structure value of so many bytes
pub record FineStructure (s : Scoped) (n : ℕ) (a : Structure) : Type 0 where
  pub size : typings.size_of a ≡ n
  pub good : is_structure (own_sizes s) a ≡ true

-- a value for a scalar of this type
pub record FineAs (s : Scoped) (t : CType) (e : Expression) : Type 0 where
  pub scalar : IntegerType
  pub is : t ≡ ctypes.integer scalar
  pub type : type_of e ≡ Integer scalar
  pub good : is_typed (own_sizes s) e ≡ true

-- a value of an object of this type
abbrev pub FineValue : Scoped → CType → Value → Type 0
FineValue s t (number_value e) = FineAs s t e
FineValue s t (structure_value a) = FineStructure s (size_of s.records.done t) a

-- ---- what is made of initializers of objects of this type

abbrev pub FineList : Scoped → CType → Structure → Type 0
FineList s ctypes.void a = ⊥
FineList s (ctypes.integer t) a = ⊥
FineList s (ctypes.aggregate p) a = FineStructure s (size_of s.records.done (ctypes.aggregate p)) a
FineList s (ctypes.array element n) a = FineStructure s (size_of s.records.done (ctypes.array element n)) a
FineList s (ctypes.pointer t c) a = ⊥
FineList s (ctypes.function f) a = ⊥

abbrev pub FineMade : Scoped → CType → Made → Type 0
FineMade s t (single x) = FineOperand s x
FineMade s t (text line bs) = list_all (λ b. nat_lt b 256) bs ≡ true
FineMade s t (listed a) = FineList s t a

-- the items of one from a number on
abbrev pub ItemsFine : Scoped → CType → ℕ → List Made → Type 0
ItemsFine s t i [] = Unit {0}
ItemsFine s t i (x ∷ xs) = FineMade s (slot_type (slot s.records t i)) x × ItemsFine s t (suc i) xs

-- ---- values

scalar_fine : (s : Scoped) (t : IntegerType) (x : Made) → FineMade s (ctypes.integer t) x → Holds (FineValue s (ctypes.integer t)) (scalar_value t x)
scalar_fine s t (single x) h =
    bind (FineNumber s) (FineValue s (ctypes.integer t)) (number 8 x) _ (number_fine s 8 x h) (λ e n.
    given (FineValue s (ctypes.integer t)) (number_value (as_type t e)) (record { scalar = t; is = refl; type = type_as t e; good = typed_as (own_sizes s) t n.type e n.is n.good }))
scalar_fine s t (text line bs) h = refused (FineValue s (ctypes.integer t)) 8
scalar_fine s t (listed a) h = refused (FineValue s (ctypes.integer t)) 12

one_record : (p : ℕ) (u : CType) → same_record (ctypes.aggregate p) u ≡ true → u ≡ ctypes.aggregate p
one_record p ctypes.void h = let none : ⊥ = cc in absurd none
one_record p (ctypes.integer t) h = let none : ⊥ = cc in absurd none
one_record p (ctypes.aggregate q) h = ap ctypes.aggregate (sym (eqb-true p q h))
one_record p (ctypes.array element n) h = let none : ⊥ = cc in absurd none
one_record p (ctypes.pointer t c) h = let none : ⊥ = cc in absurd none
one_record p (ctypes.function f) h = let none : ⊥ = cc in absurd none

held_size : (v : Home) (line offset size : ℕ) → typings.size_of (held_value v line offset size) ≡ size
held_size (homes.Variable v) line offset size = refl
held_size (homes.Object k) line offset size = refl

held_fine : (zs : Sizes) (v : Home) (line offset size : ℕ) → is_home zs v offset size ≡ true → is_structure zs (held_value v line offset size) ≡ true
held_fine zs (homes.Variable v) line offset size h = h
held_fine zs (homes.Object k) line offset size h = h

pub record_fine : (s : Scoped) (rule p : ℕ) (x : Operand) → FineOperand s x → Holds (FineStructure s (size_of s.records.done (ctypes.aggregate p))) (required rule (record_value s.records.done (ctypes.aggregate p) x))
record_fine s rule p (value e k) h = refused _ rule
record_fine s rule p (object line v offset u k) h = by (same_record (ctypes.aggregate p) u) refl where
  by : (b : Bool) → same_record (ctypes.aggregate p) u ≡ b
      → Holds (FineStructure s (size_of s.records.done (ctypes.aggregate p))) (required rule (if b then Some (held_value v line offset (size_of s.records.done u)) else None))
  by true e = given (FineStructure s (size_of s.records.done (ctypes.aggregate p))) (held_value v line offset (size_of s.records.done u))
      (record { size = held_size v line offset (size_of s.records.done u) ∙ ap (size_of s.records.done) (one_record p u e); good = held_fine (own_sizes s) v line offset (size_of s.records.done u) h })
  by false e = refused _ rule
record_fine s rule p (structure u a) h = by (same_record (ctypes.aggregate p) u) refl where
  by : (b : Bool) → same_record (ctypes.aggregate p) u ≡ b → Holds (FineStructure s (size_of s.records.done (ctypes.aggregate p))) (required rule (if b then Some a else None))
  by true e =
      let parts = both (is_structure (own_sizes s) a) (typings.size_of a == size_of s.records.done u) h in
      given (FineStructure s (size_of s.records.done (ctypes.aggregate p))) a
      (record { size = eqb-true (typings.size_of a) (size_of s.records.done u) parts.1 ∙ ap (size_of s.records.done) (one_record p u e); good = parts.0 })
  by false e = refused _ rule

record_node_fine : (s : Scoped) (p : ℕ) (x : Made) → FineMade s (ctypes.aggregate p) x → Holds (FineValue s (ctypes.aggregate p)) (record_node s.records.done (ctypes.aggregate p) x)
record_node_fine s p (single x) h =
    bind (FineStructure s (size_of s.records.done (ctypes.aggregate p))) (FineValue s (ctypes.aggregate p)) (required 12 (record_value s.records.done (ctypes.aggregate p) x)) _ (record_fine s 12 p x h) (λ a fit.
    given (FineValue s (ctypes.aggregate p)) (structure_value a) fit)
record_node_fine s p (text line bs) h = refused (FineValue s (ctypes.aggregate p)) 12
record_node_fine s p (listed a) h = given (FineValue s (ctypes.aggregate p)) (structure_value a) h

character_size : (done : List Completed) (t : CType) → is_character t ≡ true → size_of done t ≡ 1
character_size done ctypes.void h = let none : ⊥ = cc in absurd none
character_size done (ctypes.integer types.Bool) h = refl
character_size done (ctypes.integer types.Char) h = refl
character_size done (ctypes.integer types.SignedChar) h = refl
character_size done (ctypes.integer types.UnsignedChar) h = refl
character_size done (ctypes.integer types.Short) h = let none : ⊥ = cc in absurd none
character_size done (ctypes.integer types.UnsignedShort) h = let none : ⊥ = cc in absurd none
character_size done (ctypes.integer types.Int) h = let none : ⊥ = cc in absurd none
character_size done (ctypes.integer types.UnsignedInt) h = let none : ⊥ = cc in absurd none
character_size done (ctypes.integer types.Long) h = let none : ⊥ = cc in absurd none
character_size done (ctypes.integer types.UnsignedLong) h = let none : ⊥ = cc in absurd none
character_size done (ctypes.integer types.LongLong) h = let none : ⊥ = cc in absurd none
character_size done (ctypes.integer types.UnsignedLongLong) h = let none : ⊥ = cc in absurd none
character_size done (ctypes.aggregate p) h = let none : ⊥ = cc in absurd none
character_size done (ctypes.array element n) h = let none : ⊥ = cc in absurd none
character_size done (ctypes.pointer t c) h = let none : ⊥ = cc in absurd none
character_size done (ctypes.function f) h = let none : ⊥ = cc in absurd none

times_one : (n size : ℕ) → size ≡ 1 → n * size ≡ n
times_one n size h = rw h (omega arith)

-- no object is too large
small : (s : Scoped) (t : CType) → There s → IsObject s.records.done t → nat_lt (size_of s.records.done t) (2 ^ 31) ≡ true
small s t there o = let most = small_sized s.records.done t there.built o.sized in lt-ltb (size_of s.records.done t) (2 ^ 31) (omega arith)

text_fine : (s : Scoped) (element : CType) (n line : ℕ) (bs : List ℕ) → There s → IsObject s.records.done (ctypes.array element n) → list_all (λ b. nat_lt b 256) bs ≡ true
    → (is_character element && nat_le (length bs) n) ≡ true → FineStructure s (size_of s.records.done (ctypes.array element n)) (cores.string line n bs)
text_fine s element n line bs there o h fit =
    let parts = both (is_character element) (nat_le (length bs) n) fit in
    let size : n * size_of s.records.done element ≡ n = times_one n (size_of s.records.done element) (character_size s.records.done element parts.0) in
    record {
      size = sym size;
      good = and _ _ (and _ _ (ap (λ (k : ℕ). nat_lt k (2 ^ 31)) (sym size) ∙ small s (ctypes.array element n) there o) parts.1) h;
    }

array_node_fine : (s : Scoped) (element : CType) (n : ℕ) (x : Made) → There s → IsObject s.records.done (ctypes.array element n) → FineMade s (ctypes.array element n) x
    → Holds (FineValue s (ctypes.array element n)) (array_node element n x)
array_node_fine s element n (single x) there o h = refused (FineValue s (ctypes.array element n)) 12
array_node_fine s element n (text line bs) there o h = by (is_character element && nat_le (length bs) n) refl where
  by : (b : Bool) → (is_character element && nat_le (length bs) n) ≡ b → Holds {E = ℕ} (FineValue s (ctypes.array element n)) (if b then Ok (structure_value (cores.string line n bs)) else Err 12)
  by true e = given (FineValue s (ctypes.array element n)) (structure_value (cores.string line n bs)) (text_fine s element n line bs there o h e)
  by false e = refused (FineValue s (ctypes.array element n)) 12
array_node_fine s element n (listed a) there o h = given (FineValue s (ctypes.array element n)) (structure_value a) h

value_fine : (s : Scoped) (t : CType) (x : Made) → There s → IsObject s.records.done t → FineMade s t x → Holds (FineValue s t) (value_node s.records.done t x)
value_fine s ctypes.void x there o h = refused (FineValue s ctypes.void) 12
value_fine s (ctypes.integer t) x there o h = scalar_fine s t x h
value_fine s (ctypes.aggregate p) x there o h = record_node_fine s p x h
value_fine s (ctypes.array element n) x there o h = array_node_fine s element n x there o h
value_fine s (ctypes.pointer t c) x there o h = refused (FineValue s (ctypes.pointer t c)) 8
value_fine s (ctypes.function f) x there o h = refused (FineValue s (ctypes.function f)) 12

pub initial_value_fine : (object_entry : Bool) (s : Scoped) (t : CType) (x : Made) → There s → IsObject s.records.done t → FineMade s t x
    → Holds (FineValue s t) (initial_value object_entry s.records.done t x)
initial_value_fine object_entry s t x there o h = bind (FineValue s t) (FineValue s t) (value_node s.records.done t x) _ (value_fine s t x there o h) (λ v fit. by v fit (not object_entry || is_constant x)) where
  by : (v : Value) → FineValue s t v → (b : Bool) → Holds {E = ℕ} (FineValue s t) (if b then Ok v else Err 13)
  by v fit true = given (FineValue s t) v fit
  by v fit false = refused (FineValue s t) 13

-- ---- parts

abbrev FineParts : Scoped → CType → Parts → Type 0
FineParts s t ps = are_parts (own_sizes s) (size_of s.records.done t) ps ≡ true

part_fine : (s : Scoped) (t : CType) (x : CType × ℕ) (v : Value) (rest : Parts) → Lies s.records.done t x → FineValue s x.0 v → FineParts s t rest → FineParts s t (part_with x.1 v rest)
part_fine s t x (number_value e) rest lies h good =
    let size : size_of s.records.done x.0 ≡ bytes h.scalar = ap (size_of s.records.done) h.is in
    let within = lies.within in
    let fits : fits_at (size_of s.records.done t) x.1 (type_of e) ≡ true =
    ap (fits_at (size_of s.records.done t) x.1) h.type ∙ le-leb (x.1 + bytes h.scalar) (size_of s.records.done t) (omega (arith, size, within)) in
    and _ _ (and _ _ fits h.good) good
part_fine s t x (structure_value a) rest lies h good =
    let size = h.size in
    let within = lies.within in
    and _ _ (and _ _ (le-leb (x.1 + typings.size_of a) (size_of s.records.done t) (omega (arith, size, within))) h.good) good

joined_fine : (P : Value → Type 0) (Q R : Parts → Type 0) (offset : ℕ) (v : Result Value ℕ) (rest : Result Parts ℕ) → Holds P v → Holds Q rest
    → ((x : Value) (ps : Parts) → P x → Q ps → R (part_with offset x ps)) → Holds R (joined offset v rest)
joined_fine P Q R offset (Ok x) (Ok ps) h g k = given R (part_with offset x ps) (k x ps (h x refl) (g ps refl))
joined_fine P Q R offset (Ok x) (Err rule) h g k = refused R rule
joined_fine P Q R offset (Err rule) (Ok ps) h g k = refused R rule
joined_fine P Q R offset (Err rule) (Err other) h g k = refused R _

item_fine : (object_entry : Bool) (s : Scoped) (t : CType) (x : Made) (o : Option (CType × ℕ)) (rest : Result Parts ℕ) → There s → ((y : CType × ℕ) → o ≡ Some y → Lies s.records.done t y)
    → FineMade s (slot_type o) x → Holds (FineParts s t) rest → Holds (FineParts s t) (item_node object_entry s.records.done o x rest)
item_fine object_entry s t x None rest there lies h g = joined_fine (λ v. ⊥) (FineParts s t) (FineParts s t) 0 (Err 12) rest (refused (λ v. ⊥) 12) g (λ v ps bad _. absurd bad)
item_fine object_entry s t x (Some y) rest there lies h g =
    let here = lies y refl in
    joined_fine (FineValue s y.0) (FineParts s t) (FineParts s t) y.1 (initial_value object_entry s.records.done y.0 x) rest (initial_value_fine object_entry s y.0 x there here.object h) g (λ v ps fit good. part_fine s t y v ps here fit good)

parts_fine : (object_entry : Bool) (s : Scoped) (t : CType) (i : ℕ) (xs : List Made) → There s → IsObject s.records.done t → ItemsFine s t i xs → Holds (FineParts s t) (parts_from object_entry s.records t i xs)
parts_fine object_entry s t i [] there o h = given (FineParts s t) cores.no_part refl
parts_fine object_entry s t i (x ∷ xs) there o h =
    item_fine object_entry s t x (slot s.records t i) (parts_from object_entry s.records t (suc i) xs) there (λ y e. slot_lies s.records there.built t i y o e) h.0 (parts_fine object_entry s t (suc i) xs there o h.1)

list_fine : (object_entry : Bool) (s : Scoped) (t : CType) (line : ℕ) (xs : List Made) → There s → IsObject s.records.done t → ItemsFine s t 0 xs
    → Holds (λ m. (a : Structure) × (m ≡ listed a) × FineStructure s (size_of s.records.done t) a) (list_made object_entry line s.records t xs)
list_fine object_entry s t line xs there o h =
    bind (FineParts s t) (λ m. (a : Structure) × (m ≡ listed a) × FineStructure s (size_of s.records.done t) a) (on_line line (parts_from object_entry s.records t 0 xs)) _
    (on_same_line (FineParts s t) line (parts_from object_entry s.records t 0 xs) (parts_fine object_entry s t 0 xs there o h)) (λ ps good.
    given (λ m. (a : Structure) × (m ≡ listed a) × FineStructure s (size_of s.records.done t) a) (listed (cores.list line (size_of s.records.done t) ps))
    (cores.list line (size_of s.records.done t) ps, refl, record { size = refl; good = and _ _ (small s t there o) good }))

-- ---- braces and initializers

-- an object's type, or that of a scalar or of an item too many
abbrev pub May : List Completed → CType → Type 0
May done ctypes.void = Unit {0}
May done (ctypes.integer t) = Unit {0}
May done (ctypes.aggregate p) = IsObject done (ctypes.aggregate p)
May done (ctypes.array element n) = IsObject done (ctypes.array element n)
May done (ctypes.pointer t c) = Unit {0}
May done (ctypes.function f) = Unit {0}

pub may : (done : List Completed) (t : CType) → IsObject done t → May done t
may done ctypes.void o = tt
may done (ctypes.integer t) o = tt
may done (ctypes.aggregate p) o = o
may done (ctypes.array element n) o = o
may done (ctypes.pointer t c) o = tt
may done (ctypes.function f) o = tt

slot_may : (s : Scoped) (t : CType) (i : ℕ) → There s → May s.records.done t → May s.records.done (slot_type (slot s.records t i))
slot_may s ctypes.void i there o = tt
slot_may s (ctypes.integer t) i there o = tt
slot_may s (ctypes.aggregate p) i there o = by (slot s.records (ctypes.aggregate p) i) (λ y e. slot_lies s.records there.built (ctypes.aggregate p) i y o e) where
  by : (x : Option (CType × ℕ)) → ((y : CType × ℕ) → x ≡ Some y → Lies s.records.done (ctypes.aggregate p) y) → May s.records.done (slot_type x)
  by None lies = tt
  by (Some y) lies = may s.records.done y.0 (lies y refl).object
slot_may s (ctypes.array element n) i there o = by (slot s.records (ctypes.array element n) i) (λ y e. slot_lies s.records there.built (ctypes.array element n) i y o e) where
  by : (x : Option (CType × ℕ)) → ((y : CType × ℕ) → x ≡ Some y → Lies s.records.done (ctypes.array element n) y) → May s.records.done (slot_type x)
  by None lies = tt
  by (Some y) lies = may s.records.done y.0 (lies y refl).object
slot_may s (ctypes.pointer t c) i there o = tt
slot_may s (ctypes.function f) i there o = tt

-- no braces around items are an item too many's
of_scalar : (s : Scoped) (t : IntegerType) (x : Made) → FineMade s ctypes.void x → FineMade s (ctypes.integer t) x
of_scalar s t (single x) h = h
of_scalar s t (text line bs) h = h
of_scalar s t (listed a) h = absurd h

only_fine : (s : Scoped) (line : ℕ) (xs : List Made) → ItemsFine s ctypes.void 0 xs → Holds (FineMade s ctypes.void) (on_line line (required 12 (only xs)))
only_fine s line [] h = refused (FineMade s ctypes.void) (fault line 12)
only_fine s line (x ∷ []) h = given (FineMade s ctypes.void) x h.0
only_fine s line (x ∷ y ∷ rest) h = refused (FineMade s ctypes.void) (fault line 12)

only_scalar : (s : Scoped) (t : IntegerType) (line : ℕ) (xs : List Made) → ItemsFine s (ctypes.integer t) 0 xs → Holds (FineMade s (ctypes.integer t)) (on_line line (required 12 (only xs)))
only_scalar s t line [] h = refused (FineMade s (ctypes.integer t)) (fault line 12)
only_scalar s t line (x ∷ []) h = given (FineMade s (ctypes.integer t)) x (of_scalar s t x h.0)
only_scalar s t line (x ∷ y ∷ rest) h = refused (FineMade s (ctypes.integer t)) (fault line 12)

of_pointer : (s : Scoped) (t : CType) (c : Bool) (x : Made) → FineMade s ctypes.void x → FineMade s (ctypes.pointer t c) x
of_pointer s t c (single x) h = h
of_pointer s t c (text line bs) h = h
of_pointer s t c (listed a) h = absurd h

only_pointer : (s : Scoped) (t : CType) (c : Bool) (line : ℕ) (xs : List Made) → ItemsFine s (ctypes.pointer t c) 0 xs
    → Holds (FineMade s (ctypes.pointer t c)) (on_line line (required 12 (only xs)))
only_pointer s t c line [] h = refused (FineMade s (ctypes.pointer t c)) (fault line 12)
only_pointer s t c line (x ∷ []) h = given (FineMade s (ctypes.pointer t c)) x (of_pointer s t c x h.0)
only_pointer s t c line (x ∷ y ∷ rest) h = refused (FineMade s (ctypes.pointer t c)) (fault line 12)

of_function : (s : Scoped) (f : ℕ) (x : Made) → FineMade s ctypes.void x → FineMade s (ctypes.function f) x
of_function s f (single x) h = h
of_function s f (text line bs) h = h
of_function s f (listed a) h = absurd h

only_function : (s : Scoped) (f line : ℕ) (xs : List Made) → ItemsFine s (ctypes.function f) 0 xs → Holds (FineMade s (ctypes.function f)) (on_line line (required 12 (only xs)))
only_function s f line [] h = refused (FineMade s (ctypes.function f)) (fault line 12)
only_function s f line (x ∷ []) h = given (FineMade s (ctypes.function f)) x (of_function s f x h.0)
only_function s f line (x ∷ y ∷ rest) h = refused (FineMade s (ctypes.function f)) (fault line 12)

braced_fine : (object_entry : Bool) (s : Scoped) (t : CType) (line : ℕ) (xs : List Made) → There s → May s.records.done t → ItemsFine s t 0 xs → Holds (FineMade s t) (braced object_entry line s.records t xs)
braced_fine object_entry s ctypes.void line xs there o h = only_fine s line xs h
braced_fine object_entry s (ctypes.integer t) line xs there o h = only_scalar s t line xs h
braced_fine object_entry s (ctypes.aggregate p) line xs there o h = λ m e. let d = list_fine object_entry s (ctypes.aggregate p) line xs there o h m e in subst (FineMade s (ctypes.aggregate p)) (sym d.1) d.2
braced_fine object_entry s (ctypes.array element n) line xs there o h = λ m e. let d = list_fine object_entry s (ctypes.array element n) line xs there o h m e in subst (FineMade s (ctypes.array element n)) (sym d.1) d.2
braced_fine object_entry s (ctypes.pointer t c) line xs there o h = only_pointer s t c line xs h
braced_fine object_entry s (ctypes.function f) line xs there o h = only_function s f line xs h

-- the bytes of a string have 8 bits
low_bytes : (bs : List ℕ) → list_all (λ b. nat_lt b 256) (map (λ b. b % 256) bs) ≡ true
low_bytes [] = refl
low_bytes (b ∷ bs) = and _ _ (lt-ltb (b % 256) 256 (omega arith)) (low_bytes bs)

all_in_both : (xs ys : List ℕ) → list_all (λ b. nat_lt b 256) xs ≡ true → list_all (λ b. nat_lt b 256) ys ≡ true → list_all (λ b. nat_lt b 256) (xs ++ ys) ≡ true
all_in_both [] ys h g = g
all_in_both (x ∷ xs) ys h g = let parts = both (nat_lt x 256) (list_all (λ b. nat_lt b 256) xs) h in and _ _ parts.0 (all_in_both xs ys parts.1 g)

one_text : (o : Option (List ℕ)) → list_all (λ b. nat_lt b 256) (text_bytes o) ≡ true
one_text None = refl
one_text (Some bs) = low_bytes bs

texts : (parts : List (List ℕ)) → list_all (λ b. nat_lt b 256) (bytes_of parts) ≡ true
texts [] = refl
texts (part ∷ parts) = all_in_both (text_bytes (string_bytes part)) (bytes_of parts) (one_text (string_bytes part)) (texts parts)

single_fine : (s : Scoped) (t : CType) (e : Tree) (o : Option (ℕ × List (List ℕ))) → There s → Holds (FineMade s t) (single_as s e o)
single_fine s t e None there = bind (FineOperand s) (FineMade s t) (operand s e) _ (fine s true e there) (λ x good. given (FineMade s t) (single x) good)
single_fine s t e (Some literal) there = given (FineMade s t) (text literal.0 (bytes_of literal.1)) (texts literal.1)

mutual
  pub initial_fine : (object_entry : Bool) (s : Scoped) (t : CType) (i : Initial) → There s → May s.records.done t → Holds (FineMade s t) (typed_initial object_entry s t i)
  initial_fine object_entry s t (initial e) there o = single_fine s t e (literal_of e) there
  initial_fine object_entry s t (braces line items) there o =
      bind (ItemsFine s t 0) (FineMade s t) (typed_initials object_entry s t 0 items) _ (initials_fine object_entry s t 0 items there o) (λ xs good. braced_fine object_entry s t line xs there o good)

  initials_fine : (object_entry : Bool) (s : Scoped) (t : CType) (i : ℕ) (is : Initials) → There s → May s.records.done t → Holds (ItemsFine s t i) (typed_initials object_entry s t i is)
  initials_fine object_entry s t i no_initial there o = given (ItemsFine s t i) [] tt
  initials_fine object_entry s t i (initials first rest) there o =
      bind (FineMade s (slot_type (slot s.records t i))) (ItemsFine s t i) (typed_initial object_entry s (slot_type (slot s.records t i)) first) _
      (initial_fine object_entry s (slot_type (slot s.records t i)) first there (slot_may s t i there o)) (λ x good.
      bind (ItemsFine s t (suc i)) (ItemsFine s t i) (typed_initials object_entry s t (suc i) rest) _ (initials_fine object_entry s t (suc i) rest there o) (λ xs fines.
      given (ItemsFine s t i) (x ∷ xs) (good, fines)))

abbrev pub FineOption : Scoped → CType → Option Value → Type 0
FineOption s t None = Unit {0}
FineOption s t (Some v) = FineValue s t v

pub option_fine : (object_entry : Bool) (line : ℕ) (s : Scoped) (t : CType) (o : Option Initial) → There s → IsObject s.records.done t → Holds (FineOption s t) (initializer_of object_entry line s t o)
option_fine object_entry line s t None there is = given (FineOption s t) None tt
option_fine object_entry line s t (Some i) there is =
    bind (FineMade s t) (FineOption s t) (typed_initial object_entry s t i) _ (initial_fine object_entry s t i there (may s.records.done t is)) (λ x good.
    bind (FineValue s t) (FineOption s t) (on_line line (initial_value object_entry s.records.done t x)) _ (on_same_line (FineValue s t) line _ (initial_value_fine object_entry s t x there is good)) (λ v fit.
    given (FineOption s t) (Some v) fit))
