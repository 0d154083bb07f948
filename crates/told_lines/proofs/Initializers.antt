-- The lines of typed initializers are those of their trees.
use Rattle.std.proofs.Common.{ℕ, suc, Bool, List, [], ◌∷◌, length, Option, Some, None, Result, Ok, Err, refl}
use Rattle.std.specs.Prelude.{◌&&◌, ◌||◌, not, nat_le}
use Rattle.c_tree.specs.Tree.{Tree, constant, character, strings, name, parens, unary, cast, sizeof_expr, sizeof_type, step, member, binary, choice, assign, comma, call, address, dereference, arrow, subscript}
use Rattle.c_tree.specs.Declarations.{Initial, initial, braces, Initials, no_initial, initials}
use Rattle.c_types.specs.declared.integers.IntegerType.{IntegerType}
use Rattle.c_types.specs.Types.{CType, Completed, Records}
use Rattle.c_types.specs.Types as ctypes
use Rattle.core_tree.specs.Trees.{Parts}
use Rattle.c_scope.specs.Scopes.{Scoped}
use Rattle.c_scope.specs.Faults.{required, on_line}
use Rattle.c_elab_base.specs.Slots.{slot, slot_type}
use Rattle.c_operands.specs.Operands.{number, record_value}
use Rattle.c_elab_expr.specs.Typing.{operand}
use Rattle.c_elab_type.specs.Initializers.{Made, single, text, listed, only, Value, number_value, structure_value, is_character, scalar_value, record_node, array_node, value_node, is_constant, initial_value, part_with, joined, item_node, parts_from, list_made, braced, literal_of, single_as, typed_initial, typed_initials, initializer_of}
use Rattle.told_lines.specs.TypedLines.{InExpression, InStructure, InParts}
use Rattle.told_lines.specs.TreeLines.{InTree, InInitial, InInitials, InInitializer}
use Rattle.told_lines.proofs.Results.{Good, ok, fails, bind, on, Holds, needs, good_either, Each}
use Rattle.told_lines.proofs.Operands.{InOperand, number_good, record_lined, operand_good, as_type_in}

module _ (P : ℕ → Type 0) where
  abbrev InMade : Made → Type 0
  InMade (single x) = InOperand P x
  InMade (text line bytes) = P line
  InMade (listed a) = InStructure P a

  abbrev pub InValue : Value → Type 0
  InValue (number_value e) = InExpression P e
  InValue (structure_value a) = InStructure P a

  only_good : (line : ℕ) (xs : List Made) → Each InMade xs → Good InMade (on_line line (required 12 (only xs)))
  only_good line [] h = fails _ _
  only_good line (x ∷ []) h = ok InMade _ h.0
  only_good line (x ∷ y ∷ rest) h = fails _ _

  scalar_good : (t : IntegerType) (x : Made) → InMade x → Good InValue (scalar_value t x)
  scalar_good t (single x) h = bind (InExpression P) InValue (number 8 x) _ (number_good P 8 x h) (λ e g. ok InValue _ (as_type_in P t e g))
  scalar_good t (text line bytes) h = fails _ _
  scalar_good t (listed a) h = fails _ _

  record_good : (done : List Completed) (t : CType) (x : Made) → InMade x → Good InValue (record_node done t x)
  record_good done t (single x) h = bind (InStructure P) InValue (required 12 (record_value done t x)) _ (needs (InStructure P) 12 (record_value done t x) (record_lined P done t x h)) (λ a g. ok InValue _ g)
  record_good done t (text line bytes) h = fails _ _
  record_good done t (listed a) h = ok InValue _ h

  array_good : (element : CType) (n : ℕ) (x : Made) → InMade x → Good InValue (array_node element n x)
  array_good element n (single x) h = fails _ _
  array_good element n (text line bytes) h = good_either InValue (is_character element && nat_le (length bytes) n) _ _ (ok InValue _ h) (fails _ _)
  array_good element n (listed a) h = ok InValue _ h

  value_good : (done : List Completed) (t : CType) (x : Made) → InMade x → Good InValue (value_node done t x)
  value_good done ctypes.void x h = fails _ _
  value_good done (ctypes.integer t) x h = scalar_good t x h
  value_good done (ctypes.aggregate p) x h = record_good done (ctypes.aggregate p) x h
  value_good done (ctypes.array element n) x h = array_good element n x h
  value_good done (ctypes.pointer t c) x h = fails _ _
  value_good done (ctypes.function f) x h = fails _ _

  initial_value_good : (object_entry : Bool) (done : List Completed) (t : CType) (x : Made) → InMade x → Good InValue (initial_value object_entry done t x)
  initial_value_good object_entry done t x h =
      bind InValue InValue (value_node done t x) _ (value_good done t x h) (λ v g. good_either InValue (not object_entry || is_constant x) _ _ (ok InValue v g) (fails _ _))

  part_lined : (offset : ℕ) (v : Value) (rest : Parts) → InValue v → InParts P rest → InParts P (part_with offset v rest)
  part_lined offset (number_value e) rest h g = (h, g)
  part_lined offset (structure_value a) rest h g = (h, g)

  joined_good : (offset : ℕ) (v : Result Value ℕ) (rest : Result Parts ℕ) → Good InValue v → Good (InParts P) rest → Good (InParts P) (joined offset v rest)
  joined_good offset (Ok v) (Ok rest) h g = ok (InParts P) _ (part_lined offset v rest (h.fine v refl) (g.fine rest refl))
  joined_good offset (Ok v) (Err rule) h g = fails _ _
  joined_good offset (Err rule) (Ok rest) h g = fails _ _
  joined_good offset (Err rule) (Err other) h g = fails _ _

  item_good : (object_entry : Bool) (done : List Completed) (o : Option (CType × ℕ)) (x : Made) (rest : Result Parts ℕ) → InMade x → Good (InParts P) rest
      → Good (InParts P) (item_node object_entry done o x rest)
  item_good object_entry done None x rest h g = joined_good 0 (Err 12) rest (fails _ _) g
  item_good object_entry done (Some o) x rest h g = joined_good o.1 (initial_value object_entry done o.0 x) rest (initial_value_good object_entry done o.0 x h) g

  parts_from_good : (object_entry : Bool) (rs : Records) (t : CType) (i : ℕ) (xs : List Made) → Each InMade xs → Good (InParts P) (parts_from object_entry rs t i xs)
  parts_from_good object_entry rs t i [] h = ok (InParts P) _ tt
  parts_from_good object_entry rs t i (x ∷ xs) h =
      item_good object_entry rs.done (slot rs t i) x (parts_from object_entry rs t (suc i) xs) h.0 (parts_from_good object_entry rs t (suc i) xs h.1)

  list_good : (object_entry : Bool) (line : ℕ) (rs : Records) (t : CType) (xs : List Made) → P line → Each InMade xs → Good InMade (list_made object_entry line rs t xs)
  list_good object_entry line rs t xs k h =
      bind (InParts P) InMade (on_line line (parts_from object_entry rs t 0 xs)) _
      (on (InParts P) line (parts_from object_entry rs t 0 xs) (parts_from_good object_entry rs t 0 xs h)) (λ ps g. ok InMade _ (k, g))

  braced_good : (object_entry : Bool) (line : ℕ) (rs : Records) (t : CType) (xs : List Made) → P line → Each InMade xs → Good InMade (braced object_entry line rs t xs)
  braced_good object_entry line rs ctypes.void xs k h = only_good line xs h
  braced_good object_entry line rs (ctypes.integer t) xs k h = only_good line xs h
  braced_good object_entry line rs (ctypes.aggregate p) xs k h = list_good object_entry line rs (ctypes.aggregate p) xs k h
  braced_good object_entry line rs (ctypes.array element n) xs k h = list_good object_entry line rs (ctypes.array element n) xs k h
  braced_good object_entry line rs (ctypes.pointer t c) xs k h = only_good line xs h
  braced_good object_entry line rs (ctypes.function f) xs k h = only_good line xs h

  abbrev InLiteral : Option (ℕ × List (List ℕ)) → Type 0
  InLiteral None = Unit {0}
  InLiteral (Some l) = P l.0

  literal_lined : (e : Tree) → InTree P e → InLiteral (literal_of e)
  literal_lined (constant line c) h = tt
  literal_lined (character line bits) h = tt
  literal_lined (strings line parts) h = h
  literal_lined (name line n) h = tt
  literal_lined (parens line e) h = tt
  literal_lined (unary line op e) h = tt
  literal_lined (address line e) h = tt
  literal_lined (dereference line e) h = tt
  literal_lined (cast line parts d e) h = tt
  literal_lined (sizeof_expr line e) h = tt
  literal_lined (sizeof_type line parts d) h = tt
  literal_lined (step line op e) h = tt
  literal_lined (member line e n) h = tt
  literal_lined (arrow line e n) h = tt
  literal_lined (subscript line a b) h = tt
  literal_lined (binary line op a b) h = tt
  literal_lined (choice line test a b) h = tt
  literal_lined (assign line op a b) h = tt
  literal_lined (comma line a b) h = tt
  literal_lined (call f arguments) h = tt

  single_good : (s : Scoped) (e : Tree) (o : Option (ℕ × List (List ℕ))) → InTree P e → InLiteral o → Good InMade (single_as s e o)
  single_good s e None h g = bind (InOperand P) InMade (operand s e) _ (operand_good P s e h) (λ x l. ok InMade _ l)
  single_good s e (Some l) h g = ok InMade _ g

  mutual
    initial_good : (object_entry : Bool) (s : Scoped) (t : CType) (i : Initial) → InInitial P i → Good InMade (typed_initial object_entry s t i)
    initial_good object_entry s t (initial e) h = single_good s e (literal_of e) h (literal_lined e h)
    initial_good object_entry s t (braces line items) h = bind (Each InMade) InMade (typed_initials object_entry s t 0 items) _ (initials_good object_entry s t 0 items h.1) (λ xs g. braced_good object_entry line s.records t xs h.0 g)

    initials_good : (object_entry : Bool) (s : Scoped) (t : CType) (i : ℕ) (is : Initials) → InInitials P is → Good (Each InMade) (typed_initials object_entry s t i is)
    initials_good object_entry s t i no_initial h = ok (Each InMade) _ tt
    initials_good object_entry s t i (initials first rest) h =
        bind InMade (Each InMade) (typed_initial object_entry s (slot_type (slot s.records t i)) first) _ (initial_good object_entry s (slot_type (slot s.records t i)) first h.0) (λ x g.
        bind (Each InMade) (Each InMade) (typed_initials object_entry s t (suc i) rest) _ (initials_good object_entry s t (suc i) rest h.1) (λ xs l. ok (Each InMade) _ (g, l)))

  pub initializer_good : (object_entry : Bool) (line : ℕ) (s : Scoped) (t : CType) (i : Option Initial) → InInitializer P i → Good (Holds InValue) (initializer_of object_entry line s t i)
  initializer_good object_entry line s t None h = ok (Holds InValue) _ tt
  initializer_good object_entry line s t (Some i) h =
      bind InMade (Holds InValue) (typed_initial object_entry s t i) _ (initial_good object_entry s t i h) (λ x g.
      bind InValue (Holds InValue) (on_line line (initial_value object_entry s.records.done t x)) _
      (on InValue line (initial_value object_entry s.records.done t x) (initial_value_good object_entry s.records.done t x g)) (λ v l. ok (Holds InValue) _ l))
