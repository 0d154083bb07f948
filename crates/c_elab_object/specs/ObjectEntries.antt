-- What declarators of objects that live as long as the program declare (C11 6.2.2, 6.2.4p3, 6.7.9, 6.9.2).
use Rattle.std.specs.Prelude.{◌≡◌, ℕ, ◌+◌, ◌-◌, ◌==◌, ◌&&◌, ◌||◌, ◌++◌, Bool, true, false, not, List, [], ◌∷◌, length, slice_set, Option, Some, None, is_some, Result, Ok, Err, if◌then◌else◌}
use Rattle.c_tree.specs.Declarations.{Initial, Full, name_of}
use Rattle.c_types.specs.Types.{CType, void, integer, aggregate, array, pointer, function as function_at, Completed}
use Rattle.c_scope.specs.declared.meaning.Meaning.{Meaning}
use Rattle.c_scope.specs.declared.meaning.Meaning.TheVariants.{Object, Function}
use Rattle.c_scope.specs.Scopes.{binding, Named, ObjectEntry, Scoped, object_at, linked_to}
use Rattle.c_scope.specs.Faults.{◌>>=◌, Fault, fault, on_line}
use Rattle.c_scope.specs.Types.{array_of, element_type}
use Rattle.c_elab_base.specs.declared.regions.Region.{Region}
use Rattle.c_elab_base.specs.Regions.{earlier}
use Rattle.c_elab_base.specs.Derivations.{full_line}
use Rattle.c_elab_type.specs.Initializers.{Value, initial_bytes, initializer_of}
use Rattle.c_scope.specs.Functions.{same_ctype, same_flag}
use Rattle.c_elab_base.specs.Declarators.{is_open, complete_type, sized_type}
use Rattle.c_elab_type.specs.Declarators.{given_lengths}

-- the type that a declarator gives an object, and whether it is an array of so many elements of that type as no declaration says so far, which only `extern` allows
abbrev pub object_entry_type : List Completed → CType → Bool → Option Initial → List (Option ℕ) → Result (CType × Bool) ℕ
object_entry_type done base true None (None ∷ ls) = do
  t ← element_type done base ls
  u ← complete_type done t
  Ok (u, true)
object_entry_type done base true None ls = array_of done base ls >>= λ t. Ok (t, false)
object_entry_type done base is_extern i ls = do
  t ← array_of done base (given_lengths i ls)
  u ← sized_type done t
  Ok (u, false)

-- the type that a declarator says, which may be incomplete, where there is one
abbrev pub made_type : Bool → Result CType ℕ → Option (CType × Bool)
made_type unknown_length (Ok t) = Some (t, unknown_length)
made_type unknown_length (Err rule) = None

abbrev pub stated_type : List Completed → CType → List (Option ℕ) → Option (CType × Bool)
stated_type done base (None ∷ ls) = made_type true (element_type done base ls)
stated_type done base ls = made_type false (array_of done base ls)

abbrev pub is_array_of : CType → CType → Bool
is_array_of element void = false
is_array_of element (integer t) = false
is_array_of element (aggregate p) = false
is_array_of element (array e n) = same_ctype element e
is_array_of element (pointer t c) = false
is_array_of element (function_at f) = false

-- one type, where a length may be said by one of the two alone (C11 6.2.7)
abbrev pub compatible : CType × Bool → CType × Bool → Bool
compatible (t, true) (u, true) = same_ctype t u
compatible (t, true) (u, false) = is_array_of t u
compatible (t, false) (u, true) = is_array_of u t
compatible (t, false) (u, false) = same_ctype t u

-- it can be declared once more so: with the same type, and with one initializer at most
abbrev pub is_again : ObjectEntry → Bool → CType × Bool → Option Initial → Bool
is_again o constant x i = same_flag o.named.constant constant && compatible (o.named.type, o.unknown_length) x && not (is_some o.bytes && is_some i)

-- the name's object here is the one that it is linked to
abbrev pub is_linked_to : Option ℕ → Option Meaning → Bool
is_linked_to k None = true
is_linked_to None (Some m) = false
is_linked_to (Some k) (Some (Object l)) = k == l
is_linked_to (Some k) (Some m) = false

-- outside of functions, or with `extern`, a name has linkage: it means one object in the whole file
abbrev pub linked_object : Region → Bool → Scoped → List ℕ → Option ℕ
linked_object r is_extern s name = if r.is_file || is_extern then linked_to s.linked name else None

abbrev pub may_again : Option ObjectEntry → Bool → CType × Bool → Option Initial → Bool
may_again None constant x i = false
may_again (Some o) constant x i = is_again o constant x i

-- the same of the type that its declarator says
abbrev pub is_stated_again : Option ObjectEntry → Bool → Option (CType × Bool) → Option Initial → Bool
is_stated_again o constant None i = false
is_stated_again o constant (Some x) i = may_again o constant x i

-- rule 2: a scope may name an object again that has linkage, with the same type; where that isn't complete, the rule that it breaks itself
abbrev pub object_entry_again : Scoped → Bool → ℕ → Result (CType × Bool) ℕ → Option (CType × Bool) → Option Initial → Result (CType × Bool) ℕ
object_entry_again s constant k (Err rule) stated i = if is_stated_again (object_at s k) constant stated i then Err rule else Err 2
object_entry_again s constant k (Ok x) stated i = if may_again (object_at s k) constant x i then Ok x else Err 2

abbrev pub object_entry_node : Scoped → Bool → Option Meaning → Option ℕ → Result (CType × Bool) ℕ → Option (CType × Bool) → Option Initial → Result (CType × Bool) ℕ
object_entry_node s constant earlier None made stated i = if is_linked_to None earlier then made else Err 2
object_entry_node s constant earlier (Some k) made stated i = if is_linked_to (Some k) earlier then object_entry_again s constant k made stated i else Err 2

-- what is known of an object behind one more declarator of it
abbrev pub declared_again : ObjectEntry → CType × Bool → Bool → ObjectEntry
declared_again o x defines = record o {
  named = record o.named { type = if o.unknown_length then x.0 else o.named.type };
  unknown_length = o.unknown_length && x.1;
  defined = o.defined || defines;
}

abbrev pub first_declared : Bool → CType × Bool → Bool → ℕ → ObjectEntry
first_declared constant x defines line = record { named = record { type = x.0; constant = constant }; unknown_length = x.1; bytes = None; defined = defines; line = line }

-- a name that means an object, with what is known of the object
abbrev pub with_object : Scoped → List ℕ → ℕ → Scoped
with_object s name k = record s { bindings = binding name (Object k) ∷ s.bindings }

-- there is an object with this number
abbrev pub IsObjectThere : Scoped → ℕ → Type 0
IsObjectThere s k = (o : ObjectEntry) × (object_at s k ≡ Some o)

abbrev pub changed_by : List ObjectEntry → ℕ → (ObjectEntry → ObjectEntry) → Option ObjectEntry → List ObjectEntry
changed_by objects k f None = objects
changed_by objects k f (Some o) = slice_set objects (k - 1) (f o)

abbrev pub changed_object : Scoped → ℕ → (ObjectEntry → ObjectEntry) → Scoped
changed_object s k f = record s { objects = changed_by s.objects k f (object_at s k) }

-- with a new object, which has the next number, and linkage or none
abbrev pub added_object : Scoped → Bool → List ℕ → ObjectEntry → Scoped
added_object s has_linkage name o = record s {
  objects = s.objects ++ o ∷ [];
  linked = if has_linkage then s.linked ++ record { name = name; object = length s.objects + 1 } ∷ [] else s.linked;
}

-- a declarator's object and its number
abbrev pub declared_object : Scoped → Bool → Bool → List ℕ → Option ℕ → CType × Bool → Bool → ℕ → ℕ × Scoped
declared_object s has_linkage constant name (Some k) x defines line = (k, with_object (changed_object s k (λ o. declared_again o x defines)) name k)
declared_object s has_linkage constant name None x defines line =
    let k = length s.objects + 1 in (k, with_object (added_object s has_linkage name (first_declared constant x defines line)) name k)

-- the bytes that its initializer says
abbrev pub initialized_object : Scoped → ℕ → Option Value → Scoped
initialized_object s k None = s
initialized_object s k (Some v) = changed_object s k (λ o. record o { bytes = Some (initial_bytes v) })

-- rule 12: within a function `extern` defines nothing (C11 6.7.9p5)
abbrev pub may_define : ℕ → Region → Bool → Option Initial → Result (Unit {0}) Fault
may_define line r is_extern None = Ok tt
may_define line r is_extern (Some i) = if is_extern && not r.is_file then Err (fault line 12) else Ok tt

-- within its initializer an array whose length the initializer says is incomplete (C11 6.7.9p22)
abbrev pub counted_by : Bool → CType × Bool → CType → CType × Bool
counted_by false x element = x
counted_by true x element = (element, true)

abbrev pub element_of : CType → CType
element_of (array e n) = e
element_of t = t

-- rule 2: a name with linkage means an object or a function in the whole file
abbrev pub function_or : Option ℕ → Option Meaning → Option Meaning
function_or None m = m
function_or (Some f) m = Some (Function f)

abbrev pub earlier_linked : Region → Bool → Scoped → List ℕ → Option Meaning
earlier_linked r is_extern s name = if r.is_file || is_extern then function_or (linked_to s.functions.named name) (earlier r s name) else earlier r s name

-- its initializer, typed where its name is declared, and what is known of it behind that
abbrev pub with_initializer : ℕ → CType × Bool → Bool → Option Initial → ℕ × Scoped → Result Scoped Fault
with_initializer line x defines i within = do
  v ← initializer_of true line within.1 x.0 i
  Ok (initialized_object (changed_object within.1 within.0 (λ o. declared_again o x defines)) within.0 v)

abbrev pub typed_object : Region → Bool → Scoped → Named → Full → Option Initial → List (Option ℕ) → Result Scoped Fault
typed_object r is_extern s base d i ls = do
  x ← on_line (full_line d) (object_entry_node s base.constant (earlier_linked r is_extern s (name_of d)) (linked_object r is_extern s (name_of d)) (object_entry_type s.records.done base.type is_extern i ls) (stated_type s.records.done base.type ls) i)
  may ← may_define (full_line d) r is_extern i
  with_initializer (full_line d) x (not is_extern || is_some i) i
      (declared_object s (r.is_file || is_extern) base.constant (name_of d) (linked_object r is_extern s (name_of d)) (counted_by (is_some i && is_open ls) x (element_of x.0)) (not is_extern || is_some i) (full_line d))
