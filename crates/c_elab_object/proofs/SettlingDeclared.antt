-- Typedefs, functions and objects that are declared leave a scope that goes on from the one before, without more variables.
use Rattle.std.proofs.Common.{◌≡◌, ◌≤◌, ◌+◌, ℕ, Bool, true, false, List, length, Option, Some, None, Result, Ok, Err, refl, ap, sym, ◌∙◌, arith}
use Rattle.std.specs.Prelude.{◌&&◌, ◌||◌, not, is_some, slice_get, if◌then◌else◌}
use Rattle.c_tree.specs.Declarations.{Initial, Full, Declarators, none_declared, declarator, name_of}
use Rattle.c_types.specs.Types.{CType, function as function_at, Completed}
use Rattle.c_scope.specs.declared.meaning.Meaning.{Meaning}
use Rattle.c_scope.specs.declared.meaning.Meaning.TheVariants.{Variable, Incomplete, Object, Assert, Assume, Draw, BuiltIn, Function, Typedef, Enumerator, Record, Enumeration}
use Rattle.c_scope.specs.Scopes.{Named, FunctionType, ObjectEntry, Scoped, object_at, linked_to, built_in, is_known, object_entry_size}
use Rattle.c_scope.specs.Faults.{on_line}
use Rattle.c_scope.specs.Functions.{type_place}
use Rattle.c_elab_expr.proofs.WellTyped.{Holds, bind, given, refused, on_same_line}
use Rattle.c_elab_base.specs.declared.regions.Region.{Region}
use Rattle.c_elab_base.specs.declared.regions.Role.{Role}
use Rattle.c_elab_base.specs.declared.regions.Role.TheVariants as roles
use Rattle.c_elab_base.specs.Regions.{is_built_in_function, built_in_only, built_in_function, earlier}
use Rattle.c_elab_base.specs.Derivations.{Derived, Derivation, lengths, callable, derivation, full_line}
use Rattle.c_elab_type.specs.Initializers.{Value, initial_bytes, initializer_of, no_initializer}
use Rattle.c_elab_base.specs.Declarators.{with_typedef, is_typedef_of_function, function_typedef_node, with_function_type, with_function_typedef, is_open}
use Rattle.c_elab_type.specs.Declarators.{typed_typedef, typed_function_typedef}
use Rattle.c_elab_type.specs.Specifiers.{typed_full, Specification}
use Rattle.c_elab_object.specs.ObjectEntries.{object_entry_type, stated_type, is_stated_again, is_again, is_linked_to, linked_object, earlier_linked, may_again, object_entry_again, object_entry_node, declared_again, first_declared, with_object, changed_object, added_object, declared_object, initialized_object, may_define, counted_by, element_of, typed_object}
use Rattle.c_elab_object.specs.Functions.{is_own_function, is_function_again, function_again, is_own_built_in, is_built_in_type, function_node, declared_callable, with_meaning, declared_or_built_in, typed_function}
use Rattle.c_elab_object.specs.Functions as functions
use Rattle.c_elab_object.specs.DeclaratorLists.{typedef_by, typed_typedefs, object_by, typed_objects, typed_others}
use Rattle.c_elab_base.proofs.Growing.{There, SettlesIf, Settles, settles_refl, settles_both, settles_where, settles_on, settles_trans, binding_settles, typedef_settles, object_settles, next_known, function_type_settles}
use Rattle.c_elab_type.proofs.Settling.{trivially, weaken, Takes, DerivationFine, derivation_fine, SuffixesDone, full_settles}
use Rattle.c_elab_object.proofs.Redeclaring.{changed_settles, changed_known, declared_callable_settles}

-- ---- typedefs

typed_typedef_settles : (r : Region) (s : Scoped) (base : Named) (d : Full) (i : Option Initial) (ls : List (Option ℕ)) → Holds (Settles s) (typed_typedef r s base d i ls)
typed_typedef_settles r s base d i ls =
    bind (λ (n : Named). Unit {0}) (Settles s) _ _ (trivially _) (λ n _.
    bind (λ (u : Unit {0}). Unit {0}) (Settles s) (no_initializer (full_line d) (with_typedef s (name_of d) n) i) _ (trivially _) (λ u _.
    given (Settles s) (with_typedef s (name_of d) n) (typedef_settles s (name_of d) n)))

-- what is judged is what was made
typedef_gives : (P : FunctionType → Type 0) (s : Scoped) (m : Option Meaning) (made : Result FunctionType ℕ) → Holds P made → Holds P (function_typedef_node s m made)
typedef_gives P s None made h = h
typedef_gives P s (Some m) (Err rule) h = refused P 2
typedef_gives P s (Some m) (Ok f) h = by (is_typedef_of_function s f m) where
  by : (b : Bool) → Holds {E = ℕ} P (if b then Ok f else Err 2)
  by true = given P f (h f refl)
  by false = refused P 2

module _ (H : Type 0) (r : Region) (s : Scoped) (there : H → There s) where
  abbrev Has : FunctionType → Type 0
  Has f = H → Takes s.records.done f

  has_made : (made : Result FunctionType ℕ) → (H → Holds (Takes s.records.done) made) → Holds Has made
  has_made made h = λ f e x. h x f e

  function_typedef_settles : (d : Full) (i : Option Initial) (made : Result FunctionType ℕ) → (H → Holds (Takes s.records.done) made) → Holds (SettlesIf H s) (typed_function_typedef r s d i made)
  function_typedef_settles d i made h =
      let node = function_typedef_node s (earlier r s (name_of d)) made in
      bind Has (SettlesIf H s) (on_line (full_line d) node) _ (on_same_line Has (full_line d) node (typedef_gives Has s (earlier r s (name_of d)) made (has_made made h))) (λ f takes.
      bind (λ (u : Unit {0}). Unit {0}) (SettlesIf H s) (no_initializer (full_line d) (with_function_typedef s (name_of d) f) i) _ (trivially _) (λ u _.
      let t = with_function_type s f in
      let n : Named = record { type = function_at (type_place s.functions.types f); constant = false } in
      given (SettlesIf H s) (with_typedef t (name_of d) n) (settles_on H s t (with_typedef t (name_of d) n) (function_type_settles H s f there takes) (typedef_settles t (name_of d) n))))

  typedef_by_settles : (base : Named) (d : Full) (i : Option Initial) (x : Derivation) → (H → DerivationFine s.records.done x) → Holds (SettlesIf H s) (typedef_by r s base d i x)
  typedef_by_settles base d i (lengths ls) h = weaken (Settles s) (SettlesIf H s) (typed_typedef r s base d i ls) (typed_typedef_settles r s base d i ls) (λ t f. settles_where H (There s) s t there f)
  typedef_by_settles base d i (callable made) h = function_typedef_settles d i made h

  -- ---- functions

  again_gives : (defines : Bool) (k : Option ℕ) (f : FunctionType) → Has f → Holds Has (function_again s defines k f)
  again_gives defines None f h = given Has f h
  again_gives defines (Some k) f h = by (is_function_again f defines (slice_get s.functions.all k)) where
    by : (b : Bool) → Holds {E = ℕ} Has (if b then Ok f else Err 2)
    by true = given Has f h
    by false = refused Has 2

  function_gives_by : (defines : Bool) (own : Option Meaning) (k : Option ℕ) (before : Option Meaning) (f : FunctionType) → Has f → Holds Has (functions.function_made s defines own k before f)
  function_gives_by defines None k before f h = again_gives defines k f h
  function_gives_by defines (Some m) k before f h = by (is_own_built_in before && is_built_in_type m f && not defines) where
    by : (b : Bool) → Holds {E = ℕ} Has (if b then Ok f else Err 2)
    by true = given Has f h
    by false = refused Has 2

  pub function_gives : (defines : Bool) (name : List ℕ) (before : Option Meaning) (made : Result FunctionType ℕ) → Holds Has made → Holds Has (function_node s defines name before made)
  function_gives defines name before (Err rule) h = by (is_some before || is_some (linked_to s.linked name) || is_some (linked_to s.functions.named name) || is_some (built_in_function name)) where
    by : (b : Bool) → Holds {E = ℕ} Has (if b then Err 2 else Err rule)
    by true = refused Has 2
    by false = refused Has rule
  function_gives defines name before (Ok f) h = by (is_some (linked_to s.linked name)) (is_some (built_in_function name) || is_own_function (linked_to s.functions.named name) before) where
    by : (a b : Bool) → Holds {E = ℕ} Has (if a then Err 2 else (if b then functions.function_made s defines (built_in_function name) (linked_to s.functions.named name) before f else Err 2))
    by true b = refused Has 2
    by false true = function_gives_by defines (built_in_function name) (linked_to s.functions.named name) before f (h f refl)
    by false false = refused Has 2

  built_in_known : (t : Scoped) (m : Meaning) → is_built_in_function m ≡ true → is_known t m ≡ true
  built_in_known t (Variable v) h = let none : ⊥ = cc in absurd none
  built_in_known t (Object k) h = let none : ⊥ = cc in absurd none
  built_in_known t Incomplete h = refl
  built_in_known t Assert h = refl
  built_in_known t Assume h = refl
  built_in_known t (Draw u) h = refl
  built_in_known t (BuiltIn b) h = refl
  built_in_known t (Function f) h = refl
  built_in_known t (Typedef n) h = let none : ⊥ = cc in absurd none
  built_in_known t (Enumerator bits) h = refl
  built_in_known t (Record p) h = let none : ⊥ = cc in absurd none
  built_in_known t Enumeration h = refl

  only_built_in : (o : Option Meaning) (m : Meaning) → built_in_only o ≡ Some m → is_built_in_function m ≡ true
  only_built_in None m e = let none : ⊥ = cc in absurd none
  only_built_in (Some n) m e = by (is_built_in_function n) refl e where
    by : (b : Bool) → is_built_in_function n ≡ b → (if b then Some n else None) ≡ Some m → is_built_in_function m ≡ true
    by true is h = let same : n ≡ m = cc in ap is_built_in_function (sym same) ∙ is
    by false is h = let none : ⊥ = cc in absurd none

  meaning_settles : (d : Full) (f : FunctionType) (o : Option Meaning) → built_in_only (built_in (name_of d)) ≡ o → Has f → SettlesIf H s (declared_or_built_in s d f o)
  meaning_settles d f None e h =
      let x = declared_callable s.functions d f false (linked_to s.functions.named (name_of d)) in
      let t = record s { functions = x.1 } in
      settles_on H s t (with_meaning t (name_of d) (Function x.0)) (declared_callable_settles H s d f false (linked_to s.functions.named (name_of d)) there h) (binding_settles t (name_of d) (Function x.0) refl)
  meaning_settles d f (Some m) e h =
      settles_where H (There s) s (with_meaning s (name_of d) m) there (binding_settles s (name_of d) m (built_in_known s m (only_built_in (built_in (name_of d)) m e)))

  pub function_settled : (d : Full) (i : Option Initial) (made : Result FunctionType ℕ) → (H → Holds (Takes s.records.done) made) → Holds (SettlesIf H s) (typed_function r s d i made)
  function_settled d i made h =
      let node = function_node s false (name_of d) (earlier r s (name_of d)) made in
      bind Has (SettlesIf H s) (on_line (full_line d) node) _ (on_same_line Has (full_line d) node (function_gives false (name_of d) (earlier r s (name_of d)) made (has_made made h))) (λ f takes.
      let t = declared_or_built_in s d f (built_in_function (name_of d)) in
      bind (λ (u : Unit {0}). Unit {0}) (SettlesIf H s) (no_initializer (full_line d) t i) _ (trivially _) (λ u _.
      given (SettlesIf H s) t (meaning_settles d f (built_in_function (name_of d)) refl takes)))

-- what the suffixes of a declarator say behind them
pub suffixes_fine : (s : Scoped) (base : Named) (x : List Derived × Scoped) → SuffixesDone s x → There s → DerivationFine x.1.records.done (derivation x.1.functions x.1.records.done base x.0)
suffixes_fine s base x f there = derivation_fine x.1.functions x.1.records.done base x.0 (f.settles.follows.there there).calls.types (f.fine there)

pub typedefs_settle : (r : Region) (s : Scoped) (base : Named) (ds : Declarators) → Holds (Settles s) (typed_typedefs r s base ds)
typedefs_settle r s base none_declared = given (Settles s) s (settles_refl s)
typedefs_settle r s base (declarator d i rest) =
    bind (SuffixesDone s) (Settles s) (typed_full s d) _ (full_settles s d) (λ x f.
    let made = derivation x.1.functions x.1.records.done base x.0 in
    bind (SettlesIf (There s) x.1) (Settles s) (typedef_by r x.1 base d i made) _ (typedef_by_settles (There s) r x.1 f.settles.follows.there base d i made (suffixes_fine s base x f)) (λ t g.
    weaken (Settles t) (Settles s) (typed_typedefs r t base rest) (typedefs_settle r t base rest) (λ u h. settles_trans s t u (settles_both (There s) s x.1 t f.settles g) h)))

-- ---- objects

-- an object is no smaller behind one more declarator of it
again_larger : (done : List Completed) (o : ObjectEntry) (x : CType × Bool) (defines : Bool) → object_entry_size done o ≤ object_entry_size done (declared_again o x defines)
again_larger done o x defines = by o.unknown_length refl where
  by : (u : Bool) → o.unknown_length ≡ u → object_entry_size done o ≤ object_entry_size done (declared_again o x defines)
  by true e = rw e (omega arith)
  by false e = rw e (omega arith)

again_settles : (s : Scoped) (k : ℕ) (x : CType × Bool) (defines : Bool) → Settles s (changed_object s k (λ o. declared_again o x defines))
again_settles s k x defines = changed_settles s k (λ o. declared_again o x defines) (λ o. again_larger s.records.done o x defines)

initialized_settles : (s : Scoped) (k : ℕ) (v : Option Value) → Settles s (initialized_object s k v)
initialized_settles s k None = settles_refl s
initialized_settles s k (Some v) = changed_settles s k (λ o. record o { bytes = Some (initial_bytes v) }) (λ o. omega arith)

-- its object is there where the name is linked to one
abbrev pub IsLinked : Scoped → Option ℕ → Type 0
IsLinked s None = Unit {0}
IsLinked s (Some k) = (o : ObjectEntry) × (object_at s k ≡ Some o)

again_linked : (s : Scoped) (constant : Bool) (k : ℕ) (r : Result (CType × Bool) ℕ) (t : Option (CType × Bool)) (i : Option Initial) → Holds (λ x. IsLinked s (Some k)) (object_entry_again s constant k r t i)
again_linked s constant k (Err rule) t i = either (is_stated_again (object_at s k) constant t i) where
  either : (b : Bool) → Holds {A = CType × Bool} {E = ℕ} (λ x. IsLinked s (Some k)) (if b then Err rule else Err 2)
  either true = refused _ rule
  either false = refused _ 2
again_linked s constant k (Ok x) t i = by (object_at s k) refl where
  node : (b : Bool) (o : ObjectEntry) → object_at s k ≡ Some o → Holds {E = ℕ} (λ x. IsLinked s (Some k)) (if b then Ok x else Err 2)
  node true o e = given (λ x. IsLinked s (Some k)) x (o, e)
  node false o e = refused _ 2

  by : (a : Option ObjectEntry) → object_at s k ≡ a → Holds {E = ℕ} (λ x. IsLinked s (Some k)) (if may_again a constant x i then Ok x else Err 2)
  by None e = refused _ 2
  by (Some o) e = node (is_again o constant x i) o e

pub node_linked : (s : Scoped) (constant : Bool) (m : Option Meaning) (linked : Option ℕ) (r : Result (CType × Bool) ℕ) (t : Option (CType × Bool)) (i : Option Initial)
    → Holds (λ x. IsLinked s linked) (object_entry_node s constant m linked r t i)
node_linked s constant m None r t i = λ x e. tt
node_linked s constant m (Some k) r t i = by (is_linked_to (Some k) m) where
  by : (b : Bool) → Holds {E = ℕ} (λ x. IsLinked s (Some k)) (if b then object_entry_again s constant k r t i else Err 2)
  by true = again_linked s constant k r t i
  by false = refused _ 2

declared_object_settles : (s : Scoped) (has_linkage constant : Bool) (name : List ℕ) (linked : Option ℕ) (x : CType × Bool) (defines : Bool) (line : ℕ) → IsLinked s linked
    → Settles s (declared_object s has_linkage constant name linked x defines line).1
declared_object_settles s has_linkage constant name (Some k) x defines line h =
    let t = changed_object s k (λ o. declared_again o x defines) in
    let known : is_known t (Object k) ≡ true = changed_known s k (λ o. declared_again o x defines) h.0 h.1 in
    settles_trans s t (with_object t name k) (again_settles s k x defines) (binding_settles t name (Object k) known)
declared_object_settles s has_linkage constant name None x defines line h =
    let o = first_declared constant x defines line in
    let t = added_object s has_linkage name o in
    settles_trans s t (with_object t name (length s.objects + 1)) (object_settles s o t.linked) (binding_settles t name (Object (length s.objects + 1)) (next_known s o))

typed_object_settles : (r : Region) (is_extern : Bool) (s : Scoped) (base : Named) (d : Full) (i : Option Initial) (ls : List (Option ℕ)) → Holds (Settles s) (typed_object r is_extern s base d i ls)
typed_object_settles r is_extern s base d i ls =
    let name = name_of d in
    let line = full_line d in
    let linked = linked_object r is_extern s name in
    let defines = not is_extern || is_some i in
    let node = object_entry_node s base.constant (earlier_linked r is_extern s name) linked (object_entry_type s.records.done base.type is_extern i ls) (stated_type s.records.done base.type ls) i in
    bind (λ x. IsLinked s linked) (Settles s) (on_line line node) _
    (on_same_line (λ x. IsLinked s linked) line node (node_linked s base.constant (earlier_linked r is_extern s name) linked (object_entry_type s.records.done base.type is_extern i ls) (stated_type s.records.done base.type ls) i)) (λ x there.
    bind (λ (u : Unit {0}). Unit {0}) (Settles s) (may_define line r is_extern i) _ (trivially _) (λ u _.
    let y = declared_object s (r.is_file || is_extern) base.constant name linked (counted_by (is_some i && is_open ls) x (element_of x.0)) defines line in
    let z = changed_object y.1 y.0 (λ o. declared_again o x defines) in
    bind (λ (v : Option Value). Unit {0}) (Settles s) (initializer_of true line y.1 x.0 i) _ (trivially _) (λ v _.
    given (Settles s) (initialized_object z y.0 v)
    (settles_trans s y.1 (initialized_object z y.0 v)
    (declared_object_settles s (r.is_file || is_extern) base.constant name linked (counted_by (is_some i && is_open ls) x (element_of x.0)) defines line there)
    (settles_trans y.1 z (initialized_object z y.0 v) (again_settles y.1 y.0 x defines) (initialized_settles z y.0 v))))))

object_by_settles : (H : Type 0) (r : Region) (is_extern : Bool) (s : Scoped) (there : H → There s) (base : Named) (d : Full) (i : Option Initial) (x : Derivation) → (H → DerivationFine s.records.done x)
    → Holds (SettlesIf H s) (object_by r is_extern s base d i x)
object_by_settles H r is_extern s there base d i (lengths ls) h =
    weaken (Settles s) (SettlesIf H s) (typed_object r is_extern s base d i ls) (typed_object_settles r is_extern s base d i ls) (λ t f. settles_where H (There s) s t there f)
object_by_settles H r is_extern s there base d i (callable made) h = function_settled H r s there d i made h

objects_settle : (r : Region) (is_extern : Bool) (s : Scoped) (base : Named) (ds : Declarators) → Holds (Settles s) (typed_objects r is_extern s base ds)
objects_settle r is_extern s base none_declared = given (Settles s) s (settles_refl s)
objects_settle r is_extern s base (declarator d i rest) =
    bind (SuffixesDone s) (Settles s) (typed_full s d) _ (full_settles s d) (λ x f.
    let made = derivation x.1.functions x.1.records.done base x.0 in
    bind (SettlesIf (There s) x.1) (Settles s) (object_by r is_extern x.1 base d i made) _ (object_by_settles (There s) r is_extern x.1 f.settles.follows.there base d i made (suffixes_fine s base x f)) (λ t g.
    weaken (Settles t) (Settles s) (typed_objects r is_extern t base rest) (objects_settle r is_extern t base rest) (λ u h. settles_trans s t u (settles_both (There s) s x.1 t f.settles g) h)))

pub others_settle : (r : Region) (x : Specification) (role : Role) (ds : Declarators) → Holds (Settles x.scope) (typed_others r x role ds)
others_settle r x roles.Typedef ds = typedefs_settle r x.scope x.type ds
others_settle r x roles.Extern ds = objects_settle r true x.scope x.type ds
others_settle r x roles.Static ds = objects_settle r false x.scope x.type ds
others_settle r x roles.Automatic ds = objects_settle r false x.scope x.type ds
