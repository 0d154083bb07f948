-- The declarators of a declaration, one behind the other.
use Rattle.std.proofs.Common.{◌≡◌, Bool, List, Option, Result, Ok, Err, ap, sym, ◌∙◌}
use Rattle.c_tree.specs.Declarations.{Initial, Full, Declarators, declarator}
use Rattle.c_scope.specs.Scopes.{Named, Scoped}
use Rattle.c_scope.specs.Faults.{◌>>=◌, Fault}
use Rattle.c_elab_base.specs.declared.regions.Region.{Region}
use Rattle.c_elab_type.specs.Declarators.{Typed}
use Rattle.c_elab_base.specs.Derivations.{Derived, Derivation, derivation}
use Rattle.c_elab_base.specs.Specifiers.{Derivations}
use Rattle.c_elab_type.specs.Specifiers.{typed_full}
use Rattle.c_elab_object.specs.DeclaratorLists.{typedef_by, typed_typedefs, object_by, typed_objects, variable_by, typed_variables}

-- ---- typedefs

abbrev typedef_then : Region → Named → Declarators → Result Scoped Fault → Result Scoped Fault
typedef_then r base rest q = q >>= λ z. typed_typedefs r z base rest

abbrev typedefs_then : Region → Named → Full → Option Initial → Declarators → Derivations → Result Scoped Fault
typedefs_then r base d i rest q = q >>= λ y. typedef_then r base rest (typedef_by r y.1 base d i (derivation y.1.functions y.1.records.done base y.0))

pub typedefs_more : (r : Region) (s t u : Scoped) (base : Named) (d : Full) (i : Option Initial) (rest : Declarators) (ds : List Derived) (x : Derivation) → typed_full s d ≡ Ok (ds, t)
    → x ≡ derivation t.functions t.records.done base ds → typedef_by r t base d i x ≡ Ok u → typed_typedefs r s base (declarator d i rest) ≡ typed_typedefs r u base rest
typedefs_more r s t u base d i rest ds x e is h = ap (typedefs_then r base d i rest) e ∙ ap (typedef_then r base rest) (ap (typedef_by r t base d i) (sym is) ∙ h)

pub typedefs_full_fail : (r : Region) (s : Scoped) (base : Named) (d : Full) (i : Option Initial) (rest : Declarators) (f : Fault) → typed_full s d ≡ Err f → typed_typedefs r s base (declarator d i rest) ≡ Err f
typedefs_full_fail r s base d i rest f e = ap (typedefs_then r base d i rest) e

pub typedefs_by_fail : (r : Region) (s t : Scoped) (base : Named) (d : Full) (i : Option Initial) (rest : Declarators) (ds : List Derived) (x : Derivation) (f : Fault) → typed_full s d ≡ Ok (ds, t)
    → x ≡ derivation t.functions t.records.done base ds → typedef_by r t base d i x ≡ Err f → typed_typedefs r s base (declarator d i rest) ≡ Err f
typedefs_by_fail r s t base d i rest ds x f e is h = ap (typedefs_then r base d i rest) e ∙ ap (typedef_then r base rest) (ap (typedef_by r t base d i) (sym is) ∙ h)

-- ---- objects

abbrev object_then : Region → Bool → Named → Declarators → Result Scoped Fault → Result Scoped Fault
object_then r is_extern base rest q = q >>= λ z. typed_objects r is_extern z base rest

abbrev objects_then : Region → Bool → Named → Full → Option Initial → Declarators → Derivations → Result Scoped Fault
objects_then r is_extern base d i rest q = q >>= λ y. object_then r is_extern base rest (object_by r is_extern y.1 base d i (derivation y.1.functions y.1.records.done base y.0))

pub objects_more : (r : Region) (is_extern : Bool) (s t u : Scoped) (base : Named) (d : Full) (i : Option Initial) (rest : Declarators) (ds : List Derived) (x : Derivation) → typed_full s d ≡ Ok (ds, t)
    → x ≡ derivation t.functions t.records.done base ds → object_by r is_extern t base d i x ≡ Ok u → typed_objects r is_extern s base (declarator d i rest) ≡ typed_objects r is_extern u base rest
objects_more r is_extern s t u base d i rest ds x e is h = ap (objects_then r is_extern base d i rest) e ∙ ap (object_then r is_extern base rest) (ap (object_by r is_extern t base d i) (sym is) ∙ h)

pub objects_full_fail : (r : Region) (is_extern : Bool) (s : Scoped) (base : Named) (d : Full) (i : Option Initial) (rest : Declarators) (f : Fault) → typed_full s d ≡ Err f
    → typed_objects r is_extern s base (declarator d i rest) ≡ Err f
objects_full_fail r is_extern s base d i rest f e = ap (objects_then r is_extern base d i rest) e

pub objects_by_fail : (r : Region) (is_extern : Bool) (s t : Scoped) (base : Named) (d : Full) (i : Option Initial) (rest : Declarators) (ds : List Derived) (x : Derivation) (f : Fault) → typed_full s d ≡ Ok (ds, t)
    → x ≡ derivation t.functions t.records.done base ds → object_by r is_extern t base d i x ≡ Err f → typed_objects r is_extern s base (declarator d i rest) ≡ Err f
objects_by_fail r is_extern s t base d i rest ds x f e is h = ap (objects_then r is_extern base d i rest) e ∙ ap (object_then r is_extern base rest) (ap (object_by r is_extern t base d i) (sym is) ∙ h)

-- ---- variables

abbrev variables_then : Region → Named → Full → Option Initial → Bool → (Scoped → Typed) → Derivations → Typed
variables_then r base d i passed behind q = q >>= λ y. variable_by r y.1 base d i passed (derivation y.1.functions y.1.records.done base y.0) behind

-- a variable and those behind it
pub variables_more : (r : Region) (s t : Scoped) (base : Named) (d : Full) (i : Option Initial) (passed : Bool) (rest : Declarators) (behind : Scoped → Typed) (ds : List Derived) (x : Derivation)
    → typed_full s d ≡ Ok (ds, t) → x ≡ derivation t.functions t.records.done base ds
    → typed_variables r s base passed (declarator d i rest) behind ≡ variable_by r t base d i passed x (λ u. typed_variables r u base passed rest behind)
variables_more r s t base d i passed rest behind ds x e is =
    let after : Scoped → Typed = λ u. typed_variables r u base passed rest behind in
    ap (variables_then r base d i passed after) e ∙ ap (λ (y : Derivation). variable_by r t base d i passed y after) (sym is)

pub variables_full_fail : (r : Region) (s : Scoped) (base : Named) (d : Full) (i : Option Initial) (passed : Bool) (rest : Declarators) (behind : Scoped → Typed) (f : Fault) → typed_full s d ≡ Err f
    → typed_variables r s base passed (declarator d i rest) behind ≡ Err f
variables_full_fail r s base d i passed rest behind f e = ap (variables_then r base d i passed (λ u. typed_variables r u base passed rest behind)) e
