-- The steps that type an object, one behind the other.
use Rattle.std.proofs.Common.{◌≡◌, ℕ, Bool, true, List, Option, Some, None, Result, Ok, Err, ap, sym, subst, ◌∙◌}
use Rattle.std.specs.Prelude.{◌&&◌, ◌||◌, not, is_some, IfSome, OnOk}
use Rattle.c_tree.specs.Declarations.{Initial, Full, name_of}
use Rattle.c_types.specs.Types.{CType}
use Rattle.c_scope.specs.declared.fault.TypingError.{TypingError}
use Rattle.c_scope.specs.declared.meaning.Meaning.{Meaning}
use Rattle.c_scope.specs.Scopes.{Named, Scoped}
use Rattle.c_scope.specs.Faults.{◌>>=◌, Fault, Gives, on_line}
use Rattle.c_elab_expr.proofs.WellTyped.{on_same_line}
use Rattle.c_elab_base.specs.declared.regions.Region.{Region}
use Rattle.c_elab_base.specs.Derivations.{full_line}
use Rattle.c_elab_type.specs.Initializers.{Value, initializer_of}
use Rattle.c_elab_base.specs.Declarators.{is_open}
use Rattle.c_elab_object.specs.ObjectEntries.{object_entry_type, stated_type, object_entry_node, linked_object, earlier_linked, IsObjectThere, counted_by, element_of, may_define, declared_again, declared_object, changed_object, initialized_object, typed_object}
use Rattle.c_elab_object.proofs.SettlingDeclared.{IsLinked, node_linked}

module _ (r : Region) (is_extern : Bool) (s : Scoped) (base : Named) (d : Full) (i : Option Initial) (ls : List (Option ℕ)) where
  abbrev own_line : ℕ
  own_line = full_line d

  abbrev is_defined : Bool
  is_defined = not is_extern || is_some i

  abbrev own_object : Option ℕ
  own_object = linked_object r is_extern s (name_of d)

  abbrev own_node : Result (CType × Bool) Fault
  own_node = on_line own_line (object_entry_node s base.constant (earlier_linked r is_extern s (name_of d)) own_object (object_entry_type s.records.done base.type is_extern i ls) (stated_type s.records.done base.type ls) i)

  -- its number and its scope within the initializer
  abbrev within : CType × Bool → ℕ × Scoped
  within x = declared_object s (r.is_file || is_extern) base.constant (name_of d) own_object (counted_by (is_some i && is_open ls) x (element_of x.0)) is_defined own_line

  abbrev at_value : CType × Bool → ℕ × Scoped → Result (Option Value) Fault → Result Scoped Fault
  at_value x w q = q >>= λ v. Ok (initialized_object (changed_object w.1 w.0 (λ o. declared_again o x is_defined)) w.0 v)

  abbrev at_definition : CType × Bool → Result (Unit {0}) Fault → Result Scoped Fault
  at_definition x q = q >>= λ may. at_value x (within x) (initializer_of true own_line (within x).1 x.0 i)

  abbrev at_type : Result (CType × Bool) Fault → Result Scoped Fault
  at_type q = q >>= λ x. at_definition x (may_define own_line r is_extern i)

  object_typed : (x : CType × Bool) (w : ℕ × Scoped) (v : Option Value) (u : Scoped) → own_node ≡ Ok x → may_define own_line r is_extern i ≡ Ok tt
      → w ≡ within x → initializer_of true own_line w.1 x.0 i ≡ Ok v → u ≡ initialized_object (changed_object w.1 w.0 (λ o. declared_again o x is_defined)) w.0 v
      → typed_object r is_extern s base d i ls ≡ Ok u
  object_typed x w v u g may inner value scope =
      ap at_type g ∙ ap (at_definition x) may ∙ ap (λ (y : ℕ × Scoped). at_value x y (initializer_of true own_line y.1 x.0 i)) (sym inner) ∙ ap (at_value x w) value ∙ ap Ok (sym scope)

declared_as : (s : Scoped) (constant : Bool) (x : CType × Bool) (ls : List (Option ℕ)) (i : Option Initial) (a b : Bool) (name other : List ℕ) (linked found : Option ℕ) (y : CType × Bool) (counted defined defines : Bool) (at line : ℕ)
    → a ≡ b → name ≡ other → linked ≡ found → y ≡ counted_by counted x (element_of x.0) → counted ≡ (is_some i && is_open ls) → defined ≡ defines → at ≡ line
    → declared_object s a constant name linked y defined at ≡ declared_object s b constant other found (counted_by (is_some i && is_open ls) x (element_of x.0)) defines line
declared_as s constant x ls i a b name other linked found y counted defined defines at line e1 e2 e3 e4 e5 e6 e7 =
    ap (λ (c : Bool). declared_object s c constant name linked y defined at) e1
    ∙ ap (λ (n : List ℕ). declared_object s b constant n linked y defined at) e2
    ∙ ap (λ (o : Option ℕ). declared_object s b constant other o y defined at) e3
    ∙ ap (λ (t : CType × Bool). declared_object s b constant other found t defined at) (e4 ∙ ap (λ (c : Bool). counted_by c x (element_of x.0)) e5)
    ∙ ap (λ (c : Bool). declared_object s b constant other found (counted_by (is_some i && is_open ls) x (element_of x.0)) c at) e6
    ∙ ap (declared_object s b constant other found (counted_by (is_some i && is_open ls) x (element_of x.0)) defines) e7

-- the same of what code has
pub typed_as : (r : Region) (is_extern : Bool) (s : Scoped) (base : Named) (d : Full) (i : Option Initial) (at : ℕ) (defined counted has_linkage : Bool) (name : List ℕ) (linked : Option ℕ)
    (ls : List (Option ℕ)) (x y : CType × Bool) (k : ℕ) (w z u : Scoped) (v : Option Value)
    → at ≡ full_line d → defined ≡ (not is_extern || is_some i) → counted ≡ (is_some i && is_open ls) → has_linkage ≡ (r.is_file || is_extern) → name ≡ name_of d → linked ≡ linked_object r is_extern s name
    → on_line (full_line d) (object_entry_node s base.constant (earlier_linked r is_extern s (name_of d)) (linked_object r is_extern s (name_of d)) (object_entry_type s.records.done base.type is_extern i ls) (stated_type s.records.done base.type ls) i) ≡ Ok x
    → may_define at r is_extern i ≡ Ok tt → y ≡ counted_by counted x (element_of x.0) → (k, w) ≡ declared_object s has_linkage base.constant name linked y defined at
    → initializer_of true at w x.0 i ≡ Ok v → z ≡ changed_object w k (λ o. declared_again o x defined) → u ≡ initialized_object z k v → typed_object r is_extern s base d i ls ≡ Ok u
typed_as r is_extern s base d i at defined counted has_linkage name linked ls x y k w z u v e1 e2 e3 e4 e5 e6 h2 h3 h4 h5 h6 h7 h8 =
    object_typed r is_extern s base d i ls x (k, w) v u h2 (ap (λ (l : ℕ). may_define l r is_extern i) (sym e1) ∙ h3)
    (h5 ∙ declared_as s base.constant x ls i has_linkage (r.is_file || is_extern) name (name_of d) linked (linked_object r is_extern s (name_of d)) y counted defined (not is_extern || is_some i) at (full_line d)
    e4 e5 (e6 ∙ ap (linked_object r is_extern s) e5) h4 e3 e2 e1)
    (ap (λ (l : ℕ). initializer_of true l w x.0 i) (sym e1) ∙ h6)
    (h8 ∙ ap (λ (t : Scoped). initialized_object t k v) (h7 ∙ ap (λ (b : Bool). changed_object w k (λ o. declared_again o x b)) e2))

linked_there : (s : Scoped) (linked : Option ℕ) → IsLinked s linked → IfSome linked (λ k. IsObjectThere s k)
linked_there s None h = tt
linked_there s (Some k) h = h

-- the object that a name is linked to is there
pub type_there : {X : Type 0} (view : X → CType × Bool) (made : Result X TypingError) (line : ℕ) (s : Scoped) (constant : Bool) (m : Option Meaning) (linked : Option ℕ) (r : Result (CType × Bool) ℕ) (t : Option (CType × Bool)) (i : Option Initial)
    → Gives view made (on_line line (object_entry_node s constant m linked r t i)) → OnOk made (IfSome linked (λ k. IsObjectThere s k))
type_there view (Ok x) line s constant m linked r t i h =
    linked_there s linked (on_same_line (λ x. IsLinked s linked) line (object_entry_node s constant m linked r t i) (node_linked s constant m linked r t i) (view x) h)
type_there view (Err e) line s constant m linked r t i h = tt

-- what its type is told by, named as its declarator says
pub type_given : {X : Type 0} (view : X → CType × Bool) (made : Result X TypingError) (s : Scoped) (constant : Bool) (r : Result (CType × Bool) ℕ) (i : Option Initial)
    (a b : ℕ) (m n : Option Meaning) (j k : Option ℕ) (t u : Option (CType × Bool)) → a ≡ b → m ≡ n → j ≡ k → t ≡ u
    → Gives view made (on_line a (object_entry_node s constant m j r t i)) → Gives view made (on_line b (object_entry_node s constant n k r u i))
type_given view made s constant r i a b m n j k t u e1 e2 e3 e4 h =
    subst (λ (x : ℕ). Gives view made (on_line x (object_entry_node s constant n k r u i))) e1
    (subst (λ (x : Option Meaning). Gives view made (on_line a (object_entry_node s constant x k r u i))) e2
    (subst (λ (x : Option ℕ). Gives view made (on_line a (object_entry_node s constant m x r u i))) e3
    (subst (λ (x : Option (CType × Bool)). Gives view made (on_line a (object_entry_node s constant m j r x i))) e4 h)))
