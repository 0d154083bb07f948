-- The names with linkage, which a map holds in the order in which they got it, and sets of names.
use Rattle.std.proofs.Common.{◌≡◌, Bool, true, false, List, [], ◌∷◌, ◌++◌, ℕ, Option, Some, None, map, nat_eq, refl, ap}
use Rattle.std.specs.Prelude.{◌||◌, if◌then◌else◌, Vec}
use Rattle.std.specs.List.{list_any}
use Rattle.std.proofs.lemmas.List.{map-append}
use Rattle.std.specs.Map.{lookup}
use Rattle.std.specs.Str.{bytes_eq}
use Rattle.std.specs.Cmp.Lexicographic.{pointwise}
use Rattle.std.specs.Global.{Global}
use Rattle.indexmap.specs.IndexMap.{insert_entry}
use Rattle.c_scope.specs.Scopes.{Linked, view_linked, linked_to}

-- what the map has for a name
pub linked_by : (name : List ℕ) (es : List (Vec ℕ Global × ℕ)) → lookup (λ (x : Vec ℕ Global). pointwise nat_eq name x.items) es ≡ linked_to (map view_linked es) name
linked_by name [] = refl
linked_by name (e ∷ es) = ap (λ (o : Option ℕ). if bytes_eq name e.0.items then Some e.1 else o) (linked_by name es)

-- a name that isn't there stands behind the others
pub new_link : (es : List (Vec ℕ Global × ℕ)) (k : Vec ℕ Global) (v : ℕ) → linked_to (map view_linked es) k.items ≡ None
    → map view_linked (insert_entry (λ (x y : Vec ℕ Global). pointwise nat_eq x.items y.items) es k v) ≡ map view_linked es ++ view_linked (k, v) ∷ []
new_link [] k v e = refl
new_link (x ∷ es) k v e = either (bytes_eq k.items x.0.items) e (new_link es k v) where
  behind : List (Vec ℕ Global × ℕ)
  behind = insert_entry (λ (x y : Vec ℕ Global). pointwise nat_eq x.items y.items) es k v

  either : (b : Bool) → (if b then Some x.1 else linked_to (map view_linked es) k.items) ≡ None
      → (linked_to (map view_linked es) k.items ≡ None → map view_linked behind ≡ map view_linked es ++ view_linked (k, v) ∷ [])
      → map view_linked (if b then (x.0, v) ∷ es else x ∷ behind) ≡ view_linked x ∷ (map view_linked es ++ view_linked (k, v) ∷ [])
  either true e h = let no : ⊥ = cc in absurd no
  either false e h = ap (λ (ls : List Linked). view_linked x ∷ ls) (h e)

-- ---- a set of names

abbrev pub Keys : Type 0
Keys = List (Vec ℕ Global)

pub among_keys : (keys : Keys) (name : List ℕ) → list_any (λ (k : Vec ℕ Global). bytes_eq name k.items) keys ≡ list_any (λ n. bytes_eq name n) (map (λ k. k.items) keys)
among_keys [] name = refl
among_keys (n ∷ keys) name = ap (λ (b : Bool). bytes_eq name n.items || b) (among_keys keys name)

pub added_key : (keys : Keys) (own : Vec ℕ Global) (b : Bool)
    → map (λ k. k.items) (if b then keys else keys ++ own ∷ []) ≡ (if b then map (λ k. k.items) keys else map (λ k. k.items) keys ++ own.items ∷ [])
added_key keys own true = refl
added_key keys own false = map-append (λ (k : Vec ℕ Global). k.items) keys (own ∷ [])
