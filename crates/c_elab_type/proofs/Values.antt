-- Items of braces, one behind the other.
use Rattle.std.proofs.Common.{◌≡◌, ℕ, suc, Bool, List, [], ◌∷◌, ◌++◌, length, Result, Ok, Err, map, reverse, refl, ap, sym, ◌∙◌, arith}
use Rattle.std.proofs.lemmas.List.{append_assoc, length-append, map-append, reverse-append}
use Rattle.c_tree.specs.declared.declaration.Initializer.{Initializer}
use Rattle.c_tree.specs.Declarations.{Initial, Initials, initials, initials_of}
use Rattle.c_types.specs.Types.{CType}
use Rattle.core_tree.specs.declared.expression.CorePart.{CorePart}
use Rattle.core_tree.specs.Trees.{with_part, parts_of}
use Rattle.c_scope.specs.Scopes.{Scoped}
use Rattle.c_scope.specs.Faults.{◌>>=◌, Fault}
use Rattle.c_elab_type.specs.declared.items.Made.{Made as CodeMade}
use Rattle.c_elab_base.specs.Slots.{slot, slot_type}
use Rattle.c_elab_type.specs.Initializers.{count, Made, typed_initial, typed_initials, view_made}

abbrev pub views : List CodeMade → List Made
views xs = map view_made xs

abbrev pub items_first : List Made → Result (List Made) Fault → Result (List Made) Fault
items_first xs r = r >>= λ ys. Ok (xs ++ ys)

pub none_first : (r : Result (List Made) Fault) → items_first [] r ≡ r
none_first (Ok xs) = refl
none_first (Err f) = refl

item_first : (xs : List Made) (x : Made) (r : Result (List Made) Fault) → items_first xs (r >>= λ ys. Ok (x ∷ ys)) ≡ items_first (xs ++ x ∷ []) r
item_first xs x (Ok ys) = ap Ok (sym (append_assoc xs (x ∷ []) ys))
item_first xs x (Err f) = refl

-- one item more: it is the one with the number of those before it
pub item_more : (object_entry : Bool) (s : Scoped) (t : CType) (i : Initial) (rest : Initials) (x : CodeMade) (n : ℕ) (before now : List CodeMade)
    → typed_initial object_entry s (slot_type (slot s.records t n)) i ≡ Ok (view_made x) → now ≡ before ++ x ∷ []
    → items_first (views before) (typed_initials object_entry s t n (initials i rest)) ≡ items_first (views now) (typed_initials object_entry s t (suc n) rest)
item_more object_entry s t i rest x n before now e items =
    ap (λ (r : Result Made Fault). items_first (views before) (r >>= λ y. typed_initials object_entry s t (suc n) rest >>= λ ys. Ok (y ∷ ys))) e
    ∙ item_first (views before) (view_made x) (typed_initials object_entry s t (suc n) rest)
    ∙ ap (λ (xs : List Made). items_first xs (typed_initials object_entry s t (suc n) rest)) (sym (ap views items ∙ map-append view_made before (x ∷ [])))

pub item_fails : (object_entry : Bool) (s : Scoped) (t : CType) (i : Initial) (rest : Initials) (xs : List Made) (n : ℕ) (f : Fault) → typed_initial object_entry s (slot_type (slot s.records t n)) i ≡ Err f
    → items_first xs (typed_initials object_entry s t n (initials i rest)) ≡ Err f
item_fails object_entry s t i rest xs n f e = ap (λ (r : Result Made Fault). items_first xs (r >>= λ y. typed_initials object_entry s t (suc n) rest >>= λ ys. Ok (y ∷ ys))) e

pub one_longer : (before now : List CodeMade) (x : CodeMade) → now ≡ before ++ x ∷ [] → length now ≡ suc (length before)
one_longer before now x e = let long = length-append before (x ∷ []) in let same = ap (λ (xs : List CodeMade). length xs) e in omega (arith, long, same)

-- ---- parts, of which the last stands first

pub part_first : (parts : List CorePart) (p : CorePart) → parts_of (reverse (parts ++ p ∷ [])) ≡ with_part p (parts_of (reverse parts))
part_first parts p = ap parts_of (reverse-append parts (p ∷ []))

-- ---- how many items there are

pub counted : (is : List Initializer) → count (initials_of is) ≡ length is
counted [] = refl
counted (i ∷ is) = ap suc (counted is)
