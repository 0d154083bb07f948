-- The objects that items initialize lie within the object that they are items of, and have types that objects may have.
use Rattle.std.proofs.Common.{◌≡◌, ◌≤◌, ◌<◌, ◌+◌, ◌*◌, ℕ, zero, suc, Bool, true, false, List, [], ◌∷◌, Option, Some, None, refl, ap, sym, subst, ◌∙◌, arith}
use Rattle.std.specs.Prelude.{nat_lt, slice_get, option_map, if◌then◌else◌}
use Rattle.std.specs.Option.{option_and_then}
use Rattle.std.proofs.lemmas.Bool.{and_parts}
use Rattle.std.proofs.lemmas.Option.{same_Some}
use borrow.Author.Tests.{ltb-true}
use Rattle.c_types.specs.Types.{CType, void, integer, aggregate, array, pointer, function, Completed, Records}
use Rattle.c_types.specs.Layouts.{is_complete, is_sized, are_complete, are_sized, size_of, kind_at, completed_at, members_of, record_layout, IsBuilt}
use Rattle.c_types.proofs.Kept.{none_members, some_members}
use Rattle.c_types.proofs.Records.{stands}
use Rattle.c_scope.specs.Members.{member_in}
use Rattle.c_scope.proofs.Parted.{part_within}
use Rattle.c_elab_base.specs.Slots.{has_item, slot}

-- a type that an object may have
pub record IsObject (done : List Completed) (t : CType) : Type 0 where
  pub complete : is_complete done t ≡ true
  pub sized : is_sized done t ≡ true

-- an object of a type at an offset lies in one of another type
pub record Lies (done : List Completed) (t : CType) (x : CType × ℕ) : Type 0 where
  pub within : x.1 + size_of done x.0 ≤ size_of done t
  pub object : IsObject done x.0

-- ---- members

member_complete : (done : List Completed) (ms : List CType) (i : ℕ) (t : CType) → slice_get ms i ≡ Some t → are_complete done ms ≡ true → are_sized done ms ≡ true → IsObject done t
member_complete done [] i t h c z = let none : ⊥ = cc in absurd none
member_complete done (m ∷ ms) zero t h c z =
    subst (IsObject done) (same_Some m t h) (record { complete = (and_parts _ _ c).0; sized = (and_parts _ _ z).0 })
member_complete done (m ∷ ms) (suc i) t h c z = member_complete done ms i t h (and_parts _ _ c).1 (and_parts _ _ z).1

record_member : (done : List Completed) → IsBuilt done → (p i : ℕ) (t : CType) → slice_get (members_of done p) i ≡ Some t → IsObject done t
record_member done built p i t h = by (completed_at done p) refl where
  by : (c : Option Completed) → completed_at done p ≡ c → IsObject done t
  by None none =
      let no : None ≡ Some t = ap (λ (ms : List CType). slice_get ms i) (sym (none_members done p none)) ∙ h in
      let bad : ⊥ = cc in
      absurd bad
  by (Some c) some =
      let stood = stands done p c built some in
      member_complete done c.members i t (ap (λ (ms : List CType). slice_get ms i) (some_members done p c some) ∙ h) stood.0 stood.1.sized

first_some : {A B : Type 0} (a : Option A) (b : Option B) (x : A × B) → option_and_then (λ t. option_map (λ o. (t, o)) b) a ≡ Some x → a ≡ Some x.0
first_some None b x h = let none : ⊥ = cc in absurd none
first_some (Some t) None x h = let none : ⊥ = cc in absurd none
first_some {A} {B} (Some t) (Some o) x h =
    let pair : A × B = (t, o) in
    ap (λ (y : A × B). Some y.0) (same_Some pair x h)

member_lies : (done : List Completed) → IsBuilt done → (p i : ℕ) (x : CType × ℕ) → member_in done (aggregate p) i ≡ Some x → Lies done (aggregate p) x
member_lies done built p i x h =
    let inside = part_within done built 0 (aggregate p) (i ∷ []) (0 + x.1) x.0 (ap (λ (o : Option (CType × ℕ)). option_and_then (λ (m : CType × ℕ). Some (0 + m.1, m.0)) o) h) in
    record {
      within = omega (arith, inside);
      object = record_member done built p i x.0 (first_some (slice_get (members_of done p) i) (slice_get (record_layout done p).offsets i) x h);
    }

-- ---- elements

element_room : (i n size : ℕ) → i < n → i * size + size ≤ n * size
element_room i n size h = let room = up n (suc i) h in omega (arith, room) where
  up : (b a : ℕ) → a ≤ b → a * size ≤ b * size
  up b zero h = omega arith
  up zero (suc a) h = omega (arith, h)
  up (suc b) (suc a) h = let less = up b a (omega (arith, h)) in omega (arith, less)

element_lies : (done : List Completed) (element : CType) (n i : ℕ) → IsObject done (array element n) → i < n → Lies done (array element n) (element, i * size_of done element)
element_lies done element n i o h = record {
  within = element_room i n (size_of done element) h;
  object = record { complete = o.complete; sized = (and_parts _ _ o.sized).0 };
}

-- ---- items

pub slot_lies : (rs : Records) → IsBuilt rs.done → (t : CType) (i : ℕ) (x : CType × ℕ) → IsObject rs.done t → slot rs t i ≡ Some x → Lies rs.done t x
slot_lies rs built void i x o h = let none : ⊥ = cc in absurd none
slot_lies rs built (integer t) i x o h = let none : ⊥ = cc in absurd none
slot_lies rs built (aggregate p) i x o h = by (has_item (kind_at rs p) i) h where
  by : (b : Bool) → (if b then member_in rs.done (aggregate p) i else None) ≡ Some x → Lies rs.done (aggregate p) x
  by true e = member_lies rs.done built p i x e
  by false e = let none : ⊥ = cc in absurd none
slot_lies rs built (array element n) i x o h = by (nat_lt i n) refl h where
  by : (b : Bool) → nat_lt i n ≡ b → (if b then Some (element, i * size_of rs.done element) else None) ≡ Some x → Lies rs.done (array element n) x
  by true less e = subst (Lies rs.done (array element n)) (same_Some (element, i * size_of rs.done element) x e) (element_lies rs.done element n i o (ltb-true i n less))
  by false less e = let none : ⊥ = cc in absurd none
slot_lies rs built (pointer t c) i x o h = let none : ⊥ = cc in absurd none
slot_lies rs built (function f) i x o h = let none : ⊥ = cc in absurd none
