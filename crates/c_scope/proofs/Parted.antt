-- A member lies within the object that it is one of.
use Rattle.std.proofs.Common.{◌≡◌, ◌≤◌, ◌+◌, ℕ, zero, suc, List, [], ◌∷◌, max, Option, Some, None, refl, ap, sym, ◌∙◌, arith}
use Rattle.std.specs.Prelude.{slice_get, option_map}
use Rattle.std.specs.Option.{option_and_then}
use Rattle.std.proofs.lemmas.Option.{same_Some}
use Rattle.c_types.specs.declared.types.RecordKind.{RecordKind}
use Rattle.c_types.specs.declared.types.RecordKind.TheVariants.{Struct, Union}
use Rattle.c_types.specs.Types.{CType, void, integer, aggregate, array, pointer, function, Completed}
use Rattle.c_types.specs.Layouts.{Layout, layout_of, record_layout, completed_at, members_of, size_with, size_of, alignment_with, padded, struct_offsets, struct_end, greatest_size, greatest_alignment, zeros, IsBuilt}
use Rattle.c_types.proofs.Kept.{none_members, some_members}
use Rattle.c_types.proofs.MemberLoops.{padded_grows, end_grows}
use Rattle.c_types.proofs.Records.{stands}
use Rattle.c_scope.specs.Members.{member_in, part_at}

-- ---- a member of a struct or union

in_struct : (r : ℕ → Layout) (from : ℕ) (ms : List CType) (i o : ℕ) (t : CType) → slice_get ms i ≡ Some t → slice_get (struct_offsets r from ms) i ≡ Some o → o + size_with r t ≤ struct_end r from ms
in_struct r from [] i o t h g = let none : ⊥ = cc in absurd none
in_struct r from (m ∷ ms) zero o t h g =
    let type : m ≡ t = same_Some m t h in
    let at : padded from (alignment_with r m) ≡ o = same_Some (padded from (alignment_with r m)) o g in
    let same = ap (size_with r) type in
    let grows = end_grows r (padded from (alignment_with r m) + size_with r m) ms in
    omega (arith, at, same, grows)
in_struct r from (m ∷ ms) (suc i) o t h g = in_struct r (padded from (alignment_with r m) + size_with r m) ms i o t h g

in_union : (r : ℕ → Layout) (ms : List CType) (i o : ℕ) (t : CType) → slice_get ms i ≡ Some t → slice_get (zeros ms) i ≡ Some o → o + size_with r t ≤ greatest_size r ms
in_union r [] i o t h g = let none : ⊥ = cc in absurd none
in_union r (m ∷ ms) zero o t h g =
    let type : m ≡ t = same_Some m t h in
    let at : 0 ≡ o = same_Some 0 o g in
    let same = ap (size_with r) type in
    above (size_with r m) (greatest_size r ms) (omega (arith, at, same)) where
      above : (a b : ℕ) → o + size_with r t ≤ a → o + size_with r t ≤ max a b
      above a b le = omega arith
in_union r (m ∷ ms) (suc i) o t h g = above (size_with r m) (greatest_size r ms) (in_union r ms i o t h g) where
  above : (a b : ℕ) → o + size_with r t ≤ b → o + size_with r t ≤ max a b
  above a b le = omega arith

in_record : (r : ℕ → Layout) (k : RecordKind) (ms : List CType) (i o : ℕ) (t : CType) → slice_get ms i ≡ Some t → slice_get (layout_of r k ms).offsets i ≡ Some o → o + size_with r t ≤ (layout_of r k ms).size
in_record r Struct ms i o t h g =
    let inside = in_struct r 0 ms i o t h g in
    let pad = padded_grows (struct_end r 0 ms) (greatest_alignment r ms) in
    omega (arith, inside, pad)
in_record r Union ms i o t h g =
    let inside = in_union r ms i o t h g in
    let pad = padded_grows (greatest_size r ms) (greatest_alignment r ms) in
    omega (arith, inside, pad)

record_within : (done : List Completed) → IsBuilt done → (p i o : ℕ) (t : CType) → slice_get (members_of done p) i ≡ Some t → slice_get (record_layout done p).offsets i ≡ Some o
    → o + size_of done t ≤ (record_layout done p).size
record_within done built p i o t h g = by (completed_at done p) refl where
  by : (c : Option Completed) → completed_at done p ≡ c → o + size_of done t ≤ (record_layout done p).size
  by None none =
      let no : None ≡ Some t = ap (λ (ms : List CType). slice_get ms i) (sym (none_members done p none)) ∙ h in
      let bad : ⊥ = cc in
      absurd bad
  by (Some c) some =
      let stood = (stands done p c built some).1 in
      let members : slice_get c.members i ≡ Some t = ap (λ (ms : List CType). slice_get ms i) (some_members done p c some) ∙ h in
      let offsets : slice_get (layout_of (record_layout done) c.kind c.members).offsets i ≡ Some o = ap (λ (l : Layout). slice_get l.offsets i) (sym stood.layout) ∙ g in
      let inside = in_record (record_layout done) c.kind c.members i o t members offsets in
      let size = ap (λ (l : Layout). l.size) stood.layout in
      omega (arith, inside, size)

-- ---- a member by its number, and the object at the end of a path

both_some : {A B : Type 0} (a : Option A) (b : Option B) (x : A × B) → option_and_then (λ t. option_map (λ o. (t, o)) b) a ≡ Some x → (a ≡ Some x.0) × (b ≡ Some x.1)
both_some None b x h = let none : ⊥ = cc in absurd none
both_some (Some t) None x h = let none : ⊥ = cc in absurd none
both_some {A} {B} (Some t) (Some o) x h =
    let pair : A × B = (t, o) in
    let same : pair ≡ x = same_Some pair x h in
    (ap (λ (y : A × B). Some y.0) same, ap (λ (y : A × B). Some y.1) same)

member_within : (done : List Completed) → IsBuilt done → (t : CType) (i : ℕ) (m : CType × ℕ) → member_in done t i ≡ Some m → m.1 + size_of done m.0 ≤ size_of done t
member_within done built void i m h = let none : ⊥ = cc in absurd none
member_within done built (integer t) i m h = let none : ⊥ = cc in absurd none
member_within done built (aggregate p) i m h =
    let parts = both_some (slice_get (members_of done p) i) (slice_get (record_layout done p).offsets i) m h in
    record_within done built p i m.1 m.0 parts.0 parts.1
member_within done built (array e n) i m h = let none : ⊥ = cc in absurd none
member_within done built (pointer t c) i m h = let none : ⊥ = cc in absurd none
member_within done built (function f) i m h = let none : ⊥ = cc in absurd none

abbrev Inside : List Completed → ℕ → CType → Option (ℕ × CType) → Type 0
Inside done offset t o = (at : ℕ) (u : CType) → o ≡ Some (at, u) → at + size_of done u ≤ offset + size_of done t

pub part_within : (done : List Completed) → IsBuilt done → (offset : ℕ) (t : CType) (path : List ℕ) → Inside done offset t (part_at done offset t path)
part_within done built offset t [] = λ at u e.
    let pair : ℕ × CType = (offset, t) in
    let same : pair ≡ (at, u) = same_Some pair (at, u) e in
    let from = ap (λ (p : ℕ × CType). p.0) same in
    let size = ap (λ (p : ℕ × CType). size_of done p.1) same in
    omega (arith, from, size)
part_within done built offset t (i ∷ path) = by (member_in done t i) refl (λ from u. part_within done built from u path) where
  by : (m : Option (CType × ℕ)) → member_in done t i ≡ m → ((from : ℕ) (u : CType) → Inside done from u (part_at done from u path))
      → Inside done offset t (option_and_then (λ x. part_at done (offset + x.1) x.0 path) m)
  by None none rest = λ at u e. let no : ⊥ = cc in absurd no
  by (Some m) some rest = λ at u e.
      let whole = member_within done built t i m some in
      let inner = rest (offset + m.1) m.0 at u e in
      omega (arith, whole, inner)
