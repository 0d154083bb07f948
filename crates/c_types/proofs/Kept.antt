-- What is kept of the records of a file is what their definitions say.
use Rattle.std.proofs.Common.{◌≡◌, ◌≤◌, ◌<◌, ◌++◌, ◌+◌, ◌∷◌, [], true, false, ℕ, zero, suc, length, None, Some, Option, MatchOption, slice_get, slice_set, slice_index_or, Bool, List, map, max, ◌==◌, if◌then◌else◌, refl, ap, sym, ◌∙◌, subst, ap₂, eq-eqb, ne_eqb, leb-true, arith, Bor}
use Rattle.std.proofs.lemmas.Bool.{and_parts, cases_eq}
use Rattle.std.proofs.lemmas.Option.{same_Some}
use Rattle.std.proofs.lemmas.List.{length-map}
use mathlib.Core.Logic.{inl, inr, ◌⊎◌}
use Rattle.c_types.specs.declared.types.RecordKind.{RecordKind}
use Rattle.c_types.specs.declared.types.RecordKind.TheVariants.{Struct, Union}
use Rattle.c_types.specs.declared.layouts.Whole.{Whole}
use Rattle.c_types.specs.declared.layouts.Declared.{Declared}
use Rattle.c_types.specs.Types.{CType, views, Completed, Records}
use Rattle.c_types.specs.Layouts.{Layout, no_layout, is_completed, completed_at, record_layout, layout_of, greatest_alignment, alignment_with, size_with, padded, struct_offsets, zeros, are_complete, fits, with_completed, most_bytes, members_of, IsBuilt}
use Rattle.c_types.specs.Fields.{completed_of, newest_first, records_of, completion_of, Holds, Stands, IsKept, Extends}

-- ---- found

pub stands_none : (ws : List Whole) (done : List Completed) (n : ℕ) (o : Option ℕ) → Stands ws done n o → o ≡ None → completed_at done n ≡ None
stands_none ws done n o h is = subst (λ (x : Option ℕ). Stands ws done n x) is h

pub stands_some : (ws : List Whole) (done : List Completed) (n i : ℕ) (o : Option ℕ) → Stands ws done n o → o ≡ Some i → MatchOption (slice_get ws i) ⊥ (Holds done n)
stands_some ws done n i o h is = subst (λ (x : Option ℕ). Stands ws done n x) is h

pub held : (done : List Completed) (n : ℕ) (X : Type 0) (r : Option (Bor Whole)) (at : Option Whole) → MatchOption r (at ≡ None) (λ w. at ≡ Some w.now)
    → MatchOption at ⊥ (Holds done n) → MatchOption r X (λ w. Holds done n w.now)
held done n X None at is h = let none : ⊥ = subst (λ (x : Option Whole). MatchOption x ⊥ (Holds done n)) is h in absurd none
held done n X (Some w) at is h = subst (λ (x : Option Whole). MatchOption x ⊥ (Holds done n)) is h

-- ---- what is known of a record

pub none_completed : (done : List Completed) (n : ℕ) → completed_at done n ≡ None → is_completed done n ≡ false
none_completed [] n is = refl
none_completed (c ∷ older) n is = by (c.place == n) is (none_completed older n) where
  by : (b : Bool) → (if b then Some c else completed_at older n) ≡ None → (completed_at older n ≡ None → is_completed older n ≡ false) → (if b then true else is_completed older n) ≡ false
  by true none rest = let none : ⊥ = cc in absurd none
  by false none rest = rest none

pub some_completed : (done : List Completed) (n : ℕ) (w : Completed) → completed_at done n ≡ Some w → is_completed done n ≡ true
some_completed [] n w is = let none : ⊥ = cc in absurd none
some_completed (c ∷ older) n w is = by (c.place == n) is (some_completed older n w) where
  by : (b : Bool) → (if b then Some c else completed_at older n) ≡ Some w → (completed_at older n ≡ Some w → is_completed older n ≡ true) → (if b then true else is_completed older n) ≡ true
  by true some rest = refl
  by false some rest = rest some

pub none_layout : (done : List Completed) (n : ℕ) → completed_at done n ≡ None → record_layout done n ≡ no_layout
none_layout [] n is = refl
none_layout (c ∷ older) n is = by (c.place == n) is (none_layout older n) where
  by : (b : Bool) → (if b then Some c else completed_at older n) ≡ None → (completed_at older n ≡ None → record_layout older n ≡ no_layout)
      → (if b then layout_of (record_layout older) c.kind c.members else record_layout older n) ≡ no_layout
  by true none rest = let none : ⊥ = cc in absurd none
  by false none rest = rest none

pub none_members : (done : List Completed) (n : ℕ) → completed_at done n ≡ None → members_of done n ≡ []
none_members [] n is = refl
none_members (c ∷ older) n is = by (c.place == n) is (none_members older n) where
  by : (b : Bool) → (if b then Some c else completed_at older n) ≡ None → (completed_at older n ≡ None → members_of older n ≡ []) → (if b then c.members else members_of older n) ≡ []
  by true none rest = let none : ⊥ = cc in absurd none
  by false none rest = rest none

pub some_members : (done : List Completed) (n : ℕ) (w : Completed) → completed_at done n ≡ Some w → w.members ≡ members_of done n
some_members [] n w is = let none : ⊥ = cc in absurd none
some_members (c ∷ older) n w is = by (c.place == n) is (some_members older n w) where
  by : (b : Bool) → (if b then Some c else completed_at older n) ≡ Some w → (completed_at older n ≡ Some w → w.members ≡ members_of older n) → w.members ≡ (if b then c.members else members_of older n)
  by true some rest = ap (λ (x : Completed). x.members) (sym (same_Some c w some))
  by false some rest = rest some

pub small_record : (done : List Completed) (n : ℕ) → IsBuilt done → (record_layout done n).size ≤ most_bytes
small_record [] n built = omega arith
small_record (c ∷ older) n built = by (c.place == n) (small_record older n built.3) where
  by : (b : Bool) → (record_layout older n).size ≤ most_bytes → (if b then layout_of (record_layout older) c.kind c.members else record_layout older n).size ≤ most_bytes
  by true rest = leb-true _ _ (and_parts _ _ built.2).1
  by false rest = rest

one_at_least : (r : ℕ → Layout) (ms : List CType) → 1 ≤ greatest_alignment r ms
one_at_least r [] = omega arith
one_at_least r (m ∷ ms) = by (alignment_with r m) (greatest_alignment r ms) (one_at_least r ms) where
  by : (a b : ℕ) → 1 ≤ b → 1 ≤ max a b
  by a b le = omega arith

layout_alignment : (r : ℕ → Layout) (k : RecordKind) (ms : List CType) → (layout_of r k ms).alignment ≡ greatest_alignment r ms
layout_alignment r Struct ms = refl
layout_alignment r Union ms = refl

pub positive_record : (done : List Completed) (n : ℕ) → 1 ≤ (record_layout done n).alignment
positive_record [] n = omega arith
positive_record (c ∷ older) n = by (c.place == n) (positive_record older n) where
  by : (b : Bool) → 1 ≤ (record_layout older n).alignment → 1 ≤ (if b then layout_of (record_layout older) c.kind c.members else record_layout older n).alignment
  by true rest = rw (layout_alignment (record_layout older) c.kind c.members) (one_at_least (record_layout older) c.members)
  by false rest = rest

pub none_size : (done : List Completed) (n : ℕ) → completed_at done n ≡ None → 0 ≡ (record_layout done n).size
none_size done n is = ap (λ (l : Layout). l.size) (sym (none_layout done n is))

pub none_alignment : (done : List Completed) (n : ℕ) → completed_at done n ≡ None → 1 ≡ (record_layout done n).alignment
none_alignment done n is = ap (λ (l : Layout). l.alignment) (sym (none_layout done n is))

pub none_offsets : (done : List Completed) (n : ℕ) → completed_at done n ≡ None → [] ≡ (record_layout done n).offsets
none_offsets done n is = ap (λ (l : Layout). l.offsets) (sym (none_layout done n is))

pub no_members : (done : List Completed) (n : ℕ) → completed_at done n ≡ None → [] ≡ members_of done n
no_members done n is = sym (none_members done n is)

pub small_held : (done : List Completed) (n : ℕ) (w : Whole) → IsBuilt done → Holds done n w → w.size ≤ most_bytes
small_held done n w built h = rw h.size (small_record done n built)

pub positive_held : (done : List Completed) (n : ℕ) (w : Whole) → Holds done n w → 1 ≤ w.alignment
positive_held done n w h = rw h.alignment (positive_record done n)

pub completed_held : (done : List Completed) (n : ℕ) (w : Whole) → Holds done n w → true ≡ is_completed done n
completed_held done n w h = sym (some_completed done n (completed_of w) h.is)

pub incomplete_held : (done : List Completed) (n : ℕ) → completed_at done n ≡ None → false ≡ is_completed done n
incomplete_held done n is = sym (none_completed done n is)

pub members_held : (done : List Completed) (n : ℕ) (w : Whole) → Holds done n w → views w.members.items ≡ members_of done n
members_held done n w h = some_members done n (completed_of w) h.is

-- ---- one more is declared

completion_more : (ds : List Declared) (k : RecordKind) (n : ℕ) → completion_of (ds ++ record { kind = k; completion = None } ∷ []) n ≡ completion_of ds n
completion_more [] k zero = refl
completion_more [] k (suc n) = refl
completion_more (d ∷ ds) k zero = refl
completion_more (d ∷ ds) k (suc n) = completion_more ds k n

pub declared_kept : (ds : List Declared) (ws : List Whole) (k : RecordKind) → IsKept ds ws
    → ((n : ℕ) → Stands ws (newest_first [] ws) n (completion_of (ds ++ record { kind = k; completion = None } ∷ []) n)) × IsBuilt (newest_first [] ws)
declared_kept ds ws k kept = (λ n. subst (λ (o : Option ℕ). Stands ws (newest_first [] ws) n o) (sym (completion_more ds k n)) (kept.0 n), kept.1)

-- ---- one more is completed

completion_set : (ds : List Declared) (n : ℕ) (d : Declared) → n < length ds → completion_of (slice_set ds n d) n ≡ d.completion
completion_set [] n d lt = let none : ⊥ = omega arith in absurd none
completion_set (e ∷ ds) zero d lt = refl
completion_set (e ∷ ds) (suc n) d lt = let less : n < length ds = omega arith in completion_set ds n d less

completion_kept : (ds : List Declared) (m n : ℕ) (d : Declared) → (m ≡ n → ⊥) → completion_of (slice_set ds m d) n ≡ completion_of ds n
completion_kept [] m n d other = refl
completion_kept (e ∷ ds) zero zero d other = absurd (other refl)
completion_kept (e ∷ ds) zero (suc n) d other = refl
completion_kept (e ∷ ds) (suc m) zero d other = refl
completion_kept (e ∷ ds) (suc m) (suc n) d other = completion_kept ds m n d (λ is. other (ap suc is))

pub kinds_kept : (ds : List Declared) (n : ℕ) (r : Declared) (o : Option ℕ) → r ≡ slice_index_or ds n r
    → map (λ d. d.kind) (slice_set ds n (record { kind = r.kind; completion = o })) ≡ map (λ d. d.kind) ds
kinds_kept [] n r o is = refl
kinds_kept (d ∷ ds) zero r o is = ap (λ (x : Declared). x.kind ∷ map (λ y. y.kind) ds) is
kinds_kept (d ∷ ds) (suc n) r o is = ap (λ (ks : List RecordKind). d.kind ∷ ks) (kinds_kept ds n r o is)

pub newest_push : (done : List Completed) (ws : List Whole) (w : Whole) → newest_first done (ws ++ w ∷ []) ≡ completed_of w ∷ newest_first done ws
newest_push done [] w = refl
newest_push done (v ∷ ws) w = newest_push (completed_of v ∷ done) ws w

holds_more : (done : List Completed) (c : Completed) (n : ℕ) (w : Whole) → (c.place == n) ≡ false → Holds done n w → Holds (c ∷ done) n w
holds_more done c n w other h = record {
  is = ap (λ (b : Bool). if b then Some c else completed_at done n) other ∙ h.is;
  size = h.size ∙ sym (ap (λ (b : Bool). (if b then layout_of (record_layout done) c.kind c.members else record_layout done n).size) other);
  alignment = h.alignment ∙ sym (ap (λ (b : Bool). (if b then layout_of (record_layout done) c.kind c.members else record_layout done n).alignment) other);
  offsets = h.offsets ∙ sym (ap (λ (b : Bool). (if b then layout_of (record_layout done) c.kind c.members else record_layout done n).offsets) other);
}

holds_pushed : (done : List Completed) (c : Completed) (n i : ℕ) (ws : List Whole) (w : Whole) → (c.place == n) ≡ false
    → MatchOption (slice_get ws i) ⊥ (Holds done n) → MatchOption (slice_get (ws ++ w ∷ []) i) ⊥ (Holds (c ∷ done) n)
holds_pushed done c n i [] w other h = absurd h
holds_pushed done c n zero (v ∷ ws) w other h = holds_more done c n v other h
holds_pushed done c n (suc i) (v ∷ ws) w other h = holds_pushed done c n i ws w other h

stands_more : (done : List Completed) (c : Completed) (n : ℕ) (ws : List Whole) (w : Whole) (o : Option ℕ) → (c.place == n) ≡ false
    → Stands ws done n o → Stands (ws ++ w ∷ []) (c ∷ done) n o
stands_more done c n ws w None other h = ap (λ (b : Bool). if b then Some c else completed_at done n) other ∙ h
stands_more done c n ws w (Some i) other h = holds_pushed done c n i ws w other h

at_end : (P : Whole → Type 0) (ws : List Whole) (w : Whole) → P w → MatchOption (slice_get (ws ++ w ∷ []) (length ws)) ⊥ P
at_end P [] w p = p
at_end P (v ∷ ws) w p = at_end P ws w p

holds_new : (done : List Completed) (w : Whole) → Extends (layout_of (record_layout done) w.kind (views w.members.items)) (record { offsets = w.offsets; size = w.size; alignment = w.alignment })
    → Holds (completed_of w ∷ done) w.place w
holds_new done w e = let one = eq-eqb w.place w.place refl in record {
  is = ap (λ (b : Bool). if b then Some (completed_of w) else completed_at done w.place) one;
  size = e.size ∙ sym (ap (λ (b : Bool). (if b then layout_of (record_layout done) w.kind (views w.members.items) else record_layout done w.place).size) one);
  alignment = e.alignment ∙ sym (ap (λ (b : Bool). (if b then layout_of (record_layout done) w.kind (views w.members.items) else record_layout done w.place).alignment) one);
  offsets = e.offsets ∙ sym (ap (λ (b : Bool). (if b then layout_of (record_layout done) w.kind (views w.members.items) else record_layout done w.place).offsets) one);
}

-- the fields once one more is completed stand for the records with it
pub completed_kept : (ds : List Declared) (ws : List Whole) (w : Whole) (k : RecordKind) (i : ℕ) → i ≡ length ws → w.place < length (records_of ds ws).declared → IsKept ds ws
    → is_completed (newest_first [] ws) w.place ≡ false
    → are_complete (newest_first [] ws) (views w.members.items) ≡ true
    → fits (newest_first [] ws) w.kind (views w.members.items) ≡ true
    → Extends (layout_of (record_layout (newest_first [] ws)) w.kind (views w.members.items)) (record { offsets = w.offsets; size = w.size; alignment = w.alignment })
    → ((n : ℕ) → Stands (ws ++ w ∷ []) (newest_first [] (ws ++ w ∷ [])) n (completion_of (slice_set ds w.place (record { kind = k; completion = Some i })) n))
    × IsBuilt (newest_first [] (ws ++ w ∷ []))
completed_kept ds ws w k i end lt kept incomplete complete fit extent = (all, built) where
  done : List Completed
  done = newest_first [] ws

  less : w.place < length ds
  less = subst (λ (k : ℕ). w.place < k) (length-map ds (λ (d : Declared). d.kind)) lt

  new : Declared
  new = record { kind = k; completion = Some i }

  by : (n : ℕ) → (w.place ≡ n) ⊎ (w.place ≡ n → ⊥) → Stands (ws ++ w ∷ []) (completed_of w ∷ done) n (completion_of (slice_set ds w.place new) n)
  by n (inl is) = subst (λ (m : ℕ). Stands (ws ++ w ∷ []) (completed_of w ∷ done) m (completion_of (slice_set ds w.place new) m)) is
      (subst (λ (o : Option ℕ). Stands (ws ++ w ∷ []) (completed_of w ∷ done) w.place o) (sym (completion_set ds w.place new less))
      (subst (λ (j : ℕ). MatchOption (slice_get (ws ++ w ∷ []) j) ⊥ (Holds (completed_of w ∷ done) w.place)) (sym end) (at_end (Holds (completed_of w ∷ done) w.place) ws w (holds_new done w extent))))
  by n (inr other) = subst (λ (o : Option ℕ). Stands (ws ++ w ∷ []) (completed_of w ∷ done) n o) (sym (completion_kept ds w.place n new other))
      (stands_more done (completed_of w) n ws w (completion_of ds n) (ne_eqb w.place n other) (kept.0 n))

  all : (n : ℕ) → Stands (ws ++ w ∷ []) (newest_first [] (ws ++ w ∷ [])) n (completion_of (slice_set ds w.place new) n)
  all n = subst (λ (cs : List Completed). Stands (ws ++ w ∷ []) cs n (completion_of (slice_set ds w.place new) n)) (sym (newest_push [] ws w)) (by n (cases_eq w.place n))

  built : IsBuilt (newest_first [] (ws ++ w ∷ []))
  built = subst IsBuilt (sym (newest_push [] ws w)) (incomplete, complete, fit, kept.1)

abbrev records_with : List RecordKind → List Completed → Records
records_with k d = record { declared = k; done = d }

pub view_completed : (ds : List Declared) (ws : List Whole) (w : Whole) (r : Declared) (o : Option ℕ) → r ≡ slice_index_or ds w.place r
    → records_of (slice_set ds w.place (record { kind = r.kind; completion = o })) (ws ++ w ∷ []) ≡ with_completed (records_of ds ws) w.place w.kind (views w.members.items)
view_completed ds ws w r o is = ap₂ records_with (kinds_kept ds w.place r o is) (newest_push [] ws w)

-- ---- a record has an offset for each member

struct_lengths : (r : ℕ → Layout) (from : ℕ) (ms : List CType) → length (struct_offsets r from ms) ≡ length ms
struct_lengths r from [] = refl
struct_lengths r from (m ∷ ms) = ap suc (struct_lengths r (padded from (alignment_with r m) + size_with r m) ms)

union_lengths : (ms : List CType) → length (zeros ms) ≡ length ms
union_lengths [] = refl
union_lengths (m ∷ ms) = ap suc (union_lengths ms)

layout_lengths : (r : ℕ → Layout) (k : RecordKind) (ms : List CType) → length (layout_of r k ms).offsets ≡ length ms
layout_lengths r Struct ms = struct_lengths r 0 ms
layout_lengths r Union ms = union_lengths ms

pub offset_lengths : (done : List Completed) (n : ℕ) → length (record_layout done n).offsets ≡ length (members_of done n)
offset_lengths [] n = refl
offset_lengths (c ∷ older) n = by (c.place == n) (offset_lengths older n) where
  by : (b : Bool) → length (record_layout older n).offsets ≡ length (members_of older n)
      → length (if b then layout_of (record_layout older) c.kind c.members else record_layout older n).offsets ≡ length (if b then c.members else members_of older n)
  by true rest = layout_lengths (record_layout older) c.kind c.members
  by false rest = rest
