-- Where a place within a variable lies: in that variable, whose bytes are there.
use Rattle.std.proofs.Common.{◌≡◌, ℕ, zero, suc, ◌+◌, true, ◌&&◌, nat_lt, nat_le, List, [], ◌∷◌, length, slice_index, refl, sym, ap, subst, ◌∙◌}
use Rattle.std.specs.Prelude.{Option, None, Some, slice_get}
use Rattle.std.proofs.lemmas.Option.{same_Some}
use Rattle.core_tree.specs.declared.functions.Variable.{Variable}
use Rattle.core_tree.specs.Trees.{Place, variable_at, object_at, literal_at, pointed, arrow, member, element, subscript}
use Rattle.core_tree.specs.Typed.{Sizes, is_within, is_place, is_integer, is_typed, is_size, object_size, type_of, sizes_of_variables}
use Rattle.c_meaning.specs.Meaning.{Running, size_in_list, own_variable, home_of, size_of, variable_of}
use Rattle.c_meaning.proofs.Holding.{left_of, right_of, both}

-- ---- sizes of variables

pub size_listed : (vs : List Variable) (v : ℕ) → size_in_list (slice_get vs v) ≡ slice_index (sizes_of_variables vs) v
size_listed [] v = refl
size_listed (x ∷ vs) zero = refl
size_listed (x ∷ vs) (suc v) = size_listed vs v

pub lies_within : (vs : List Variable) (v offset count : ℕ) → nat_lt v (length (sizes_of_variables vs)) ≡ true → nat_le (offset + count) (size_in_list (slice_get vs v)) ≡ true → is_within (sizes_of_variables vs) v offset count ≡ true
lies_within vs v offset count there h =
    let sizes = sizes_of_variables vs in
    both (nat_lt v (length sizes)) (nat_le (offset + count) (slice_index sizes v)) there (ap (nat_le (offset + count)) (sym (size_listed vs v)) ∙ h)

-- ---- the variable of a place

none_some : (v : ℕ) → ◌≡◌ {A = Option ℕ} None (Some v) → ⊥
none_some v e = cc

own_there : (running : Running) (home : Option ℕ) (w v : ℕ) → own_variable running home w ≡ Some v → w ≡ v
own_there running None w v e = same_Some w v e
own_there running (Some h) w v e = absurd (none_some v e)

pub place_there : (sizes : Sizes) (running : Running) (v : ℕ) (p : Place) (n : ℕ) → is_place sizes n p ≡ true → variable_of running p ≡ Some v → nat_lt v (length sizes.variables) ≡ true
place_there sizes running v (variable_at line w offset) n h e =
    let there : nat_lt w (length sizes.variables) ≡ true = left_of (nat_lt w (length sizes.variables)) (nat_le (offset + n) (slice_index sizes.variables w)) h in
    subst (λ u. nat_lt u (length sizes.variables) ≡ true) (own_there running (home_of running w) w v e) there
place_there sizes running v (object_at line k offset) n h e = absurd (none_some v e)
place_there sizes running v (literal_at line k) n h e = absurd (none_some v e)
place_there sizes running v (pointed line a) n h e = absurd (none_some v e)
place_there sizes running v (arrow line a offset) n h e = absurd (none_some v e)
place_there sizes running v (member line p offset) n h e = place_there sizes running v p (offset + n) (right_of sizes.pointers (is_place sizes (offset + n) p) h) e
place_there sizes running v (element line p a size whole swapped) n h e =
    let first = sizes.pointers && nat_le n size && nat_lt 0 size && is_size (object_size sizes p) whole && is_integer (type_of a) in
    place_there sizes running v p 0 (right_of first (is_place sizes 0 p) (left_of (first && is_place sizes 0 p) (is_typed sizes a) h)) e
place_there sizes running v (subscript line a b size swapped) n h e = absurd (none_some v e)

-- so many bytes of it
pub bytes_within : (sizes : Sizes) (running : Running) (p : Place) (n v offset count : ℕ) → sizes.variables ≡ sizes_of_variables running.variables → is_place sizes n p ≡ true → variable_of running p ≡ Some v →
    nat_le (offset + count) (size_of running v) ≡ true → is_within (sizes_of_variables running.variables) v offset count ≡ true
bytes_within sizes running p n v offset count same h e l =
    let there : nat_lt v (length (sizes_of_variables running.variables)) ≡ true = subst (λ (zs : List ℕ). nat_lt v (length zs) ≡ true) same (place_there sizes running v p n h e) in
    lies_within running.variables v offset count there l
