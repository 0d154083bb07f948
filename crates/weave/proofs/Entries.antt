-- Look-ups after an entry was set or inserted.
use Rattle.std.proofs.Common.{◌≡◌, ℕ, Bool, true, false, cond, List, [], ◌∷◌, Some, None, refl, sym, ap, ◌∙◌}
use Rattle.std.specs.Cmp.{nat_cmp_is}
use Rattle.std.specs.Ordering.{nat_cmp, is_eq, match_ordering}
use Rattle.std.specs.declared.cmp.Ordering.{Ordering}
use Rattle.std.specs.declared.cmp.Ordering.TheVariants.{Less, Equal, Greater}
use Rattle.std.specs.Map.{lookup, set_value}
use Rattle.std.specs.BTreeMap.{is_at, insert_entry}

key_refl : (m : ℕ) → is_at (nat_cmp m) m ≡ true
key_refl m = ap is_eq (sym (nat_cmp_is m m Equal refl))

module _ {X : Type 0} (n : ℕ) where
  set_by : (b : Bool) (e : ℕ × X) (es rest : List (ℕ × X)) (x w : X) → is_at (nat_cmp n) e.0 ≡ b → cond b (Some e.1) (lookup (is_at (nat_cmp n)) es) ≡ Some x
      → (lookup (is_at (nat_cmp n)) es ≡ Some x → lookup (is_at (nat_cmp n)) rest ≡ Some w) → lookup (is_at (nat_cmp n)) (cond b ((e.0, w) ∷ es) (e ∷ rest)) ≡ Some w
  set_by true e es rest x w at h more = ap (λ b. cond b (Some w) (lookup (is_at (nat_cmp n)) es)) at
  set_by false e es rest x w at h more = ap (λ b. cond b (Some e.1) (lookup (is_at (nat_cmp n)) rest)) at ∙ more h

  pub lookup-set_here : (es : List (ℕ × X)) (x w : X) → lookup (is_at (nat_cmp n)) es ≡ Some x → lookup (is_at (nat_cmp n)) (set_value (is_at (nat_cmp n)) es w) ≡ Some w
  lookup-set_here [] x w h = absurd (cc h)
  lookup-set_here (e ∷ es) x w h = set_by (is_at (nat_cmp n) e.0) e es (set_value (is_at (nat_cmp n)) es w) x w refl h (lookup-set_here es x w)

  insert_by : (o : Ordering) (e : ℕ × X) (es rest : List (ℕ × X)) (w : X) → o ≡ nat_cmp n e.0 → lookup (is_at (nat_cmp n)) rest ≡ Some w
      → lookup (is_at (nat_cmp n)) (match_ordering o ((n, w) ∷ e ∷ es) ((e.0, w) ∷ es) (e ∷ rest)) ≡ Some w
  insert_by Less e es rest w at h = ap (λ b. cond b (Some w) (lookup (is_at (nat_cmp n)) (e ∷ es))) (key_refl n)
  insert_by Equal e es rest w at h = ap (λ b. cond b (Some w) (lookup (is_at (nat_cmp n)) es)) (ap is_eq (sym at))
  insert_by Greater e es rest w at h = ap (λ b. cond b (Some e.1) (lookup (is_at (nat_cmp n)) rest)) (ap is_eq (sym at)) ∙ h

  pub lookup-insert_here : (es : List (ℕ × X)) (w : X) → lookup (is_at (nat_cmp n)) (insert_entry nat_cmp es n w) ≡ Some w
  lookup-insert_here [] w = ap (λ b. cond b (Some w) None) (key_refl n)
  lookup-insert_here (e ∷ es) w = insert_by (nat_cmp n e.0) e es (insert_entry nat_cmp es n w) w refl (lookup-insert_here es w)
