-- The roots that are being replaced, as they stand in a map.
use Rattle.std.proofs.Common.{◌≡◌, ℕ, [], ◌∷◌, ◌++◌, reverse, Bool, true, false, cond, Option, Some, None, nat_eq, refl, sym, ap, subst, ◌∙◌, arith}
use Rattle.std.specs.Prelude.{option_to_list}
use Rattle.std.specs.Map.{lookup}
use Rattle.std.proofs.lemmas.List.{reverse-append, append-nil}
use Rattle.indexmap.specs.IndexMap.{insert_entry}
use Rattle.c_pre.specs.Known.{Findings, Opens, opens_of, outer, Distinct, AreOpen}

pub open_distinct : (f : Findings) (opens : Opens) → AreOpen f opens → Distinct opens
open_distinct f [] h = tt
open_distinct f (o ∷ os) (a, r, none, rest) = (none, open_distinct f os rest)

pub none_open : (f : Findings) (es : Opens) → es ≡ [] → AreOpen f (opens_of es)
none_open f es e = subst (λ (xs : Opens). AreOpen f (opens_of xs)) (sym e) tt

reverse_more : (e : ℕ × ℕ) (es : Opens) → reverse (e ∷ es) ≡ reverse es ++ e ∷ []
reverse_more e es = reverse-append (e ∷ []) es

eq_same : (a b : ℕ) → nat_eq a b ≡ true → a ≡ b
eq_same a b e = grind (arith, e)

-- a key that is none of some and not the last is none of all
none_front : (r : ℕ) (xs : Opens) (e : ℕ × ℕ) → lookup (nat_eq r) (xs ++ e ∷ []) ≡ None → (lookup (nat_eq r) xs ≡ None) × (nat_eq r e.0 ≡ false)
none_front r [] e h = (refl, by (nat_eq r e.0) refl h) where
  by : (b : Bool) → nat_eq r e.0 ≡ b → cond b (Some e.1) None ≡ None → nat_eq r e.0 ≡ false
  by true s h = cc
  by false s h = s
none_front r (x ∷ xs) e h = by (λ k. none_front r xs e k) (nat_eq r x.0) refl h where
  by : (lookup (nat_eq r) (xs ++ e ∷ []) ≡ None → (lookup (nat_eq r) xs ≡ None) × (nat_eq r e.0 ≡ false)) → (b : Bool) → nat_eq r x.0 ≡ b → cond b (Some x.1) (lookup (nat_eq r) (xs ++ e ∷ [])) ≡ None →
      (lookup (nat_eq r) (x ∷ xs) ≡ None) × (nat_eq r e.0 ≡ false)
  by on true s h = cc
  by on false s h = let rest = on h in (ap (λ (b : Bool). cond b (Some x.1) (lookup (nat_eq r) xs)) s ∙ rest.0, rest.1)

-- distinct keys, the last of which is none of the others
distinct_front : (xs : Opens) (e : ℕ × ℕ) → Distinct (xs ++ e ∷ []) → Distinct xs × (lookup (nat_eq e.0) xs ≡ None)
distinct_front [] e h = (tt, refl)
distinct_front (x ∷ xs) e (none, h) =
    let rest = distinct_front xs e h in
    let apart = none_front x.0 xs e none in
    ((apart.0, rest.0), ap (λ (b : Bool). cond b (Some x.1) (lookup (nat_eq e.0) xs)) (other x.0 e.0 apart.1) ∙ rest.1) where
      other : (a b : ℕ) → nat_eq a b ≡ false → nat_eq b a ≡ false
      other a b e = grind (arith, e)

lookup_last : (r : ℕ) (xs : Opens) (e : ℕ × ℕ) → nat_eq r e.0 ≡ true → lookup (nat_eq r) xs ≡ None → lookup (nat_eq r) (xs ++ e ∷ []) ≡ Some e.1
lookup_last r [] e s h = ap (λ (b : Bool). cond b (Some e.1) None) s
lookup_last r (x ∷ xs) e s h = by (λ k. lookup_last r xs e s k) (nat_eq r x.0) refl h where
  by : (lookup (nat_eq r) xs ≡ None → lookup (nat_eq r) (xs ++ e ∷ []) ≡ Some e.1) → (b : Bool) → nat_eq r x.0 ≡ b → cond b (Some x.1) (lookup (nat_eq r) xs) ≡ None → lookup (nat_eq r) (x ∷ (xs ++ e ∷ [])) ≡ Some e.1
  by on true t h = cc
  by on false t h = ap (λ (b : Bool). cond b (Some x.1) (lookup (nat_eq r) (xs ++ e ∷ []))) t ∙ on h

lookup_others : (r : ℕ) (xs : Opens) (e : ℕ × ℕ) → nat_eq r e.0 ≡ false → lookup (nat_eq r) (xs ++ e ∷ []) ≡ lookup (nat_eq r) xs
lookup_others r [] e s = ap (λ (b : Bool). cond b (Some e.1) None) s
lookup_others r (x ∷ xs) e s = ap (λ (o : Option ℕ). cond (nat_eq r x.0) (Some x.1) o) (lookup_others r xs e s)

-- what a root's entry is does not depend on the order
pub lookup_reverse : (r : ℕ) (es : Opens) → Distinct (reverse es) → lookup (nat_eq r) es ≡ lookup (nat_eq r) (reverse es)
lookup_reverse r [] h = refl
lookup_reverse r (e ∷ es) h = by (λ k. lookup_reverse r es k) (nat_eq r e.0) refl ∙ ap (lookup (nat_eq r)) (sym (reverse_more e es)) where
  parts : Distinct (reverse es) × (lookup (nat_eq e.0) (reverse es) ≡ None)
  parts = distinct_front (reverse es) e (subst (λ (xs : Opens). Distinct xs) (reverse_more e es) h)

  by : (Distinct (reverse es) → lookup (nat_eq r) es ≡ lookup (nat_eq r) (reverse es)) → (b : Bool) → nat_eq r e.0 ≡ b → lookup (nat_eq r) (e ∷ es) ≡ lookup (nat_eq r) (reverse es ++ e ∷ [])
  by on true s =
      ap (λ (b : Bool). cond b (Some e.1) (lookup (nat_eq r) es)) s
      ∙ sym (lookup_last r (reverse es) e s (ap (λ (x : ℕ). lookup (nat_eq x) (reverse es)) (eq_same r e.0 s) ∙ parts.1))
  by on false s = ap (λ (b : Bool). cond b (Some e.1) (lookup (nat_eq r) es)) s ∙ on parts.0 ∙ sym (lookup_others r (reverse es) e s)

insert_new : (r v : ℕ) (es : Opens) → lookup (nat_eq r) (reverse es) ≡ None → insert_entry (λ (x y : ℕ). nat_eq x y) es r v ≡ es ++ (r, v) ∷ []
insert_new r v [] h = refl
insert_new r v (e ∷ es) h =
    let parts = none_front r (reverse es) e (ap (lookup (nat_eq r)) (sym (reverse_more e es)) ∙ h) in
    ap (λ (b : Bool). cond b ((e.0, v) ∷ es) (e ∷ insert_entry (λ (x y : ℕ). nat_eq x y) es r v)) parts.1 ∙ ap (λ (xs : Opens). e ∷ xs) (insert_new r v es parts.0)

pub entered_as : (r v : ℕ) (es new : Opens) → lookup (nat_eq r) (opens_of es) ≡ None → new ≡ insert_entry (λ (x y : ℕ). nat_eq x y) es r v → opens_of new ≡ (r, v) ∷ opens_of es
entered_as r v es new h e = ap (λ (xs : Opens). reverse xs) (e ∙ insert_new r v es h) ∙ reverse-append es ((r, v) ∷ [])

pub left_as : (old new : Opens) (o : Option (ℕ × ℕ)) → old ≡ new ++ option_to_list o → (o ≡ None → old ≡ []) → opens_of new ≡ outer (opens_of old)
left_as old new None e h =
    let none : old ≡ [] = h refl in
    ap (λ (xs : Opens). reverse xs) (sym (append-nil new) ∙ sym e ∙ none) ∙ sym (ap (λ (xs : Opens). outer (reverse xs)) none)
left_as old new (Some x) e h = sym (ap outer (ap (λ (xs : Opens). reverse xs) e ∙ reverse-append new (x ∷ [])))
