-- The names that were met, as they stand in a set.
use Rattle.std.proofs.Common.{◌≡◌, ◌<◌, ◌≤◌, ◌+◌, ℕ, zero, suc, List, [], ◌∷◌, ◌++◌, length, Bool, true, false, ◌&&◌, ◌||◌, Some, None, Option, refl, sym, ap, subst, ◌∙◌, arith}
use Rattle.std.specs.Prelude.{slice_get, option_map, Vec}
use Rattle.std.specs.List.{list_all}
use Rattle.std.specs.Str.{bytes_eq}
use Rattle.std.specs.Global.{Global}
use Rattle.std.proofs.lemmas.List.{length-append}
use Rattle.std.proofs.lemmas.Slice.Eq.{bytes_eq-Decides}
use Rattle.c_token.specs.declared.token.Token.{Token}
use Rattle.c_token.specs.Spelling.{text_of}
use Rattle.c_pre.specs.Known.{Keys, is_in, is_met, name_in_place, Precedes, Covers}

-- a list and what is pushed to it
pub get_front : {X : Type 0} (xs ys : List X) (i : ℕ) → i < length xs → slice_get (xs ++ ys) i ≡ slice_get xs i
get_front [] ys i l = absurd (omega (arith, l))
get_front (x ∷ xs) ys zero l = refl
get_front (x ∷ xs) ys (suc i) l = get_front xs ys i (omega (arith, l))

pub precedes_self : (keys : Keys) → Precedes keys keys
precedes_self keys = (omega arith, λ i l. refl)

pub precedes_more : (a b c : Keys) → Precedes a b → Precedes b c → Precedes a c
precedes_more a b c (l, f) (m, g) = (omega (arith, l, m), λ i less. g i (omega (arith, less, l)) ∙ f i less)

pub precedes_pushed : (keys new : Keys) (k : Vec ℕ Global) → new ≡ keys ++ k ∷ [] → Precedes keys new
precedes_pushed keys new k e = subst (λ (ks : Keys). Precedes keys ks) (sym e) pushed where
  pushed : Precedes keys (keys ++ k ∷ [])
  pushed =
      let long : length (keys ++ k ∷ []) ≡ length keys + 1 = length-append keys (k ∷ []) in
      (omega (arith, long), λ i l. get_front keys (k ∷ []) i l)

same_name : (a b : List ℕ) → bytes_eq a b ≡ true → a ≡ b
same_name a b e = (bytes_eq-Decides a b).0 e

first_of : (a b : Bool) → a ≡ true → (a || b) ≡ true
first_of true b e = refl
first_of false b e = cc

second_of : (a b : Bool) → b ≡ true → (a || b) ≡ true
second_of true b e = refl
second_of false b e = e

-- a name that is among them has a place
pub placed_in : (keys : Keys) (name : List ℕ) → is_in keys name ≡ true → (i : ℕ) × (i < length keys) × (name_in_place keys i ≡ Some name)
placed_in [] name e = cc
placed_in (k ∷ ks) name e = by (λ h. placed_in ks name h) (bytes_eq name k.items) refl e where
  by : (is_in ks name ≡ true → (i : ℕ) × (i < length ks) × (name_in_place ks i ≡ Some name)) → (b : Bool) → bytes_eq name k.items ≡ b → (b || is_in ks name) ≡ true →
      (i : ℕ) × (i < length (k ∷ ks)) × (name_in_place (k ∷ ks) i ≡ Some name)
  by on true same h = (0, omega arith, ap (λ (n : List ℕ). Some n) (sym (same_name name k.items same)))
  by on false apart h = let rest = on h in (suc rest.0, omega (arith, rest.1), rest.2)

pub in_place : (keys : Keys) (i : ℕ) (name : List ℕ) → name_in_place keys i ≡ Some name → is_in keys name ≡ true
in_place [] i name e = cc
in_place (k ∷ ks) zero name e = let same : k.items ≡ name = cc in first_of (bytes_eq name k.items) (is_in ks name) ((bytes_eq-Decides name k.items).1 (sym same))
in_place (k ∷ ks) (suc i) name e = second_of (bytes_eq name k.items) (is_in ks name) (in_place ks i name e)

pub place_within : (keys : Keys) (i : ℕ) (name : List ℕ) → name_in_place keys i ≡ Some name → i < length keys
place_within [] i name e = cc
place_within (k ∷ ks) zero name e = omega arith
place_within (k ∷ ks) (suc i) name e = let less = place_within ks i name e in omega (arith, less)

pub no_place : (keys : Keys) (i : ℕ) (o : Option (Vec ℕ Global)) → o ≡ None → option_map (λ (k : Vec ℕ Global). k.items) o ≡ name_in_place keys i → length keys ≤ i
no_place keys i o none e = by keys i (sym e ∙ ap (λ (p : Option (Vec ℕ Global)). option_map (λ (k : Vec ℕ Global). k.items) p) none) where
  by : (keys : Keys) (i : ℕ) → name_in_place keys i ≡ None → length keys ≤ i
  by [] i h = omega arith
  by (k ∷ ks) zero h = cc
  by (k ∷ ks) (suc i) h = let less = by ks i h in omega (arith, less)

pub place_kept : (keys more : Keys) (i : ℕ) → Precedes keys more → i < length keys → name_in_place more i ≡ name_in_place keys i
place_kept keys more i (l, f) less = ap (λ (o : Option (Vec ℕ Global)). option_map (λ (k : Vec ℕ Global). k.items) o) (f i less)

pub precedes_covers : (keys more : Keys) → Precedes keys more → Covers (is_in keys) (is_in more)
precedes_covers keys more before name is = let at = placed_in keys name is in in_place more at.0 name (place_kept keys more at.0 before at.1 ∙ at.2)

-- All names of a body are met once those of its rest are.
abbrev pub Marks : List ℕ → (List ℕ → Bool) → List Token → List Token → Type 0
Marks bytes used body rest = (more : List ℕ → Bool) → Covers used more → list_all (is_met bytes more) rest ≡ true → list_all (is_met bytes more) body ≡ true

pub marks_first : (bytes : List ℕ) (used : List ℕ → Bool) (body : List Token) → Marks bytes used body body
marks_first bytes used body more covers h = h

pub marks_next : (bytes : List ℕ) (used more : List ℕ → Bool) (body rest behind : List Token) (t : Token) → Marks bytes used body rest → Covers used more → more (text_of bytes t) ≡ true → rest ≡ t ∷ behind → Marks bytes more body behind
marks_next bytes used more body rest behind t h covers marked e wide wider all =
    h wide (λ name is. wider name (covers name is))
    (ap (list_all (is_met bytes wide)) e ∙ ap (λ (b : Bool). b && list_all (is_met bytes wide) behind) (wider (text_of bytes t) marked) ∙ all)

pub marks_done : (bytes : List ℕ) (used : List ℕ → Bool) (body rest : List Token) → Marks bytes used body rest → rest ≡ [] → list_all (is_met bytes used) body ≡ true
marks_done bytes used body rest h e = h used (λ name is. is) (ap (list_all (is_met bytes used)) e)
