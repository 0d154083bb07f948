-- The names of members in tables.
use Rattle.std.proofs.Common.{◌≡◌, ◌+◌, ℕ, zero, suc, Bool, true, false, List, [], ◌∷◌, ◌++◌, drop, map, Option, Some, None, option_map, nat_eq, refl, sym, ap, ◌∙◌, arith, Bor}
use Rattle.std.specs.Prelude.{◌||◌, if◌then◌else◌, slice_get, Vec, is_some, option_copied}
use Rattle.std.specs.Str.{bytes_eq}
use Rattle.std.specs.Map.{lookup}
use Rattle.std.specs.Cmp.Lexicographic.{pointwise}
use Rattle.std.specs.Global.{Global}
use Rattle.indexmap.specs.IndexMap.{insert_entry}
use Rattle.c_scope.specs.declared.members.Way.{Way}
use Rattle.c_scope.specs.Members.{Member, through, among, with_member, with_members, found, view_way, view_ways}

abbrev pub Entries : Type 0
Entries = List (Vec ℕ Global × Way)

abbrev pub way_at : Entries → List ℕ → Option Way
way_at es name = lookup (λ (k : Vec ℕ Global). pointwise nat_eq name k.items) es

-- ---- a name

abbrev pub way_of : Way → List ℕ × Bool
way_of w = (w.path.items, w.constant)

by_name : (x : Bool) (e : Vec ℕ Global × Way) (rest : Option Way) (others : Option (List ℕ × Bool)) → option_map way_of rest ≡ others
    → option_map way_of (if x then Some e.1 else rest) ≡ (if x then Some (e.1.path.items, e.1.constant) else others)
by_name true e rest others h = refl
by_name false e rest others h = h

found_entry : (es : Entries) (name : List ℕ) → option_map way_of (way_at es name) ≡ found (view_ways es) name
found_entry [] name = refl
found_entry (e ∷ es) name = by_name (bytes_eq name e.0.items) e (way_at es name) (found (view_ways es) name) (found_entry es name)

copied : (r : Option (Bor Way)) → option_map way_of (option_copied r) ≡ option_map (λ (w : Bor Way). way_of w.now) r
copied None = refl
copied (Some w) = refl

pub found_way : (r : Option (Bor Way)) (es : Entries) (name : List ℕ) → option_copied r ≡ way_at es name → option_map (λ (w : Bor Way). way_of w.now) r ≡ found (view_ways es) name
found_way r es name e = sym (copied r) ∙ ap (option_map way_of) e ∙ found_entry es name

among_by : (x : Bool) (w : Way) (rest : Option Way) (others : Bool) → is_some rest ≡ others → is_some (if x then Some w else rest) ≡ (x || others)
among_by true w rest others h = refl
among_by false w rest others h = h

pub among_entries : (es : Entries) (name : List ℕ) → is_some (way_at es name) ≡ among (view_ways es) name
among_entries [] name = refl
among_entries (e ∷ es) name = among_by (bytes_eq name e.0.items) e.1 (way_at es name) (among (view_ways es) name) (among_entries es name)

-- ---- one name more

added : (es : Entries) (k : Vec ℕ Global) (w : Way) → among (view_ways es) k.items ≡ false
    → view_ways (insert_entry (λ (x y : Vec ℕ Global). pointwise nat_eq x.items y.items) es k w) ≡ view_ways es ++ view_way (k, w) ∷ []
added [] k w h = refl
added (e ∷ es) k w h = by (bytes_eq k.items e.0.items) h (added es k w) where
  by : (x : Bool) → (x || among (view_ways es) k.items) ≡ false
      → (among (view_ways es) k.items ≡ false → view_ways (insert_entry (λ (x y : Vec ℕ Global). pointwise nat_eq x.items y.items) es k w) ≡ view_ways es ++ view_way (k, w) ∷ [])
      → view_ways (if x then (e.0, w) ∷ es else e ∷ insert_entry (λ (x y : Vec ℕ Global). pointwise nat_eq x.items y.items) es k w) ≡ view_way e ∷ (view_ways es ++ view_way (k, w) ∷ [])
  by true none rest = let no : ⊥ = cc in absurd no
  by false none rest = ap (λ (ms : List Member). view_way e ∷ ms) (rest none)

pub there_already : (es : Entries) (k : Vec ℕ Global) (w : Way) (name : List ℕ) → name ≡ k.items → true ≡ is_some (way_at es name) → view_ways es ≡ with_member (view_ways es) (view_way (k, w))
there_already es k w name same g = let h : true ≡ is_some (way_at es k.items) = g ∙ ap (λ (n : List ℕ). is_some (way_at es n)) same in
    sym (ap (λ (b : Bool). if b then view_ways es else view_ways es ++ view_way (k, w) ∷ []) (sym (among_entries es k.items) ∙ sym h))

pub one_more : (es now : Entries) (k : Vec ℕ Global) (w : Way) (name : List ℕ) → name ≡ k.items → false ≡ is_some (way_at es name)
    → now ≡ insert_entry (λ (x y : Vec ℕ Global). pointwise nat_eq x.items y.items) es k w → view_ways now ≡ with_member (view_ways es) (view_way (k, w))
one_more es now k w name same h e =
    let none = sym (among_entries es k.items) ∙ sym (h ∙ ap (λ (n : List ℕ). is_some (way_at es n)) same) in
    ap view_ways e ∙ added es k w none ∙ sym (ap (λ (b : Bool). if b then view_ways es else view_ways es ++ view_way (k, w) ∷ []) none)

-- ---- the names of an anonymous member

drop_get : {X : Type 0} (xs : List X) (i : ℕ) (x : X) → slice_get xs i ≡ Some x → drop i xs ≡ x ∷ drop (i + 1) xs
drop_get [] i x h = let none : ⊥ = cc in absurd none
drop_get (y ∷ ys) zero x h = let same : y ≡ x = cc in ap (λ z. z ∷ ys) same
drop_get (y ∷ ys) (suc i) x h = let next : suc (i + 1) ≡ suc i + 1 = omega arith in drop_get ys i x h ∙ ap (λ (k : ℕ). x ∷ drop k (y ∷ ys)) next

pub through_more : (es : Entries) (place number : ℕ) (constant : Bool) (e : Vec ℕ Global × Way) (ms now all : List Member) → slice_get es place ≡ Some e
    → with_members ms (map (through number constant) (view_ways (drop place es))) ≡ all → now ≡ with_member ms (through number constant (view_way e))
    → with_members now (map (through number constant) (view_ways (drop (place + 1) es))) ≡ all
through_more es place number constant e ms now all h before one =
    ap (λ (xs : List Member). with_members xs (map (through number constant) (view_ways (drop (place + 1) es)))) one
    ∙ sym (ap (λ (xs : Entries). with_members ms (map (through number constant) (view_ways xs))) (drop_get es place e h)) ∙ before
