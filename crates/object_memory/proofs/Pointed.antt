-- The places that a pointer points to.
use Rattle.std.proofs.Common.{◌≡◌, ◌<◌, ◌≤◌, ◌+◌, ℕ, zero, suc, Bool, true, false, cond, List, [], ◌∷◌, ◌++◌, length, map, drop, get_or, Option, Some, None, refl, sym, ap, subst, ◌∙◌, arith, true≢false, append_assoc, append-nil, inl, inr}
use Rattle.std.specs.Prelude.{◌==◌, ◌&&◌, ◌⊎◌, All, if◌then◌else◌}
use Rattle.std.proofs.Math.Seq.{drop-cons}
use Rattle.std.proofs.lemmas.List.{length-map, length-append, drop_all}
use Rattle.std.proofs.lemmas.List.Elements.{All-push, All-nil, All-weaker, All-head, All-tail}
use Rattle.actions.specs.Pointer.{object_of, offset_of}
use Rattle.actions.specs.StoredObject.{StoredObject}
use Rattle.actions.specs.Objects.{Objects, object_at}
use Rattle.word_dag.specs.declared.nodes.Id.{Id}
use Rattle.word_dag.specs.declared.nodes.Node.{Node}
use Rattle.word_dag.specs.Meaning.{value, holds, bit_value}
use Rattle.word_dag.specs.Growth.{Within, Extends}
use Rattle.word_dag.proofs.Grown.{extends_itself, extends_more, map_stays}
use Rattle.value_nodes.specs.Values.{IsWord, IsTest, AreBytes}
use Rattle.value_nodes.proofs.Made.{word_stays}
use Rattle.object_memory.specs.declared.places.Place.{Place}
use Rattle.object_memory.specs.declared.places.Hit.{Hit}
use Rattle.object_memory.specs.Spots.{Spot, Spots, held, Rising, AreObjectsOf}
use Rattle.object_memory.specs.Places.{place_object, spot_of, spots, is_under, PlaceIn}
use Rattle.object_memory.specs.Hits.{HitIn, truly, IsHit, IsFound}
use Rattle.object_memory.specs.Questions.{objects_of, no_object}
use Rattle.object_memory.proofs.Spotted.{equal_is, if_apart, held_at}

-- ---- tests

pub bit_holds : (b : Bool) → holds (bit_value b) ≡ b
bit_holds true = refl
bit_holds false = refl

pub test_is : (d : List Node) (i : Id) (f : (ℕ → ℕ) → Bool) → IsTest d i f → (v : ℕ → ℕ) → holds (value v d i) ≡ f v
test_is d i f made v = ap holds (made.value_is v) ∙ bit_holds (f v)

pub test_word : (d : List Node) (i : Id) (f : (ℕ → ℕ) → Bool) → IsTest d i f → IsWord d i 1
test_word d i f made = record { there = made.there; width_is = made.width_is }

pub left_true : (a b : Bool) → (a && b) ≡ true → a ≡ true
left_true true b h = refl
left_true false b h = h

pub right_true : (a b : Bool) → (a && b) ≡ true → b ≡ true
right_true true b h = h
right_true false b h = absurd (true≢false (sym h))

pub clash : {X : Type 0} (b : Bool) → b ≡ true → b ≡ false → X
clash b t f = absurd (true≢false (sym t ∙ f))

-- ---- in a graph that has grown

pub bytes_stay : (d e : List Node) (ids : List Id) → Extends d e → AreBytes d ids → AreBytes e ids
bytes_stay d e ids x all = All-weaker (λ (i : Id). IsWord d i 8) (λ (i : Id). IsWord e i 8) (λ i h. word_stays d e i 8 x h) ids all

pub bytes_there : (d : List Node) (ids : List Id) → AreBytes d ids → All (Within d) ids
bytes_there d ids all = All-weaker (λ (i : Id). IsWord d i 8) (Within d) (λ i h. h.there) ids all

pub place_stays : (d e : List Node) (p : Place) → Extends d e → PlaceIn d p → PlaceIn e p
place_stays d e p x h = record {
  born = word_stays d e p.born 1 x h.born;
  number = word_stays d e p.number 32 x h.number;
  size = word_stays d e p.size 32 x h.size;
  live = word_stays d e p.live 1 x h.live;
  bytes = bytes_stay d e p.bytes.items x h.bytes;
  short = h.short;
  whole = λ v. subst (λ n. n ≤ length p.bytes.items) (sym (x.value_stays v p.size h.size.there)) (h.whole v);
}

pub places_stay : (d e : List Node) (ps : List Place) → Extends d e → All (PlaceIn d) ps → All (PlaceIn e) ps
places_stay d e ps x all = All-weaker (PlaceIn d) (PlaceIn e) (λ p h. place_stays d e p x h) ps all

pub object_stays : (v : ℕ → ℕ) (d e : List Node) (p : Place) → Extends d e → PlaceIn d p → place_object v e p ≡ place_object v d p
object_stays v d e p x h =
    let size = x.value_stays v p.size h.size.there in
    let live = x.value_stays v p.live h.live.there in
    let bytes = map_stays v d e p.bytes.items x (bytes_there d p.bytes.items h.bytes) in
    λ i. Rattle.actions.specs.StoredObject.stored (size i) [] (holds (live i)) p.readonly p.heap (Rattle.std.proofs.Common.take (size i) (bytes i))

pub spot_stays : (v : ℕ → ℕ) (d e : List Node) (p : Place) → Extends d e → PlaceIn d p → spot_of v e p ≡ spot_of v d p
spot_stays v d e p x h =
    let born = x.value_stays v p.born h.born.there in
    let number = x.value_stays v p.number h.number.there in
    let object = object_stays v d e p x h in
    λ i. if holds (born i) then Some (record { number = number i; object = object i }) else None

pub spots_stay : (v : ℕ → ℕ) (d e : List Node) (ps : List Place) → Extends d e → All (PlaceIn d) ps → spots v e ps ≡ spots v d ps
spots_stay v d e [] x all = refl
spots_stay v d e (p ∷ ps) x all = λ i. spot_stays v d e p x (All-head (PlaceIn d) p ps all) i ∷ spots_stay v d e ps x (All-tail (PlaceIn d) p ps all) i

pub objects_stay : (v : ℕ → ℕ) (d e : List Node) (ps : List Place) → Extends d e → All (PlaceIn d) ps → objects_of v e ps ≡ objects_of v d ps
objects_stay v d e [] x all = refl
objects_stay v d e (p ∷ ps) x all = λ i. object_stays v d e p x (All-head (PlaceIn d) p ps all) i ∷ objects_stay v d e ps x (All-tail (PlaceIn d) p ps all) i

pub hits_stay : (d e : List Node) (n : ℕ) (hs : List Hit) → Extends d e → All (HitIn d n) hs → All (HitIn e n) hs
hits_stay d e n hs x all = All-weaker (HitIn d n) (HitIn e n) (λ h is. record { test = word_stays d e h.test 1 x is.test; place = is.place; offset = word_stays d e h.offset 32 x is.offset }) hs all

pub truly_stays : (v : ℕ → ℕ) (d e : List Node) (n : ℕ) (hs : List Hit) → Extends d e → All (HitIn d n) hs → truly v e hs ≡ truly v d hs
truly_stays v d e n [] x all = refl
truly_stays v d e n (h ∷ hs) x all =
    let test = x.value_stays v h.test (All-head (HitIn d n) h hs all).test.there in
    let rest = truly_stays v d e n hs x (All-tail (HitIn d n) h hs all) in
    λ i. if holds (test i) then h ∷ rest i else rest i

hit_stays : (v : ℕ → ℕ) (d e : List Node) (n : ℕ) (ss : Spots) (p : ℕ) (h : Hit) → Extends d e → HitIn d n h → IsHit v d ss p h → IsHit v e ss p h
hit_stays v d e n ss p h x within is = record { spot = is.spot; is = is.is; number = is.number; offset = x.value_stays v h.offset within.offset.there ∙ is.offset }

-- those that are true are some of them
pub truly_some : (v : ℕ → ℕ) (d : List Node) (P : Hit → Type 0) (hs : List Hit) → All P hs → All P (truly v d hs)
truly_some v d P [] all = all
truly_some v d P (h ∷ hs) all = by (holds (value v d h.test)) (truly_some v d P hs (All-tail P h hs all))
  where
    by : (b : Bool) → All P (truly v d hs) → All P (if b then h ∷ truly v d hs else truly v d hs)
    by true later = Rattle.std.proofs.lemmas.List.Elements.All-cons P h (truly v d hs) (All-head P h hs all) later
    by false later = later

found_by : (v : ℕ → ℕ) (d e : List Node) (n : ℕ) (ss : Spots) (p : ℕ) (hs : List Hit) → Extends d e → All (HitIn d n) hs → IsFound v d ss p hs → IsFound v e ss p hs
found_by v d e n ss p [] x all found = found
found_by v d e n ss p (h ∷ []) x all found = hit_stays v d e n ss p h x (All-head (HitIn d n) h [] all) found
found_by v d e n ss p (h ∷ g ∷ hs) x all found = found

pub found_stays : (v : ℕ → ℕ) (d e : List Node) (n : ℕ) (ss tt : Spots) (p q : ℕ) (hs : List Hit) → Extends d e → All (HitIn d n) hs → tt ≡ ss → q ≡ p → IsFound v d ss p (truly v d hs) → IsFound v e tt q (truly v e hs)
found_stays v d e n ss tt p q hs x all spots_same pointer_same found =
    subst (IsFound v e tt q) (sym (truly_stays v d e n hs x all))
    (subst (λ (z : Spots). IsFound v e z q (truly v d hs)) (sym spots_same) (subst (λ k. IsFound v e ss k (truly v d hs)) (sym pointer_same) (found_by v d e n ss p (truly v d hs) x (truly_some v d (HitIn d n) hs all) found)))

-- ---- the object that is found

pub spot_object : (v : ℕ → ℕ) (d : List Node) (ps : List Place) (i : ℕ) (s : Spot) → get_or (spots v d ps) i None ≡ Some s → get_or (objects_of v d ps) i no_object ≡ s.object
spot_object v d [] i s h = absurd (let e : None ≡ Some s = h in cc)
spot_object v d (p ∷ ps) zero s h = by (holds (value v d p.born)) h
  where
    by : (b : Bool) → (if b then Some (record { number = value v d p.number; object = place_object v d p }) else None) ≡ Some s → place_object v d p ≡ s.object
    by true e = let same : (let t : Spot = record { number = value v d p.number; object = place_object v d p } in t) ≡ s = cc in ap (λ (t : Spot). t.object) same
    by false e = absurd (cc)
spot_object v d (p ∷ ps) (suc i) s h = spot_object v d ps i s h

-- the object of the first of these places
abbrev pub hit_object : List StoredObject → List Hit → Option StoredObject
hit_object objects [] = None
hit_object objects (h ∷ hs) = Some (get_or objects h.place no_object)

pub found_object : (v : ℕ → ℕ) (d : List Node) (ps : List Place) (objects : Objects) (p : ℕ) (hs : List Hit) → AreObjectsOf (spots v d ps) objects → IsFound v d (spots v d ps) p hs
    → object_at objects (object_of p) ≡ hit_object (objects_of v d ps) hs
found_object v d ps objects p [] are found = are.objects_are (object_of p) ∙ found
found_object v d ps objects p (h ∷ []) are found =
    ap (object_at objects) (sym found.number) ∙ are.objects_are found.spot.number ∙ held_at 0 (length objects) (spots v d ps) h.place found.spot are.rises found.is
    ∙ ap Some (sym (spot_object v d ps h.place found.spot found.is))
found_object v d ps objects p (h ∷ g ∷ hs) are found = absurd found

-- ---- the places under a number

-- their indexes, from this one on
abbrev pub under : (ℕ → ℕ) → List Node → ℕ → ℕ → List Place → List ℕ
under v d k i [] = []
under v d k i (p ∷ ps) = if is_under v d p k then i ∷ under v d k (suc i) ps else under v d k (suc i) ps

abbrev pub own : (ℕ → ℕ) → List Node → Place → Spot
own v d p = record { number = value v d p.number; object = place_object v d p }

none_under : (v : ℕ → ℕ) (d : List Node) (k i low top : ℕ) (ps : List Place) → Rising low (spots v d ps) top → k ≤ low → under v d k i ps ≡ []
none_under v d k i low top [] h le = refl
none_under v d k i low top (p ∷ ps) h le = by (holds (value v d p.born)) h (λ l r m. none_under v d k (suc i) l top ps r m)
  where
    by : (b : Bool) → Rising low ((if b then Some (record { number = value v d p.number; object = place_object v d p }) else None) ∷ spots v d ps) top
        → ((l : ℕ) → Rising l (spots v d ps) top → k ≤ l → under v d k (suc i) ps ≡ [])
        → (if b && (k == value v d p.number) then i ∷ under v d k (suc i) ps else under v d k (suc i) ps) ≡ []
    by true r later =
        let more : k < value v d p.number = omega (arith, r.0, le) in
        if_apart k (value v d p.number) (i ∷ under v d k (suc i) ps) (under v d k (suc i) ps) (λ (e : k ≡ value v d p.number). omega (arith, e, more)) ∙ later (value v d p.number) r.1 (omega (arith, more))
    by false r later = later low r le

-- one of them, or none
abbrev pub IsUnder : Spots → ℕ → ℕ → List ℕ → Type 0
IsUnder ss k i [] = held ss k ≡ None
IsUnder ss k i (j ∷ []) = (m : ℕ) × (s : Spot) × (j ≡ i + m) × (get_or ss m None ≡ Some s) × (s.number ≡ k)
IsUnder ss k i (j ∷ l ∷ js) = ⊥

behind : (x : Option Spot) (ss : Spots) (k i : ℕ) (js : List ℕ) → (held ss k ≡ None → held (x ∷ ss) k ≡ None) → IsUnder ss k (suc i) js → IsUnder (x ∷ ss) k i js
behind x ss k i [] none h = none h
behind x ss k i (j ∷ []) none h = let place : j ≡ i + suc h.0 = omega (arith, h.2) in (suc h.0, h.1, place, h.3, h.4)
behind x ss k i (j ∷ l ∷ js) none h = h

pub one_under : (v : ℕ → ℕ) (d : List Node) (k i low top : ℕ) (ps : List Place) → Rising low (spots v d ps) top → IsUnder (spots v d ps) k i (under v d k i ps)
one_under v d k i low top [] h = refl
one_under v d k i low top (p ∷ ps) h = by (holds (value v d p.born)) h (λ l r. one_under v d k (suc i) l top ps r)
  where
    at : (c : Bool) → (k == value v d p.number) ≡ c → Rising (value v d p.number) (spots v d ps) top → IsUnder (spots v d ps) k (suc i) (under v d k (suc i) ps)
        → IsUnder (Some (own v d p) ∷ spots v d ps) k i (if c then i ∷ under v d k (suc i) ps else under v d k (suc i) ps)
    at true e r later =
        let same = equal_is k (value v d p.number) e in
        let none = none_under v d k (suc i) (value v d p.number) top ps r (omega (arith, same)) in
        let here : i ≡ i + 0 = omega arith in
        subst (λ js. IsUnder (Some (own v d p) ∷ spots v d ps) k i (i ∷ js)) (sym none) (0, (own v d p), here, refl, sym same)
    at false e r later = behind (Some (own v d p)) (spots v d ps) k i (under v d k (suc i) ps) (λ none. ap (λ c. if c then Some (own v d p).object else held (spots v d ps) k) e ∙ none) later

    by : (b : Bool) → Rising low ((if b then Some (own v d p) else None) ∷ spots v d ps) top → ((l : ℕ) → Rising l (spots v d ps) top → IsUnder (spots v d ps) k (suc i) (under v d k (suc i) ps))
        → IsUnder ((if b then Some (own v d p) else None) ∷ spots v d ps) k i (if b && (k == value v d p.number) then i ∷ under v d k (suc i) ps else under v d k (suc i) ps)
    by true r later = at (k == value v d p.number) refl r.1 (later (value v d p.number) r.1)
    by false r later = behind None (spots v d ps) k i (under v d k (suc i) ps) (λ none. none) (later low r)

-- ---- hits made one by one

pub record Hitting (d e : List Node) (ps : List Place) (object offset : Id) (hits : List Hit) (at : ℕ) : Type 0 where
  pub extends : Extends d e
  pub all : All (HitIn e (length ps)) hits
  pub offsets : All (λ (h : Hit). h.offset ≡ offset) hits
  pub same : (v : ℕ → ℕ) → map (λ (h : Hit). h.place) (truly v e hits) ++ under v d (value v d object) at (drop at ps) ≡ under v d (value v d object) 0 ps

pub hitting_none : (d : List Node) (ps : List Place) (object offset : Id) (hits : List Hit) → hits ≡ [] → Hitting d d ps object offset hits 0
hitting_none d ps object offset hits none = subst (λ (hs : List Hit). Hitting d d ps object offset hs 0) (sym none) (record {
  extends = extends_itself d;
  all = All-nil (HitIn d (length ps));
  offsets = All-nil (λ (h : Hit). h.offset ≡ offset);
  same = λ v. refl;
})

under_one : (v : ℕ → ℕ) (d : List Node) (k at : ℕ) (ps : List Place) (p z : Place) → at < length ps → p ≡ get_or ps at z
    → under v d k at (drop at ps) ≡ (if is_under v d p k then at ∷ under v d k (suc at) (drop (suc at) ps) else under v d k (suc at) (drop (suc at) ps))
under_one v d k at ps p z lt is =
    ap (under v d k at) (drop-cons ps at z lt) ∙ ap (λ (q : Place). if is_under v d q k then at ∷ under v d k (suc at) (drop (suc at) ps) else under v d k (suc at) (drop (suc at) ps)) (sym is)

one_on : (v : ℕ → ℕ) (d : List Node) (k at : ℕ) (ps : List Place) → under v d k (at + 1) (drop (at + 1) ps) ≡ under v d k (suc at) (drop (suc at) ps)
one_on v d k at ps = let next : at + 1 ≡ suc at = omega arith in λ i. under v d k (next i) (drop (next i) ps)

-- a place that is seen not to be under the number
pub hitting_not : (d e f : List Node) (ps : List Place) (object offset test : Id) (hits : List Hit) (at : ℕ) (p z : Place) → IsWord d object 32 → Hitting d e ps object offset hits at → at < length ps → p ≡ get_or ps at z → All (PlaceIn d) ps → Extends e f
    → IsTest f test (λ v. is_under v e p (value v e object)) → PlaceIn d p → ((v : ℕ → ℕ) → value v f test ≡ 0) → Hitting d f ps object offset hits (at + 1)
hitting_not d e f ps object offset test hits at p z word h lt is all x made within none = record {
  extends = extends_more d e f h.extends x;
  all = hits_stay e f (length ps) hits x h.all;
  offsets = h.offsets;
  same = λ v.
      let k = value v d object in
      let object_same : value v e object ≡ k = h.extends.value_stays v object word.there in
      let born : value v e p.born ≡ value v d p.born = h.extends.value_stays v p.born within.born.there in
      let number : value v e p.number ≡ value v d p.number = h.extends.value_stays v p.number within.number.there in
      let here : is_under v d p k ≡ false = (λ i. holds (sym born i) && (sym object_same i == sym number i)) ∙ sym (test_is f test (λ u. is_under u e p (value u e object)) made v) ∙ ap holds (none v) in
      ap (λ xs. map (λ (g : Hit). g.place) (truly v f hits) ++ xs)
      (one_on v d k at ps ∙ sym (under_one v d k at ps p z lt is ∙ ap (λ b. if b then at ∷ under v d k (suc at) (drop (suc at) ps) else under v d k (suc at) (drop (suc at) ps)) here))
      ∙ ap (λ (gs : List Hit). map (λ (g : Hit). g.place) gs ++ under v d k at (drop at ps)) (truly_stays v e f (length ps) hits x h.all) ∙ h.same v;
}

truly_push : (v : ℕ → ℕ) (d : List Node) (hits : List Hit) (h : Hit) → map (λ (g : Hit). g.place) (truly v d (hits ++ h ∷ [])) ≡ map (λ (g : Hit). g.place) (truly v d hits) ++ (if holds (value v d h.test) then h.place ∷ [] else [])
truly_push v d [] h = by (holds (value v d h.test))
  where
    by : (b : Bool) → map (λ (g : Hit). g.place) (if b then h ∷ [] else []) ≡ (if b then h.place ∷ [] else [])
    by true = refl
    by false = refl
truly_push v d (g ∷ hits) h = by (holds (value v d g.test)) (truly_push v d hits h)
  where
    by : (b : Bool) → map (λ (x : Hit). x.place) (truly v d (hits ++ h ∷ [])) ≡ map (λ (x : Hit). x.place) (truly v d hits) ++ (if holds (value v d h.test) then h.place ∷ [] else [])
        → map (λ (x : Hit). x.place) (if b then g ∷ truly v d (hits ++ h ∷ []) else truly v d (hits ++ h ∷ [])) ≡ map (λ (x : Hit). x.place) (if b then g ∷ truly v d hits else truly v d hits) ++ (if holds (value v d h.test) then h.place ∷ [] else [])
    by true later = ap (λ xs. g.place ∷ xs) later
    by false later = later

chosen_front : (b : Bool) (xs ys : List ℕ) (at : ℕ) → (xs ++ (if b then at ∷ [] else [])) ++ ys ≡ xs ++ (if b then at ∷ ys else ys)
chosen_front true xs ys at = append_assoc xs (at ∷ []) ys
chosen_front false xs ys at = ap (λ zs. zs ++ ys) (append-nil xs)

pub hitting_more : (d e f : List Node) (ps : List Place) (object offset test : Id) (hits more : List Hit) (at : ℕ) (p z : Place) → IsWord d object 32 → IsWord e offset 32 → Hitting d e ps object offset hits at → at < length ps → p ≡ get_or ps at z → Extends e f
    → IsTest f test (λ v. is_under v e p (value v e object)) → PlaceIn d p → more ≡ hits ++ record { test = test; place = at; offset = offset } ∷ [] → Hitting d f ps object offset more (at + 1)
hitting_more d e f ps object offset test hits more at p z word distance h lt is x made within pushed =
    let hit : Hit = record { test = test; place = at; offset = offset } in
    subst (λ (hs : List Hit). Hitting d f ps object offset hs (at + 1)) (sym pushed) (record {
      extends = extends_more d e f h.extends x;
      all = All-push (HitIn f (length ps)) hits hit (hits_stay e f (length ps) hits x h.all) (record { test = test_word f test (λ v. is_under v e p (value v e object)) made; place = lt; offset = word_stays e f offset 32 x distance });
      offsets = All-push (λ (g : Hit). g.offset ≡ offset) hits hit h.offsets refl;
      same = λ v.
          let k = value v d object in
          let object_same : value v e object ≡ k = h.extends.value_stays v object word.there in
          let born : value v e p.born ≡ value v d p.born = h.extends.value_stays v p.born within.born.there in
          let number : value v e p.number ≡ value v d p.number = h.extends.value_stays v p.number within.number.there in
          let here : holds (value v f test) ≡ is_under v d p k = test_is f test (λ u. is_under u e p (value u e object)) made v ∙ (λ i. holds (born i) && (object_same i == number i)) in
          let rest = under v d k (suc at) (drop (suc at) ps) in
          ap (λ xs. map (λ (g : Hit). g.place) (truly v f (hits ++ hit ∷ [])) ++ xs) (one_on v d k at ps)
          ∙ ap (λ xs. xs ++ rest) (truly_push v f hits hit ∙ (λ i. map (λ (g : Hit). g.place) (truly_stays v e f (length ps) hits x h.all i) ++ (if here i then at ∷ [] else [])))
          ∙ chosen_front (is_under v d p k) (map (λ (g : Hit). g.place) (truly v e hits)) rest at
          ∙ ap (λ xs. map (λ (g : Hit). g.place) (truly v e hits) ++ xs) (sym (under_one v d k at ps p z lt is)) ∙ h.same v;
    })

places_of : List Hit → List ℕ
places_of hs = map (λ (h : Hit). h.place) hs

found_places : (v : ℕ → ℕ) (d : List Node) (ss : Spots) (p : ℕ) (offset : Id) (hs : List Hit) (js : List ℕ) → map (λ (h : Hit). h.place) hs ≡ js → IsUnder ss (object_of p) 0 js → All (λ (h : Hit). h.offset ≡ offset) hs → value v d offset ≡ offset_of p → IsFound v d ss p hs
found_places v d ss p offset [] [] is h all same = h
found_places v d ss p offset [] (j ∷ js) is h all same = absurd (let wrong : [] ≡ j ∷ js = is in cc)
found_places v d ss p offset (h ∷ []) [] is under all same = absurd (let wrong : h.place ∷ [] ≡ [] = is in cc)
found_places v d ss p offset (h ∷ []) (j ∷ []) is under all same =
    let place : h.place ≡ j = cc in
    let index : h.place ≡ under.0 = omega (arith, place, under.2) in
    record {
      spot = under.1;
      is = ap (λ m. get_or ss m None) index ∙ under.3;
      number = under.4;
      offset = ap (value v d) (All-head (λ (g : Hit). g.offset ≡ offset) h [] all) ∙ same;
    }
found_places v d ss p offset (h ∷ []) (j ∷ l ∷ js) is under all same = absurd under
found_places v d ss p offset (h ∷ g ∷ hs) [] is under all same = absurd (let wrong : h.place ∷ g.place ∷ map (λ (x : Hit). x.place) hs ≡ [] = is in cc)
found_places v d ss p offset (h ∷ g ∷ hs) (j ∷ []) is under all same = absurd (let wrong : h.place ∷ g.place ∷ map (λ (x : Hit). x.place) hs ≡ j ∷ [] = is in cc)
found_places v d ss p offset (h ∷ g ∷ hs) (j ∷ l ∷ js) is under all same = absurd under

pub hitting_found : (d e : List Node) (ps : List Place) (object offset : Id) (hits : List Hit) (at : ℕ) → Hitting d e ps object offset hits at → length ps ≤ at → (v : ℕ → ℕ) (top p : ℕ) → Rising 0 (spots v d ps) top → value v d object ≡ object_of p → Within d offset → value v d offset ≡ offset_of p
    → IsFound v e (spots v d ps) p (truly v e hits)
hitting_found d e ps object offset hits at h done v top p rises object_is there offset_is =
    let all : map (λ (g : Hit). g.place) (truly v e hits) ≡ under v d (object_of p) 0 ps =
    sym (append-nil (map (λ (g : Hit). g.place) (truly v e hits))) ∙ ap (λ (qs : List Place). map (λ (g : Hit). g.place) (truly v e hits) ++ under v d (value v d object) at qs) (sym (drop_all at ps done)) ∙ h.same v ∙ ap (λ k. under v d k 0 ps) object_is in
    found_places v e (spots v d ps) p offset (truly v e hits) (under v d (object_of p) 0 ps) all (one_under v d (object_of p) 0 0 top ps rises) (truly_some v e (λ (g : Hit). g.offset ≡ offset) hits h.offsets) (h.extends.value_stays v offset there ∙ offset_is)

-- the place that is surely under the number
under_spot : (v : ℕ → ℕ) (d : List Node) (k : ℕ) (ps : List Place) (at : ℕ) (z : Place) → at < length ps → is_under v d (get_or ps at z) k ≡ true → (s : Spot) × (get_or (spots v d ps) at None ≡ Some s) × (s.number ≡ k)
under_spot v d k [] at z lt is = absurd (omega (arith, lt))
under_spot v d k (p ∷ ps) zero z lt is =
    let born = left_true (holds (value v d p.born)) (k == value v d p.number) is in
    let same = equal_is k (value v d p.number) (right_true (holds (value v d p.born)) (k == value v d p.number) is) in
    (own v d p, ap (λ b. if b then Some (own v d p) else None) born, sym same)
under_spot v d k (p ∷ ps) (suc at) z lt is = under_spot v d k ps at z (omega (arith, lt)) is

pub alone_found : (v : ℕ → ℕ) (d e f : List Node) (ps : List Place) (object offset test : Id) (hits : List Hit) (at : ℕ) (q z : Place) (p : ℕ) → All (PlaceIn d) ps → Extends d e → Extends e f → at < length ps → q ≡ get_or ps at z → IsTest f test (λ v. is_under v e q (value v e object))
    → value v f test ≡ 1 → value v e object ≡ object_of p → Within e offset → value v e offset ≡ offset_of p → hits ≡ record { test = test; place = at; offset = offset } ∷ [] → IsFound v f (spots v d ps) p (truly v f hits)
alone_found v d e f ps object offset test hits at q z p all x y lt is made sure object_is there offset_is alone =
    let hit : Hit = record { test = test; place = at; offset = offset } in
    let under : is_under v e q (value v e object) ≡ true = sym (test_is f test (λ v. is_under v e q (value v e object)) made v) ∙ ap holds sure in
    let here : is_under v e (get_or ps at z) (object_of p) ≡ true = (λ i. is_under v e (sym is i) (sym object_is i)) ∙ under in
    let spot = under_spot v e (object_of p) ps at z lt here in
    let one : truly v f hits ≡ hit ∷ [] = ap (truly v f) alone ∙ ap (λ n. if holds n then hit ∷ [] else []) sure in
    subst (IsFound v f (spots v d ps) p) (sym one) (record {
      spot = spot.0;
      is = ap (λ (ss : Spots). get_or ss at None) (sym (spots_stay v d e ps x all)) ∙ spot.1;
      number = spot.2;
      offset = y.value_stays v offset there ∙ offset_is;
    })

pub alone_within : (d e : List Node) (n : ℕ) (object offset test : Id) (hits : List Hit) (at : ℕ) (f : (ℕ → ℕ) → Bool) → Extends d e → IsWord d offset 32 → IsTest e test f → at < n → hits ≡ record { test = test; place = at; offset = offset } ∷ [] → All (HitIn e n) hits
alone_within d e n object offset test hits at f x distance made lt alone =
    let hit : Hit = record { test = test; place = at; offset = offset } in
    subst (All (HitIn e n)) (sym alone) (All-push (HitIn e n) [] hit (All-nil (HitIn e n)) (record { test = test_word e test f made; place = lt; offset = word_stays d e offset 32 x distance }))

pub hitting_kept : (d e f : List Node) (ps : List Place) (object offset test : Id) (hits more : List Hit) (at : ℕ) (p z : Place) → All (PlaceIn d) ps → IsWord d object 32 → IsWord e offset 32 → Hitting d e ps object offset hits at → at < length ps → p ≡ get_or ps at z → Extends e f
    → IsTest f test (λ v. is_under v e p (value v e object)) → (more ≡ hits ++ record { test = test; place = at; offset = offset } ∷ []) ⊎ ((more ≡ hits) × ((v : ℕ → ℕ) → value v f test ≡ 0)) → Hitting d f ps object offset more (at + 1)
hitting_kept d e f ps object offset test hits more at p z all word distance h lt is x made kept =
    let within : PlaceIn d p = subst (PlaceIn d) (sym is) (all at z lt) in
    elim kept [
      | inl pushed ↦ hitting_more d e f ps object offset test hits more at p z word distance h lt is x made within pushed
      | inr same ↦ subst (λ (hs : List Hit). Hitting d f ps object offset hs (at + 1)) (sym same.0) (hitting_not d e f ps object offset test hits at p z word h lt is all x made within same.1)
    ]
