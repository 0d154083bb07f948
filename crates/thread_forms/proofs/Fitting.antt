-- In a consistent candidate of bounded threads each answer has the shape that its action asks for.
use Rattle.std.proofs.Common.{◌≡◌, ◌<◌, ◌≤◌, ◌+◌, ◌-◌, ℕ, zero, suc, Bool, true, false, ◌&&◌, cond, List, [], ◌∷◌, length, slice_get, Option, Some, None, IfSome, ◌⊎◌, inl, inr, refl, sym, ap, subst, ◌∙◌, arith, nat_eq, nat_lt, nat_le}
use Rattle.std.proofs.lemmas.Bool.{ltb-true, leb-true}
use Rattle.actions.specs.declared.action.Answer.{Answer}
use Rattle.actions.specs.declared.cells.Cell.{Cell}
use Rattle.actions.specs.declared.thread_state.ThreadState.TheVariants.{Running}
use Rattle.actions.specs.Behaviour.{Thread, accepts}
use Rattle.actions.specs.Objects.{Objects, object_at, state_at}
use Rattle.actions.specs.Pointer.{object_of, offset_of}
use Rattle.actions.specs.StoredObject.{StoredObject}
use Rattle.actions.specs.States.{ObjectState, dead, live, state_of}
use Rattle.actions.specs.Memory.{Change, keeps, adds, kills, puts, starts, ends}
use Rattle.actions.specs.Row.{moves}
use Rattle.interleave.specs.World.{Member, first_common}
use Rattle.weave.specs.Place.{Place, object, byte, thread, Value, is_object, is_byte, is_thread, byte_in, value_at, written}
use Rattle.weave.specs.Step.{row_by}
use Rattle.weave.specs.Candidate.{Candidate, In, Executed, outcome_at, change_at, ReadsAt, written_at, WritesAt, Later, Before}
use Rattle.weave.specs.Consistent.{IsSource, IsConsistent}
use Rattle.weave.specs.Family.{IsWhole, MakesWhole, IsFamily, AreWhole}
use Rattle.weave.proofs.Starting.{run_sorted, in_order}
use Rattle.thread_forms.specs.Bounds.{IsTyped, HandsOver, IsBounded}
use Rattle.thread_forms.proofs.Standing.{IsKept, Stands, stands}
use Rattle.thread_forms.proofs.Values.{IsValue, HasValues, front, back, writes_values, get_byte, object_value, written_value}
use Rattle.thread_forms.proofs.Shapes.{IsThere, OwnIsSmall, IsSound, step_fits}

-- ---- a byte that is there

abbrev HasByte : Value → Type 0
HasByte v = (b : ℕ) × (v ≡ is_byte (Some b))

has_item : (xs : List ℕ) (i : ℕ) → i < length xs → HasByte (is_byte (slice_get xs i))
has_item [] i l = absurd (omega arith)
has_item (x ∷ xs) zero l = (x, refl)
has_item (x ∷ xs) (suc i) l = has_item xs i (omega arith)

there_by : (o : Option ℕ) → IsValue (is_byte o) → HasByte (is_byte o) → IsThere o
there_by None v h = absurd (cc h.1)
there_by (Some b) v h = v

-- a change that makes an object of this number
record AddsAt (change : Change) (k : ℕ) : Type 0 where
  stored : StoredObject
  whole : IsWhole stored
  object_is : written change (object k) ≡ Some (is_object (state_of (Some stored)))
  byte_is : (i : ℕ) → written change (byte k i) ≡ Some (is_byte (slice_get stored.bytes i))

adds_here : (n k : ℕ) (o : StoredObject) → nat_eq k n ≡ true → IsWhole o → AddsAt (adds n o) k
adds_here n k o e w = record {
  stored = o;
  whole = w;
  object_is = ap (λ (b : Bool). cond b (Some (is_object (state_of (Some o)))) None) e;
  byte_is = λ i. ap (λ (b : Bool). cond b (Some (is_byte (slice_get o.bytes i))) None) e;
}

live_by : (n k : ℕ) (o : StoredObject) (v : Value) (b : Bool) → nat_eq k n ≡ b → IsWhole o → cond b (Some (is_object (state_of (Some o)))) None ≡ Some v → AddsAt (adds n o) k
live_by n k o v true e w h = adds_here n k o e w
live_by n k o v false e w h = absurd (cc h)

never_dead : (b : Bool) (size : ℕ) (cells : List Cell) (readonly heap : Bool) → cond b (Some (is_object dead)) None ≡ Some (is_object (live size cells readonly heap)) → ⊥
never_dead true size cells readonly heap e = cc e
never_dead false size cells readonly heap e = cc e

live_adds : (change : Change) (k size : ℕ) (cells : List Cell) (readonly heap : Bool) → HasValues change → written change (object k) ≡ Some (is_object (live size cells readonly heap)) → AddsAt change k
live_adds (adds n o) k size cells readonly heap h e = live_by n k o (is_object (live size cells readonly heap)) (nat_eq k n) refl h.1 e
live_adds (kills n) k size cells readonly heap h e = absurd (never_dead (nat_eq k n) size cells readonly heap e)
live_adds keeps k size cells readonly heap h e = absurd (cc e)
live_adds (puts p bytes) k size cells readonly heap h e = absurd (cc e)
live_adds (starts n f u) k size cells readonly heap h e = absurd (cc e)
live_adds (ends n u) k size cells readonly heap h e = absurd (cc e)

byte_by : (n k i : ℕ) (o : StoredObject) (v : Value) (b : Bool) → nat_eq k n ≡ b → IsWhole o → cond b (Some (is_byte (slice_get o.bytes i))) None ≡ Some v → HasByte v ⊎ AddsAt (adds n o) k
byte_by n k i o v true e w h = inr (adds_here n k o e w)
byte_by n k i o v false e w h = absurd (cc h)

put_by : (at i : ℕ) (bytes : List ℕ) (v : Value) (a b : Bool) → nat_le at i && nat_lt i (at + length bytes) ≡ b → cond a (cond b (Some (is_byte (slice_get bytes (i - at)))) None) None ≡ Some v → HasByte v
put_by at i bytes v true true e h =
    let low : at ≤ i = leb-true at i (front (nat_le at i) (nat_lt i (at + length bytes)) e) in
    let high : i < at + length bytes = ltb-true i (at + length bytes) (back (nat_le at i) (nat_lt i (at + length bytes)) e) in
    let item : HasByte (is_byte (slice_get bytes (i - at))) = has_item bytes (i - at) (omega (arith, low, high)) in
    let same : is_byte (slice_get bytes (i - at)) ≡ v = cc h in
    (item.0, sym same ∙ item.1)
put_by at i bytes v true false e h = absurd (cc h)
put_by at i bytes v false b e h = absurd (cc h)

byte_adds : (change : Change) (k i : ℕ) (v : Value) → HasValues change → written change (byte k i) ≡ Some v → HasByte v ⊎ AddsAt change k
byte_adds (adds n o) k i v h e = byte_by n k i o v (nat_eq k n) refl h.1 e
byte_adds (puts p bytes) k i v h e = inl (put_by (offset_of p) i bytes v (nat_eq k (object_of p)) (nat_le (offset_of p) i && nat_lt i (offset_of p + length bytes)) refl e)
byte_adds keeps k i v h e = absurd (cc e)
byte_adds (kills n) k i v h e = absurd (cc e)
byte_adds (starts n f u) k i v h e = absurd (cc e)
byte_adds (ends n u) k i v h e = absurd (cc e)

size_by : (o : StoredObject) (b : Bool) (size : ℕ) (cells : List Cell) (readonly heap : Bool) → cond b (live o.size o.cells o.readonly o.heap) dead ≡ live size cells readonly heap → o.size ≡ size
size_by o true size cells readonly heap e = cc e
size_by o false size cells readonly heap e = absurd (cc e)

live_item : (o : StoredObject) (i size : ℕ) (cells : List Cell) (readonly heap : Bool) → IsWhole o → state_of (Some o) ≡ live size cells readonly heap → i < size → HasByte (is_byte (slice_get o.bytes i))
live_item o i size cells readonly heap w e l =
    let same : o.size ≡ size = size_by o o.live size cells readonly heap e in
    has_item o.bytes i (omega (arith, w, same, l))

first_item : (o : Option StoredObject) (i size : ℕ) (cells : List Cell) (readonly heap : Bool) → IfSome o IsWhole → state_of o ≡ live size cells readonly heap → i < size → HasByte (is_byte (byte_in i o))
first_item None i size cells readonly heap w e l = absurd (cc e)
first_item (Some o) i size cells readonly heap w e l = live_item o i size cells readonly heap w e l

some_is : {X : Type 0} (x y : X) → Some x ≡ Some y → x ≡ y
some_is x y e = cc e

-- ---- which of two numbers is less

pub three : (a b : ℕ) → (a < b) ⊎ ((a ≡ b) ⊎ (b < a))
three zero zero = inr (inl refl)
three zero (suc b) = inl (omega arith)
three (suc a) zero = inr (inr (omega arith))
three (suc a) (suc b) = by (three a b)
  where
    by : (a < b) ⊎ ((a ≡ b) ⊎ (b < a)) → (suc a < suc b) ⊎ ((suc a ≡ suc b) ⊎ (suc b < suc a))
    by (inl l) = inl (omega arith)
    by (inr (inl e)) = inr (inl (ap suc e))
    by (inr (inr l)) = inr (inr (omega arith))

module _ {Id : Type 0} (c : Candidate Id) (t : Thread) (objects : Objects) (family : IsFamily t) (whole : AreWhole objects) (bounded : IsBounded t objects) (h : IsConsistent c t objects) where
  abbrev Hands : ℕ → Member → Type 0
  Hands k m = (answers : List Answer) → HandsOver (m.thread.behaves answers)

  hands : IsKept t objects Hands
  hands = record {
    main = bounded.hands;
    told = λ k m n a e q answers. q (a ∷ answers);
    child = λ k m f v line function g e can small q. bounded.hand f v can small;
  }

  values_at : (x : Id) → Executed c x → HasValues (change_at c x)
  values_at x i =
      let s : Stands c t objects family h Hands hands x = stands c t objects family h Hands hands x i in
      writes_values (c.thread x) (c.own x) (c.view x) (c.next x) (subst HandsOver s.asks (s.holds [])) (subst MakesWhole s.asks (s.good.whole []))

  -- ---- what is read

  first_byte : (i : ℕ) (o : Option StoredObject) → IfSome o IsTyped → IsValue (is_byte (byte_in i o))
  first_byte i None h = tt
  first_byte i (Some o) h = get_byte o.bytes i h.1

  first_object : (o : Option StoredObject) → IfSome o IsTyped → (x : StoredObject) → o ≡ Some x → IsTyped x
  first_object o h x e = subst (λ (y : Option StoredObject). IfSome y IsTyped) e h

  first_thread : (b : Bool) → IsValue (is_thread (cond b (Some Running) None))
  first_thread true = tt
  first_thread false = tt

  first_value : (p : Place) → IsValue (value_at (first_common objects).memory p)
  first_value (object k) = object_value (object_at objects k) (first_object (object_at objects k) (bounded.store k))
  first_value (byte k i) = first_byte i (object_at objects k) (bounded.store k)
  first_value (thread k) = first_thread (Rattle.std.specs.BTreeMap.is_at (Rattle.std.specs.Ordering.nat_cmp k) 0)

  source_value : (x : Id) (p : Place) (o : Option Id) → IsSource c objects x p o → IsValue (value_at (c.view x) p)
  source_value x p None s = subst IsValue s.0 (first_value p)
  source_value x p (Some y) s = written_value (change_at c y) p (value_at (c.view x) p) (values_at y s.0) s.2

  value_of : (x : Id) (p : Place) → Executed c x → ReadsAt c x p → IsValue (value_at (c.view x) p)
  value_of x p i r = let s = h.sources x p i r in source_value x p s.0 s.1

  -- ---- two writes to one place

  later_once : (x y : Id) → Later c x y → Later c y x → ⊥
  later_once x y l r = omega arith

  not_later : (x y : Id) → Later c x y → (y ≡ x) ⊎ Later c y x → ⊥
  not_later x y l (inl e) = let self : Later c x x = subst (λ (z : Id). Later c x z) e l in later_once x x self self
  not_later x y l (inr r) = later_once x y l r

  same_thread : (x y : Id) → c.thread x ≡ c.thread y → Before c x y → Later c y x
  same_thread x y e (inl l) = inl l
  same_thread x y e (inr (q, inl l)) = absurd (omega (arith, e, l))
  same_thread x y e (inr (q, inr r)) = inr (q, r.0, r.1)

  in_one : (x y : Id) → Executed c x → Executed c y → c.thread x ≡ c.thread y → (x ≡ y) ⊎ (Later c x y ⊎ Later c y x)
  in_one x y i j e = by (in_order c (c.runs (c.thread x)) x y (run_sorted c false (c.thread x) (c.runs (c.thread x)) (h.owned (c.thread x)) (h.groups (c.thread x))) i (subst (λ (k : ℕ). In y (c.runs k)) (sym e) j))
    where
      by : (x ≡ y) ⊎ (Before c x y ⊎ Before c y x) → (x ≡ y) ⊎ (Later c x y ⊎ Later c y x)
      by (inl q) = inl q
      by (inr (inl b)) = inr (inr (same_thread x y e b))
      by (inr (inr b)) = inr (inl (same_thread y x (sym e) b))

  compare : (x y : Id) (p : Place) → Executed c x → Executed c y → WritesAt c x p → WritesAt c y p → (x ≡ y) ⊎ (Later c x y ⊎ Later c y x)
  compare x y p i j w u = by (three (c.clock x) (c.clock y)) (three (c.thread x) (c.thread y))
    where
      by : (c.clock x < c.clock y) ⊎ ((c.clock x ≡ c.clock y) ⊎ (c.clock y < c.clock x)) → (c.thread x < c.thread y) ⊎ ((c.thread x ≡ c.thread y) ⊎ (c.thread y < c.thread x)) → (x ≡ y) ⊎ (Later c x y ⊎ Later c y x)
      by (inl l) k = inr (inr (inl l))
      by (inr (inr l)) k = inr (inl (inl l))
      by (inr (inl e)) (inl l) = absurd (h.coherent x y p i j w u (λ q. absurd (omega (arith, q, l))) e)
      by (inr (inl e)) (inr (inl q)) = in_one x y i j q
      by (inr (inl e)) (inr (inr l)) = absurd (h.coherent x y p i j w u (λ q. absurd (omega (arith, q, l))) e)

  -- ---- the bytes of a live object are there

  module _ (x : Id) (k i size : ℕ) (cells : List Cell) (readonly heap : Bool) (is_live : state_at (c.view x).objects k ≡ live size cells readonly heap) (within : i < size) where
    live_writer : (s : Id) → Executed c s → written_at c s (object k) ≡ Some (value_at (c.view x) (object k)) → AddsAt (change_at c s) k
    live_writer s e w = live_adds (change_at c s) k size cells readonly heap (values_at s e) (w ∙ ap (λ (o : ObjectState). Some (is_object o)) is_live)

    by_one : (s : Id) → Executed c s → AddsAt (change_at c s) k → written_at c s (object k) ≡ Some (value_at (c.view x) (object k)) → written_at c s (byte k i) ≡ Some (value_at (c.view x) (byte k i)) → HasByte (value_at (c.view x) (byte k i))
    by_one s e a w u =
        let object_same : is_object (state_of (Some a.stored)) ≡ is_object (state_at (c.view x).objects k) = some_is (is_object (state_of (Some a.stored))) (value_at (c.view x) (object k)) (sym a.object_is ∙ w) in
        let state : state_of (Some a.stored) ≡ live size cells readonly heap = state_is (state_of (Some a.stored)) (state_at (c.view x).objects k) object_same ∙ is_live in
        let item : HasByte (is_byte (slice_get a.stored.bytes i)) = live_item a.stored i size cells readonly heap a.whole state within in
        let byte_same : is_byte (slice_get a.stored.bytes i) ≡ value_at (c.view x) (byte k i) = some_is (is_byte (slice_get a.stored.bytes i)) (value_at (c.view x) (byte k i)) (sym (a.byte_is i) ∙ u) in
        (item.0, sym byte_same ∙ item.1)
      where
        state_is : (a b : ObjectState) → is_object a ≡ is_object b → a ≡ b
        state_is a b q = cc q

    by_adds : (s : Id) (o : Option Id) → IsSource c objects x (object k) o → IsSource c objects x (byte k i) (Some s) → AddsAt (change_at c s) k → HasByte (value_at (c.view x) (byte k i))
    by_adds s None so sb a = absurd (not_later x s sb.1 (so.1 s sb.0 (is_object (state_of (Some a.stored)), a.object_is)))
    by_adds s (Some y) so sb a =
        let b : AddsAt (change_at c y) k = live_writer y so.0 so.2 in
        by b (compare s y (object k) sb.0 so.0 (is_object (state_of (Some a.stored)), a.object_is) (value_at (c.view x) (object k), so.2))
      where
        by : AddsAt (change_at c y) k → (s ≡ y) ⊎ (Later c s y ⊎ Later c y s) → HasByte (value_at (c.view x) (byte k i))
        by b (inl e) = by_one s sb.0 a (subst (λ (z : Id). written_at c z (object k) ≡ Some (value_at (c.view x) (object k))) (sym e) so.2) sb.2
        by b (inr (inl l)) = absurd (not_later x s sb.1 (so.3 s sb.0 (is_object (state_of (Some a.stored)), a.object_is) l))
        by b (inr (inr l)) = absurd (not_later x y so.1 (sb.3 y so.0 (is_byte (slice_get b.stored.bytes i), b.byte_is i) l))

    by_sources : (o q : Option Id) → IsSource c objects x (object k) o → IsSource c objects x (byte k i) q → HasByte (value_at (c.view x) (byte k i))
    by_sources None None so sb =
        let state : state_at objects k ≡ live size cells readonly heap = first_state (state_at objects k) (state_at (c.view x).objects k) so.0 ∙ is_live in
        let item : HasByte (is_byte (byte_in i (object_at objects k))) = first_item (object_at objects k) i size cells readonly heap (whole k) state within in
        (item.0, sym sb.0 ∙ item.1)
      where
        first_state : (a b : ObjectState) → is_object a ≡ is_object b → a ≡ b
        first_state a b q = cc q
    by_sources (Some s) None so sb =
        let a : AddsAt (change_at c s) k = live_writer s so.0 so.2 in
        absurd (not_later x s so.1 (sb.1 s so.0 (is_byte (slice_get a.stored.bytes i), a.byte_is i)))
    by_sources o (Some s) so sb = by (byte_adds (change_at c s) k i (value_at (c.view x) (byte k i)) (values_at s sb.0) sb.2)
      where
        by : HasByte (value_at (c.view x) (byte k i)) ⊎ AddsAt (change_at c s) k → HasByte (value_at (c.view x) (byte k i))
        by (inl b) = b
        by (inr a) = by_adds s o so sb a

  sound : (x : Id) → Executed c x → IsSound (c.thread x) (c.own x) (c.view x) (row_by (c.thread x) (c.own x) (c.next x))
  sound x e = record {
    value = λ p r. value_of x p e r;
    there = λ k i size cells readonly heap r u is_live within.
        let so = h.sources x (object k) e r in
        let sb = h.sources x (byte k i) e u in
        there_by (byte_in i (object_at (c.view x).objects k)) (value_of x (byte k i) e u) (by_sources x k i size cells readonly heap is_live within so.0 sb.0 so.1 sb.1);
  }

  pub fits : (x : Id) → Executed c x → OwnIsSmall (c.next x) (c.own x) → (a : Answer) (change : Change) → outcome_at c x ≡ moves a change → accepts (c.next x) a ≡ true
  fits x e o a change q = step_fits (c.thread x) (c.own x) (c.view x) (c.next x) o (sound x e) a change q
