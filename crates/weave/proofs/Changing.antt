-- What stands at a place after a change: what the change writes there, else what stood there.
use Rattle.std.proofs.Common.{◌≡◌, ◌≤◌, ◌+◌, ◌-◌, ℕ, Bool, true, false, cond, ◌&&◌, List, ◌++◌, take, drop, length, length-append, length-drop, Option, Some, None, slice_get, refl, sym, ap, subst, ◌∙◌, arith, nat_eq, nat_le, nat_lt, IfSome}
use Rattle.std.proofs.lemmas.Bool.{eqb-true, eqb-false}
use Rattle.std.proofs.lemmas.List.{length-take-le}
use Rattle.actions.specs.ByteList.{put_at}
use Rattle.actions.specs.Pointer.{object_of, offset_of}
use Rattle.actions.specs.StoredObject.{StoredObject, as_dead}
use Rattle.actions.specs.States.{state_of, dead}
use Rattle.actions.specs.declared.thread_state.ThreadState.{ThreadState}
use Rattle.actions.specs.declared.thread_state.ThreadState.TheVariants.{Running, Ended}
use Rattle.actions.specs.Objects.{Objects, object_at, state_at, with_new, with_dead, with_bytes, with_bytes_at, changed_at, changed_to}
use Rattle.actions.specs.Memory.{Memory, thread_at, Change, keeps, adds, kills, puts, starts, ends, changed}
use Rattle.actions.proofs.Changes.{lookup-set_apart, lookup-insert_apart}
use Rattle.weave.specs.Place.{Place, object, byte, thread, Value, is_object, is_byte, is_thread, value_at, byte_in, written, only_if, put_byte}
use Rattle.weave.specs.Family.{IsWhole, AreWhole}
use Rattle.weave.proofs.Bytes.{get_put}
use Rattle.weave.proofs.Entries.{lookup-set_here, lookup-insert_here}

-- an object is there, with room for bytes
pub record HasRoom (objects : Objects) (k end : ℕ) : Type 0 where
  pub stored : StoredObject
  pub there : object_at objects k ≡ Some stored
  pub room : end ≤ length stored.bytes

-- a change is one that the memory takes as it is meant: its object or thread is there, with room for the bytes, and a new object is whole
abbrev pub Fits : Memory → Change → Type 0
Fits m (adds n o) = IsWhole o
Fits m (kills n) = HasRoom m.objects n 0
Fits m (puts p bytes) = HasRoom m.objects (object_of p) (offset_of p + length bytes)
Fits m (ends n v) = (s : ThreadState) × (thread_at m.threads n ≡ Some s)
Fits m _ = Unit {0}

abbrev pub or_old : Option Value → Value → Value
or_old None v = v
or_old (Some w) v = w

by_key : {P : Type 0} (k n : ℕ) → (k ≡ n → P) → ((k ≡ n → ⊥) → P) → P
by_key {P = P} k n here apart = by (nat_eq k n) refl
  where
    by : (b : Bool) → nat_eq k n ≡ b → P
    by true e = here (eqb-true k n e)
    by false e = apart (eqb-false k n e)

only_by : (k n : ℕ) (x new old : Value) (b : Bool) → nat_eq k n ≡ b → (k ≡ n → new ≡ x) → ((k ≡ n → ⊥) → new ≡ old) → new ≡ or_old (cond b (Some x) None) old
only_by k n x new old true e here apart = here (eqb-true k n e)
only_by k n x new old false e here apart = apart (eqb-false k n e)

only : (k n : ℕ) (x new old : Value) → (k ≡ n → new ≡ x) → ((k ≡ n → ⊥) → new ≡ old) → new ≡ or_old (only_if k n x) old
only k n x new old here apart = only_by k n x new old (nat_eq k n) refl here apart

module _ (objects : Objects) (n : ℕ) (f : StoredObject → StoredObject) where
  pub object_here : (x : StoredObject) → object_at objects n ≡ Some x → object_at (changed_at objects n f) n ≡ Some (f x)
  object_here x h = ap (λ o. object_at (changed_to objects n f o) n) h ∙ lookup-set_here n objects x (f x) h

  apart_by : (k : ℕ) → (k ≡ n → ⊥) → (o : Option StoredObject) → object_at (changed_to objects n f o) k ≡ object_at objects k
  apart_by k apart None = refl
  apart_by k apart (Some x) = lookup-set_apart k n apart objects (f x)

  pub object_apart : (k : ℕ) → (k ≡ n → ⊥) → object_at (changed_at objects n f) k ≡ object_at objects k
  object_apart k apart = apart_by k apart (object_at objects n)

  -- what is seen of any object stays, where f keeps it
  pub seen_same : {Y : Type 0} (G : Option StoredObject → Y) (x : StoredObject) → object_at objects n ≡ Some x → G (Some (f x)) ≡ G (Some x)
      → (k : ℕ) → G (object_at (changed_at objects n f) k) ≡ G (object_at objects k)
  seen_same G x h same k = by_key k n
      (λ e. ap (λ (j : ℕ). G (object_at (changed_at objects n f) j)) e ∙ ap G (object_here x h) ∙ same ∙ sym (ap G h) ∙ sym (ap (λ (j : ℕ). G (object_at objects j)) e))
      (λ a. ap G (object_apart k a))

put_by : (at : ℕ) (bytes : List ℕ) (i : ℕ) (new : Option ℕ) (old : Option ℕ) (b : Bool) → new ≡ cond b (slice_get bytes (i - at)) old
    → is_byte new ≡ or_old (cond b (Some (is_byte (slice_get bytes (i - at)))) None) (is_byte old)
put_by at bytes i new old true e = ap is_byte e
put_by at bytes i new old false e = ap is_byte e

here_by : (b : Bool) (new old : Value) (o : Option Value) → (b ≡ true → new ≡ or_old o old) → (b ≡ false → new ≡ old) → new ≡ or_old (cond b o None) old
here_by true new old o h k = h refl
here_by false new old o h k = k refl

put_here : (objects : Objects) (p : ℕ) (bytes : List ℕ) (k i : ℕ) → HasRoom objects (object_of p) (offset_of p + length bytes) → k ≡ object_of p
    → is_byte (byte_in i (object_at (with_bytes objects p bytes) k)) ≡ or_old (put_byte (offset_of p) bytes i) (is_byte (byte_in i (object_at objects k)))
put_here objects p bytes k i h e =
    let new : object_at (with_bytes objects p bytes) k ≡ Some (with_bytes_at (offset_of p) bytes h.stored) =
    ap (object_at (with_bytes objects p bytes)) e ∙ object_here objects (object_of p) (with_bytes_at (offset_of p) bytes) h.stored h.there in
    let old : object_at objects k ≡ Some h.stored = ap (object_at objects) e ∙ h.there in
    put_by (offset_of p) bytes i (byte_in i (object_at (with_bytes objects p bytes) k)) (byte_in i (object_at objects k)) (nat_le (offset_of p) i && nat_lt i (offset_of p + length bytes))
    (ap (byte_in i) new ∙ get_put (offset_of p) bytes h.stored.bytes i h.room
    ∙ ap (λ o. cond (nat_le (offset_of p) i && nat_lt i (offset_of p + length bytes)) (slice_get bytes (i - offset_of p)) (byte_in i o)) (sym old))

pub value_changed : (m : Memory) (c : Change) (p : Place) → Fits m c → value_at (changed m c) p ≡ or_old (written c p) (value_at m p)
value_changed m keeps p h = refl
value_changed m (adds n o) (object k) h =
    only k n (is_object (state_of (Some o))) _ _
    (λ e. ap (λ (j : ℕ). is_object (state_at (with_new m.objects n o) j)) e ∙ ap (λ (x : Option StoredObject). is_object (state_of x)) (lookup-insert_here n m.objects o))
    (λ a. ap (λ (x : Option StoredObject). is_object (state_of x)) (lookup-insert_apart k n a m.objects o))
value_changed m (adds n o) (byte k i) h =
    only k n (is_byte (slice_get o.bytes i)) _ _
    (λ e. ap (λ (j : ℕ). is_byte (byte_in i (object_at (with_new m.objects n o) j))) e ∙ ap (λ (x : Option StoredObject). is_byte (byte_in i x)) (lookup-insert_here n m.objects o))
    (λ a. ap (λ (x : Option StoredObject). is_byte (byte_in i x)) (lookup-insert_apart k n a m.objects o))
value_changed m (adds n o) (thread k) h = refl
value_changed m (kills n) (object k) h =
    only k n (is_object dead) _ _
    (λ e. ap (λ (j : ℕ). is_object (state_at (with_dead m.objects n) j)) e ∙ ap (λ (x : Option StoredObject). is_object (state_of x)) (object_here m.objects n as_dead h.stored h.there))
    (λ a. ap (λ (x : Option StoredObject). is_object (state_of x)) (object_apart m.objects n as_dead k a))
value_changed m (kills n) (byte k i) h = seen_same m.objects n as_dead (λ x. is_byte (byte_in i x)) h.stored h.there refl k
value_changed m (kills n) (thread k) h = refl
value_changed m (puts p bytes) (object k) h = seen_same m.objects (object_of p) (with_bytes_at (offset_of p) bytes) (λ x. is_object (state_of x)) h.stored h.there refl k
value_changed m (puts p bytes) (byte k i) h =
    here_by (nat_eq k (object_of p)) _ _ (put_byte (offset_of p) bytes i)
    (λ e. put_here m.objects p bytes k i h (eqb-true k (object_of p) e))
    (λ e. ap (λ (x : Option StoredObject). is_byte (byte_in i x)) (object_apart m.objects (object_of p) (with_bytes_at (offset_of p) bytes) k (eqb-false k (object_of p) e)))
value_changed m (puts p bytes) (thread k) h = refl
value_changed m (starts n f v) (object k) h = refl
value_changed m (starts n f v) (byte k i) h = refl
value_changed m (starts n f v) (thread k) h =
    only k n (is_thread (Some Running)) _ _
    (λ e. ap (λ (j : ℕ). is_thread (thread_at (changed m (starts n f v)).threads j)) e ∙ ap is_thread (lookup-insert_here n m.threads Running))
    (λ a. ap is_thread (lookup-insert_apart k n a m.threads Running))
value_changed m (ends n v) (object k) h = refl
value_changed m (ends n v) (byte k i) h = refl
value_changed m (ends n v) (thread k) h =
    only k n (is_thread (Some (Ended v))) _ _
    (λ e. ap (λ (j : ℕ). is_thread (thread_at (changed m (ends n v)).threads j)) e ∙ ap is_thread (lookup-set_here n m.threads h.0 (Ended v) h.1))
    (λ a. ap is_thread (lookup-set_apart k n a m.threads (Ended v)))

-- ---- objects stay whole

abbrev Sound : Option StoredObject → Type 0
Sound o = IfSome o IsWhole

length_put : (at : ℕ) (new old : List ℕ) → at + length new ≤ length old → length (put_at at new old) ≡ length old
length_put at new old room =
    let front : length (take at old) ≡ at = length-take-le at old (omega arith) in
    omega (arith, front, length-append (take at old) (new ++ drop (at + length new) old), length-append new (drop (at + length new) old), length-drop (at + length new) old)

sound_changed : (objects : Objects) (n : ℕ) (f : StoredObject → StoredObject) (x : StoredObject) → object_at objects n ≡ Some x → IsWhole (f x) → AreWhole objects → AreWhole (changed_at objects n f)
sound_changed objects n f x h whole all = λ k. by_key k n
    (λ e. subst Sound (sym (ap (object_at (changed_at objects n f)) e ∙ object_here objects n f x h)) whole)
    (λ a. subst Sound (sym (object_apart objects n f k a)) (all k))

pub whole_changed : (m : Memory) (c : Change) → Fits m c → AreWhole m.objects → AreWhole (changed m c).objects
whole_changed m keeps h all = all
whole_changed m (adds n o) h all = λ k. by_key k n
    (λ e. subst Sound (sym (ap (object_at (with_new m.objects n o)) e ∙ lookup-insert_here n m.objects o)) h)
    (λ a. subst Sound (sym (lookup-insert_apart k n a m.objects o)) (all k))
whole_changed m (kills n) h all = sound_changed m.objects n as_dead h.stored h.there (subst Sound h.there (all n)) all
whole_changed m (puts p bytes) h all =
    sound_changed m.objects (object_of p) (with_bytes_at (offset_of p) bytes) h.stored h.there
    (length_put (offset_of p) bytes h.stored.bytes h.room ∙ subst Sound h.there (all (object_of p))) all
whole_changed m (starts n f v) h all = all
whole_changed m (ends n v) h all = all
